-- AllByRecursion step keeps the rule of the gauge's cell.
use Rattle.std.proofs.Common.{◌≡◌, ◌≢◌, inl, inr, ⊎_elim, ℕ, zero, suc, ◌<◌, length, get_or, true, false, true≢false, List, [], ◌∷◌, ◌++◌, set, refl, sym, ap, ◌∙◌, subst, arith, le_refl, le_trans}
use mathlib.Core.Option.{some, some-injective, some-ne-none}
use lib.ListN.{get_elem?}
use Rattle.crossbeam_utils.specs.Register.{Turns, Forks, Merges}
use Rattle.atomic_table.proofs.Lists.{at_set, at_snoc, set_again}
use Rattle.visi_run.specs.declared.dial.Reading.{Reading}
use Rattle.visi_run.specs.declared.sight.Sight.{Sight}
use Rattle.std.specs.List.{AllByRecursion}
use Rattle.visi_run.specs.Readings.{first_reading, Before, Rises, IsReadingIn, last_from, last_of, MayFollow, Begins}
use Rattle.visi_run.specs.Sights.{IsSeen, Fits, GaugeRule, opening_sight, reading, empty_pass, together, has_set, longer_list, has_read, Settles}
use Rattle.visi_run.specs.Gauges.{Reader, AllStand, lists_of}
use Rattle.visi_run.proofs.Desks.{each_append}

pub each_map : {X : Type 0} {P Q : X → Type 0} (xs : List X) → ((x : X) → P x → Q x) → AllByRecursion P xs → AllByRecursion Q xs
each_map [] f h = tt
each_map {P = P} {Q = Q} (x ∷ xs) f h = (f x h.0, each_map {P = P} {Q = Q} xs f h.1)

before_refl : (x : Reading) → Before x x
before_refl x = (le_refl _, le_refl _, λ e. refl)

before_trans : (x y z : Reading) → Before x y → Before y z → Before x z
before_trans x y z a b = (le_trans a.0 b.0, le_trans a.1 b.1, λ e. b.2 (ap (λ (r : Reading). r.ended) (a.2 e) ∙ e) ∙ a.2 e)

stands_front : (xs ys : List Reading) (r : Reading) → IsReadingIn xs r → IsReadingIn (xs ++ ys) r
stands_front [] ys r h = absurd h
stands_front (x ∷ xs) ys r h = ⊎_elim (λ (e : x ≡ r). inl e) (λ (t : IsReadingIn xs r). inr (stands_front xs ys r t)) h

stands_from : (x : Reading) (xs : List Reading) → IsReadingIn (x ∷ xs) (last_from x xs)
stands_from x [] = inl refl
stands_from x (y ∷ ys) = inr (stands_from y ys)

last_stands : (log : List Reading) (now : Reading) → Begins log → now ≡ last_of log → IsReadingIn log now
last_stands log now b e = subst (IsReadingIn log) (sym e) (subst (λ (l : List Reading). IsReadingIn l (last_of l)) (sym b.1) (stands_from first_reading b.0))

pub last_snoc : (x : Reading) (xs : List Reading) (y : Reading) → last_from x (xs ++ y ∷ []) ≡ y
last_snoc x [] y = refl
last_snoc x (z ∷ zs) y = last_snoc z zs y

rises_snoc : (xs : List Reading) (y : Reading) → Rises xs → AllByRecursion (λ r. Before r y) xs → Rises (xs ++ y ∷ [])
rises_snoc [] y h b = (tt, tt)
rises_snoc (x ∷ xs) y h b = (each_append (Before x) xs (y ∷ []) h.0 (b.0, tt), rises_snoc xs y h.1 b.1)

all_set : (F : ℕ → Sight → Type 0) (views : List Sight) (id : ℕ) (w : Sight) → F id w → ((j : ℕ) (u : Sight) → j ≢ id → get_elem? views j ≡ some u → F j u) → (j : ℕ) (u : Sight) → get_elem? (set views id w) j ≡ some u → F j u
all_set F views id w mine others j u e = ⊎_elim (λ (x : (j ≡ id) × (w ≡ u)). subst (λ (y : ℕ × Sight). F y.0 y.1) (λ i. (sym x.0 i, x.1 i)) mine)
    (λ (x : (j ≢ id) × (get_elem? views j ≡ some u)). others j u x.0 x.1) (at_set views id j w u e)

-- the cell is made
pub opens : GaugeRule first_reading (opening_sight ∷ [])
opens = record { writer = 0; log = first_reading ∷ []; begins = ([], refl); last = refl; rises = (tt, tt); below = (before_refl first_reading, tt); fits = one }
  where
    one : (by : ℕ) (v : Sight) → get_elem? (opening_sight ∷ []) by ≡ some v → Fits 0 (first_reading ∷ []) first_reading by v
    one zero v e = subst (Fits 0 (first_reading ∷ []) first_reading 0) (some-injective _ _ e) ((λ s. (refl, refl)), tt)
    one (suc by) v e = absurd (some-ne-none v (sym e))

-- a reader is split off
pub admits : (id : ℕ) (v : Sight) → Forks GaugeRule id v v (reading [])
admits id v x views k at = record {
  writer = k.writer;
  log = k.log;
  begins = k.begins;
  last = k.last;
  rises = k.rises;
  below = k.below;
  fits = λ j u e. ⊎_elim (λ was. k.fits j u (subst (λ (l : List Sight). get_elem? l j ≡ some u) (set_again views id v at) was))
      (λ (is : reading [] ≡ u). subst (Fits k.writer k.log x j) is ((λ s. absurd (true≢false (sym s))), ((tt, tt, tt), tt)))
      (at_snoc (set views id v) (reading []) u j e);
}

seen_on : (log : List Reading) (x y : Reading) → Before x y → (rs : List Reading) → IsSeen log x rs → IsSeen (log ++ y ∷ []) y rs
seen_on log x y go rs s = (
  s.0,
  each_map {P = IsReadingIn log} {Q = IsReadingIn (log ++ y ∷ [])} rs (λ r h. stands_front log (y ∷ []) r h) s.1,
  each_map {P = λ r. Before r x} {Q = λ r. Before r y} rs (λ r h. before_trans r x y h go) s.2,
)

-- the writer sets
pub sets : (id : ℕ) (v : Sight) (y : Reading) → v.sets ≡ true → MayFollow (last_of v.wrote) y → Turns GaugeRule id v (λ _. y) (λ v x y w. w ≡ has_set y v)
sets id v y may follows x views k at =
    let mine = (k.fits id v at).0 may in
    let last : last_of v.wrote ≡ x = ap last_of mine.1 ∙ sym k.last in
    let f : MayFollow x y = subst (λ (r : Reading). MayFollow r y) last follows in
    let go : Before x y = (f.1, f.2, λ e. absurd (true≢false (sym e ∙ f.0))) in
    let log : List Reading = k.log ++ y ∷ [] in
    let below = each_map {P = λ r. Before r x} {Q = λ r. Before r y} k.log (λ r h. before_trans r x y h go) k.below in (
      has_set y v,
      record {
        writer = k.writer;
        log = log;
        begins = (k.begins.0 ++ y ∷ [], ap (λ l. l ++ y ∷ []) k.begins.1);
        last = sym (last_snoc first_reading k.log y);
        rises = rises_snoc k.log y k.rises below;
        below = each_append (λ r. Before r y) k.log (y ∷ []) below (before_refl y, tt);
        fits = all_set (Fits k.writer log y) views id (has_set y v)
            ((λ _. (mine.0, ap (λ l. l ++ y ∷ []) mine.1)), each_map {P = IsSeen k.log x} {Q = IsSeen log y} v.lists (seen_on k.log x y go) (k.fits id v at).1)
            (λ j u other e. ((λ s. absurd (other (((k.fits j u e).0 s).0 ∙ sym mine.0))), each_map {P = IsSeen k.log x} {Q = IsSeen log y} u.lists (seen_on k.log x y go) (k.fits j u e).1));
      },
      refl,
    )

longer_seen : (log : List Reading) (x : Reading) → IsReadingIn log x → (lists : List (List Reading)) → AllByRecursion (IsSeen log x) lists → AllByRecursion (IsSeen log x) (longer_list x lists)
longer_seen log x st [] h = tt
longer_seen log x st (rs ∷ rss) h = (
  (
    rises_snoc rs x h.0.0 h.0.2,
    each_append (λ r. IsReadingIn log r) rs (x ∷ []) h.0.1 (st, tt),
    each_append (λ r. Before r x) rs (x ∷ []) h.0.2 (before_refl x, tt),
  ),
  h.1,
)

-- a reader reads
pub reads : (id : ℕ) (v : Sight) → Turns GaugeRule id v (λ x. x) (λ v x y w. (w ≡ has_read y v) × AllByRecursion Rises w.lists)
reads id v x views k at =
    let seen = longer_seen k.log x (last_stands k.log x k.begins k.last) v.lists (k.fits id v at).1 in (
      has_read x v,
      record {
        writer = k.writer;
        log = k.log;
        begins = k.begins;
        last = k.last;
        rises = k.rises;
        below = k.below;
        fits = all_set (Fits k.writer k.log x) views id (has_read x v) ((k.fits id v at).0, seen) (λ j u other e. k.fits j u e);
      },
      (refl, each_map {P = IsSeen k.log x} {Q = Rises} (longer_list x v.lists) (λ rs s. s.0) seen),
    )

-- a reader's whole view goes to a new pass
pub leaves : (id : ℕ) (v : Sight) → v.sets ≡ false → Forks GaugeRule id v empty_pass v
leaves id v none x views k at = record {
  writer = k.writer;
  log = k.log;
  begins = k.begins;
  last = k.last;
  rises = k.rises;
  below = k.below;
  fits = λ j u e. ⊎_elim (λ was. all_set (Fits k.writer k.log x) views id empty_pass ((λ s. absurd (true≢false (sym s))), tt) (λ i w other f. k.fits i w f) j u was)
      (λ (is : v ≡ u). subst (Fits k.writer k.log x j) is ((λ s. absurd (true≢false (sym s ∙ none))), (k.fits id v at).1))
      (at_snoc (set views id empty_pass) v u j e);
}

-- the writer takes in another pass
pub meets : (id : ℕ) (v : Sight) (other : ℕ) (w : Sight) → Merges GaugeRule id v other w (together v w) empty_pass
meets id v other w x views k at two there =
    let was : get_elem? views other ≡ some w = ⊎_elim (λ (t : (other ≡ id) × (together v w ≡ w)). absurd (two t.0)) (λ (t : (other ≢ id) × (get_elem? views other ≡ some w)). t.1) (at_set views id other (together v w) w there) in
    record {
      writer = k.writer;
      log = k.log;
      begins = k.begins;
      last = k.last;
      rises = k.rises;
      below = k.below;
      fits = all_set (Fits k.writer k.log x) (set views id (together v w)) other empty_pass ((λ s. absurd (true≢false (sym s))), tt)
          (λ i y apart f. all_set (Fits k.writer k.log x) views id (together v w) ((k.fits id v at).0, each_append (IsSeen k.log x) v.lists w.lists (k.fits id v at).1 (k.fits other w was).1) (λ j u _ e. k.fits j u e) i y f);
    }

-- the writer learns what the rule says
pub closes : (id : ℕ) (v : Sight) → v.sets ≡ true → Turns GaugeRule id v (λ x. x) (λ v x y w. Settles v y)
closes id v may x views k at =
    let log : k.log ≡ v.wrote = sym ((k.fits id v at).0 may).1 in (
      v,
      subst (GaugeRule x) (sym (set_again views id v at)) k,
      record {
        begins = subst Begins log k.begins;
        last = k.last ∙ ap last_of log;
        rises = subst Rises log k.rises;
        lists = subst (λ (l : List Reading). AllByRecursion (λ rs. Rises rs × AllByRecursion (λ r. IsReadingIn l r) rs) v.lists) log (each_map {P = IsSeen k.log x} {Q = λ rs. Rises rs × AllByRecursion (λ r. IsReadingIn k.log r) rs} v.lists (λ rs s. (s.0, s.1)) (k.fits id v at).1);
      },
    )

pub each_at : {X : Type 0} (P : X → Type 0) (xs : List X) (i : ℕ) (x : X) → i < length xs → x ≡ get_or xs i x → AllByRecursion P xs → P x
each_at P [] i x lt is h = absurd (omega arith)
each_at P (y ∷ ys) zero x lt is h = subst P (sym is) h.0
each_at P (y ∷ ys) (suc i) x lt is h = each_at P ys i x (omega arith) is h.1

pub stand_by : (log : List Reading) (rs : List Reader) → AllByRecursion (λ xs. Rises xs × AllByRecursion (λ r. IsReadingIn log r) xs) (lists_of rs) → AllStand log rs
stand_by log [] h = tt
stand_by log (r ∷ rs) h = (h.0, stand_by log rs h.1)
