-- A queue from whose front one takes, and to whose back one puts, takes turns.
use Rattle.std.proofs.Common.{◌≡◌, ◌≢◌, ◌⊎◌, inl, inr, ⊎_elim, ℕ, ◌+◌, ◌==◌, eq-eqb, ne_eqb, List, [], ◌∷◌, ◌++◌, refl, sym, ap, ◌∙◌, subst, arith}
use native.Mathlib.Decide.{ℕ_discrete}
use mathlib.Core.Logic.{dite}
use Rattle.live_run.specs.ByWorkers.{one_if}
use Rattle.live_run.specs.Serving.{AreApart, AreTakingTurns, count}
use Rattle.machine.specs.Cores.{In}
use Rattle.std.specs.List.{AllByRecursion}
use Rattle.live_run.proofs.Entries.{each_append}

-- where the last of a longer list falls in a split
pub last_in : (p : List ℕ) (e : ℕ) (s : List ℕ) (x : ℕ) (c : List ℕ) → p ++ e ∷ [] ≡ s ++ x ∷ c
    → ((c ≡ []) × (e ≡ x) × (p ≡ s)) ⊎ ((d : List ℕ) × (c ≡ d ++ e ∷ []) × (p ≡ s ++ x ∷ d))
last_in [] e [] x c h = inl (cc, cc, refl)
last_in [] e (y ∷ []) x c h = absurd (cc)
last_in [] e (y ∷ z ∷ s) x c h = absurd (cc)
last_in (y ∷ p) e [] x c h = inr (p, cc, cc)
last_in (y ∷ p) e (z ∷ s) x c h =
    let heads : y ≡ z = cc in
    let tails : p ++ e ∷ [] ≡ s ++ x ∷ c = cc in
    ⊎_elim
    (λ (t : (c ≡ []) × (e ≡ x) × (p ≡ s)). inl (t.0, t.1, λ i. heads i ∷ t.2 i))
    (λ (t : (d : List ℕ) × (c ≡ d ++ e ∷ []) × (p ≡ s ++ x ∷ d)). inr (t.0, t.1, λ i. heads i ∷ t.2 i))
    (last_in p e s x c tails)

nothing_in : (s : List ℕ) (x : ℕ) (c : List ℕ) → [] ≡ s ++ x ∷ c → ⊥
nothing_in [] x c h = cc
nothing_in (y ∷ s) x c h = cc

count_last : (x : ℕ) (d : List ℕ) (e : ℕ) → count x (d ++ e ∷ []) ≡ count x d + one_if (e == x)
count_last x [] e = omega arith
count_last x (y ∷ d) e = let t = count_last x d e in omega arith

count_same : (x : ℕ) (d : List ℕ) → count x (d ++ x ∷ []) ≡ count x d + 1
count_same x d = count_last x d x ∙ ap (λ b. count x d + one_if b) (eq-eqb x x refl)

count_other : (x : ℕ) (d : List ℕ) (e : ℕ) → e ≢ x → count x (d ++ e ∷ []) ≡ count x d
count_other x d e ne = count_last x d e ∙ ap (λ b. count x d + one_if b) (ne_eqb e x ne) ∙ (let t : count x d + 0 ≡ count x d = omega arith in t)

each_in : (P : ℕ → Type 0) (xs : List ℕ) (x : ℕ) → AllByRecursion P xs → In x xs → P x
each_in P [] x h i = absurd i
each_in P (y ∷ ys) x h i = ⊎_elim (λ (e : x ≡ y). subst P (sym e) h.0) (λ (r : In x ys). each_in P ys x h.1 r) i

pub in_append : (x : ℕ) (xs ys : List ℕ) → In x (xs ++ ys) → In x xs ⊎ In x ys
in_append x [] ys i = inr i
in_append x (y ∷ xs) ys i = ⊎_elim (λ (e : x ≡ y). inl (inl e)) (λ (r : In x (xs ++ ys)). ⊎_elim (λ (l : In x xs). inl (inr l)) (λ (l : In x ys). inr l) (in_append x xs ys r)) i

pub in_front : (x : ℕ) (xs ys : List ℕ) → In x xs → In x (xs ++ ys)
in_front x [] ys i = absurd i
in_front x (y ∷ xs) ys i = ⊎_elim (λ (e : x ≡ y). inl e) (λ (r : In x xs). inr (in_front x xs ys r)) i

pub in_back : (x : ℕ) (xs ys : List ℕ) → In x ys → In x (xs ++ ys)
in_back x [] ys i = i
in_back x (y ∷ xs) ys i = inr (in_back x xs ys i)

pub apart_last : (q : List ℕ) (h : ℕ) → AreApart q → AllByRecursion (λ (y : ℕ). y ≢ h) q → AreApart (q ++ h ∷ [])
apart_last [] h a n = (tt, tt)
apart_last (x ∷ q) h a n = (each_append (λ (y : ℕ). y ≢ x) q (h ∷ []) a.0 ((λ e. n.0 (sym e)), tt), apart_last q h a.1 n.1)

each_at : (P : ℕ → Type 0) (u : List ℕ) (x : ℕ) (v : List ℕ) → AllByRecursion P (u ++ x ∷ v) → AllByRecursion P u × P x × AllByRecursion P v
each_at P [] x v h = (tt, h.0, h.1)
each_at P (y ∷ u) x v h = let t = each_at P u x v h.1 in ((h.0, t.0), t.1, t.2)

pub begins : (waits : List ℕ) → AreApart waits → AreTakingTurns [] waits
begins waits apart = record {
  apart = apart;
  turns = λ a b c x e z h n more. absurd (nothing_in (a ++ x ∷ b) x c e);
  alive = λ a b c x e z h i n. absurd (nothing_in (a ++ x ∷ b) x c e);
  order = λ u v x e a b f z. absurd (nothing_in a x b f);
}

-- the first is left
pub leaves : (past : List ℕ) (h : ℕ) (q : List ℕ) → AreTakingTurns past (h ∷ q) → AreTakingTurns past q
leaves past h q t = record {
  apart = t.apart.1;
  turns = t.turns;
  alive = λ a b c x e z g i n. t.alive a b c x e z g (inr i) n;
  order = λ u v x e a b f z. let o = t.order (h ∷ u) v x (ap (λ l. h ∷ l) e) a b f z in (o.0.1, o.1);
}

-- the first takes its turn, and goes to the back
pub served : (past : List ℕ) (h : ℕ) (q : List ℕ) → AreTakingTurns past (h ∷ q) → AreTakingTurns (past ++ h ∷ []) (q ++ h ∷ [])
served past h q t = record {
  apart = apart_last q h t.apart.1 t.apart.0;
  turns = λ a b c x e z g n more. ⊎_elim
      (λ (l : (c ≡ []) × (h ≡ x) × (past ≡ a ++ x ∷ b)). absurd (let none : count g c ≡ 0 = ap (count g) l.0 in omega arith))
      (λ (r : (d : List ℕ) × (c ≡ d ++ h ∷ []) × (past ≡ (a ++ x ∷ b) ++ x ∷ d)). dite (ℕ_discrete h g)
      (λ same. t.alive a b r.0 x r.2 z g (inl (sym same)) n)
      (λ other. t.turns a b r.0 x r.2 z g n (let k : count g c ≡ count g r.0 = ap (count g) r.1 ∙ count_other g r.0 h other in omega arith)))
      (last_in past h (a ++ x ∷ b) x c e);
  alive = λ a b c x e z g i n. ⊎_elim
      (λ (l : (c ≡ []) × (h ≡ x) × (past ≡ a ++ x ∷ b)).
      let o = t.order [] q h refl a b (l.2 ∙ ap (λ y. a ++ y ∷ b) (sym l.1)) (ap (λ y. count y b) l.1 ∙ z) in
      ⊎_elim (λ (k : In g q). each_in (λ (y : ℕ). count y b ≡ 1) q g o.1 k) (λ (k : In g (h ∷ [])). ⊎_elim (λ (s : g ≡ h). absurd (n (s ∙ l.1))) (λ (s : ⊥). absurd s) k) (in_append g q (h ∷ []) i))
      (λ (r : (d : List ℕ) × (c ≡ d ++ h ∷ []) × (past ≡ (a ++ x ∷ b) ++ x ∷ d)).
      t.alive a b r.0 x r.2 z g (⊎_elim (λ (k : In g q). inr k) (λ (k : In g (h ∷ [])). ⊎_elim (λ (s : g ≡ h). inl s) (λ (s : ⊥). absurd s) k) (in_append g q (h ∷ []) i)) n)
      (last_in past h (a ++ x ∷ b) x c e);
  order = λ u v x e a b f z. ⊎_elim
      (λ (l : (v ≡ []) × (h ≡ x) × (q ≡ u)). ⊎_elim
      (λ (m : (b ≡ []) × (h ≡ x) × (past ≡ a)). (all_none u b m.0, subst (AllByRecursion (λ (g : ℕ). count g b ≡ 1)) (sym l.0) tt))
      (λ (m : (d : List ℕ) × (b ≡ d ++ h ∷ []) × (past ≡ a ++ x ∷ d)). absurd (let k : count x b ≡ count x m.0 + 1 = ap (count x) m.1 ∙ ap (λ y. count x (m.0 ++ y ∷ [])) l.1 ∙ count_same x m.0 in omega arith))
      (last_in past h a x b f))
      (λ (l : (w : List ℕ) × (v ≡ w ++ h ∷ []) × (q ≡ u ++ x ∷ w)).
      let far = each_at (λ (y : ℕ). y ≢ h) u x l.0 (subst (AllByRecursion (λ (y : ℕ). y ≢ h)) l.2 t.apart.0) in ⊎_elim
      (λ (m : (b ≡ []) × (h ≡ x) × (past ≡ a)). absurd (far.1 (sym m.1)))
      (λ (m : (d : List ℕ) × (b ≡ d ++ h ∷ []) × (past ≡ a ++ x ∷ d)).
      let z' : count x m.0 ≡ 0 = sym (count_other x m.0 h (λ s. far.1 (sym s))) ∙ sym (ap (count x) m.1) ∙ z in
      let o = t.order (h ∷ u) l.0 x (ap (λ y. h ∷ y) l.2) a m.0 m.2 z' in
      let here : count h b ≡ 1 = ap (count h) m.1 ∙ count_same h m.0 ∙ ap (λ n. n + 1) o.0.0 in (
        longer_each 0 u m.0 b h m.1 far.0 o.0.1,
        subst (AllByRecursion (λ (g : ℕ). count g b ≡ 1)) (sym l.1) (each_append (λ (g : ℕ). count g b ≡ 1) l.0 (h ∷ []) (longer_each 1 l.0 m.0 b h m.1 far.2 o.1) (here, tt)),
      ))
      (last_in past h a x b f))
      (last_in q h u x v e);
}
  where
    all_none : (u b : List ℕ) → b ≡ [] → AllByRecursion (λ (g : ℕ). count g b ≡ 0) u
    all_none [] b e = tt
    all_none (y ∷ u) b e = (ap (count y) e, all_none u b e)

    longer_each : (n : ℕ) (u d b : List ℕ) (h : ℕ) → b ≡ d ++ h ∷ [] → AllByRecursion (λ (y : ℕ). y ≢ h) u → AllByRecursion (λ (g : ℕ). count g d ≡ n) u → AllByRecursion (λ (g : ℕ). count g b ≡ n) u
    longer_each n [] d b h e far k = tt
    longer_each n (y ∷ u) d b h e far k = (ap (count y) e ∙ count_other y d h (λ s. far.0 (sym s)) ∙ k.0, longer_each n u d b h e far.1 k.1)
