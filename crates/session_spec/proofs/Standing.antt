-- What the calls of the placer make of the states of instruments.
use Rattle.std.proofs.Common.{◌≡◌, ℕ, ◌<◌, ◌≤◌, List, [], ◌∷◌, Option, Some, None, Ok, Err, refl, sym, ap, ◌∙◌, subst, arith, ⊎_elim}
use Rattle.std.specs.Prelude.{map, filter, find, Bool, true, false, cond, Result, ◌==◌}
use Rattle.std.proofs.lemmas.Bool.{true≢false, cond-false, eq-eqb, ne_eqb, eqb-true}
use Rattle.pn_types.specs.declared.plan.Plan.{Plan}
use Rattle.machine.specs.Cores.{In}
use Rattle.machine.proofs.Lists.{find_finds, find_gives, in_filter, in_map, in_snoc}
use Rattle.instrument.specs.Books.{stays}
use Rattle.instrument.specs.Numbers.{Call, Admit, Arm, Drop, Next, NextFree, PutBack, Freed, called, IsNumbered}
use Rattle.instrument.specs.Placements.{Placements, admission, with_armed, is_here, is_leaving, is_site_of, or_same, state_in, state_of, with_state, without_sites}
use Rattle.instrument.specs.declared.instrument.Instrument.{Instrument}
use Rattle.instrument.specs.declared.number.Refused.{Refused}
use Rattle.instrument.specs.declared.number.State.TheVariants.{Placing, Armed, Leaving, Gone}
use Rattle.instrument.specs.declared.room.Room.{Room}
use Rattle.instrument.proofs.Folds.{find_append, find_first, find_map, find_none}
use Rattle.instrument.proofs.Numbers as numbers
use Rattle.session_spec.specs.Rosters.{AreNumbered}

-- Those that are gone stay gone, and one that wasn't dropped is what it was.
pub record Since (p q : Placements) : Type 0 where
  pub roster : AreNumbered q
  pub count : p.count ≤ q.count
  pub gone : (n : ℕ) → n < p.count → state_of p n ≡ Gone → state_of q n ≡ Gone
  pub live : (n : ℕ) → n < p.count → is_leaving (state_of q n) ≡ false → state_of q n ≡ state_of p n

pub since_none : (p : Placements) → AreNumbered p → Since p p
since_none p r = record { roster = r; count = omega arith; gone = λ n l e. e; live = λ n l e. refl }

pub since_on : (p q r : Placements) → Since p q → Since q r → Since p r
since_on p q r a b =
    let c = a.count in
    let d = b.count in
    record {
      roster = b.roster;
      count = omega arith;
      gone = λ n l e. b.gone n (omega arith) (a.gone n l e);
      live = λ n l e. let s = b.live n (omega arith) e in s ∙ a.live n l (sym (ap is_leaving s) ∙ e);
    }

-- ---- look-ups by number

abbrev at_no : ℕ → List Instrument → Option Instrument
at_no n xs = find (λ x. x.no == n) xs

found : (xs : List Instrument) → ((x y : Instrument) → In x xs → In y xs → x.no ≡ y.no → x ≡ y) → (n : ℕ) (x : Instrument) → In x xs → x.no ≡ n → at_no n xs ≡ Some x
found xs single n x h e =
    let z = find_finds (λ (y : Instrument). y.no == n) xs x h (eq-eqb x.no n e) in
    let g = find_gives (λ (y : Instrument). y.no == n) xs z.0 z.1 in
    z.1 ∙ ap (λ (y : Instrument). Some y) (single z.0 x g.0 h (eqb-true (z.0).no n g.1 ∙ sym e))

-- what is found in one list is found in another, and what isn't found, isn't
by_listing : (n : ℕ) (xs ys : List Instrument) → ((x : Instrument) → In x ys → x.no ≡ n → In x xs) → at_no n xs ≡ None → at_no n ys ≡ None
by_listing n xs ys h e = by (at_no n ys) refl
  where
    by : (o : Option Instrument) → at_no n ys ≡ o → o ≡ None
    by None q = refl
    by (Some y) q =
        let g = find_gives (λ (x : Instrument). x.no == n) ys y q in
        absurd (find_none (λ (x : Instrument). x.no == n) xs e y (h y g.0 (eqb-true y.no n g.1)) g.1)

-- one that isn't leaving is listed
pub record IsListed (p : Placements) (n : ℕ) : Type 0 where
  pub x : Instrument
  pub is : at_no n p.instruments ≡ Some x
  pub listed : In x p.instruments
  pub no : x.no ≡ n
  pub state : x.state ≡ state_of p n

pub listed_at : (p : Placements) (n : ℕ) → is_leaving (state_of p n) ≡ false → IsListed p n
listed_at p n e = by (at_no n p.instruments) refl e
  where
    by : (o : Option Instrument) → at_no n p.instruments ≡ o → is_leaving (state_in o) ≡ false → IsListed p n
    by None q l = absurd (true≢false l)
    by (Some x) q l =
        let g = find_gives (λ (y : Instrument). y.no == n) p.instruments x q in
        record { x = x; is = q; listed = g.0; no = eqb-true x.no n g.1; state = sym (ap state_in q) }

-- one that is gone isn't
none_at : (p : Placements) (n : ℕ) → IsNumbered p → state_of p n ≡ Gone → at_no n p.instruments ≡ None
none_at p n k e = by (at_no n p.instruments) refl e
  where
    by : (o : Option Instrument) → at_no n p.instruments ≡ o → state_in o ≡ Gone → o ≡ None
    by None q e = refl
    by (Some x) q e = absurd (k.here x (find_gives (λ (y : Instrument). y.no == n) p.instruments x q).0 e)

-- ---- some of the instruments, maybe in other states

-- Each of the second was in the first, as it is where it isn't leaving.
module _ (p q : Placements) (r : AreNumbered p) (numbered : IsNumbered q) (count : q.count ≡ p.count)
    (from : (y : Instrument) → In y q.instruments → (x : Instrument) × In x p.instruments × (x.no ≡ y.no) × (is_leaving y.state ≡ false → x ≡ y))
    (single : (x y : Instrument) → In x q.instruments → In y q.instruments → x.no ≡ y.no → x ≡ y) where
  gone_still : (n : ℕ) → state_of p n ≡ Gone → (o : Option Instrument) → at_no n q.instruments ≡ o → state_in o ≡ Gone
  gone_still n e None f = refl
  gone_still n e (Some y) f =
      let g = find_gives (λ (x : Instrument). x.no == n) q.instruments y f in
      let x = from y g.0 in
      absurd (find_none (λ (z : Instrument). z.no == n) p.instruments (none_at p n r.numbered e) x.0 x.1 (eq-eqb (x.0).no n (x.2 ∙ eqb-true y.no n g.1)))

  live_still : (n : ℕ) → is_leaving (state_of q n) ≡ false → state_of q n ≡ state_of p n
  live_still n e =
      let l = listed_at q n e in
      let x = from l.x l.listed in
      let same : x.0 ≡ l.x = x.3 (ap is_leaving l.state ∙ e) in
      sym l.state ∙ (ap (λ (z : Instrument). z.state) (sym same) ∙ sym (ap state_in (found p.instruments r.single n x.0 x.1 (x.2 ∙ l.no))))

  since_some : Since p q
  since_some = record {
    roster = record { numbered = numbered; single = single };
    count = omega (arith, count);
    gone = λ n l e. gone_still n e (at_no n q.instruments) refl;
    live = λ n l e. live_still n e;
  }

-- ---- the calls, but for arming

abbrev pub IsNoArm : Call → Type 0
IsNoArm (Arm n) = ⊥
IsNoArm (Admit plan cost) = Unit {0}
IsNoArm (Drop n) = Unit {0}
IsNoArm Next = Unit {0}
IsNoArm NextFree = Unit {0}
IsNoArm (PutBack point) = Unit {0}
IsNoArm (Freed point) = Unit {0}

less : (m n : ℕ) → m < n → m ≡ n → ⊥
less m n l e = omega arith

-- one instrument more
more_single : (p : Placements) (plan : Plan) (q : Placements) (t : numbers.Taken p plan q) → AreNumbered p → (x y : Instrument) → In x q.instruments → In y q.instruments → x.no ≡ y.no → x ≡ y
more_single p plan q t r x y h k e =
    let other = λ (z u : Instrument) (a : In z p.instruments) (b : u ≡ t.i) (f : z.no ≡ u.no).
    let l = (r.numbered).below z a in let n = ap (λ (v : Instrument). v.no) b in let w = t.no in let c : z.no ≡ p.count = f ∙ (n ∙ w) in less z.no p.count l c in
    let second = in_snoc p.instruments t.i y (subst (In y) t.instruments k) in
    ⊎_elim
    (λ (a : In x p.instruments). ⊎_elim (λ (b : In y p.instruments). r.single x y a b e) (λ (b : y ≡ t.i). absurd (other x y a b e)) second)
    (λ (a : x ≡ t.i). ⊎_elim (λ (b : In y p.instruments). absurd (other y x b a (sym e))) (λ (b : y ≡ t.i). a ∙ sym b) second)
    (in_snoc p.instruments t.i x (subst (In x) t.instruments h))

since_admit : (p : Placements) (plan : Plan) (cost : Option ℕ) (a : Result Placements Refused) → admission p plan cost ≡ a → AreNumbered p → IsNumbered (or_same p a) → Since p (or_same p a)
since_admit p plan cost (Err x) e r k = since_none p r
since_admit p plan cost (Ok q) e r k =
    let t = (numbers.admits p plan cost q e).0 in
    let same : (n : ℕ) → n < p.count → state_of q n ≡ state_of p n = λ n l. by t n (λ w. let z = t.no in omega arith) (at_no n p.instruments) refl in
    record {
      roster = record { numbered = k; single = more_single p plan q t r };
      count = let c = t.count in omega arith;
      gone = λ n l e. same n l ∙ e;
      live = λ n l e. same n l;
    }
  where
    by : (t : numbers.Taken p plan q) (n : ℕ) → (t.i.no ≡ n → ⊥) → (o : Option Instrument) → at_no n p.instruments ≡ o → state_of q n ≡ state_in o
    by t n w None f = ap (λ xs. state_in (at_no n xs)) t.instruments
        ∙ ap state_in (find_append (λ (x : Instrument). x.no == n) p.instruments (t.i ∷ []) f ∙ cond-false (t.i.no == n) (Some t.i) None (ne_eqb _ _ w))
    by t n w (Some x) f = ap (λ xs. state_in (at_no n xs)) t.instruments ∙ ap state_in (find_first (λ (x : Instrument). x.no == n) p.instruments (t.i ∷ []) x f)

module _ (m : ℕ) (p : Placements) (r : AreNumbered p) where
  abbrev rooms : List Room
  rooms = (without_sites (filter (is_site_of m) p.book.rooms) p.book).rooms

  abbrev kept : List Instrument
  kept = filter (is_here rooms) (map (with_state m Leaving) p.instruments)

  drop_from : (y : Instrument) → In y kept → (x : Instrument) × In x p.instruments × (x.no ≡ y.no) × (is_leaving y.state ≡ false → x ≡ y)
  drop_from y h =
      let o = in_map (with_state m Leaving) p.instruments y (in_filter (is_here rooms) (map (with_state m Leaving) p.instruments) y h).0 in
      (o.0, o.1, ap (λ (u : Instrument). u.no) (sym o.2), λ l. by o.0 ((o.0).no == m) refl (sym (ap (λ (u : Instrument). is_leaving u.state) o.2) ∙ l) ∙ sym o.2)
    where
      by : (x : Instrument) (b : Bool) → (x.no == m) ≡ b → is_leaving (with_state m Leaving x).state ≡ false → x ≡ with_state m Leaving x
      by x true e l = absurd (true≢false (sym (ap (λ b. is_leaving (cond b Leaving x.state)) e) ∙ l))
      by x false e l = sym (ap (λ s. record x { state = s }) (cond-false (x.no == m) Leaving x.state e))

  drop_single : (x y : Instrument) → In x kept → In y kept → x.no ≡ y.no → x ≡ y
  drop_single x y h k e =
      let a = in_map (with_state m Leaving) p.instruments x (in_filter (is_here rooms) (map (with_state m Leaving) p.instruments) x h).0 in
      let b = in_map (with_state m Leaving) p.instruments y (in_filter (is_here rooms) (map (with_state m Leaving) p.instruments) y k).0 in
      let no : (a.0).no ≡ (b.0).no = sym (ap (λ (u : Instrument). u.no) a.2) ∙ (e ∙ ap (λ (u : Instrument). u.no) b.2) in
      a.2 ∙ (ap (with_state m Leaving) (r.single a.0 b.0 a.1 b.1 no) ∙ sym b.2)

module _ (point : ℕ) (p : Placements) (r : AreNumbered p) where
  abbrev left : List Instrument
  left = filter (is_here (filter (stays point) p.book.rooms)) p.instruments

  free_from : (y : Instrument) → In y left → (x : Instrument) × In x p.instruments × (x.no ≡ y.no) × (is_leaving y.state ≡ false → x ≡ y)
  free_from y h = (y, (in_filter (is_here (filter (stays point) p.book.rooms)) p.instruments y h).0, refl, λ l. refl)

  free_single : (x y : Instrument) → In x left → In y left → x.no ≡ y.no → x ≡ y
  free_single x y h k e =
      let here = is_here (filter (stays point) p.book.rooms) in
      r.single x y (in_filter here p.instruments x h).0 (in_filter here p.instruments y k).0 e

same_since : (p q : Placements) → AreNumbered p → IsNumbered q → q.instruments ≡ p.instruments → q.count ≡ p.count → Since p q
same_since p q r k is c = record {
  roster = record { numbered = k; single = λ x y h j e. r.single x y (subst (In x) is h) (subst (In y) is j) e };
  count = omega (arith, c);
  gone = λ n l g. ap (λ xs. state_in (at_no n xs)) is ∙ g;
  live = λ n l g. ap (λ xs. state_in (at_no n xs)) is;
}

pub since_call : (k : Call) → IsNoArm k → (p : Placements) → AreNumbered p → Since p (called k p)
since_call (Arm n) o p r = absurd o
since_call (Admit plan cost) o p r = since_admit p plan cost (admission p plan cost) refl r ((numbers.states_stay).numbered (Admit plan cost) p r.numbered)
since_call (Drop m) o p r = since_some p (called (Drop m) p) r ((numbers.states_stay).numbered (Drop m) p r.numbered) refl (drop_from m p r) (drop_single m p r)
since_call Next o p r = same_since p (called Next p) r ((numbers.states_stay).numbered Next p r.numbered) refl refl
since_call NextFree o p r = same_since p (called NextFree p) r ((numbers.states_stay).numbered NextFree p r.numbered) refl refl
since_call (PutBack point) o p r = same_since p (called (PutBack point) p) r ((numbers.states_stay).numbered (PutBack point) p r.numbered) refl refl
since_call (Freed point) o p r = since_some p (called (Freed point) p) r ((numbers.states_stay).numbered (Freed point) p r.numbered) refl (free_from point p r) (free_single point p r)

-- ---- one that is dropped is leaving

pub dropped_leaves : (m : ℕ) (p : Placements) → is_leaving (state_of (called (Drop m) p) m) ≡ true
dropped_leaves m p = by (at_no m (called (Drop m) p).instruments) refl
  where
    by : (o : Option Instrument) → at_no m (called (Drop m) p).instruments ≡ o → is_leaving (state_in o) ≡ true
    by None e = refl
    by (Some y) e =
        let g = find_gives (λ (x : Instrument). x.no == m) (called (Drop m) p).instruments y e in
        let rooms : List Room = (without_sites (filter (is_site_of m) p.book.rooms) p.book).rooms in
        let a = in_map (with_state m Leaving) p.instruments y (in_filter (is_here rooms) (map (with_state m Leaving) p.instruments) y g.0).0 in
        let no : ((a.0).no == m) ≡ true = eq-eqb (a.0).no m (sym (ap (λ (u : Instrument). u.no) a.2) ∙ eqb-true y.no m g.1) in
        ap (λ (u : Instrument). is_leaving u.state) a.2 ∙ ap (λ b. is_leaving (cond b Leaving (a.0).state)) no

-- ---- one that is armed

-- the others are what they were, and one that was being placed is armed
pub record IsArming (m : ℕ) (p q : Placements) : Type 0 where
  pub roster : AreNumbered q
  pub count : q.count ≡ p.count
  pub other : (n : ℕ) → (n ≡ m → ⊥) → state_of q n ≡ state_of p n
  pub itself : state_of p m ≡ Placing → state_of q m ≡ Armed
  pub gone : (n : ℕ) → state_of p n ≡ Gone → state_of q n ≡ Gone

other_armed : (n m : ℕ) (xs : List Instrument) → (n ≡ m → ⊥) → state_in (at_no n (map (with_state m Armed) xs)) ≡ state_in (at_no n xs)
other_armed n m [] a = refl
other_armed n m (x ∷ xs) a = by (x.no == n) refl (other_armed n m xs a)
  where
    by : (b : Bool) → (x.no == n) ≡ b → state_in (at_no n (map (with_state m Armed) xs)) ≡ state_in (at_no n xs)
        → state_in (cond b (Some (with_state m Armed x)) (at_no n (map (with_state m Armed) xs))) ≡ state_in (cond b (Some x) (at_no n xs))
    by true e ih = cond-false (x.no == m) Armed x.state (ne_eqb _ _ (λ z. a (sym (eqb-true x.no n e) ∙ z)))
    by false e ih = ih

pub arming : (m : ℕ) (p : Placements) → AreNumbered p → IsArming m p (with_armed m p)
arming m p r = record {
  roster = record {
    numbered = (numbers.states_stay).numbered (Arm m) p r.numbered;
    single = λ x y h k e.
        let a = in_map (with_state m Armed) p.instruments x h in
        let b = in_map (with_state m Armed) p.instruments y k in
        let no : (a.0).no ≡ (b.0).no = sym (ap (λ (u : Instrument). u.no) a.2) ∙ (e ∙ ap (λ (u : Instrument). u.no) b.2) in
        a.2 ∙ (ap (with_state m Armed) (r.single a.0 b.0 a.1 b.1 no) ∙ sym b.2);
  };
  count = refl;
  other = λ n a. other_armed n m p.instruments a;
  itself = λ e.
      let l = listed_at p m (ap is_leaving e) in
      ap state_in (find_map (λ (x : Instrument). x.no == m) (with_state m Armed) p.instruments (λ x h. refl) l.x l.is)
      ∙ ap (λ b. cond b Armed (l.x).state) (eq-eqb (l.x).no m l.no);
  gone = λ n e. gone_armed n (at_no n (map (with_state m Armed) p.instruments)) refl e;
}
  where
    gone_armed : (n : ℕ) (o : Option Instrument) → at_no n (map (with_state m Armed) p.instruments) ≡ o → state_of p n ≡ Gone → state_in o ≡ Gone
    gone_armed n None f e = refl
    gone_armed n (Some y) f e =
        let g = find_gives (λ (x : Instrument). x.no == n) (map (with_state m Armed) p.instruments) y f in
        let a = in_map (with_state m Armed) p.instruments y g.0 in
        absurd (find_none (λ (x : Instrument). x.no == n) p.instruments (none_at p n r.numbered e) a.0 a.1 (eq-eqb (a.0).no n (sym (ap (λ (u : Instrument). u.no) a.2) ∙ eqb-true y.no n g.1)))
