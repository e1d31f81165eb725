-- What the calls make of the states of instruments.
use Rattle.std.proofs.Common.{◌≡◌, ℕ, ◌+◌, ◌<◌, ◌≤◌, List, [], ◌∷◌, ◌++◌, length, Option, Some, None, Ok, Err, refl, sym, ap, ◌∙◌, subst, arith, ⊎_elim}
use Rattle.std.specs.Prelude.{map, filter, find, Bool, true, false, cond, not, Result, nat_le, nat_lt, ◌==◌}
use Rattle.std.specs.List.{list_any}
use Rattle.std.proofs.lemmas.Bool.{true≢false, cases_lt, cond-true, cond-false, eq-eqb, ne_eqb, lt-ltb, or_left, eqb-true}
use Rattle.pn_types.specs.declared.plan.Plan.{Plan}
use Rattle.machine.specs.Cores.{In}
use Rattle.machine.proofs.Lists.{in_map, in_filter, find_gives}
use Rattle.instrument.specs.Admission.{slot_count, slots_from, with_sites}
use Rattle.prim_code.specs.Counts.{predicted}
use Rattle.instrument.specs.Books.{Book, stays}
use Rattle.instrument.specs.Fits.{slots_for}
use Rattle.instrument.specs.Numbers.{Call, Admit, Arm, Drop, Next, NextFree, PutBack, Freed, called, IsNoDrop, IsNumbered, StatesStay, AdmissionsTell}
use Rattle.instrument.specs.Placements.{Placements, is_leaving, is_mini_room_of, is_site_of, sites_of, without_sites, state_in, state_of, with_state, is_here, is_over, with_instrument, with_slots, slots_taken, or_same, admission}
use Rattle.instrument.specs.declared.instrument.Instrument.{Instrument}
use Rattle.instrument.specs.declared.number.Refused.{Refused}
use Rattle.instrument.specs.declared.number.Refused.TheVariants.{OverCost, TooMany}
use Rattle.instrument.specs.declared.number.State.{State}
use Rattle.instrument.specs.declared.number.State.TheVariants.{Placing, Armed, Leaving, Gone}
use Rattle.instrument.specs.declared.room.Room.{Room}
use Rattle.instrument.proofs.Folds.{in_append, find_append, find_first, find_map}

abbrev at_no : ℕ → List Instrument → Option Instrument
at_no n is = find (λ i. i.no == n) is

-- ---- look-ups by number

none_at : (p : Placements) (n : ℕ) → IsNumbered p → state_of p n ≡ Gone → at_no n p.instruments ≡ None
none_at p n k e = by (at_no n p.instruments) refl e
  where
    by : (o : Option Instrument) → at_no n p.instruments ≡ o → state_in o ≡ Gone → o ≡ None
    by None q e = refl
    by (Some i) q e = absurd (k.here i (find_gives (λ (i : Instrument). i.no == n) p.instruments i q).0 e)

none_map : (n m : ℕ) (q : State) (is : List Instrument) → at_no n is ≡ None → at_no n (map (with_state m q) is) ≡ None
none_map n m q [] e = refl
none_map n m q (i ∷ is) e = by (i.no == n) e (λ z. none_map n m q is z)
  where
    by : (b : Bool) → cond b (Some i) (at_no n is) ≡ None → (at_no n is ≡ None → at_no n (map (with_state m q) is) ≡ None) → cond b (Some (with_state m q i)) (at_no n (map (with_state m q) is)) ≡ None
    by true e ih = absurd cc
    by false e ih = ih e

none_filter : (n : ℕ) (h : Instrument → Bool) (is : List Instrument) → at_no n is ≡ None → at_no n (filter h is) ≡ None
none_filter n h [] e = refl
none_filter n h (i ∷ is) e = by (i.no == n) (h i) refl e (λ z. none_filter n h is z)
  where
    by : (b d : Bool) → (i.no == n) ≡ b → cond b (Some i) (at_no n is) ≡ None → (at_no n is ≡ None → at_no n (filter h is) ≡ None) → at_no n (cond d (i ∷ filter h is) (filter h is)) ≡ None
    by true d q e ih = absurd cc
    by false true q e ih = cond-false (i.no == n) (Some i) (at_no n (filter h is)) q ∙ ih e
    by false false q e ih = ih e

some_filter : (n : ℕ) (h : Instrument → Bool) (is : List Instrument) (y : Instrument) → at_no n is ≡ Some y → h y ≡ true → at_no n (filter h is) ≡ Some y
some_filter n h [] y e t = absurd cc
some_filter n h (i ∷ is) y e t = by (i.no == n) (h i) refl refl e (λ z. some_filter n h is y z t)
  where
    by : (b d : Bool) → (i.no == n) ≡ b → h i ≡ d → cond b (Some i) (at_no n is) ≡ Some y → (at_no n is ≡ Some y → at_no n (filter h is) ≡ Some y) → at_no n (cond d (i ∷ filter h is) (filter h is)) ≡ Some y
    by true true q r e ih = cond-true (i.no == n) (Some i) (at_no n (filter h is)) q ∙ e
    by true false q r e ih = let z : i ≡ y = cc in absurd (true≢false (sym t ∙ (ap h (sym z) ∙ r)))
    by false true q r e ih = cond-false (i.no == n) (Some i) (at_no n (filter h is)) q ∙ ih e
    by false false q r e ih = ih e

-- one that isn't leaving is listed
some_at : (p : Placements) (n : ℕ) → is_leaving (state_of p n) ≡ false → (i : Instrument) × (at_no n p.instruments ≡ Some i) × (is_leaving i.state ≡ false)
some_at p n e = by (at_no n p.instruments) refl e
  where
    by : (o : Option Instrument) → at_no n p.instruments ≡ o → is_leaving (state_in o) ≡ false → (i : Instrument) × (at_no n p.instruments ≡ Some i) × (is_leaving i.state ≡ false)
    by None q e = absurd (true≢false e)
    by (Some i) q e = (i, q, e)

-- ---- an admission

abbrev listed : Placements → Result Placements Refused → List Instrument
listed p (Ok q) = q.instruments
listed p (Err r) = p.instruments

abbrev counted : Placements → Result Placements Refused → ℕ
counted p (Ok q) = q.count
counted p (Err r) = p.count

pub record Taken (p : Placements) (plan : Plan) (q : Placements) : Type 0 where
  pub i : Instrument
  pub no : i.no ≡ p.count
  pub state : i.state ≡ Placing
  pub instruments : q.instruments ≡ p.instruments ++ i ∷ []
  pub count : q.count ≡ p.count + 1

taken : (p : Placements) (plan : Plan) (slot : ℕ) (r : Result Book Refused) (q : Placements) → with_instrument plan slot r p ≡ Ok q → Taken p plan q
taken p plan slot (Err r) q e = absurd cc
taken p plan slot (Ok book) q e = record {
  i = record { no = p.count; placed = record { vars = plan.vars; slots = slots_from slot plan.vars; sites = sites_of p.count book.rooms; opens = plan.opens }; state = Placing };
  no = refl;
  state = refl;
  instruments = sym (ap (listed p) e);
  count = sym (ap (counted p) e);
}

taken_slots : (p : Placements) (plan : Plan) (o : Option ℕ) (q : Placements) → with_slots o plan p ≡ Ok q → Taken p plan q
taken_slots p plan None q e = absurd cc
taken_slots p plan (Some slot) q e = taken p plan slot (with_sites p.program p.count (slots_from slot plan.vars) plan.sites p.book) q e

within : (cost : Option ℕ) (n : ℕ) → is_over cost n ≡ false → (limit : ℕ) → cost ≡ Some limit → n ≤ limit
within cost n e limit c =
    let z : nat_lt limit n ≡ false = sym (ap (λ o. is_over o n) c) ∙ e in
    ⊎_elim (λ (l : limit < n). absurd (true≢false (sym (lt-ltb _ _ l) ∙ z))) (λ l. l) (cases_lt limit n)

pub admits : (p : Placements) (plan : Plan) (cost : Option ℕ) (q : Placements) → admission p plan cost ≡ Ok q → Taken p plan q × (is_over cost (predicted plan) ≡ false)
admits p plan cost q e = by (is_over cost (predicted plan)) (nat_le p.limit (length p.instruments)) refl e
  where
    by : (b d : Bool) → is_over cost (predicted plan) ≡ b → cond b (Err (OverCost (predicted plan))) (cond d (Err TooMany) (with_slots (slots_for (slots_taken p) (slot_count plan.vars)) plan p)) ≡ Ok q → Taken p plan q × (is_over cost (predicted plan) ≡ false)
    by true d z e = absurd cc
    by false true z e = absurd cc
    by false false z e = (taken_slots p plan (slots_for (slots_taken p) (slot_count plan.vars)) q e, z)

unlisted : (p : Placements) → IsNumbered p → at_no p.count p.instruments ≡ None
unlisted p k = by (at_no p.count p.instruments) refl
  where
    by : (o : Option Instrument) → at_no p.count p.instruments ≡ o → o ≡ None
    by None e = refl
    by (Some i) e =
        let g = find_gives (λ (i : Instrument). i.no == p.count) p.instruments i e in
        let l = k.below i g.0 in let z = eqb-true i.no p.count g.1 in absurd (omega arith)

pub admissions_tell : AdmissionsTell
admissions_tell p plan cost q k e =
    let a = admits p plan cost q e in
    let t = a.0 in
    record {
      count = t.count;
      before = ap state_in (unlisted p k);
      state = ap (λ is. state_in (at_no p.count is)) t.instruments
          ∙ (ap state_in (find_append (λ (i : Instrument). i.no == p.count) p.instruments (t.i ∷ []) (unlisted p k) ∙ cond-true (t.i.no == p.count) (Some t.i) None (eq-eqb _ _ t.no)) ∙ t.state);
      within = within cost (predicted plan) a.1;
    }

-- ---- all calls

abbrev rooms_dropped : ℕ → Placements → List Room
rooms_dropped m p = (without_sites (filter (is_site_of m) p.book.rooms) p.book).rooms

abbrev rooms_freed : ℕ → Placements → List Room
rooms_freed point p = filter (stays point) p.book.rooms

not_gone : (b : Bool) (q s : State) → (q ≡ Gone → ⊥) → (s ≡ Gone → ⊥) → cond b q s ≡ Gone → ⊥
not_gone true q s f g e = f e
not_gone false q s f g e = g e

numbered_with : (p : Placements) (m : ℕ) (q : State) → (q ≡ Gone → ⊥) → IsNumbered p → (i : Instrument) → In i (map (with_state m q) p.instruments) → (i.no < p.count) × (i.state ≡ Gone → ⊥)
numbered_with p m q f k i h =
    let o = in_map (with_state m q) p.instruments i h in
    subst (λ (u : Instrument). (u.no < p.count) × (u.state ≡ Gone → ⊥)) (sym o.2) (k.below o.0 o.1, not_gone ((o.0).no == m) q (o.0).state f (k.here o.0 o.1))

numbered_admits : (plan : Plan) (cost : Option ℕ) (p : Placements) (r : Result Placements Refused) → admission p plan cost ≡ r → IsNumbered p → IsNumbered (or_same p r)
numbered_admits plan cost p (Err r) e k = k
numbered_admits plan cost p (Ok q) e k =
    let t = (admits p plan cost q e).0 in
    record {
      below = λ i h. let c = t.count in ⊎_elim (λ j. let l = k.below i j in omega arith)
          (λ j. ⊎_elim (λ (z : i ≡ t.i). let l = ap (λ (u : Instrument). u.no) z ∙ t.no in omega arith) (λ z. absurd z) j) (in_append p.instruments (t.i ∷ []) i (subst (λ l. In i l) t.instruments h));
      here = λ i h g. ⊎_elim (λ j. k.here i j g)
          (λ j. ⊎_elim (λ (z : i ≡ t.i). let l = sym (ap (λ (u : Instrument). u.state) z ∙ t.state) ∙ g in absurd cc) (λ z. absurd z) j) (in_append p.instruments (t.i ∷ []) i (subst (λ l. In i l) t.instruments h));
    }

numbered : (k : Call) (p : Placements) → IsNumbered p → IsNumbered (called k p)
numbered (Admit plan cost) p n = numbered_admits plan cost p (admission p plan cost) refl n
numbered (Arm m) p n = record { below = λ i h. (numbered_with p m Armed (λ e. absurd cc) n i h).0; here = λ i h. (numbered_with p m Armed (λ e. absurd cc) n i h).1 }
numbered (Drop m) p n = record {
  below = λ i h. (numbered_with p m Leaving (λ e. absurd cc) n i (in_filter (is_here (rooms_dropped m p)) (map (with_state m Leaving) p.instruments) i h).0).0;
  here = λ i h. (numbered_with p m Leaving (λ e. absurd cc) n i (in_filter (is_here (rooms_dropped m p)) (map (with_state m Leaving) p.instruments) i h).0).1;
}
numbered Next p n = record { below = n.below; here = n.here }
numbered NextFree p n = record { below = n.below; here = n.here }
numbered (PutBack point) p n = record { below = n.below; here = n.here }
numbered (Freed point) p n = record { below = λ i h. n.below i (in_filter (is_here (rooms_freed point p)) p.instruments i h).0; here = λ i h. n.here i (in_filter (is_here (rooms_freed point p)) p.instruments i h).0 }

gone_admits : (plan : Plan) (cost : Option ℕ) (p : Placements) (r : Result Placements Refused) → admission p plan cost ≡ r → (n : ℕ) → n < p.count → at_no n p.instruments ≡ None → at_no n (or_same p r).instruments ≡ None
gone_admits plan cost p (Err r) e n l z = z
gone_admits plan cost p (Ok q) e n l z =
    let t = (admits p plan cost q e).0 in
    ap (at_no n) t.instruments ∙ (find_append (λ (i : Instrument). i.no == n) p.instruments (t.i ∷ []) z ∙ cond-false (t.i.no == n) (Some t.i) None (ne_eqb _ _ (λ w. let a = t.no in omega arith)))

gone : (k : Call) (p : Placements) (n : ℕ) → IsNumbered p → n < p.count → state_of p n ≡ Gone → state_of (called k p) n ≡ Gone
gone (Admit plan cost) p n k l e = ap state_in (gone_admits plan cost p (admission p plan cost) refl n l (none_at p n k e))
gone (Arm m) p n k l e = ap state_in (none_map n m Armed p.instruments (none_at p n k e))
gone (Drop m) p n k l e = ap state_in (none_filter n (is_here (rooms_dropped m p)) (map (with_state m Leaving) p.instruments) (none_map n m Leaving p.instruments (none_at p n k e)))
gone Next p n k l e = e
gone NextFree p n k l e = e
gone (PutBack point) p n k l e = e
gone (Freed point) p n k l e = ap state_in (none_filter n (is_here (rooms_freed point p)) p.instruments (none_at p n k e))

held_admits : (plan : Plan) (cost : Option ℕ) (p : Placements) (r : Result Placements Refused) → admission p plan cost ≡ r → (n : ℕ) (i : Instrument) → at_no n p.instruments ≡ Some i → at_no n (or_same p r).instruments ≡ Some i
held_admits plan cost p (Err r) e n i z = z
held_admits plan cost p (Ok q) e n i z = let t = (admits p plan cost q e).0 in ap (at_no n) t.instruments ∙ find_first (λ (i : Instrument). i.no == n) p.instruments (t.i ∷ []) i z

here_held : (rooms : List Room) (i : Instrument) → is_leaving i.state ≡ false → is_here rooms i ≡ true
here_held rooms i e = or_left (not (is_leaving i.state)) (list_any (is_mini_room_of i.no) rooms) (ap not e)

armed_leaves : (b : Bool) (s : State) → is_leaving s ≡ false → is_leaving (cond b Armed s) ≡ false
armed_leaves true s e = refl
armed_leaves false s e = e

held : (k : Call) (p : Placements) (n : ℕ) → IsNumbered p → is_leaving (state_of p n) ≡ false → IsNoDrop n k → is_leaving (state_of (called k p) n) ≡ false
held (Admit plan cost) p n k e d = let i = some_at p n e in ap (λ o. is_leaving (state_in o)) (held_admits plan cost p (admission p plan cost) refl n i.0 i.1) ∙ i.2
held (Arm m) p n k e d =
    let i = some_at p n e in
    ap (λ o. is_leaving (state_in o)) (find_map (λ (i : Instrument). i.no == n) (with_state m Armed) p.instruments (λ j h. refl) i.0 i.1) ∙ armed_leaves ((i.0).no == m) (i.0).state i.2
held (Drop m) p n k e d =
    let i = some_at p n e in
    let g = find_gives (λ (i : Instrument). i.no == n) p.instruments i.0 i.1 in
    let away : (i.0).no ≡ m → ⊥ = λ z. d (sym z ∙ eqb-true (i.0).no n g.1) in
    let same : with_state m Leaving i.0 ≡ i.0 = ap (λ v. record (i.0) { state = v }) (cond-false ((i.0).no == m) Leaving (i.0).state (ne_eqb _ _ away)) in
    let found : at_no n (map (with_state m Leaving) p.instruments) ≡ Some i.0 = find_map (λ (i : Instrument). i.no == n) (with_state m Leaving) p.instruments (λ j h. refl) i.0 i.1 ∙ ap (λ v. Some v) same in
    ap (λ o. is_leaving (state_in o)) (some_filter n (is_here (rooms_dropped m p)) (map (with_state m Leaving) p.instruments) i.0 found (here_held (rooms_dropped m p) i.0 i.2)) ∙ i.2
held Next p n k e d = e
held NextFree p n k e d = e
held (PutBack point) p n k e d = e
held (Freed point) p n k e d = let i = some_at p n e in ap (λ o. is_leaving (state_in o)) (some_filter n (is_here (rooms_freed point p)) p.instruments i.0 i.1 (here_held (rooms_freed point p) i.0 i.2)) ∙ i.2

pub states_stay : StatesStay
states_stay = record {
  first = λ image limit. record { below = λ i h. absurd h; here = λ i h. absurd h };
  numbered = numbered;
  gone = gone;
  held = held;
}
