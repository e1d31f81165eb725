-- The costs in force, and after a node that is tested now.
use Rattle.std.proofs.Common.{◌≡◌, ℕ, suc, ◌+◌, ◌*◌, ◌<◌, ◌≤◌, ◌^◌, List, [], ◌∷◌, ◌++◌, Option, Some, None, Ok, refl, sym, ap, ap₂, ◌∙◌, subst, arith, length}
use Rattle.std.specs.Prelude.{Bool, true, false, cond, find, is_some, not, ◌&&◌, ◌==◌}
use Rattle.std.specs.List.{AllByRecursion}
use Rattle.std.proofs.lemmas.Bool.{and_parts, cond-false, cond-true, ne_eqb}
use Rattle.pn_types.specs.declared.plan.Plan.{Plan}
use Rattle.instrument.specs.Placements.{Placements, admission, state_in, state_of}
use Rattle.instrument.specs.declared.instrument.Instrument.{Instrument}
use Rattle.instrument.specs.declared.number.State.{State}
use Rattle.instrument.proofs.Numbers.{admissions_tell, admits}
use Rattle.session_spec.specs.Inputs.{Inputs}
use Rattle.session_spec.specs.Tests.{in_force, is_gone, words_of}
use Rattle.session_spec.specs.Rosters.{AreBelow, AreNumbered}
use Rattle.session_pairs.specs.declared.pair.SampledPair.{SampledPair}
use Rattle.session_pairs.specs.SampledPairs.{AreLiveFrom, is_gone_test}
use Rattle.session_pairs.proofs.Dropped.{shown_in}
use Rattle.session_pairs.proofs.Sums.{force_live, sum_at}
use Rattle.session.specs.NodeCandidates.{HasCost, counted, force_in}
use Rattle.session.specs.Tables.{IsMore, IsNew}

-- ---- by the definitions

counted_one : (p : Placements) (i : Inputs) (k : SampledPair) → HasCost i k → cond (is_gone (state_of p k.shown.instrument.n)) 0 k.cost ≡ cond (is_some k.shown.node && not (is_gone (state_of p k.shown.instrument.n))) (words_of i k.shown) 0
counted_one p i k h = ap (λ c. cond (is_gone (state_of p k.shown.instrument.n)) 0 c) h.0 ∙ by k.shown.node (is_gone (state_of p k.shown.instrument.n))
  where
    by : (o : Option ℕ) (b : Bool) → cond b 0 (cond (is_some o) (words_of i k.shown) 0) ≡ cond (is_some o && not b) (words_of i k.shown) 0
    by None true = refl
    by None false = refl
    by (Some n) true = refl
    by (Some n) false = refl

pub force_is : (i : Inputs) (p : Placements) (pairs : List SampledPair) → AllByRecursion (HasCost i) pairs → force_in p pairs ≡ in_force i p (shown_in pairs)
force_is i p [] a = refl
force_is i p (k ∷ pairs) a = ap₂ (λ (x y : ℕ). x + y) (counted_one p i k a.0) (force_is i p pairs a.1)

-- ---- costs of 32 bits

pub low_costs : (i : Inputs) (pairs : List SampledPair) → AllByRecursion (HasCost i) pairs → AllByRecursion (λ (k : SampledPair). k.cost < 2 ^ 32) pairs
low_costs i [] a = tt
low_costs i (k ∷ pairs) a = (a.0.1, low_costs i pairs a.1)

new_costs : (i : Inputs) (more : List SampledPair) → AllByRecursion (IsNew i) more → AllByRecursion (HasCost i) more
new_costs i [] a = tt
new_costs i (k ∷ more) a = (((a.0).cost, (a.0).low), new_costs i more a.1)

both_costs : (i : Inputs) (old more : List SampledPair) → AllByRecursion (HasCost i) old → AllByRecursion (HasCost i) more → AllByRecursion (HasCost i) (old ++ more)
both_costs i [] more a b = b
both_costs i (k ∷ old) more a b = (a.0, both_costs i old more a.1 b)

pub more_costs : (i : Inputs) (old new : List SampledPair) → AllByRecursion (HasCost i) old → IsMore i old new → AllByRecursion (HasCost i) new
more_costs i old new a m = subst (AllByRecursion (HasCost i)) (sym m.is) (both_costs i old m.more a (new_costs i m.more m.each))

force_most : (p : Placements) (pairs : List SampledPair) → AllByRecursion (λ (k : SampledPair). k.cost < 2 ^ 32) pairs → force_in p pairs ≤ 2 ^ 32 * length pairs
force_most p [] a = omega arith
force_most p (k ∷ pairs) a = by (is_gone (state_of p k.shown.instrument.n)) (force_most p pairs a.1)
  where
    by : (b : Bool) → force_in p pairs ≤ 2 ^ 32 * length pairs → cond b 0 k.cost + force_in p pairs ≤ 2 ^ 32 * suc (length pairs)
    by true m = omega arith
    by false m = let l = a.0 in omega arith

pub force_low : (p : Placements) (pairs : List SampledPair) → AllByRecursion (λ (k : SampledPair). k.cost < 2 ^ 32) pairs → length pairs < 2 ^ 31 → force_in p pairs < 2 ^ 63
force_low p pairs a l = let m = force_most p pairs a in omega arith

-- ---- over the live places

pub live_force : (p : Placements) (pairs : List SampledPair) (live : List ℕ) → AreLiveFrom 0 p pairs live → sum_at (counted p) pairs live ≡ force_in p pairs
live_force p pairs live a = force_live p (counted p) none (force_in p) refl (λ k ks. refl) pairs live a
  where
    none : (k : SampledPair) → is_gone_test p k ≡ true → counted p k ≡ 0
    none k g = cond-true (is_gone (state_of p k.shown.instrument.n)) 0 k.cost (and_parts (is_some k.shown.node) (is_gone (state_of p k.shown.instrument.n)) g).1

-- ---- an instrument more

find_past : (m : ℕ) (is : List Instrument) (i : Instrument) → (i.no == m) ≡ false → find (λ (j : Instrument). j.no == m) (is ++ i ∷ []) ≡ find (λ (j : Instrument). j.no == m) is
find_past m [] i e = cond-false (i.no == m) (Some i) None e
find_past m (j ∷ is) i e = ap (λ o. cond (j.no == m) (Some j) o) (find_past m is i e)

-- an admission changes no instrument of a lower number
pub lower_stay : (p : Placements) (plan : Plan) (cost : Option ℕ) (q : Placements) → admission p plan cost ≡ Ok q → (n : ℕ) → n < p.count → state_of q n ≡ state_of p n
lower_stay p plan cost q e n l =
    let t = (admits p plan cost q e).0 in
    ap (λ (is : List Instrument). state_in (find (λ (j : Instrument). j.no == n) is)) t.instruments
    ∙ ap state_in (find_past n p.instruments t.i (ne_eqb _ _ (λ w. omega (arith, t.no))))

force_same : (p q : Placements) (pairs : List SampledPair) → ((n : ℕ) → n < p.count → state_of q n ≡ state_of p n) → AreBelow p.count (shown_in pairs) → force_in q pairs ≡ force_in p pairs
force_same p q [] s b = refl
force_same p q (k ∷ pairs) s b = ap₂ (λ (x : State) (y : ℕ). cond (is_gone x) 0 k.cost + y) (s k.shown.instrument.n b.0) (force_same p q pairs s b.1)

force_push : (q : Placements) (pairs : List SampledPair) (k : SampledPair) → force_in q (pairs ++ k ∷ []) ≡ force_in q pairs + counted q k
force_push q [] k = let none : force_in q [] ≡ 0 = refl in omega arith
force_push q (j ∷ pairs) k = let ih = force_push q pairs k in omega arith

-- its cost is added
pub force_more : (p : Placements) (plan : Plan) (cost : Option ℕ) (q : Placements) (pairs : List SampledPair) (k : SampledPair) → AreNumbered p → AreBelow p.count (shown_in pairs) → admission p plan cost ≡ Ok q → k.shown.instrument.n ≡ p.count
    → force_in q (pairs ++ k ∷ []) ≡ force_in p pairs + k.cost
force_more p plan cost q pairs k r b e n =
    let placing = ap (state_of q) n ∙ (admissions_tell p plan cost q r.numbered e).state in
    force_push q pairs k
    ∙ ap₂ (λ (x y : ℕ). x + y) (force_same p q pairs (lower_stay p plan cost q e) b) (ap (λ s. cond (is_gone s) 0 k.cost) placing)
