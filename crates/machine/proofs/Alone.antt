-- Turns of one hart by itself are turns of the machine.
use Rattle.std.proofs.Common.{◌≡◌, ℕ, zero, suc, ◌+◌, ◌<◌, ◌≤◌, List, [], ◌∷◌, ◌++◌, length, Option, Some, None, refl, sym, ap, ◌∙◌, subst, arith, inl, inr, ⊎_elim}
use Rattle.std.specs.Prelude.{is_none, Bool, true, false, cond, IsTrue, slice_get, slice_set, nat_lt, ◌⊎◌}
use Rattle.std.proofs.lemmas.Bool.{true≢false, cond-true, cond-false}
use Rattle.std.proofs.lemmas.Grind.{common_steps}
use Rattle.rv_word.specs.Exec.{Prog}
use Rattle.rv_word.specs.declared.outcome.Cause.{Cause}
use Rattle.tramp_spec.specs.Harts.{Hart, Solo, is_tick, step_of}
use Rattle.code_store.specs.Stores.{StoredCode}
use Rattle.machine.specs.Alone.{alone_of, fetched_alone, turned_alone, may_alone, TurnsLead, IsSoloPlaced, ArePlaced, TakesAlone}
use Rattle.machine.specs.Cores.{Row, Core}
use Rattle.machine.specs.Events.{Event, Turn}
use Rattle.machine.specs.Performing.{home_in_store}
use Rattle.machine.specs.Reached.{IsReached, AreOwners}
use Rattle.machine.specs.Replays.{replay, owns}
use Rattle.machine.specs.States.{quantum_turns}
use Rattle.machine.specs.Turns.{turn, turn_by, put_back, may_turn, is_runnable, ticks_by, ticks_next}
use Rattle.machine.specs.Views.{core_of}
use Rattle.machine.specs.declared.turning.Progress.{Progress}
use Rattle.machine.proofs.HartPlaces.{stands, home_is, below_budget}
use Rattle.machine.proofs.Lists.{get_set_same}
use Rattle.machine.proofs.Quanta.{step_ticks}
use Rattle.machine.proofs.Reaching.{reaches_more}

-- ---- more turns

pub leads_on : (s : StoredCode) (budget h k n : ℕ) (x y z : Solo) → TurnsLead s budget h k x y → TurnsLead s budget h n y z → TurnsLead s budget h (k + n) x z
leads_on s budget h zero n x y z l m = let e : n ≡ 0 + n = omega arith in subst (λ i. TurnsLead s budget h i x z) e (subst (λ v. TurnsLead s budget h n v z) l m)
leads_on s budget h (suc k) n x y z l m = let e : suc (k + n) ≡ suc k + n = omega arith in subst (λ i. TurnsLead s budget h i x z) e (l.0, leads_on s budget h k n (turned_alone s h x) y z l.1 m)

pub leads_one : (s : StoredCode) (budget h k : ℕ) (x y z : Solo) → TurnsLead s budget h k x y → IsTrue (may_alone budget y) → z ≡ turned_alone s h y → TurnsLead s budget h (k + 1) x z
leads_one s budget h k x y z l may e = leads_on s budget h k 1 x y z l (may, e)

pub none_is : (stop : Option Cause) → is_none stop ≡ true → stop ≡ None
none_is None e = refl
none_is (Some cause) e = absurd (true≢false (sym e))

-- a hart can take a turn that isn't stopped, and is inside or has fewer ticks than the budget
pub alone_may : (a : Progress) (x : Hart) (p : Prog) (budget : ℕ) → x.stop ≡ None → (a.inside ≡ true) ⊎ (a.ticks < budget)
    → IsTrue (may_alone budget (alone_of a x p))
alone_may a x p budget e (inl i) = grind (arith, common_steps)
alone_may a x p budget e (inr l) = grind (arith, common_steps)

one_at_most : (b : Bool) (n : ℕ) → (n ≤ cond b (n + 1) n) × (cond b (n + 1) n ≤ n + 1)
one_at_most true n = (omega arith, omega arith)
one_at_most false n = (omega arith, omega arith)

-- no turn takes ticks away, and none is more than one
pub leads_ticks : (s : StoredCode) (budget h k : ℕ) (x z : Solo) → TurnsLead s budget h k x z → (x.hart.ticks ≤ z.hart.ticks) × (z.hart.ticks ≤ x.hart.ticks + k)
leads_ticks s budget h zero x z l = let t = ap (λ (v : Solo). v.hart.ticks) l in (omega arith, omega arith)
leads_ticks s budget h (suc k) x z l =
    let rest = leads_ticks s budget h k (turned_alone s h x) z l.1 in
    let step = step_ticks (fetched_alone s x) h (home_in_store s x.hart.pc x.hart.inside) x in
    let one = one_at_most (is_tick (fetched_alone s x)) x.hart.ticks in
    let low = rest.0 in
    let high = rest.1 in
    let first = one.0 in
    let last = one.1 in
    (omega arith, omega arith)

-- ---- fewer turns than asked for

one_more : (most h : ℕ) (c : Core) → is_runnable c h ≡ true → quantum_turns (suc most) h c ≡ Turn h ∷ quantum_turns most h (turn c h)
one_more most h c e = cond-true (is_runnable c h) (Turn h ∷ quantum_turns most h (turn c h)) [] e

no_more : (most h : ℕ) (c : Core) → is_runnable c h ≡ false → quantum_turns most h c ≡ []
no_more zero h c e = refl
no_more (suc most) h c e = cond-false (is_runnable c h) (Turn h ∷ quantum_turns most h (turn c h)) [] e

-- a quantum of one turn
pub one_turn : (h : ℕ) (c : Core) → is_runnable c h ≡ true → quantum_turns 1 h c ≡ Turn h ∷ []
one_turn h c e = one_more 0 h c e

pub one_ticks : (h ticks : ℕ) (c : Core) → is_runnable c h ≡ true → ticks ≡ length (owns (quantum_turns 1 h c) c) → nat_lt 0 ticks ≡ ticks_next c h
one_ticks h ticks c e t = ap (nat_lt 0) (t ∙ ap (λ es. length (owns es c)) (one_turn h c e)) ∙ by (ticks_next c h)
  where
    by : (b : Bool) → nat_lt 0 (length (cond b (h ∷ []) [] ++ [])) ≡ b
    by true = refl
    by false = refl

-- a hart that can't go on takes no more turns
pub stays : (k most h : ℕ) (c : Core) → k ≤ most → length (quantum_turns k h c) ≡ k → is_runnable (replay (quantum_turns k h c) c) h ≡ false → quantum_turns most h c ≡ quantum_turns k h c
stays zero most h c l len e = no_more most h c e
stays (suc k) zero h c l len e = absurd (omega arith)
stays (suc k) (suc most) h c l len e = by (is_runnable c h) refl (stays k most h (turn c h) (omega arith))
  where
    Rest : Type 0
    Rest = length (quantum_turns k h (turn c h)) ≡ k → is_runnable (replay (quantum_turns k h (turn c h)) (turn c h)) h ≡ false → quantum_turns most h (turn c h) ≡ quantum_turns k h (turn c h)

    by : (b : Bool) → is_runnable c h ≡ b → Rest → quantum_turns (suc most) h c ≡ quantum_turns (suc k) h c
    by false r rest = absurd (let none = ap (λ (es : List Event). length es) (no_more (suc k) h c r) in let zero_long : length (quantum_turns (suc k) h c) ≡ 0 = none in omega arith)
    by true r rest =
        let one = one_more k h c r in
        let count : suc (length (quantum_turns k h (turn c h))) ≡ suc k = sym (ap (λ (es : List Event). length es) one) ∙ len in
        let ended : is_runnable (replay (quantum_turns k h (turn c h)) (turn c h)) h ≡ false = sym (ap (λ es. is_runnable (replay es c) h) one) ∙ e in
        one_more most h c r ∙ (ap (λ es. Turn h ∷ es) (rest (omega arith) ended) ∙ sym one)

-- ---- among all harts

set_get : (xs : List Hart) (h : ℕ) (x : Hart) → slice_get xs h ≡ Some x → slice_set xs h x ≡ xs
set_get [] h x e = refl
set_get (y ∷ ys) zero x e = let i : y ≡ x = cc in ap (λ z. z ∷ ys) (sym i)
set_get (y ∷ ys) (suc h) x e = ap (λ zs. y ∷ zs) (set_get ys h x e)

set_set : (xs : List Hart) (h : ℕ) (y z : Hart) → slice_set (slice_set xs h y) h z ≡ slice_set xs h z
set_set [] h y z = refl
set_set (x ∷ xs) zero y z = refl
set_set (x ∷ xs) (suc h) y z = ap (λ zs. x ∷ zs) (set_set xs h y z)

length_turns : (tick : Bool) (h : ℕ) (hs : List ℕ) → length (cond tick (h ∷ []) [] ++ hs) ≡ cond tick 1 0 + length hs
length_turns true h hs = omega arith
length_turns false h hs = omega arith

tick_one : (tick : Bool) (n : ℕ) → cond tick (n + 1) n ≡ n + cond tick 1 0
tick_one true n = refl
tick_one false n = omega arith

module _ (s : StoredCode) (rows : List Row) (budget : ℕ) (owners : AreOwners s.owners rows) (h : ℕ) where
  abbrev pub among : List Hart → Solo → Core
  among harts x = core_of (slice_set harts h x.hart) x.prog s rows budget

  abbrev pub before : List Hart → Solo → Core
  before harts x = core_of harts x.prog s rows budget

  turn_is : (harts : List Hart) (x : Solo) → IsReached (before harts x) → slice_get harts h ≡ Some x.hart → among harts (turned_alone s h x) ≡ turn (before harts x) h
  turn_is harts x r e =
      ap (λ home. put_back (before harts x) h (step_of (fetched_alone s x) h home x)) (home_is (before harts x) s.owners r owners h x.hart e)
      ∙ sym (ap (λ o. turn_by o (before harts x) h) e)

  runs : (harts : List Hart) (x : Solo) → slice_get harts h ≡ Some x.hart → is_runnable (before harts x) h ≡ may_alone budget x
  runs harts x e = ap (λ o. may_turn o budget) e

  placed : (harts : List Hart) (x : Solo) → IsReached (before harts x) → slice_get harts h ≡ Some x.hart → IsSoloPlaced s budget x
  placed harts x r e =
      record {
        tool = λ i. (stands (before harts x) r h x.hart e i).in_tool;
        below = λ may tick. below_budget (before harts x) r h x.hart e (subst IsTrue (sym (runs harts x e)) may) (ap (λ o. ticks_by o (before harts x)) e ∙ tick);
      }

  -- this many turns of the machine
  pub record Led (k : ℕ) (harts : List Hart) (x z : Solo) : Type 0 where
    pub reached : IsReached (among harts z)
    pub core : among harts z ≡ replay (quantum_turns k h (before harts x)) (before harts x)
    pub many : length (quantum_turns k h (before harts x)) ≡ k
    pub ticks : z.hart.ticks ≡ x.hart.ticks + length (owns (quantum_turns k h (before harts x)) (before harts x))

  pub led : (k : ℕ) (harts : List Hart) (x z : Solo) → IsReached (before harts x) → slice_get harts h ≡ Some x.hart → TurnsLead s budget h k x z → Led k harts x z
  led zero harts x z r e l = subst (λ v. Led zero harts x v) (sym l) none
    where
      none : Led zero harts x x
      none =
          let same : among harts x ≡ before harts x = ap (λ hs. core_of hs x.prog s rows budget) (set_get harts h x.hart e) in
          record { reached = subst IsReached (sym same) r; core = same; many = refl; ticks = omega arith }
  led (suc k) harts x z r e l =
      let c = before harts x in
      let y = turned_alone s h x in
      let may : is_runnable c h ≡ true = runs harts x e ∙ l.0 in
      let turned = turn_is harts x r e in
      let next = slice_set harts h y.hart in
      let reached : IsReached (before next y) = subst IsReached (sym turned) (reaches_more c (Turn h) r (subst IsTrue (sym (runs harts x e)) l.0)) in
      let rest = led k next y z reached (get_set_same harts h x.hart y.hart e) l.1 in
      let one : quantum_turns (suc k) h c ≡ Turn h ∷ quantum_turns k h (before next y) = one_more k h c may ∙ ap (λ d. Turn h ∷ quantum_turns k h d) (sym turned) in
      let same : among next z ≡ among harts z = ap (λ hs. core_of hs z.prog s rows budget) (set_set harts h y.hart z.hart) in
      let tick : ticks_next c h ≡ is_tick (fetched_alone s x) = ap (λ o. ticks_by o c) e in
      let first : y.hart.ticks ≡ x.hart.ticks + cond (is_tick (fetched_alone s x)) 1 0 = step_ticks (fetched_alone s x) h (home_in_store s x.hart.pc x.hart.inside) x ∙ tick_one (is_tick (fetched_alone s x)) x.hart.ticks in
      let all : length (owns (quantum_turns (suc k) h c) c) ≡ cond (is_tick (fetched_alone s x)) 1 0 + length (owns (quantum_turns k h (before next y)) (before next y)) =
      ap (λ es. length (owns es c)) one
      ∙ (ap (λ d. length (cond (ticks_next c h) (h ∷ []) [] ++ owns (quantum_turns k h (before next y)) d)) (sym turned)
      ∙ (length_turns (ticks_next c h) h (owns (quantum_turns k h (before next y)) (before next y))
      ∙ ap (λ b. cond b 1 0 + length (owns (quantum_turns k h (before next y)) (before next y))) tick)) in
      let ticks = rest.ticks in
      let many = rest.many in
      let long = ap (λ (es : List Event). length es) one in
      record {
        reached = subst IsReached same rest.reached;
        core = sym same ∙ (rest.core ∙ (ap (λ d. replay (quantum_turns k h (before next y)) d) turned ∙ sym (ap (λ es. replay es c) one)));
        many = omega arith;
        ticks = omega arith;
      }

  -- a quantum of the hart is one of the machine
  pub record Took (most turns : ℕ) (harts : List Hart) (x z : Solo) : Type 0 where
    pub reached : IsReached (among harts z)
    pub core : among harts z ≡ replay (quantum_turns most h (before harts x)) (before harts x)
    pub many : length (quantum_turns most h (before harts x)) ≡ turns
    pub ticks : z.hart.ticks ≡ x.hart.ticks + length (owns (quantum_turns most h (before harts x)) (before harts x))

  module _ (harts : List Hart) (x : Solo) (r : IsReached (before harts x)) (e : slice_get harts h ≡ Some x.hart) where
    pub all_placed : ArePlaced s budget h x
    all_placed k z l = placed (slice_set harts h z.hart) z (led k harts x z r e l).reached (get_set_same harts h x.hart z.hart e)

    pub took : (most turns : ℕ) (z : Solo) → TakesAlone s budget h most x z turns → Took most turns harts x z
    took most turns z t =
        let c = before harts x in
        let k = led turns harts x z r e t.leads in
        let ended : may_alone budget z ≡ false → quantum_turns most h c ≡ quantum_turns turns h c = λ f. stays turns most h c t.bound k.many (sym (ap (λ d. is_runnable d h) k.core) ∙ (runs (slice_set harts h z.hart) z (get_set_same harts h x.hart z.hart e) ∙ f)) in
        let same : quantum_turns most h c ≡ quantum_turns turns h c = ⊎_elim (λ (a : turns ≡ most). ap (λ n. quantum_turns n h c) (sym a)) ended t.full in
        let long = ap (λ (es : List Event). length es) same in
        let own = ap (λ es. length (owns es c)) same in
        let many = k.many in
        let ticks = k.ticks in
        record {
          reached = k.reached;
          core = k.core ∙ sym (ap (λ es. replay es c) same);
          many = omega arith;
          ticks = omega arith;
        }
