-- A seed has a whole list of quanta.
use Rattle.std.proofs.Common.{◌≡◌, ℕ, zero, suc, ◌+◌, ◌<◌, ◌≤◌, List, [], ◌∷◌, ◌++◌, Option, Some, None, length, length-append, refl, subst, arith}
use Rattle.pn_types.specs.declared.limits.TheConstants.{MAX_QUANTA, MAX_QUANTUM}
use Rattle.pn_types.specs.declared.quantum.Quantum.{Quantum}
use Rattle.turn_order.proofs.Picks.{picked_may}
use Rattle.turn_order.specs.Orders.{order_after, order_of_seed, picked}
use Rattle.turn_order.specs.declared.order.Order.{Order}
use Rattle.session_spec.specs.Inputs.{Inputs}
use Rattle.session_spec.specs.States.{State}
use Rattle.session_spec.specs.Work.{AreAllowed, AreAllowedFrom, IsAllowed, first_state, quantum_of, after_quantum, after_quanta, after_quanta_from}
use Rattle.whole_run.specs.Seeded.{IsSeeded, SomeSeeded}
use Rattle.whole_run.proofs.Ordered.{Running, begins, ends, fills, goes_on, may_go}

-- ---- allowed quanta

allowed_from : (i : Inputs) (s : State) (quanta : List Quantum) (q : Quantum) → AreAllowedFrom i s quanta → IsAllowed i (after_quanta_from i quanta s).kept q → AreAllowedFrom i s (quanta ++ q ∷ [])
allowed_from i s [] q before one = (one, tt)
allowed_from i s (x ∷ quanta) q before one = (before.0, allowed_from i (after_quantum i x.hart x.turns s) quanta q before.1 one)

pub allowed_more : (i : Inputs) (quanta : List Quantum) (q : Quantum) → AreAllowed i quanta → length quanta < MAX_QUANTA → IsAllowed i (after_quanta i quanta).kept q → AreAllowed i (quanta ++ q ∷ [])
unfolding after_quanta
allowed_more i quanta q before few one = record {
  each = allowed_from i (first_state i) quanta q before.each one;
  few = omega (arith, length-append quanta (q ∷ []));
}

-- ---- from any list on

module _ (i : Inputs) (seed turns : ℕ) (some : 1 ≤ turns) (most : turns ≤ MAX_QUANTUM) where
  abbrev HasWhole : Type 0
  HasWhole = (whole : List Quantum) × IsSeeded i seed turns whole

  -- there is a whole list that goes on where a number of quanta can follow
  abbrev GoesOn : ℕ → Type 0
  GoesOn left = (count : ℕ) (quanta : List Quantum) (order : Order) → count + left ≡ MAX_QUANTA → Running i seed turns count quanta order → AreAllowed i quanta → HasWhole

  one_more : (left : ℕ) → GoesOn left → GoesOn (suc left)
  one_more left more count quanta order sum r a = by (picked order (may_go i quanta) i.settings.harts) refl
    where
      by : (o : Option ℕ) → picked order (may_go i quanta) i.settings.harts ≡ o → HasWhole
      by None e = (quanta, ends i seed turns count quanta order r a e)
      by (Some h) e =
          let q : Quantum = quantum_of i 0 h turns (after_quanta i quanta).kept in
          let may = picked_may order (may_go i quanta) i.settings.harts h e in
          let one : IsAllowed i (after_quanta i quanta).kept q = record { worker = omega arith; hart = may.1; some = some; few = most; runnable = may.0; owns = refl } in
          let number = r.number in
          more (count + 1) (quanta ++ q ∷ []) (order_after order h) (omega (arith, sum)) (goes_on i seed turns count h quanta order q r e refl)
          (allowed_more i quanta q a (omega (arith, sum)) one)

  whole_after : (left : ℕ) → GoesOn left
  whole_after zero = λ count quanta order sum r a. (quanta, fills i seed turns quanta order (subst (λ n. Running i seed turns n quanta order) (omega (arith, sum)) r) a)
  whole_after (suc left) = one_more left (whole_after left)

pub some_seeded : SomeSeeded
some_seeded i seed turns some most =
    whole_after i seed turns some most MAX_QUANTA 0 [] (order_of_seed seed) (omega arith) (begins i seed turns) (record { each = tt; few = omega arith })
