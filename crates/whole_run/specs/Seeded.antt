-- The order in which harts take their quanta, where a seed alone decides it.
use Rattle.std.specs.Prelude.{◌≡◌, ℕ, ◌≤◌, Some, List, [], ◌∷◌}
use Rattle.pn_types.specs.declared.limits.TheConstants.{MAX_QUANTUM}
use Rattle.turn_order.specs.declared.order.Order.{Order}
use Rattle.turn_order.specs.Orders.{order_after, order_of_seed, picked}
use Rattle.pn_types.specs.declared.quantum.Quantum.{Quantum}
use Rattle.machine.specs.Turns.{is_runnable}
use Rattle.session_spec.specs.Inputs.{Inputs}
use Rattle.session_spec.specs.States.{State}
use Rattle.session_spec.specs.Work.{IsWhole, first_state, quantum_of, after_quantum}

-- each is worker 0's, of at most `turns` turns, and of the hart that is next among those that are runnable when it comes
abbrev pub AreInOrder : Inputs → ℕ → Order → State → List Quantum → Type 0
AreInOrder i turns order s [] = Unit {0}
AreInOrder i turns order s (q ∷ quanta) =
    (picked order (is_runnable s.kept.machine.core) i.settings.harts ≡ Some q.hart) × (q ≡ quantum_of i 0 q.hart turns s.kept)
    × AreInOrder i turns (order_after order q.hart) (after_quantum i q.hart q.turns s) quanta

-- The whole list of quanta in the order of a seed.
pub record IsSeeded (i : Inputs) (seed turns : ℕ) (quanta : List Quantum) : Type 0 where
  pub ordered : AreInOrder i turns (order_of_seed seed) (first_state i) quanta
  pub whole : IsWhole i quanta

-- there is at most one
abbrev pub OneSeeded : Type 0
OneSeeded = (i : Inputs) (seed turns : ℕ) (quanta others : List Quantum)
    → IsSeeded i seed turns quanta → IsSeeded i seed turns others → quanta ≡ others

-- there is one
abbrev pub SomeSeeded : Type 0
SomeSeeded = (i : Inputs) (seed turns : ℕ) → 1 ≤ turns → turns ≤ MAX_QUANTUM → (quanta : List Quantum) × IsSeeded i seed turns quanta
