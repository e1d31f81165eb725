-- A session whose harts take their quanta in the order of a seed, from one quantum to the next.
use Rattle.std.specs.Prelude.{◌≡◌, ◌<◌, ◌≤◌, false, List, [], ◌∷◌, length}
use Rattle.pn_types.specs.declared.limits.TheConstants.{MAX_HARTS, MAX_QUANTA, MAX_QUANTUM}
use Rattle.turn_order.specs.declared.order.Order.{Order}
use Rattle.turn_order.specs.Orders.{order_after, order_of_seed, ready_of}
use Rattle.pn_types.specs.declared.quantum.Quantum.{Quantum}
use Rattle.machine.specs.Turns.{is_runnable}
use Rattle.session_spec.specs.Work.{first_state, after_quanta}
use Rattle.session.specs.Sessions.{SessionData}
use Rattle.whole_run.specs.Seeded.{AreInOrder}
use Rattle.whole_run.specs.declared.order.Rounds.{Rounds}

-- the order after these quanta
abbrev pub order_at : Order → List Quantum → Order
order_at order [] = order
order_at order (q ∷ quanta) = order_at (order_after order q.hart) quanta

-- The quanta of a session that isn't closed are in the seed's order, and the rounds have the order after them and, while there may
-- be another quantum, the harts that can take it.
pub record StandAt (r : Rounds) (s : SessionData) : Type 0 where
  pub going : s.closed ≡ false
  pub harts : r.harts ≡ s.inputs.settings.harts
  pub few : r.harts ≤ MAX_HARTS
  pub turns : (1 ≤ r.turns) × (r.turns ≤ MAX_QUANTUM)
  pub ordered : AreInOrder s.inputs r.turns (order_of_seed r.seed) (first_state s.inputs) s.quanta
  pub order : r.order ≡ order_at (order_of_seed r.seed) s.quanta
  pub ready : length s.quanta < MAX_QUANTA → r.ready ≡ ready_of (is_runnable (after_quanta s.inputs s.quanta).kept.machine.core) r.harts
