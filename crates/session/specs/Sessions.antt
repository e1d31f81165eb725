-- The state of a session after its quanta, and its end.
use Rattle.std.specs.Prelude.{◌≡◌, ℕ, if◌then◌else◌, Bool, false, Some, List, []}
use Rattle.pn_types.specs.declared.pick.PickCause.{PickCause}
use Rattle.pn_types.specs.declared.quantum.Quantum.{Quantum}
use Rattle.resource_tree.specs.Foci.{canonical}
use Rattle.instrumented.specs.Instrumented.{Instrumented}
use Rattle.session_spec.specs.declared.data.RefusedWish.{RefusedWish}
use Rattle.session_spec.specs.Inputs.{Inputs}
use Rattle.session_spec.specs.Opening.{bad_pick}
use Rattle.session_spec.specs.States.{State}
use Rattle.session_spec.specs.Work.{final_state, after_quanta}
use Rattle.session.specs.Parts.{metric_of, name_of}
use Rattle.session.specs.declared.fault.StartFault.{StartFault}
use Rattle.session.specs.declared.fault.StartFault.TheVariants.{NoMemory, BadPick}

-- its state after these quanta, in its closed form where it was closed
abbrev pub state_at : Inputs → List Quantum → Bool → State
state_at i quanta over = if over then final_state i (after_quanta i quanta) else after_quanta i quanta

-- What a session was given, its machine with the instruments, the quanta that it took, and whether it was closed.
pub record SessionData : Type 0 where
  pub inputs : Inputs
  pub machine : Instrumented
  pub quanta : List Quantum
  pub closed : Bool

-- the session of these quanta: its machine is the state's
abbrev pub session_at : Inputs → List Quantum → Bool → SessionData
session_at i quanta over = record { inputs = i; machine = (state_at i quanta over).kept.machine; quanta = quanta; closed = over }

-- how one begins
abbrev pub new_session : Inputs → SessionData
new_session i = session_at i [] false

-- a refused wish is told by the name of its metric, its focus, and why
abbrev pub IsToldAs : Inputs → RefusedWish → List ℕ → List ℕ → PickCause → Type 0
IsToldAs i wish metric focus cause =
    (metric ≡ name_of (metric_of i wish.metric)) × (focus ≡ canonical i.tree wish.focus) × (cause ≡ wish.cause)

-- why one doesn't begin, other than by running out of memory: a wish of the opening is refused
abbrev pub IsStartFault : Inputs → StartFault → Type 0
IsStartFault i NoMemory = Unit {0}
IsStartFault i (BadPick metric focus cause) = (wish : RefusedWish) × (bad_pick i ≡ Some wish) × IsToldAs i wish metric focus cause

-- its state
abbrev pub state_of : SessionData → State
state_of s = state_at s.inputs s.quanta s.closed
