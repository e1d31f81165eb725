-- A run along quanta that are told, as those of a log.
use Rattle.std.specs.Prelude.{◌≡◌, ℕ, ◌+◌, ◌<◌, ◌≤◌, ◌==◌, ◌&&◌, nat_lt, not, if◌then◌else◌, Bool, Option, Some, None, List, [], ◌∷◌, length}
use Rattle.std.specs.List.{AllByRecursion, list_any, range_with_len}
use Rattle.pn_types.specs.declared.limits.TheConstants.{MAX_QUANTA}
use Rattle.quanta_log.specs.Spelling.{IsQuantum}
use Rattle.pn_types.specs.declared.quantum.Quantum.{Quantum}
use Rattle.machine.specs.Turns.{is_runnable}
use Rattle.session_spec.specs.Inputs.{Inputs}
use Rattle.session_spec.specs.Opening.{bad_pick}
use Rattle.session_spec.specs.States.{SessionState, State}
use Rattle.session_spec.specs.Work.{IsWhole, first_state, quantum_of, after_quantum, after_quanta}
use Rattle.session.specs.Sessions.{IsStartFault}
use Rattle.session.specs.declared.fault.StartFault.TheVariants.{NoMemory, BadPick}
use Rattle.whole_run.specs.declared.misfit.Misfit.{Misfit}
use Rattle.whole_run.specs.declared.misfit.Misfit.TheVariants.{NotRunnable, OtherOwns, Unfinished}
use Rattle.whole_run.specs.declared.misfit.ReplayFault.{ReplayFault}
use Rattle.whole_run.specs.declared.misfit.ReplayFault.TheVariants as fault

-- how many ticks the turns of a quantum have
abbrev pub owns_of : Inputs → SessionState → Quantum → ℕ
owns_of i k q = (quantum_of i q.worker q.hart q.turns k).owns

-- why quantum number n isn't the run's, if it isn't: its hart can't go on, or its turns have another number of ticks
abbrev pub misfit_at : Inputs → ℕ → SessionState → Quantum → Option Misfit
misfit_at i n k q =
    if not (is_runnable k.machine.core q.hart) then Some (NotRunnable n q.hart)
    else if q.owns == owns_of i k q then None
    else Some (OtherOwns n q.owns (owns_of i k q))

-- the first of quanta that isn't the run's, where the first of them has number n
abbrev pub misfit_from : Inputs → ℕ → State → List Quantum → Option Misfit
misfit_from i n s [] = None
misfit_from i n s (q ∷ quanta) = elim (misfit_at i n s.kept q) [
  | Some misfit ↦ Some misfit
  | None ↦ misfit_from i (n + 1) (after_quantum i q.hart q.turns s) quanta
]

-- a hart could go on after the quanta
abbrev pub goes_on : Inputs → List Quantum → Bool
goes_on i quanta =
    nat_lt (length quanta) MAX_QUANTA && list_any (is_runnable (after_quanta i quanta).kept.machine.core) (range_with_len 0 i.settings.harts)

-- Why the quanta are no whole run, if they aren't one: the first that isn't the run's, or that they end before the run does.
unfoldable pub misfit_of : Inputs → List Quantum → Option Misfit
misfit_of i quanta = elim (misfit_from i 0 (first_state i) quanta) [
  | Some misfit ↦ Some misfit
  | None ↦ if goes_on i quanta then Some Unfinished else None
]

-- quanta in range fit exactly where they are a whole run
abbrev pub WholeFit : Type 0
WholeFit = (i : Inputs) (quanta : List Quantum) → AllByRecursion (IsQuantum i.settings.harts) quanta → length quanta ≤ MAX_QUANTA →
    (misfit_of i quanta ≡ None → IsWhole i quanta) × (IsWhole i quanta → misfit_of i quanta ≡ None)

-- the number of the quantum is below a number
abbrev pub NamesQuantum : ℕ → Misfit → Type 0
NamesQuantum count (NotRunnable number hart) = number < count
NamesQuantum count (OtherOwns number told owns) = number < count
NamesQuantum count Unfinished = Unit {0}

-- they are no whole run for this reason, if the reason isn't running out of memory
abbrev pub IsMisfit : Inputs → List Quantum → ReplayFault → Type 0
IsMisfit i quanta (fault.NotOpened NoMemory) = Unit {0}
IsMisfit i quanta (fault.NotOpened (BadPick metric focus cause)) = ⊥
IsMisfit i quanta (fault.Misfit misfit) = (misfit_of i quanta ≡ Some misfit) × NamesQuantum (length quanta) misfit

-- why there is no report, other than by running out of memory
abbrev pub IsReplayFault : Inputs → List Quantum → ReplayFault → Type 0
IsReplayFault i quanta (fault.NotOpened why) = IsStartFault i why
IsReplayFault i quanta (fault.Misfit misfit) = (bad_pick i ≡ None) × (misfit_of i quanta ≡ Some misfit) × NamesQuantum (length quanta) misfit
