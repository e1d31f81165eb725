-- What a session read last of its instruments, and how its samples follow from it.
use Rattle.std.specs.Prelude.{◌≡◌, ℕ, if◌then◌else◌, List, [], ◌∷◌}
use Rattle.pn_types.specs.declared.quantum.Quantum.{Quantum}
use Rattle.machine.specs.Events.{IsQuiet}
use Rattle.session_spec.specs.Inputs.{Inputs}
use Rattle.session_spec.specs.States.{State}
use Rattle.session_spec.specs.Admission.{with_admission}
use Rattle.session_spec.specs.Due.{recorded_with, with_frees}
use Rattle.session_spec.specs.Opening.{wished, with_agenda}
use Rattle.session_spec.specs.Tests.{with_tests}
use Rattle.session_spec.specs.Readings.{lasts_armed, lasts_now, lasts_with, recorded_read}
use Rattle.session_spec.specs.Work.{first_state, is_due, state_admitted, state_handed, state_quiet, state_sampled, state_turned, after_quantum}

-- ---- what was read last of each instrument

-- of those of the opening: their readings when they were armed
abbrev pub lasts_first : Inputs → List ℕ
lasts_first i = lasts_armed i (with_agenda (with_tests i (wished i))).machine
    (with_agenda (with_tests i (wished i))).shown (lasts_with (with_tests i (wished i)).shown [])

-- the state after the turns of a quantum, and the entries of the agenda
abbrev pub handed_on : Inputs → ℕ → ℕ → State → State
handed_on i h n s = state_handed (state_turned h n (state_admitted i s))

abbrev pub lasts_handed : Inputs → State → List ℕ → List ℕ
lasts_handed i s lasts = lasts_with (with_admission i s.kept).shown lasts

-- after a due work, where s is quiet: of what is armed its readings then, and of what is armed now its readings now
abbrev pub lasts_done : Inputs → State → List ℕ → List ℕ
lasts_done i s lasts =
    lasts_armed i (with_frees (state_sampled i s).kept).machine
    (with_frees (state_sampled i s).kept).shown (lasts_now i s.kept.machine s.kept.shown lasts)

-- after a quantum
abbrev pub lasts_tended : Inputs → ℕ → ℕ → State → List ℕ → List ℕ
lasts_tended i h n s lasts =
    if is_due (handed_on i h n s).kept
    then lasts_done i (state_quiet (handed_on i h n s)) (lasts_handed i s lasts)
    else lasts_handed i s lasts

abbrev pub lasts_from : Inputs → List Quantum → State → List ℕ → List ℕ
lasts_from i [] s lasts = lasts
lasts_from i (q ∷ quanta) s lasts = lasts_from i quanta (after_quantum i q.hart q.turns s) (lasts_tended i q.hart q.turns s lasts)

-- after these quanta
unfoldable pub lasts_of : Inputs → List Quantum → List ℕ
lasts_of i quanta = lasts_from i quanta (first_state i) (lasts_first i)

-- ---- samples

-- No hart is inside a trampoline, and each sample that is taken now is the difference of what was read last and what is read now.
pub record AreRead (i : Inputs) (s : State) (lasts : List ℕ) : Type 0 where
  pub quiet : IsQuiet s.kept.machine.core
  pub read : recorded_with i s.kept.machine.placer s.owns s.kept.time s.kept.shown s.recorded
      ≡ recorded_read i s.kept.machine s.kept.time s.kept.shown lasts s.recorded

-- This holds for the samples of the due work of a next quantum, after its turns, and for those of the end.
pub record AreReadNext (i : Inputs) (quanta : List Quantum) (s : State) : Type 0 where
  pub due : (h n : ℕ) → AreRead i (state_quiet (handed_on i h n s)) (lasts_handed i s (lasts_of i quanta))
  pub last : AreRead i (state_quiet s) (lasts_of i quanta)
