-- The quanta of a session can be written.
use Rattle.std.proofs.Common.{◌≡◌, List, [], ◌∷◌, ap, arith, length}
use Rattle.std.specs.List.{AllByRecursion}
use Rattle.pn_types.specs.declared.quantum.Quantum.{Quantum}
use Rattle.quanta_log.specs.declared.version.Version.TheVariants.{Two}
use Rattle.quanta_log.specs.Spelling.{CanSpell, IsQuantum}
use Rattle.session.proofs.Owns.{taken_few}
use Rattle.session.specs.Given.{AreGiven}
use Rattle.session_spec.specs.Admission.{with_admission}
use Rattle.session_spec.specs.Inputs.{Inputs}
use Rattle.session_spec.specs.States.{SessionState, State}
use Rattle.session_spec.specs.Work.{AreAllowed, AreAllowedFrom, IsAllowed, first_state, owns_taken, after_quantum}

-- ---- what is written

one_quantum : (i : Inputs) (k : SessionState) (q : Quantum) → IsAllowed i k q → IsQuantum i.settings.harts q
one_quantum i k q a =
    let own : q.owns ≡ length (owns_taken q.hart q.turns (with_admission i k).machine.core) = ap (λ (x : Quantum). x.owns) a.owns in
    let few = taken_few q.hart q.turns (with_admission i k).machine.core in
    let most = a.few in
    record { worker = a.worker; hart = a.hart; turns = (a.some, a.few); owns = omega arith }

all_quanta : (i : Inputs) (s : State) (quanta : List Quantum) → AreAllowedFrom i s quanta → AllByRecursion (IsQuantum i.settings.harts) quanta
all_quanta i s [] a = tt
all_quanta i s (q ∷ quanta) a = (one_quantum i s.kept q a.0, all_quanta i (after_quantum i q.hart q.turns s) quanta a.1)

pub can_spell : (i : Inputs) (quanta : List Quantum) → AreGiven i → AreAllowed i quanta → CanSpell Two i.settings quanta
can_spell i quanta g a = record { settings = g.settings; harts = g.settings.harts.1; plain = tt; few = a.few; quanta = all_quanta i (first_state i) quanta a.each }
