-- What a session's state is to the unpatched program: its run.
use Rattle.std.proofs.Common.{ℕ, List, sym, subst}
use Rattle.machine.specs.Cores.{start_core}
use Rattle.machine.specs.Quanta.{KeepsBudget}
use Rattle.machine.specs.Replays.{replay}
use Rattle.machine.specs.Same.{SameProgram}
use Rattle.machine.proofs.Erasing.{erasure}
use Rattle.machine.proofs.Quanta.{budget_is_kept}
use Rattle.rv_exec.specs.Run.{run, IsLegal}
use Rattle.instrument.specs.Scenes.{events_of, first_scene}
use Rattle.instrumented.proofs.Acts.{whole_of}
use Rattle.session_spec.specs.Inputs.{Inputs}
use Rattle.session_spec.specs.States.{State}
use Rattle.session_spec.specs.Run.{IsRun}
use Rattle.session_spec.specs.Reads.{IsSoundState}

pub is_run : (i : Inputs) (s : State) (lasts : List ℕ) → IsSoundState i s lasts → IsRun i s
is_run i s lasts k =
    let t = k.tied in
    let es = events_of t.acts (first_scene i.image i.settings.harts i.settings.budget i.settings.instruments) in
    let w = whole_of i.image i.settings.harts i.settings.budget i.settings.instruments t.acts s.kept.machine t.plans t.program t.leads in
    let e = erasure i.image i.settings.harts i.settings.budget es t.program w.legal in
    record {
      events = es;
      legal = w.legal;
      core = w.core;
      owns = t.owned;
      time = k.time;
      budget = subst KeepsBudget (sym w.core) (budget_is_kept i.image i.settings.harts i.settings.budget es t.program w.legal);
      legal_run = subst (IsLegal i.image i.settings.harts i.settings.budget) (sym t.owned) e.legal;
      same = subst (λ c. SameProgram c (run i.image i.settings.harts s.owns)) (sym w.core) (subst (λ l. SameProgram (replay es (start_core i.image i.settings.harts i.settings.budget)) (run i.image i.settings.harts l)) (sym t.owned) e.same);
    }
