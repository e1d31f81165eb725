-- When a report is honest: what it tells of a run with instruments is true of the program alone, which was never patched.
use Rattle.std.specs.Prelude.{◌≡◌, true, nat_lt, List, ◌++◌}
use Rattle.machine.specs.Cores.{In}
use Rattle.pn_types.specs.declared.quantum.Quantum.{Quantum}
use Rattle.report.specs.declared.parts.ReportParts.{ReportParts}
use Rattle.report.specs.declared.parts.ShownPart.{ShownPart}
use Rattle.session.specs.Bins.{IsPartOf}
use Rattle.session.specs.Parts.{parts_of}
use Rattle.session_spec.specs.Admission.{with_admission}
use Rattle.session_spec.specs.Costs.{AreWithin}
use Rattle.session_spec.specs.Inputs.{Inputs}
use Rattle.session_spec.specs.Run.{IsRun}
use Rattle.session_spec.specs.Searches.{rules_of}
use Rattle.session_spec.specs.States.{State}
use Rattle.session_spec.specs.Told.{AreEnded}
use Rattle.session_spec.specs.Work.{final_state, after_quanta}
use Rattle.w3_search.specs.History.{IsHistory}

-- the state of a session after its quanta and its end
abbrev pub end_of : Inputs → List Quantum → State
end_of i quanta = final_state i (after_quanta i quanta)

-- The nodes of the search: each is a root of its phase, or refines a node that was true, and where there is room none is missing. Each
-- was judged by the test on what its metric's plan measures at its focus over its window, or says why it wasn't. At each moment of each
-- quantum the tests together cost no more than the limit, and an admission takes no node where the observed cost is above its limit.
pub record AreVerdicts (i : Inputs) (quanta : List Quantum) : Type 0 where
  pub rules : (end_of i quanta).kept.search.rules ≡ rules_of i
  pub history : IsHistory (end_of i quanta).kept.search
  pub verdicts : AreEnded i quanta (end_of i quanta)
  pub costs : (before after : List Quantum) → quanta ≡ before ++ after → AreWithin i (after_quanta i before)
  pub observed : (before after : List Quantum) → quanta ≡ before ++ after → let k = (after_quanta i before).kept in
      nat_lt (rules_of i).decl.observed k.observed ≡ true → (with_admission i k).search ≡ k.search

-- Each event of the patched machine could happen when it came, and its ticks are turns that the harts of the program alone could
-- take. It has that program's memory, output, ticks and stops. What is printed is the session's at its end, all of it, and the harts
-- and the output of that are the program's alone. The bins of a pair follow one another from its arming on, and each is what its
-- metric's plan at its focus measures over its ticks. The search's nodes are honest too.
pub record IsHonest (i : Inputs) (quanta : List Quantum) (printed : ReportParts) : Type 0 where
  pub run : IsRun i (end_of i quanta)
  pub parts : printed ≡ parts_of i (end_of i quanta)
  pub bins : (part : ShownPart) → In part printed.shown → IsPartOf i (end_of i quanta) part
  pub search : AreVerdicts i quanta
