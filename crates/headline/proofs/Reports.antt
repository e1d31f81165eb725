-- What is reported of any list of quanta is honest.
use Rattle.std.proofs.Common.{◌≤◌, Option, Some, None, List, refl, ◌∙◌, arith}
use Rattle.machine.specs.Laws.{IsProgram}
use Rattle.machine.specs.Quanta.{TimeGoesOn}
use Rattle.mdl_ast.specs.declared.items.SearchDecl.{SearchDecl}
use Rattle.pn_types.specs.declared.quantum.Quantum.{Quantum}
use Rattle.session.proofs.Plans.{all_good}
use Rattle.session.specs.Bins.{PartsTold}
use Rattle.session.specs.Given.{AreGiven, AreNarrow, HasWindow}
use Rattle.session.specs.Parts.{parts_of}
use Rattle.session_spec.specs.Costs.{CostsStay}
use Rattle.session_spec.specs.Laws.{RunsTold, VerdictsTold}
use Rattle.session_spec.proofs.RulesStay.{closed_rules, work_rules}
use Rattle.session_spec.specs.Inputs.{Inputs}
use Rattle.session_spec.specs.Run.{IsRun}
use Rattle.session_spec.specs.Searches.{rules_by, rules_of}
use Rattle.session_spec.specs.Work.{after_quanta}
use Rattle.headline.specs.Honest.{IsHonest, end_of}
use Rattle.headline.proofs.Histories.{history}
use Rattle.headline.proofs.Observed.{none_admitted}
use Rattle.headline.proofs.Times.{early}

-- the laws of the crates below
pub record Laws : Type 0 where
  pub time : TimeGoesOn
  pub runs : RunsTold
  pub parts : PartsTold
  pub verdicts : VerdictsTold
  pub costs : CostsStay

-- what a session can be given, with a program and metrics of 32 bits
pub record IsRunnable (i : Inputs) : Type 0 where
  pub given : AreGiven i
  pub narrow : AreNarrow i
  pub program : IsProgram i.image

some_window : (i : Inputs) (o : Option SearchDecl) → HasWindow o → 1 ≤ (rules_by o i).decl.window
some_window i None w = omega arith
some_window i (Some decl) w = w

module _ (laws : Laws) (i : Inputs) (quanta : List Quantum) where
  pub honest : IsRunnable i → IsHonest i quanta (parts_of i (end_of i quanta))
  honest can =
      let settings = can.given.settings in
      let wide = settings.width.0 in
      let ran : IsRun i (end_of i quanta) = (laws.runs).closes i quanta can.program (all_good i can.given can.narrow) in
      let window : 1 ≤ (rules_of i).decl.window = some_window i i.checked.search can.given.window in
      record {
        run = ran;
        parts = refl;
        bins = λ part there. (laws.parts).closes i quanta wide part there;
        search = record {
          rules = closed_rules i (after_quanta i quanta) ∙ work_rules i quanta;
          history = history i quanta;
          verdicts = (laws.verdicts).closes i quanta wide window (early laws.time i (end_of i quanta) settings ran);
          costs = λ before behind e. (laws.costs).moments i before;
          observed = λ before behind e above. none_admitted laws.costs i (after_quanta i before).kept above;
        };
      }
