-- Plans that can be measured on a session's program.
use Rattle.std.specs.Prelude.{◌≡◌, ℕ, ◌<◌, Ok, length}
use Rattle.pn_types.specs.declared.focus.Focus.{Focus}
use Rattle.pn_types.specs.declared.plan.Plan.{Plan}
use Rattle.prim_code.specs.Fitting.{IsMeasurable}
use Rattle.rv_mem.specs.Start.{program_of}
use Rattle.instrument.specs.Scenes.{IsPlanFor}
use Rattle.session_spec.specs.Inputs.{Inputs, planned}

-- one that can be measured
pub record IsGood (i : Inputs) (plan : Plan) : Type 0 where
  pub for : IsPlanFor (program_of i.image) plan
  pub measurable : IsMeasurable plan
  pub vars : 0 < length plan.vars

-- each plan of a metric at a focus
abbrev pub ArePlansGood : Inputs → Type 0
ArePlansGood i = (metric : ℕ) (focus : Focus) (plan : Plan) → planned i metric focus ≡ Ok plan → IsGood i plan
