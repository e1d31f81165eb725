-- The plan of an instrument that starts cold or warm.
use Rattle.std.specs.Prelude.{Result, Ok, Err, []}
use Rattle.pn_types.specs.declared.plan.Plan.{Plan}
use Rattle.pn_types.specs.declared.settings.Start.{Start}
use Rattle.pn_types.specs.declared.settings.Start.TheVariants.{Cold, Warm}

-- cold it knows of no open procedure
abbrev pub started_plan : Start → Plan → Plan
started_plan Cold plan = record plan { opens = [] }
started_plan Warm plan = plan

-- a plan, if there is one
abbrev pub started_if : {E : Type 0} → Start → Result Plan E → Result Plan E
started_if start (Ok plan) = Ok (started_plan start plan)
started_if start (Err fault) = Err fault
