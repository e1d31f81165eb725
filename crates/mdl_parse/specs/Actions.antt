-- For proofs alone: what a statement does.
use Rattle.std.specs.Prelude.{Bool, true, false}
use Rattle.mdl_ast.specs.declared.action.VarName.{VarName}
use Rattle.mdl_ast.specs.declared.action.Action.{Action}
use Rattle.mdl_ast.specs.declared.action.Action.TheVariants as act
use Rattle.mdl_parse.specs.declared.change.Change.{Change}
use Rattle.mdl_parse.specs.declared.change.Change.TheVariants.{Up, Down, Put}

abbrev pub action_of_change : VarName → Change → Action
action_of_change var Up = act.Up var
action_of_change var Down = act.Down var
action_of_change var (Put n) = act.Put var n

abbrev pub timed : Bool → VarName → Action
timed true var = act.Start var
timed false var = act.Stop var
