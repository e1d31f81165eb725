use Rattle.std.proofs.Common.{◌≡◌, flat_map}
use Rattle.std.proofs.lemmas.Result.{IfOk-weaker}
use Rattle.mdl_plan.specs.Choosing.{in_set}
use Rattle.mdl_plan.specs.Scopes.{ArePassing, names_of}
use Rattle.resource_tree.specs.Foci.{part}
use Rattle.first_places.specs.Groups.{places_of}
use Rattle.mdl_plan.proofs.Passing.{passing_set}
use Rattle.mdl_plan.proofs.scope.Scope.selected.Goals as goal

pub returns-in-Names : goal.returns-in-Names
returns-in-Names c =
    let s = c.args.self.now in
    let procs = c.self.inside.index.now.procs in
    IfOk-weaker c.with_any.result (λ found. found.items ≡ flat_map (λ name. places_of name (names_of procs)) c.as_slice.result.now) (λ found. ArePassing s.procs (in_set s.selected c.args.set.now) found.items)
    (λ found all. passing_set (part c.self.inside.tree.now c.self.inside.focus.now).procs procs s c.args.set.now c.in-Names.names c.as_slice.result.now found.items
    c.self.view_is c.in-Names.is c.as_slice.ensures all)
    c.with_any.ensures
