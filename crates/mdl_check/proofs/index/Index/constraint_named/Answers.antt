use Rattle.std.proofs.Common.{List, None, Some, sym, ap, ◌∙◌, slice_get}
use Rattle.std.specs.Option.{option_map}
use Rattle.mdl_ast.specs.declared.metric.Constraint.{Constraint}
use Rattle.mdl_check.proofs.Lookups.{constraint_at}
use Rattle.mdl_check.proofs.index.Index.constraint_named.Goals as goal

pub returns-in_err-number : goal.returns-in_err-number
returns-in_err-number c =
    ap (option_map (λ used. used.now)) c.from_residual.ensures
    ∙ constraint_at c.args.name.now c.self.inside.all.now c.args.self.now c.self.inside.kept.now.constraints c.self.inside.kept.now.uses.items None c.self.invariant.constraints_are c.self.invariant.uses_are c.self.view_is (sym c.in_err-number.was ∙ c.lookup.ensures)

pub returns : goal.returns
returns c =
    c.constraint_at.ensures
    ∙ ap (λ (l : List Constraint). slice_get l c.in_ok-number.number) c.deref.ensures.value
    ∙ constraint_at c.args.name.now c.self.inside.all.now c.args.self.now c.self.inside.kept.now.constraints c.self.inside.kept.now.uses.items (Some c.in_ok-number.number) c.self.invariant.constraints_are c.self.invariant.uses_are c.self.view_is (sym c.in_ok-number.was ∙ c.lookup.ensures)
