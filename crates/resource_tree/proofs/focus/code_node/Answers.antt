use Rattle.std.proofs.Common.{◌≡◌, ◌∷◌, sym, ◌∙◌, ap}
use Rattle.std.specs.Option.{option_map}
use Rattle.pn_types.specs.declared.focus.CodePart.TheVariants.{Module, Procedure}
use Rattle.resource_tree.proofs.PartNames.{by_path, by_name}
use Rattle.resource_tree.proofs.focus.code_node.Goals as goal

pub returns-in_err-proc_at : goal.returns-in_err-proc_at
returns-in_err-proc_at c names len good e =
    let b : c.in-Some.field-0-0.now ∷ c.in-Some.path.now ≡ c.args.below.now = sym c.in-Some.ensures.cases.0 in
    c.from_residual.ensures ∙ ap (option_map Procedure) (sym c.in_err-proc_at.was ∙ c.proc_at.ensures)
    ∙ sym (by_path c.args.code.now names c.in-Some.field-0-0.now c.in-Some.path.now len good (b ∙ e) (sym c.contains.ensures.value ∙ c.if-contains.true))

pub returns-then-contains : goal.returns-then-contains
returns-then-contains c names len good e =
    let b : c.in-Some.field-0-0.now ∷ c.in-Some.path.now ≡ c.args.below.now = sym c.in-Some.ensures.cases.0 in
    ap (option_map Procedure) (sym c.in_ok-proc_at.was ∙ c.proc_at.ensures)
    ∙ sym (by_path c.args.code.now names c.in-Some.field-0-0.now c.in-Some.path.now len good (b ∙ e) (sym c.contains.ensures.value ∙ c.if-contains.true))

pub returns-in_err-module_named : goal.returns-in_err-module_named
returns-in_err-module_named c names len good e =
    let b : c.in-Some.field-0-0.now ∷ c.in-Some.path.now ≡ c.args.below.now = sym c.in-Some.ensures.cases.0 in
    c.from_residual-in_err-module_named.ensures ∙ ap (option_map Module) (sym c.in_err-module_named.was ∙ c.module_named.ensures)
    ∙ sym (by_name c.args.code.now names c.in-Some.field-0-0.now c.in-Some.path.now len (b ∙ e) (sym c.contains.ensures.value ∙ c.if-contains.false))
