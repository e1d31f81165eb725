use Rattle.std.proofs.Common.{◌≡◌, ◌∙◌, ℕ, List, map, None, refl, sym, ap}
use Rattle.std.specs.Option.{option_and_then}
use Rattle.rv_asm.specs.FormsSeen.{named_form}
use Rattle.rv_asm.specs.Statements.{each, joined, made_by, named_forms}
use Rattle.rv_asm.specs.declared.named.NamedForm.{NamedForm}
use Rattle.rv_asm.specs.declared.named.TheConstants.{NAMED_FORMS}
use Rattle.rv_asm.proofs.Forms.{each_is}
use Rattle.rv_asm.proofs.named.named_statement.Goals as goal

rows : List (List ℕ × NamedForm)
rows = map (λ row. (row.0.now, row.1)) NAMED_FORMS

-- the code's table is that of the forms
same : each rows named_form ≡ joined named_forms
unfolding each named_forms rows
same = refl

pub returns : goal.returns
unfolding rows
returns c =
    let name = c.args.name.now in
    let text = c.args.text.now in
    each_is rows named_form name text _
    (c.of_form.ensures ∙ ap (option_and_then (λ (form : NamedForm). named_form form text)) (sym c.in_ok-form.was ∙ c.named_row.ensures))
    ∙ ap (λ forms. made_by forms name text) same

pub returns-in_err-form : goal.returns-in_err-form
unfolding rows
returns-in_err-form c =
    let name = c.args.name.now in
    let text = c.args.text.now in
    rw c.from_residual.ensures
    (each_is rows named_form name text None (ap (option_and_then (λ (form : NamedForm). named_form form text)) (sym c.in_err-form.was ∙ c.named_row.ensures))
    ∙ ap (λ forms. made_by forms name text) same)
