use Rattle.std.proofs.Common.{◌≡◌, ◌∙◌, ℕ, List, map, refl, sym, ap}
use Rattle.std.specs.Option.{option_and_then}
use Rattle.rv_asm.specs.FormsSeen.{plain_form}
use Rattle.rv_asm.specs.Statements.{each, joined, made_by, plain_forms}
use Rattle.rv_asm.specs.declared.plain_forms.PlainForm.{PlainForm}
use Rattle.rv_asm.specs.declared.plain_forms.TheConstants.{PLAIN_FORMS}
use Rattle.rv_asm.proofs.Forms.{each_is}
use Rattle.rv_asm.proofs.plain.plain_statement.Goals as goal

rows : List (List ℕ × PlainForm)
rows = map (λ row. (row.0.now, row.1)) PLAIN_FORMS

-- the code's table is that of the forms
same : each rows plain_form ≡ joined plain_forms
unfolding each plain_forms rows
same = refl

pub returns : goal.returns
unfolding rows
returns c =
    let name = c.args.name.now in
    let text = c.args.text.now in
    each_is rows plain_form name text c.of_form.result
    (c.of_form.ensures ∙ ap (option_and_then (λ (form : PlainForm). plain_form form text)) (sym c.in_ok-form.was ∙ c.named_row.ensures))
    ∙ ap (λ forms. made_by forms name text) same

pub returns-in_err-form : goal.returns-in_err-form
unfolding rows
returns-in_err-form c =
    let name = c.args.name.now in
    let text = c.args.text.now in
    each_is rows plain_form name text c.from_residual.result
    (c.from_residual.ensures ∙ ap (option_and_then (λ (form : PlainForm). plain_form form text)) (sym c.in_err-form.was ∙ c.named_row.ensures))
    ∙ ap (λ forms. made_by forms name text) same
