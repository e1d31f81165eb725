use Rattle.std.proofs.Common.{◌∙◌, None, Some, refl}
use Rattle.command_words.proofs.SeenNames.{slot_by}
use Rattle.command_words.proofs.forms.Form.slot_of.Goals as goal

pub returns-in_err-position_of-in-None-clause-number :
    goal.returns-in_err-position_of-in-None-clause-number
returns-in_err-position_of-in-None-clause-number c =
    c.from_residual.ensures
    ∙ slot_by c.args.self.now c.args.name.now None None c.in-None.ensures.number c.in_err-position_of-in-None.ensures.number

pub returns-in-Some-clause-number : goal.returns-in-Some-clause-number
returns-in-Some-clause-number c = slot_by c.args.self.now c.args.name.now (Some c.in-Some.place) _ c.in-Some.ensures.number refl

pub returns-in_ok-position_of-in-None-clause-number :
    goal.returns-in_ok-position_of-in-None-clause-number
returns-in_ok-position_of-in-None-clause-number c =
    slot_by c.args.self.now c.args.name.now None (Some c.in_ok-position_of-in-None.field-0) c.in-None.ensures.number c.in_ok-position_of-in-None.ensures.number
