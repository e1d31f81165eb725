use Rattle.std.proofs.Common.{◌∙◌}
use Rattle.command_words.proofs.SettingsGiven.{all_told, last_untold, start_untold}
use Rattle.command_words.proofs.asking.settings.Goals as goal

pub returns-in_err-instruments-clause-settings : goal.returns-in_err-instruments-clause-settings
returns-in_err-instruments-clause-settings g c =
    c.from_residual-in_err-instruments.ensures
    ∙ last_untold c.in_ok-harts.harts c.in_ok-budget.budget c.in_ok-bins.bins c.in_ok-width.width _ _ _ _ _ _
    c.in_ok-harts.ensures.number c.in_ok-budget.ensures.number c.in_ok-bins.ensures.number c.in_ok-width.ensures.number c.in_err-instruments.ensures.number

pub returns-in_err-start-clause-settings : goal.returns-in_err-start-clause-settings
returns-in_err-start-clause-settings g c =
    c.from_residual-in_err-start.ensures
    ∙ start_untold c.in_ok-harts.harts c.in_ok-budget.budget c.in_ok-bins.bins c.in_ok-width.width c.in_ok-instruments.instruments _ _ _ _ _ _
    c.in_ok-harts.ensures.number c.in_ok-budget.ensures.number c.in_ok-bins.ensures.number c.in_ok-width.ensures.number c.in_ok-instruments.ensures.number c.in_err-start.ensures

pub returns-clause-settings : goal.returns-clause-settings
returns-clause-settings g c =
    all_told c.in_ok-harts.harts c.in_ok-budget.budget c.in_ok-bins.bins c.in_ok-width.width c.in_ok-instruments.instruments c.in_ok-start.start _ _ _ _ _ _
    c.in_ok-harts.ensures.number c.in_ok-budget.ensures.number c.in_ok-bins.ensures.number c.in_ok-width.ensures.number c.in_ok-instruments.ensures.number c.in_ok-start.ensures
