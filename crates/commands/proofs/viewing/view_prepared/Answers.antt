use Rattle.commands.specs.Runs.{AreTexts, IsInOrder, views_of}
use Rattle.commands.proofs.Opened.{unopened_is}
use Rattle.commands.proofs.viewing.view_prepared.Goals as goal

pub returns-in-Err : goal.returns-in-Err
returns-in-Err g c =
    let i = c.args.inputs in
    unopened_is i (AreTexts (IsInOrder c.args.order) (views_of c.args.views) i) c.unopened.result (c.unopened.ensures i c.in-Err.ensures.refused)
