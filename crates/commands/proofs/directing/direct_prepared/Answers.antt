use Rattle.commands.specs.Runs.{AreTexts, IsInOrder, report_alone}
use Rattle.commands.proofs.Opened.{unopened_is}
use Rattle.commands.proofs.directing.direct_prepared.Goals as goal

pub returns-in-Err : goal.returns-in-Err
returns-in-Err g c =
    let i = c.args.prepared.inputs in
    unopened_is i (AreTexts (IsInOrder c.args.order) report_alone i) c.unopened.result (c.unopened.ensures i c.in-Err.ensures.refused)
