use Rattle.commands.specs.Runs.{AreTexts, IsInOrder, summary_of}
use Rattle.commands.proofs.Opened.{unopened_is}
use Rattle.commands.proofs.stressing.sum_up.Goals as goal

pub returns-in-Err : goal.returns-in-Err
returns-in-Err c =
    let i = c.args.inputs in
    unopened_is i (AreTexts (IsInOrder c.args.order) (summary_of c.args.procs) i) c.unopened.result (c.unopened.ensures i c.in-Err.ensures.refused)
