use Rattle.std.proofs.Common.{get_or, refl}
use Rattle.mdl_plan.proofs.Marks.{next_mark}
use Rattle.mdl_plan.proofs.lists.Lists.mark_all.Goals as goal

pub loop-proc_no-preserved : goal.loop-proc_no-preserved
loop-proc_no-preserved c =
    next_mark c.args.number c.loop-proc_no.proc_no-index (get_or c.args.procs.now c.loop-proc_no.proc_no-index 0) c.args.procs.now c.args.self.now c.loop-proc_no.self c.mark.new.self
    c.loop-proc_no-test.true refl c.loop-proc_no.invariant c.in_ok-mark.ensures
