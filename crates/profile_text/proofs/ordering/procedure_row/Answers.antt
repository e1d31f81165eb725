use Rattle.std.proofs.Common.{arith}
use Rattle.profile_text.proofs.Prepared.{low}
use Rattle.profile_text.proofs.ordering.procedure_row.Goals as goal

pub overflow_add-proc : goal.overflow_add-proc
overflow_add-proc c =
    let l = low c.args.text.now c.requires.text in
    let p = c.requires.proc in
    omega arith
