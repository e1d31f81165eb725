use Rattle.std.proofs.Common.{rules}
use Rattle.rv_exec.proofs.Writes.{too_much, appended}
use Rattle.rv_exec.proofs.calling.write_bytes.Goals as goal

pub returns-then-bytes-n-gt-OUTPUT_LIMIT : goal.returns-then-bytes-n-gt-OUTPUT_LIMIT
returns-then-bytes-n-gt-OUTPUT_LIMIT c =
    too_much _ c.args.out.now c.args.n _ (search rules) c.readable.ensures.len (search rules) c.minus-then-bytes-n-gt-OUTPUT_LIMIT.ensures

pub returns-else-bytes-n-gt-OUTPUT_LIMIT : goal.returns-else-bytes-n-gt-OUTPUT_LIMIT
returns-else-bytes-n-gt-OUTPUT_LIMIT c = appended _ c.args.out.now _ c.args.n (search rules) c.readable.ensures.len (search rules) c.append.ensures
