use Rattle.std.proofs.Common.{arith}
use Rattle.profile_text.proofs.Prepared.{as_many}
use Rattle.profile_text.proofs.run_lines.ticks_outside.Goals as goal

pub stopped_outside-requires : goal.stopped_outside-requires
stopped_outside-requires c = let m = as_many c.args.text.now c.requires in omega arith
