-- Harts that start the same walk.
use Rattle.std.proofs.Common.{Some, None, refl, arith}
use Rattle.frame_walk.specs.Laws.{SameStarts}

pub same_starts : SameStarts
same_starts None None pc pc' regs regs' e h = let k = h refl in grind (arith, k.0, k.1, k.2)
same_starts None (Some d) pc pc' regs regs' e h = absurd cc
same_starts (Some c) None pc pc' regs regs' e h = absurd cc
same_starts (Some c) (Some d) pc pc' regs regs' e h = refl
