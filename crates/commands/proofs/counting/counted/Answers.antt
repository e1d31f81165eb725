use Rattle.std.proofs.Common.{arith}
use Rattle.command_words.specs.Asked.{asked_blocks}
use Rattle.commands.specs.Blocks.{pace_of}
use Rattle.commands.proofs.Counted.{harts_counted}
use Rattle.commands.proofs.counting.counted.Goals as goal

pub blocks_text-requires : goal.blocks_text-requires
blocks_text-requires c =
    let r = asked_blocks c.args.request.now in
    omega (arith, harts_counted c.args.image.now c.deref-2.result.now r.budget (pace_of r) c.in-Ok.counts c.in-Ok.ensures.counted, c.requires.ranges.0.1)
