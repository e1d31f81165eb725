use Rattle.rv_mem.specs.Start.{program_of}
use Rattle.profile_text.proofs.Found.{outside_is}
use Rattle.profile_text.proofs.run_lines.is_outside.Goals as goal

pub returns : goal.returns
returns c = outside_is (program_of c.args.image.now) c.args.pc c.args.words c.requires c.if-pc-image.false c.if-place-ne0.false
