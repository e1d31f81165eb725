use Rattle.std.proofs.Common.{◌∙◌, ◌+◌, length-set}
use Rattle.std.proofs.lemmas.Nat.{and_mask}
use Rattle.rv_mem.proofs.Overlays.{with_number-next}
use Rattle.rv_mem.proofs.region.write_at.Goals as goal

pub loop-i-preserved : goal.loop-i-preserved
loop-i-preserved c = record {
  written = with_number-next c.args.n c.loop-i.i c.args.place c.loop-i.rest _ c.loop-i.bytes c.loop-i-test.true (and_mask c.loop-i.rest 8) ∙ c.loop-i.invariant.written;
  same_length = length-set c.loop-i.bytes (c.args.place + c.loop-i.i) _ ∙ c.loop-i.invariant.same_length;
}
