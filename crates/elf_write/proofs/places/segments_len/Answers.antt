use Rattle.std.proofs.Common.{length, ap, arith, ◌∙◌}
use Rattle.elf_write.specs.Fields.{padded}
use Rattle.elf_write.proofs.Lengths.{segments_more, segments_below}
use Rattle.elf_write.proofs.places.segments_len.Goals as goal

pub overflow_add-len : goal.overflow_add-len
overflow_add-len c =
    let ss = c.args.segments.now in
    let padded_len = c.padded_len-len.ensures ∙ ap (λ b. length (padded b)) c.as_slice.ensures in
    omega (arith, padded_len, segments_more ss c.loop-segment.segment-index c.segment-item.result c.loop-segment-test.true c.segment-item.is, segments_below ss c.requires.few c.requires.small)

pub returns-clause-bound : goal.returns-clause-bound
returns-clause-bound c = omega (arith, segments_below c.args.segments.now c.requires.few c.requires.small)
