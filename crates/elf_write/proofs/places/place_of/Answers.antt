use Rattle.std.proofs.Common.{length, ap, arith, ◌∙◌}
use Rattle.elf_write.specs.Fields.{padded}
use Rattle.elf_write.proofs.Lengths.{segments_more, segments_below, padded_within}
use Rattle.elf_write.proofs.places.place_of.Goals as goal

pub overflow_add-result : goal.overflow_add-result
overflow_add-result c =
    let ss = c.args.segments.now in
    let len = ap (λ b. length b) c.as_slice-bytes.ensures in
    omega (arith, len, (padded_within c.segment-item.result.bytes).0, segments_more ss c.loop-segment.segment-index c.segment-item.result c.loop-segment-test.true c.segment-item.is, segments_below ss c.requires.few c.requires.small)

pub overflow_add-place : goal.overflow_add-place
overflow_add-place c =
    let ss = c.args.segments.now in
    let padded_len = c.padded_len-place.ensures ∙ ap (λ b. length (padded b)) c.as_slice-bytes.ensures in
    omega (arith, padded_len, segments_more ss c.loop-segment.segment-index c.segment-item.result c.loop-segment-test.true c.segment-item.is, segments_below ss c.requires.few c.requires.small)
