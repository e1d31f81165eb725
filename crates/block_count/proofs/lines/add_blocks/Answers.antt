use Rattle.std.proofs.Common.{◌++◌, flat_map, inl, inr, refl}
use Rattle.std.specs.List.{zip}
use Rattle.block_count.specs.Texts.{block_line}
use Rattle.block_count.proofs.Pairs.{all_made}
use Rattle.block_count.proofs.lines.add_blocks.Goals as goal

pub returns : goal.returns
returns c =
    let left = c.loop-head.head-iterator in
    all_made (λ pairs. flat_map block_line pairs) c.loop-head.out.items (c.args.out.now.items ++ flat_map block_line (zip c.args.heads.now c.args.counts.now)) left.a.rest.now left.b.rest.now refl c.loop-head.invariant
    (elim c.in-None.ensures.steps [ inl e ↦ inl e.1.0 | inr e ↦ inr e.1.0 ])
