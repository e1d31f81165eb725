use Rattle.std.proofs.Common.{arith, length, subst, ◌∙◌, ◌<◌, ◌≤◌}
use Rattle.tool_space.specs.declared.hole.Hole.{Hole}
use Rattle.tool_space.proofs.Places.{cut_part, cut_whole, lies, same_hole}
use Rattle.tool_space.proofs.hole.cut.Goals as goal

pub overflow_add-hole : goal.overflow_add-hole
overflow_add-hole c =
    let within : c.args.place < length c.args.holes.now.items = omega arith in
    let there = lies c.args.holes.now.items c.args.place _ _ c.index-hole.result.now c.index-hole.ensures c.requires.order within in
    let fits : c.args.len ≤ c.index-hole.result.now.len =
    subst (λ (hole : Hole). c.args.len ≤ hole.len) (same_hole c.args.holes.now.items c.args.place c.index-hole.result.now within c.index-hole.ensures) c.requires.len in
    omega (arith, there.high_end, fits)

pub returns-then-hole-len-clause-holes : goal.returns-then-hole-len-clause-holes
returns-then-hole-len-clause-holes c =
    c.remove.ensures.items
    ∙ cut_whole c.args.holes.now.items c.args.place c.args.len c.index-hole.result.now (omega arith) c.index-hole.ensures c.if-hole-len.true

pub returns-else-hole-len-clause-holes : goal.returns-else-hole-len-clause-holes
returns-else-hole-len-clause-holes c =
    cut_part c.args.holes.now.items c.args.place c.args.len c.index-hole.result.now (omega arith) c.index-hole.ensures c.if-hole-len.false
