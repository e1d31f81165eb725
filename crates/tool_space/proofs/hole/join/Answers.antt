use Rattle.std.proofs.Common.{arith, ◌∙◌, add-one, ap, ◌+◌}
use Rattle.std.specs.Prelude.{slice_set}
use Rattle.tool_space.proofs.Places.{apart_joined, joined, last_joined, lies}
use Rattle.tool_space.proofs.hole.join.Goals as goal

pub returns-then-next-len-clause-holes : goal.returns-then-next-len-clause-holes
returns-then-next-len-clause-holes c = last_joined c.args.holes.now.items c.args.place (omega arith)

pub overflow_add-hole : goal.overflow_add-hole
overflow_add-hole c =
    let there = lies c.args.holes.now.items c.args.place _ _ c.index-hole.result.now c.index-hole.ensures c.requires.order (omega arith) in
    omega (arith, there.high_end)

pub overflow_add-hole-then-hole-after : goal.overflow_add-hole-then-hole-after
overflow_add-hole-then-hole-after c =
    let there = lies c.args.holes.now.items (c.args.place + 1) _ _ c.index-after.result.now c.index-after.ensures c.requires.order (omega arith) in
    omega (arith, there.high_end, c.if-hole-after.true)

pub returns-then-hole-after-clause-holes : goal.returns-then-hole-after-clause-holes
returns-then-hole-after-clause-holes c =
    ap (λ holes. slice_set holes c.args.place (record { at = c.index-hole.result.now.at; len = c.index-hole.result.now.len + c.index-after.result.now.len })) c.remove.ensures.items
    ∙ rw add-one (joined c.args.holes.now.items c.args.place c.index-hole.result.now c.index-after.result.now (omega arith) c.index-hole.ensures (rw add-one at c.index-after.ensures) c.if-hole-after.true)

pub returns-else-hole-after-clause-holes : goal.returns-else-hole-after-clause-holes
returns-else-hole-after-clause-holes c =
    apart_joined c.args.holes.now.items c.args.place c.index-hole.result.now c.index-after.result.now (omega arith) c.index-hole.ensures (rw add-one at c.index-after.ensures) c.if-hole-after.false
