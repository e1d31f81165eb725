use Rattle.std.proofs.Common.{arith}
use Rattle.machine.proofs.BlockLists.{words_at, words_out, words_past}
use Rattle.machine.proofs.block_list.words_of.Goals as goal
use Rattle.machine.proofs.block_list.words_of.Goals.{in-Some, in_default}

pub overflow_add-words : goal.overflow_add-words
overflow_add-words c =
    let here = words_at c.args.rows.now c.loop-row.row-index c.in-Some.row c.in-Some.is in
    omega (arith, here, c.loop-row.invariant, c.requires)

pub loop-row-preserved : goal.loop-row-preserved
loop-row-preserved c =
    elim c.match-row.branch [
      | in-Some w ↦ omega (arith, w.words-is, words_at c.args.rows.now c.loop-row.row-index w.in-Some.row w.in-Some.is, c.loop-row.invariant)
      | in_default w ↦ omega (arith, w.words-is, words_past c.args.rows.now c.loop-row.row-index w.in_default.is, c.loop-row.invariant)
    ]

pub returns : goal.returns
returns c = omega (arith, words_out c.args.rows.now c.loop-row.row-index c.loop-row-test.false, c.loop-row.invariant)
