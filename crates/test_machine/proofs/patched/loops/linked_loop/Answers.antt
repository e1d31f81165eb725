use Rattle.test_examples.specs.LoopCounted.{loop_core, loop_base, loop_mini}
use Rattle.test_machine.proofs.Linked.{link_legal, linked_so, links}
use Rattle.test_machine.proofs.patched.loops.linked_loop.Goals as goal

pub link_blocks-requires-clause-may : goal.link_blocks-requires-clause-may
link_blocks-requires-clause-may c =
    link_legal c.in_ok-base.base c.in_ok-first.first loop_base loop_mini c.in_ok-machine.machine (loop_core c.args.budget) 5
    c.in_ok-base.ensures c.in_ok-first.ensures c.in_ok-machine.ensures (links c.args.budget)

pub returns : goal.returns
returns c =
    linked_so c.in_ok-base.base c.in_ok-first.first loop_base loop_mini c.in_ok-machine.machine c.link_blocks.new.machine (loop_core c.args.budget) 5
    c.in_ok-base.ensures c.in_ok-first.ensures c.in_ok-machine.ensures c.link_blocks.ensures
