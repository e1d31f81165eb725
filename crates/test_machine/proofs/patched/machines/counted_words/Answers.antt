use Rattle.machine.specs.Cores.{Core, start_core}
use Rattle.test_examples.specs.FirstTurns.{first_base, first_mini}
use Rattle.test_examples.specs.HartInside.{three_image}
use Rattle.test_examples.proofs.HartInside.{hart_inside}
use Rattle.test_machine.proofs.Linked.{link_legal, linked_so}
use Rattle.test_machine.proofs.patched.machines.counted_words.Goals as goal

abbrev begun : Core
begun = start_core three_image 1 1000

pub link_blocks-requires-clause-may : goal.link_blocks-requires-clause-may
link_blocks-requires-clause-may c =
    link_legal c.in_ok-base.base c.in_ok-first.first first_base first_mini c.in_ok-machine.machine begun 2
    c.in_ok-base.ensures c.in_ok-first.ensures c.in_ok-machine.ensures hart_inside.links

pub returns : goal.returns
returns c =
    linked_so c.in_ok-base.base c.in_ok-first.first first_base first_mini c.in_ok-machine.machine c.link_blocks.new.machine begun 2
    c.in_ok-base.ensures c.in_ok-first.ensures c.in_ok-machine.ensures c.link_blocks.ensures
