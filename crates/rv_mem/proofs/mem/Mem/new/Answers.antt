use Rattle.std.proofs.Common.{refl}
use Rattle.rv_mem.specs.Start.{heap_len, stack_len}
use Rattle.rv_mem.proofs.mem.Mem.new.Goals as goal

pub with_lengths-requires-clause-heap : goal.with_lengths-requires-clause-heap
unfolding heap_len
with_lengths-requires-clause-heap c = refl

pub with_lengths-requires-clause-stack : goal.with_lengths-requires-clause-stack
unfolding stack_len
with_lengths-requires-clause-stack c = refl
