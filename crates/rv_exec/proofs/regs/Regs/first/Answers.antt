use Rattle.std.proofs.Common.{refl}
use Rattle.rv_mem.specs.Start.{heap_len, stack_len}
use Rattle.rv_exec.proofs.regs.Regs.first.Goals as goal

pub first_regs-requires-clause-heap : goal.first_regs-requires-clause-heap
unfolding heap_len
first_regs-requires-clause-heap c = refl

pub first_regs-requires-clause-stack : goal.first_regs-requires-clause-stack
unfolding stack_len
first_regs-requires-clause-stack c = refl
