use Rattle.std.proofs.Common.{arith}
use Rattle.elf_load.proofs.NameLemmas.{ended_before}
use Rattle.elf_load.proofs.names.ended_len.Goals as goal

pub returns-else-strings-end-ne0 : goal.returns-else-strings-end-ne0
returns-else-strings-end-ne0 c = ended_before c.args.strings.now c.loop-end.end c.loop-end.invariant.within c.loop-end.invariant.none (λ _. c.if-strings-end-ne0.false)

pub returns-after-loop-end : goal.returns-after-loop-end
returns-after-loop-end c = ended_before c.args.strings.now c.loop-end.end c.loop-end.invariant.within c.loop-end.invariant.none (λ h. absurd (omega arith))
