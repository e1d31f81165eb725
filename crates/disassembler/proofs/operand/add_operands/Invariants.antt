use Rattle.std.proofs.Common.{◌≡◌, ◌++◌, drop, codes}
use Rattle.disassembler.specs.Operands.{operands_text}
use Rattle.disassembler.proofs.operand.add_operands.Given as goal

abbrev pub invariant-loop-operand : goal.invariant-loop-operand
invariant-loop-operand l = l.out.items ++ operands_text l.before (drop l.operand-index l.operands) ≡ l.initial.out.items ++ operands_text (codes " ") l.operands
