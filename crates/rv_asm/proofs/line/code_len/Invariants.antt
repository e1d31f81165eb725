use Rattle.std.proofs.Common.{◌≡◌, ◌+◌, drop}
use Rattle.rv_asm.specs.Parsing.{code_len}
use Rattle.rv_asm.specs.declared.line.Quoting.TheVariants.{Outside}
use Rattle.rv_asm.proofs.line.code_len.Given as goal

abbrev pub invariant-loop-i : goal.invariant-loop-i
invariant-loop-i l = l.i + code_len l.quoting (drop l.i l.line) ≡ code_len Outside l.line
