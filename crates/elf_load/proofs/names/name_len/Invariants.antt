use Rattle.std.proofs.Common.{◌≡◌, ◌+◌, ◌==◌, not, drop}
use Rattle.std.specs.List.{prefix_len}
use Rattle.elf_load.proofs.names.name_len.Given as goal

abbrev pub invariant-loop-i : goal.invariant-loop-i
invariant-loop-i l = prefix_len (λ byte. not (byte == 0)) l.bytes ≡ l.i + prefix_len (λ byte. not (byte == 0)) (drop l.i l.bytes)
