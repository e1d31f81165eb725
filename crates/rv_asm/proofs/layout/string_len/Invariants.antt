use Rattle.std.proofs.Common.{◌≡◌, ◌+◌, ◌≤◌, false, length, drop}
use Rattle.rv_asm.specs.Layout.{unescaped}
use Rattle.rv_asm.proofs.layout.string_len.Given as goal

abbrev pub invariant-loop-byte : goal.invariant-loop-byte
invariant-loop-byte l = record { within : l.len ≤ l.byte-index; count : l.len + length (unescaped l.escaped (drop l.byte-index l.written)) ≡ length (unescaped false l.written) }
