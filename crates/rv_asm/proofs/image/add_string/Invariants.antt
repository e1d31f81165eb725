use Rattle.std.proofs.Common.{◌≡◌, ◌++◌, drop, false}
use Rattle.rv_asm.specs.Layout.{unescaped}
use Rattle.rv_asm.proofs.image.add_string.Given as goal

abbrev pub invariant-loop-byte : goal.invariant-loop-byte
invariant-loop-byte l = l.out.items ++ unescaped l.escaped (drop l.byte-index l.written) ≡ l.fn.out.items ++ unescaped false l.written
