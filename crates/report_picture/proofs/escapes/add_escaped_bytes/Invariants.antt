use Rattle.std.proofs.Common.{◌≡◌, ◌++◌, drop, flat_map}
use Rattle.report_picture.specs.Escapes.{escaped_byte}
use Rattle.report_picture.proofs.escapes.add_escaped_bytes.Given as goal

-- what is written, and the bytes that are left, make all
abbrev pub invariant-loop-byte : goal.invariant-loop-byte
invariant-loop-byte l = l.out.items ++ flat_map (escaped_byte l.allowed) (drop l.byte-index l.text) ≡ l.initial.out.items ++ flat_map (escaped_byte l.allowed) l.text
