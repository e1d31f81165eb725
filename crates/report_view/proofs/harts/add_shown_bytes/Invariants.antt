use Rattle.std.proofs.Common.{◌≡◌, ◌++◌, drop, flat_map}
use Rattle.report_view.specs.Harts.{shown_byte}
use Rattle.report_view.proofs.harts.add_shown_bytes.Given as goal

-- what is written, and the bytes that are left, make all
abbrev pub invariant-loop-byte : goal.invariant-loop-byte
invariant-loop-byte l = l.out.items ++ flat_map shown_byte (drop l.byte-index l.bytes) ≡ l.initial.out.items ++ flat_map shown_byte l.bytes
