use Rattle.std.proofs.Common.{◌≡◌, ◌+◌, drop}
use Rattle.pn_text.specs.Places.{after_bytes, IsPlaceWithin}
use Rattle.pn_text.proofs.place.behind_bytes.Given as goal

abbrev pub invariant-loop-byte : goal.invariant-loop-byte
invariant-loop-byte l = record {
  behind : after_bytes l.behind (drop l.byte-index l.bytes) ≡ after_bytes l.fn.place l.bytes;
  at : l.behind.at ≡ l.fn.place.at + l.byte-index;
  within : IsPlaceWithin l.behind;
}
