-- Where the text of an image lies.
use Rattle.std.proofs.Common.{◌≡◌, ℕ, ◌+◌, ◌-◌, ◌≤◌, Bool, true, false, List, [], ◌∷◌, length, take, drop, refl, arith}
use Rattle.std.specs.Prelude.{nat_le, if◌then◌else◌}
use Rattle.std.specs.List.{AllByRecursion}
use Rattle.std.proofs.lemmas.Bool.{leb-true}
use Rattle.std.proofs.lemmas.List.{length-take-le, length-drop}
use Rattle.std.proofs.lemmas.Grind.{common_steps}
use Rattle.pn_types.specs.declared.limits.TheConstants.{SEGMENTS_FROM, SEGMENTS_TO}
use Rattle.pn_types.specs.declared.image.Image.{Image}
use Rattle.pn_types.specs.declared.image.Segment.{Segment}
use Rattle.pn_types.specs.Images.{IsImage, IsSegment, has_byte, are_inside, bytes_in, text_of}

pub record IsRange (at len : ℕ) (bytes : List ℕ) : Type 0 where
  pub low : SEGMENTS_FROM ≤ at
  pub high : at + len ≤ SEGMENTS_TO
  pub length : length bytes ≡ len

range_here : (s : Segment) (at len : ℕ) → IsSegment s → has_byte s at ≡ true → nat_le (at + len) (s.at + length s.bytes) ≡ true → IsRange at len (take len (drop (at - s.at) s.bytes))
range_here s at len mapped has inside =
    let behind : s.at ≤ at = grind (arith, common_steps) in
    let end' = leb-true (at + len) (s.at + length s.bytes) inside in
    let filled = mapped.filled in
    let low = mapped.low in
    let high = mapped.high in
    let rest : len ≤ length (drop (at - s.at) s.bytes) = omega (arith, length-drop (at - s.at) s.bytes) in
    record { low = omega arith; high = omega arith; length = length-take-le len (drop (at - s.at) s.bytes) rest }

range_by : (here : Bool) (s : Segment) (ss : List Segment) (at len : ℕ) → has_byte s at ≡ here → IsSegment s → (are_inside ss at len ≡ true → IsRange at len (bytes_in ss at len)) → (if here then nat_le (at + len) (s.at + length s.bytes) else are_inside ss at len) ≡ true → IsRange at len (if here then take len (drop (at - s.at) s.bytes) else bytes_in ss at len)
range_by true s ss at len has mapped later inside = range_here s at len mapped has inside
range_by false s ss at len has mapped later inside = later inside

range_in : (ss : List Segment) (at len : ℕ) → AllByRecursion IsSegment ss → are_inside ss at len ≡ true → IsRange at len (bytes_in ss at len)
range_in [] at len all inside = absurd (cc)
range_in (s ∷ ss) at len all inside = range_by (has_byte s at) s ss at len refl all.0 (range_in ss at len all.1) inside

-- the text lies between 0x10000 and 0x60000000, and has all its bytes
pub text_range : (i : Image) → IsImage i → IsRange i.text_at i.text_len (text_of i)
text_range i h = range_in i.segments i.text_at i.text_len h.mapped h.inside
