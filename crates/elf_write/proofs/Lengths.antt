-- The lengths of padded parts.
use Rattle.std.proofs.Common.{◌≡◌, ℕ, ◌+◌, ◌*◌, ◌<◌, ◌≤◌, ◌^◌, List, [], ◌∷◌, length, drop, get_or, sym, ap, ◌∙◌, arith, length-append}
use Rattle.std.proofs.lemmas.List.{length-replicate, drop_more}
use Rattle.std.specs.Prelude.{sum_by}
use Rattle.std.proofs.lemmas.List.Sums.{sum_by-cons}
use Rattle.elf_write.specs.Fields.{padded, padding}
use Rattle.std.specs.List.{AllByRecursion}
use Rattle.pn_types.specs.Images.{IsImage, IsSegment}
use Rattle.elf_write.specs.Layout.{segments_bytes}
use Rattle.pn_types.specs.declared.image.Image.{Image}
use Rattle.pn_types.specs.declared.image.Segment.{Segment}

pub length-padded : (bytes : List ℕ) → length (padded bytes) ≡ length bytes + padding (length bytes)
unfolding padded
length-padded bytes = omega (arith, length-append {A = ℕ}, length-replicate {A = ℕ} (padding (length bytes)) 0)

-- a padded part has at most seven bytes more
pub padded_within : (bytes : List ℕ) → (length bytes ≤ length (padded bytes)) × (length (padded bytes) ≤ length bytes + 7)
padded_within bytes = let e = length-padded bytes in (omega (arith, e), omega (arith, e))

pub length-segments : (s : Segment) (ss : List Segment) → length (segments_bytes (s ∷ ss)) ≡ length (padded s.bytes) + length (segments_bytes ss)
length-segments s ss = length-append (padded s.bytes) (segments_bytes ss)

segments_within : (ss : List Segment) → length (segments_bytes ss) ≤ sum_by (λ s. length s.bytes) ss + 7 * length ss
segments_within [] = omega arith
segments_within (s ∷ ss) =
    let most : length (padded s.bytes) ≤ length s.bytes + 7 = (padded_within s.bytes).1 in
    let rest : length (segments_bytes ss) ≤ sum_by (λ t. length t.bytes) ss + 7 * length ss = segments_within ss in
    let all : length (segments_bytes (s ∷ ss)) ≡ length (padded s.bytes) + length (segments_bytes ss) = length-segments s ss in
    let sum : sum_by (λ t. length t.bytes) (s ∷ ss) ≡ length s.bytes + sum_by (λ t. length t.bytes) ss = sum_by-cons (λ t. length t.bytes) s ss in
    omega (arith, most, rest, all, sum)

-- all segments' bytes, of fewer than 65,536 segments with fewer than 2 ^ 32 bytes together
pub segments_below : (ss : List Segment) → length ss < 2 ^ 16 → sum_by (λ s. length s.bytes) ss < 2 ^ 32 → length (segments_bytes ss) < 2 ^ 33
segments_below ss few small = omega (arith, segments_within ss)

-- the segments' bytes from one on are its own and those of the others
pub segments_more : (ss : List Segment) (i : ℕ) (s : Segment) → i < length ss → s ≡ get_or ss i s → length (segments_bytes (drop i ss)) ≡ length (padded s.bytes) + length (segments_bytes (drop (i + 1) ss))
segments_more ss i s in' is =
    ap (λ t. length (segments_bytes t)) (drop_more ss i s in' ∙ ap (λ t. t ∷ drop (i + 1) ss) (sym is)) ∙ length-segments s (drop (i + 1) ss)

-- ---- the segments of an image

pub few_segments : (i : Image) → IsImage i → length i.segments < 2 ^ 16
few_segments i image = let few = image.few in omega arith

filled : (ss : List Segment) → AllByRecursion IsSegment ss → sum_by (λ s. length s.bytes) ss ≤ sum_by (λ s. s.size) ss
filled [] all = omega arith
filled (s ∷ ss) all =
    let bytes = sum_by-cons (λ (t : Segment). length t.bytes) s ss in
    let sizes = sum_by-cons (λ (t : Segment). t.size) s ss in
    let rest = filled ss all.1 in
    let one = all.0.filled in
    omega arith

pub small_segments : (i : Image) → IsImage i → sum_by (λ s. length s.bytes) i.segments < 2 ^ 32
small_segments i image =
    let least = filled i.segments image.mapped in
    let small = image.small in
    omega arith
