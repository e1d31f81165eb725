-- Each object of a program lies below where segments end.
use Rattle.std.proofs.Common.{◌≡◌, ℕ, ◌+◌, ◌<◌, ◌≤◌, ◌==◌, ◌||◌, cond, Bool, true, false, List, [], ◌∷◌, refl, arith}
use Rattle.std.specs.Prelude.{if◌then◌else◌}
use Rattle.std.specs.List.{filter, list_any, AllByRecursion}
use Rattle.std.proofs.lemmas.Bool.{and_parts, eqb-false, leb-true}
use Rattle.pn_types.specs.Images.{IsImage, IsSegment}
use Rattle.pn_types.specs.declared.image.Image.{Image}
use Rattle.pn_types.specs.declared.image.Segment.{Segment}
use Rattle.pn_types.specs.declared.image.Symbol.{Symbol}
use Rattle.pn_types.specs.declared.limits.TheConstants.{SEGMENTS_TO}
use Rattle.code_points.specs.Objects.{end_of, holds_range, is_data}

all_of_filter : {X : Type 0} (P : X → Type 0) (p : X → Bool) → ((x : X) → p x ≡ true → P x) → (xs : List X) → AllByRecursion P (filter p xs)
all_of_filter P p one [] = tt
all_of_filter P p one (x ∷ xs) = go (p x) refl (all_of_filter P p one xs)
  where
    go : (b : Bool) → p x ≡ b → AllByRecursion P (filter p xs) → AllByRecursion P (cond b (x ∷ filter p xs) (filter p xs))
    go true e rest = (one x e, rest)
    go false e rest = rest

-- a range that a segment holds ends where segments end, or before
low_range : (first last : ℕ) (gs : List Segment) → AllByRecursion IsSegment gs → list_any (holds_range first last) gs ≡ true → last ≤ SEGMENTS_TO
low_range first last [] h e = absurd cc
low_range first last (g ∷ gs) h e = go (holds_range first last g) refl (low_range first last gs h.1) e
  where
    go : (b : Bool) → holds_range first last g ≡ b → (list_any (holds_range first last) gs ≡ true → last ≤ SEGMENTS_TO) → b || list_any (holds_range first last) gs ≡ true → last ≤ SEGMENTS_TO
    go true held later f = omega (arith, leb-true last (g.at + g.size) (and_parts _ _ held).1, (h.0).high)
    go false held later f = later f

before_end : (s : Symbol) → s.at < end_of s
before_end s = go (s.size == 0) refl
  where
    go : (b : Bool) → (s.size == 0) ≡ b → s.at < s.at + (if b then 1 else s.size)
    go true e = omega arith
    go false e = omega (arith, eqb-false s.size 0 e)

pub low_objects : (image : Image) → IsImage image → (symbols : List Symbol) → AllByRecursion (λ s. s.at < SEGMENTS_TO) (filter (is_data image) symbols)
low_objects image h symbols =
    all_of_filter (λ s. s.at < SEGMENTS_TO) (is_data image)
    (λ s e. omega (arith, before_end s, low_range s.at (end_of s) image.segments h.mapped (and_parts _ _ (and_parts _ _ e).0).1)) symbols
