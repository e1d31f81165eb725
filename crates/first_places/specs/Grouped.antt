-- For proofs alone: places that stand under names.
use Rattle.std.specs.Prelude.{ℕ, ◌≡◌, ◌<◌, ◌^◌, List, length}
use Rattle.first_places.specs.Groups.{first_mentions, places_of}
use Rattle.first_places.specs.Numbers.{names_of, numbers_under}

-- under each of the distinct names stand its places, which have 32 bits
pub record AreGrouped {K V : Type 0} (now : K → List ℕ) (items : V → List ℕ) (all : List (List ℕ)) (es : List (K × V)) : Type 0 where
  pub names : names_of now es ≡ first_mentions all
  pub places : (name : List ℕ) → numbers_under now items name es ≡ places_of name all
  pub fits : length all < 2 ^ 32
