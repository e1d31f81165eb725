-- For proofs alone: what regions of bytes hold. Where several have an address, the first counts.
use Rattle.std.specs.Prelude.{ℕ, zero, suc, ◌≡◌, ◌<◌, ◌≤◌, ◌+◌, ◌*◌, ◌-◌, ◌/◌, ◌%◌, nat_eq, nat_lt, nat_le, if◌then◌else◌, List, [], ◌∷◌, ◌++◌, length, replicate, slice_index, slice_index_or, slice_set, Option, Some, None}
use Rattle.rv_word.specs.Memory.{numbered}
use Rattle.rv_mem.specs.declared.mapped.Region.{Region}
use Rattle.rv_mem.specs.declared.region.Spot.{Spot}

-- the place of the address a in len bytes from at
abbrev pub place_in : ℕ → ℕ → ℕ → Option ℕ
place_in at len a = if nat_lt a at then None else if nat_le len (a - at) then None else Some (a - at)

-- the bytes of a region, the zeros that weren't written too
abbrev pub content : Region → List ℕ
content r = r.bytes.items ++ replicate r.behind 0

-- the place of the address a in a region
abbrev pub place_of : Region → ℕ → Option ℕ
place_of r a = place_in r.at (length (content r)) a

-- the byte at a place, or else the rest's
abbrev pub byte_or : Option ℕ → List ℕ → Option ℕ → Option ℕ
byte_or None bytes rest = rest
byte_or (Some i) bytes rest = Some (slice_index bytes i)

-- the byte of the first region that has the address a
abbrev pub first_byte : List Region → ℕ → Option ℕ
first_byte [] a = None
first_byte (r ∷ rs) a = byte_or (place_of r a) (content r) (first_byte rs a)

-- the bytes of the regions with their addresses
abbrev pub entries_of : List Region → List (ℕ × ℕ)
entries_of [] = []
entries_of (r ∷ rs) = numbered r.at (content r) ++ entries_of rs

-- a region as a part of memory, an address and the bytes from there
abbrev pub region_part : Region → ℕ × List ℕ
region_part r = (r.at, content r)

abbrev pub parts_of : List Region → List (ℕ × List ℕ)
parts_of [] = []
parts_of (r ∷ rs) = region_part r ∷ parts_of rs

-- the number in n bytes of a list from place i, the lowest first
abbrev pub little_endian : ℕ → List ℕ → ℕ → ℕ
little_endian zero bs i = 0
little_endian (suc n) bs i = slice_index bs i + little_endian n bs (i + 1) * 256

-- a number from its lowest byte and the number above that
abbrev pub with_high : Option ℕ → Option ℕ → Option ℕ
with_high (Some low) (Some high) = Some (low + high * 256)
with_high (Some low) None = None
with_high None o = None

-- the number in n bytes from the address a, where f gives the byte at an address
abbrev pub number_in : ℕ → (ℕ → Option ℕ) → ℕ → Option ℕ
number_in zero f a = Some 0
number_in (suc n) f a = with_high (f a) (number_in n f (a + 1))

-- the spot of the n bytes from the address a: its region has them all, and none before it has any of them
pub record HasRange (rs : List Region) (a n : ℕ) (spot : Spot) : Type 0 where
  pub listed : spot.region < length rs
  pub address : (d : Region) → (slice_index_or rs spot.region d).at + spot.place ≡ a
  pub within : (d : Region) → spot.place + n ≤ length (content (slice_index_or rs spot.region d))
  pub first : (k : ℕ) (d : Region) (q : ℕ) → k < spot.region → a ≤ q → q < a + n → place_of (slice_index_or rs k d) q ≡ None

-- all of them were written
abbrev pub IsWrittenSpot : List Region → ℕ → Spot → Type 0
IsWrittenSpot rs n spot = (d : Region) → spot.place + n ≤ length (slice_index_or rs spot.region d).bytes.items

-- a list with the lowest n bytes of v from place i, the lowest first
abbrev pub with_number : ℕ → List ℕ → ℕ → ℕ → List ℕ
with_number zero bs i v = bs
with_number (suc n) bs i v = with_number n (slice_set bs i (v % 256)) (i + 1) (v / 256)

-- what the address q holds after the lowest n bytes of v are put from the address a on, where it held o
abbrev pub overlaid : ℕ → ℕ → ℕ → ℕ → Option ℕ → Option ℕ
overlaid zero v a q o = o
overlaid (suc n) v a q o = overlaid n (v / 256) (a + 1) q (if nat_eq q a then Some (v % 256) else o)
