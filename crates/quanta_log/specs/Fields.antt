-- Where a log of each version has its numbers, and in which ranges they lie. All are little-endian.
use Rattle.std.specs.Prelude.{ℕ, ◌+◌, ◌-◌, ◌*◌, ◌&&◌, nat_le, Bool, List, [], ◌∷◌, codes, drop}
use Rattle.byteorder.specs.Endian.{little_number}
use Rattle.pn_types.specs.declared.limits.TheConstants.{MAX_HARTS, MAX_WORKERS, MIN_BINS, MAX_BINS, MAX_BUDGET, MAX_WIDTH, MAX_QUANTA, MAX_QUANTUM, MAX_INSTRUMENTS}
use Rattle.quanta_log.specs.declared.version.Version.{Version}
use Rattle.quanta_log.specs.declared.version.Version.TheVariants.{One, Two}

-- the first eight bytes
abbrev pub magic : Version → List ℕ
magic One = codes "PDYNLOG1"
magic Two = codes "PDYNLOG2"

-- the length of the head, and of an entry
abbrev pub head_len : Version → ℕ
head_len One = 40
head_len Two = 48

abbrev pub entry_len : Version → ℕ
entry_len One = 16
entry_len Two = 8

-- the length of a log of `count` entries
abbrev pub log_len : Version → ℕ → ℕ
log_len v count = head_len v + count * entry_len v

-- the greatest number of harts
abbrev pub most_harts : Version → ℕ
most_harts One = 16
most_harts Two = MAX_HARTS

-- a number: its place, in how many bytes it stands, and the range in which it lies
pub record Field : Type 0 where
  pub place : ℕ
  pub size : ℕ
  pub least : ℕ
  pub most : ℕ

abbrev pub field : ℕ → ℕ → ℕ → ℕ → Field
field place size least most = record { place = place; size = size; least = least; most = most }

-- after the magic: harts, bins, budget, width, count; in version 2 start and instruments too
abbrev pub later_fields : Version → List Field
later_fields One = []
later_fields Two = field 40 4 0 1 ∷ field 44 4 1 MAX_INSTRUMENTS ∷ []

abbrev pub head_fields : Version → List Field
head_fields v =
    field 8 4 1 (most_harts v)
    ∷ field 12 4 MIN_BINS MAX_BINS
    ∷ field 16 8 1 MAX_BUDGET
    ∷ field 24 8 1 MAX_WIDTH
    ∷ field 32 8 0 MAX_QUANTA
    ∷ later_fields v

-- in an entry at a place: worker, hart, turns, owns; in version 2 a zero too
abbrev pub entry_fields : Version → ℕ → ℕ → List Field
entry_fields One harts at =
    field at 4 0 (MAX_WORKERS - 1) ∷ field (at + 4) 4 0 (harts - 1) ∷ field (at + 8) 4 1 MAX_QUANTUM ∷ field (at + 12) 4 0 65535 ∷ []
entry_fields Two harts at =
    field at 1 0 (MAX_WORKERS - 1) ∷ field (at + 1) 1 0 (harts - 1) ∷ field (at + 2) 2 1 MAX_QUANTUM ∷ field (at + 4) 2 0 65535
    ∷ field (at + 6) 2 0 0
    ∷ []

-- the number in `size` bytes from a place on; bytes past the end read as 0, but such a log is refused before that counts
unfoldable pub number : ℕ → List ℕ → ℕ → ℕ
number size bytes at = little_number size (drop at bytes)

-- a number lies in a range
abbrev pub is_within : ℕ → ℕ → ℕ → Bool
is_within least most n = nat_le least n && nat_le n most
