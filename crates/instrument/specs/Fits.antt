-- Where rooms and slots are taken: the lowest place where they fit.
use Rattle.std.specs.Prelude.{ℕ, zero, suc, ◌+◌, ◌*◌, ◌/◌, ◌&&◌, not, nat_le, nat_lt, Bool, true, Option, List, find}
use Rattle.std.specs.List.{list_any, range_with_len}
use Rattle.std.specs.Option.{option_map}
use Rattle.pn_types.specs.declared.limits.TheConstants.{TOOL_TEXT_LEN}
use Rattle.rv_word.specs.Memory.{in_range}
use Rattle.rv_word.specs.Plain.{Words}
use Rattle.tramp_spec.specs.Banks.{bank_len, first_slot}
use Rattle.tramp_spec.specs.Codes.{tool_at}
use Rattle.tramp_spec.specs.Slots.{VariableSlot, width}
use Rattle.instrument.specs.declared.room.Room.{Room}

-- ---- units

-- a number of units from one on are free
abbrev pub are_free : (ℕ → Bool) → ℕ → ℕ → Bool
are_free free zero unit = true
are_free free (suc len) unit = free unit && are_free free len (unit + 1)

-- The lowest of a number of units from which on `len` units are free.
unfoldable pub lowest : (ℕ → Bool) → (from units len : ℕ) → Option ℕ
lowest free from units len = find (are_free free len) (range_with_len from units)

-- ---- rooms: a word of the tool text is the unit of its address divided by 4

abbrev pub is_word_free : Words → List Room → ℕ → Bool
is_word_free program rooms unit =
    in_range (tool_at program) TOOL_TEXT_LEN (4 * unit) && not (list_any (λ x. in_range x.at (4 * x.len) (4 * unit)) rooms)

-- the address of the lowest room of a number of words
abbrev pub room_for : Words → List Room → ℕ → Option ℕ
room_for program rooms len =
    option_map (λ unit. 4 * unit) (lowest (is_word_free program rooms) (tool_at program / 4) (TOOL_TEXT_LEN / 4) len)

-- ---- slots: a slot is the unit of its number

abbrev pub is_slot_of : VariableSlot → ℕ → Bool
is_slot_of p slot = nat_le p.slot slot && nat_lt slot (p.slot + width p)

abbrev pub is_slot_free : List VariableSlot → ℕ → Bool
is_slot_free taken slot = nat_lt slot bank_len && not (list_any (λ p. is_slot_of p slot) taken)

-- the first of the lowest consecutive slots of a number
abbrev pub slots_for : List VariableSlot → ℕ → Option ℕ
slots_for taken len = lowest (is_slot_free taken) first_slot bank_len len
