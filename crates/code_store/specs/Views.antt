-- For proofs alone: the maps for which the arrays of a store stand.
use Rattle.std.specs.Prelude.{◌≡◌, ℕ, ◌+◌, ◌-◌, ◌*◌, ◌/◌, ◌<◌, ◌≤◌, ◌^◌, if◌then◌else◌, Option, Some, None, List, [], ◌∷◌, ◌++◌, length, map, slice_get}
use Rattle.std.specs.FinMap.{from_entries}
use Rattle.pn_types.specs.declared.limits.TheConstants.{TOOL_TEXT_LEN}
use Rattle.tramp_spec.specs.Codes.{Code, is_word_of, tool_at}
use Rattle.tramp_spec.specs.Marks.{tool}
use Rattle.tramp_spec.specs.declared.mark.MarkedWord.{MarkedWord}
use Rattle.rv_exec.specs.declared.flat.Flat.{Flat}
use Rattle.code_store.specs.declared.word_use.WordUse.{WordUse}
use Rattle.code_store.specs.declared.word_use.WordUse.TheVariants.{Unwritten, Free, Block}
use Rattle.code_store.specs.Operations.{AreFlatsOf}
use Rattle.code_store.specs.Owners.{Owners}

-- ---- one word

abbrev pub point_of : WordUse → Option ℕ
point_of Unwritten = None
point_of Free = None
point_of (Block point) = Some point

abbrev pub freed : WordUse → WordUse
freed Unwritten = Unwritten
freed Free = Free
freed (Block point) = Free

abbrev pub put_to : WordUse → WordUse
put_to Unwritten = Free
put_to Free = Free
put_to (Block point) = Block point

-- the word where one was put
abbrev pub if_put : WordUse → MarkedWord → Option MarkedWord
if_put Unwritten w = None
if_put Free w = Some w
if_put (Block point) w = Some w

-- ---- arrays

-- the element that stands for an address, the first standing for `at`
abbrev pub at_place : {A : Type 0} → ℕ → List A → ℕ → Option A
at_place at xs a = if is_word_of at (4 * length xs) a then slice_get xs ((a - at) / 4) else None

-- what there is, with its addresses
abbrev pub entries_from : {A : Type 0} → ℕ → List (Option A) → List (ℕ × A)
entries_from at [] = []
entries_from at (None ∷ xs) = entries_from (at + 4) xs
entries_from at (Some x ∷ xs) = (at, x) ∷ entries_from (at + 4) xs

-- the words that were put
abbrev pub put_among : List MarkedWord → List WordUse → List (Option MarkedWord)
put_among [] uses = []
put_among (w ∷ ws) [] = []
put_among (w ∷ ws) (u ∷ us) = if_put u w ∷ put_among ws us

-- where no word was put stands the word that is fetched there
abbrev pub AreBlank : List MarkedWord → List WordUse → Type 0
AreBlank [] uses = Unit {0}
AreBlank (w ∷ ws) [] = Unit {0}
AreBlank (w ∷ ws) (u ∷ us) = (u ≡ Unwritten → w ≡ tool 0) × AreBlank ws us

-- ---- a store

-- The arrays fit each other: a slot and a flat for each word of the program, and a slot and a use for each word of the tool text, which
-- begins where it must, up to the last that was put; there is a slot for the words behind it, and room for them.
pub record FitTogether (words : List ℕ) (text_at : ℕ) (text : List MarkedWord) (flats : List Flat)
    (tools_at : ℕ) (tools : List MarkedWord) (uses : List WordUse) (behind_last : MarkedWord) (slots_to uses_to : ℕ) : Type 0 where
  pub slots : length text ≡ length words
  pub does : AreFlatsOf text flats
  pub behind : tools_at ≡ tool_at (record { at = text_at; words = words })
  pub room : 4 * length tools ≤ TOOL_TEXT_LEN
  pub used : length uses ≡ length tools
  pub blank : AreBlank tools uses
  pub unwritten : behind_last ≡ tool 0
  pub slots_room : TOOL_TEXT_LEN ≤ 4 * slots_to
  pub uses_room : TOOL_TEXT_LEN ≤ 4 * uses_to
  pub ends : tools_at + TOOL_TEXT_LEN < 2 ^ 64

abbrev pub code_of : ℕ → List MarkedWord → ℕ → List MarkedWord → List WordUse → Code
code_of text_at text tools_at tools uses =
    from_entries (entries_from text_at (map (λ w. Some w) text) ++ entries_from tools_at (put_among tools uses))

abbrev pub owners_of : ℕ → List WordUse → Owners
owners_of tools_at uses = from_entries (entries_from tools_at (map point_of uses))
