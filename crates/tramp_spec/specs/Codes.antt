-- The words of text and tool text by their addresses.
use Rattle.std.specs.Prelude.{ℕ, ◌+◌, ◌-◌, ◌*◌, ◌/◌, ◌%◌, ◌==◌, ◌&&◌, if◌then◌else◌, Bool, Option, Some, None, List, [], ◌∷◌, length, unwrap_or}
use Rattle.std.specs.FinMap.{FinMap, from_entries, get, insert}
use Rattle.std.specs.Ordering.{nat_cmp}
use Rattle.pn_types.specs.declared.limits.TheConstants.{TOOL_TEXT_LEN}
use Rattle.rv_word.specs.Memory.{in_range}
use Rattle.rv_word.specs.Plain.{Words}
use Rattle.tramp_spec.specs.Marks.{own, tool}
use Rattle.tramp_spec.specs.declared.mark.MarkedWord.{MarkedWord}

-- the marked word at each address at which one was put
abbrev pub Code : Type 0
Code = FinMap nat_cmp MarkedWord

-- ---- text and tool text

-- the words of the text, each the program's own
abbrev pub text_entries : ℕ → List ℕ → List (ℕ × MarkedWord)
text_entries at [] = []
text_entries at (w ∷ ws) = (at, own w) ∷ text_entries (at + 4) ws

abbrev pub text_code : Words → Code
text_code program = from_entries (text_entries program.at program.words)

-- the tool text begins at the least multiple of 4,096 that isn't below the end of the text
abbrev pub tool_at : Words → ℕ
tool_at program = (program.at + 4 * length program.words + 4095) / 4096 * 4096

-- whether a is the address of a word among the `len` bytes from `at` on
abbrev pub is_word_of : ℕ → ℕ → ℕ → Bool
is_word_of at len a = in_range at len a && ((a - at) % 4 == 0)

abbrev pub is_text_word : Words → ℕ → Bool
is_text_word program a = is_word_of program.at (4 * length program.words) a

abbrev pub is_tool_word : Words → ℕ → Bool
is_tool_word program a = is_word_of (tool_at program) TOOL_TEXT_LEN a

-- ---- changes

-- the words from an address on
abbrev pub put_words : ℕ → List MarkedWord → Code → Code
put_words at [] code = code
put_words at (w ∷ ws) code = put_words (at + 4) ws (insert code at w)

-- ---- fetches

-- What is fetched at an address: inside, a word of the tool text, and one that was never written is 0; outside, a word of the
-- text; and else none.
abbrev pub fetched_at : Words → Code → ℕ → Bool → Option MarkedWord
fetched_at program code pc inside =
    if inside then (if is_tool_word program pc then Some (unwrap_or (get code pc) (tool 0)) else None)
    else if is_text_word program pc then get code pc else None
