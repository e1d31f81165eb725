-- The instructions of procedures with the numbers of a profile.
use Rattle.std.specs.Prelude.{ℕ, ◌+◌, ◌*◌, ◌==◌, ◌&&◌, not, nat_le, nat_lt, if◌then◌else◌, Bool, Option, List, [], ◌∷◌, ◌++◌, codes, flat_map, option_and_then}
use Rattle.std.specs.Fmt.{decimal}
use Rattle.std.specs.List.{list_any}
use Rattle.std.specs.Option.{option_map_or}
use Rattle.pn_types.specs.Texts.{address}
use Rattle.pn_types.specs.declared.code.Proc.{Proc}
use Rattle.pn_types.specs.declared.image.Image.{Image}
use Rattle.rv_word.specs.Names.{jump_of}
use Rattle.rv_word.specs.Table.{decode_of}
use Rattle.block_count.specs.declared.block_head.BlockHead.{BlockHead}
use Rattle.word_counts.specs.declared.profile.Profile.{Profile}
use Rattle.disassembler.specs.Texts.{word_text}
use Rattle.profile_text.specs.Lines.{procedure_line}
use Rattle.profile_text.specs.Names.{path_of, procedure_from}
use Rattle.profile_text.specs.NumberedWords.{words_of_procedure}
use Rattle.profile_text.specs.Rows.{Row, rows_named, rows_of}
use Rattle.profile_text.specs.Columns.{padded, share_text}
use Rattle.profile_text.specs.Totals.{ticks_of}
use Rattle.profile_text.specs.declared.numbered_word.NumberedWord.{NumberedWord}

-- a block begins at an address
abbrev pub is_head : List BlockHead → ℕ → Bool
is_head heads a = list_any (λ h. h.at == a) heads

-- at least one of 20 ticks is at the word
abbrev pub is_hot : ℕ → ℕ → Bool
is_hot number all = not (number == 0) && nat_le all (number * 20)

-- the procedure to whose start a word leads, as a comment
abbrev pub target_comment : List Proc → NumberedWord → List ℕ
target_comment procs x =
    option_map_or (λ p. codes "  # " ++ path_of p) (option_and_then (procedure_from procs) (jump_of (decode_of x.word) x.at)) []

abbrev pub break_text : Bool → List ℕ
break_text wanted = if wanted then codes "\n" else []

abbrev pub hot_text : Bool → List ℕ
hot_text hot = if hot then codes " * " else codes "   "

-- how often a word was executed, its share of all ticks, and whether it is hot
abbrev pub number_columns : ℕ → ℕ → List ℕ
number_columns number all = padded 12 (decimal number) ++ padded 8 (share_text number all) ++ hot_text (is_hot number all)

abbrev pub instruction_line : List Proc → NumberedWord → List ℕ
instruction_line procs x = address x.at ++ codes "  " ++ word_text x.at x.word ++ target_comment procs x ++ codes "\n"

-- a word, after an empty line where a block begins with it
abbrev pub annotated_word : List Proc → List BlockHead → ℕ → NumberedWord → List ℕ
annotated_word procs heads all x = break_text (is_head heads x.at) ++ number_columns x.number all ++ instruction_line procs x

abbrev pub annotated_procedure : Image → List Proc → List BlockHead → Profile → Row → List ℕ
annotated_procedure image procs heads r x =
    procedure_line x ++ flat_map (annotated_word procs heads (ticks_of r)) (words_of_procedure image r x.proc)

-- rows that are numbered from n on, with an empty line before each but number 0
abbrev pub annotated_rows : Image → List Proc → List BlockHead → Profile → ℕ → List Row → List ℕ
annotated_rows image procs heads r n [] = []
annotated_rows image procs heads r n (x ∷ xs) =
    break_text (nat_lt 0 n) ++ annotated_procedure image procs heads r x ++ annotated_rows image procs heads r (n + 1) xs

-- The procedures by descending ticks: all, or those that a text names.
abbrev pub annotated_text : Image → List Proc → List BlockHead → Profile → Option (List ℕ) → List ℕ
annotated_text image procs heads r chosen = annotated_rows image procs heads r 0 (rows_named chosen (rows_of image procs r))
