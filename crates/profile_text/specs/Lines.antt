-- The text of a profile, one record a line.
use Rattle.std.specs.Prelude.{ℕ, ◌+◌, ◌-◌, ◌/◌, ◌==◌, if◌then◌else◌, Bool, Option, Some, None, List, [], ◌++◌, codes, flat_map, length}
use Rattle.std.specs.Fmt.{decimal}
use Rattle.std.specs.Option.{option_map_or}
use Rattle.pn_types.specs.Texts.{address}
use Rattle.pn_types.specs.declared.code.Proc.{Proc}
use Rattle.pn_types.specs.declared.image.Image.{Image}
use Rattle.report.specs.Text.{hart_lines}
use Rattle.rv_word.specs.Memory.{in_range}
use Rattle.block_count.specs.Texts.{parts_of}
use Rattle.word_counts.specs.declared.profile.Profile.{Profile}
use Rattle.word_flow.specs.Numbers.{sum_at}
use Rattle.disassembler.specs.Texts.{word_text}
use Rattle.profile_text.specs.Jumps.{call_target, is_back_edge, jump_target}
use Rattle.profile_text.specs.Names.{owner_text, path_of, procedure_at, target_text}
use Rattle.profile_text.specs.NumberedWords.{number_at, numbered_words, words_of_none, words_of_procedure}
use Rattle.profile_text.specs.Rows.{Row, rows_of}
use Rattle.profile_text.specs.Totals.{ticks_of, ticks_of_none, ticks_outside}
use Rattle.profile_text.specs.declared.numbered_word.NumberedWord.{NumberedWord}

-- how many harts there are, and their ticks together
abbrev pub run_ticks : ℕ → ℕ → List ℕ
run_ticks harts ticks = codes "profile harts " ++ decimal harts ++ codes " ticks " ++ decimal ticks

-- how many of the ticks no number tells, and how many were outside of the text
abbrev pub run_untold : ℕ → ℕ → List ℕ
run_untold untold outside = codes " untold " ++ decimal untold ++ codes " outside " ++ decimal outside ++ codes "\n"

abbrev pub profile_line : Image → Profile → List ℕ
profile_line image r = run_ticks (length r.counts.ticks) (ticks_of r) ++ run_untold r.untold (ticks_outside image r)

-- ---- procedures

abbrev pub procedure_line : Row → List ℕ
procedure_line x =
    codes "procedure " ++ path_of x.proc ++ codes " at " ++ address x.proc.start ++ codes " words " ++ decimal (x.proc.len / 4)
    ++ codes " entered " ++ decimal x.entered ++ codes " ticks " ++ decimal x.ticks ++ codes "\n"

-- how many words no procedure has, and their ticks
abbrev pub rest_line : ℕ → ℕ → List ℕ
rest_line words ticks = codes "rest words " ++ decimal words ++ codes " ticks " ++ decimal ticks ++ codes "\n"

-- ---- calls

abbrev pub call_line : List Proc → NumberedWord → ℕ → List ℕ
call_line procs x target =
    codes "call " ++ owner_text procs x.at ++ codes " " ++ address x.at ++ codes " " ++ target_text procs target
    ++ codes " " ++ decimal x.number ++ codes "\n"

-- the line of a word, where it is a direct call that was executed
abbrev pub call_lines : List Proc → NumberedWord → List ℕ
call_lines procs x = if x.number == 0 then [] else option_map_or (call_line procs x) (call_target x) []

-- ---- loops

abbrev pub loop_range : Proc → ℕ → ℕ → List ℕ
loop_range p first last = codes "loop " ++ path_of p ++ codes " " ++ address first ++ codes " to " ++ address last

abbrev pub loop_numbers : ℕ → ℕ → ℕ → List ℕ
loop_numbers first last ticks =
    codes " first " ++ decimal first ++ codes " last " ++ decimal last ++ codes " ticks " ++ decimal ticks ++ codes "\n"

-- a loop from a word of p to the word x: how often its first, its last and all its words were executed
abbrev pub loop_line : Image → Profile → Proc → ℕ → NumberedWord → List ℕ
loop_line image r p first x =
    loop_range p first x.at
    ++ loop_numbers (number_at image r first) x.number (sum_at (in_range first (x.at + 4 - first)) r.numbers image.text_at)

abbrev pub loop_lines_in : Image → Profile → Option Proc → Option ℕ → NumberedWord → List ℕ
loop_lines_in image r (Some p) (Some target) x = if is_back_edge p target x then loop_line image r p target x else []
loop_lines_in image r (Some p) None x = []
loop_lines_in image r None target x = []

-- the line of a word, where a loop ends with it
abbrev pub loop_lines : Image → List Proc → Profile → NumberedWord → List ℕ
loop_lines image procs r x = loop_lines_in image r (procedure_at procs x.at) (jump_target x) x

-- ---- words

abbrev pub word_line : NumberedWord → List ℕ
word_line x = codes "word " ++ address x.at ++ codes " " ++ decimal x.number ++ codes " " ++ word_text x.at x.word ++ codes "\n"

-- the words of the procedures, in the order of these, and then those that none has
abbrev pub word_lines : Image → List Proc → Profile → List ℕ
word_lines image procs r =
    flat_map (λ x. flat_map word_line (words_of_procedure image r x.proc)) (rows_of image procs r)
    ++ flat_map word_line (words_of_none image procs r)

-- The text of a profile: the run, its harts, the procedures by descending ticks, the direct calls and the loops by ascending address,
-- and all words where they are asked for.
abbrev pub profile_lines : Image → List Proc → Profile → Bool → List ℕ
profile_lines image procs r has_words =
    profile_line image r ++ hart_lines 0 (parts_of r.counts) ++ flat_map procedure_line (rows_of image procs r)
    ++ rest_line (length (words_of_none image procs r)) (ticks_of_none image procs r)
    ++ flat_map (call_lines procs) (numbered_words image r) ++ flat_map (loop_lines image procs r) (numbered_words image r)
    ++ (if has_words then word_lines image procs r else [])
