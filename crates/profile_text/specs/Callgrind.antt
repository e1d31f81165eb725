-- A profile in the format of callgrind, which `callgrind_annotate` and KCachegrind read.
use Rattle.std.specs.Prelude.{ℕ, ◌==◌, not, List, [], ◌∷◌, ◌++◌, codes, flat_map}
use Rattle.std.specs.Fmt.{decimal}
use Rattle.std.specs.List.{filter}
use Rattle.pn_types.specs.Texts.{address}
use Rattle.pn_types.specs.declared.code.Proc.{Proc}
use Rattle.pn_types.specs.declared.image.Image.{Image}
use Rattle.word_counts.specs.declared.profile.Profile.{Profile}
use Rattle.profile_text.specs.NumberedWords.{words_of_none, words_of_procedure}
use Rattle.profile_text.specs.Totals.{ticks_of}
use Rattle.profile_text.specs.declared.numbered_word.NumberedWord.{NumberedWord}

-- the executed ones of these words
abbrev pub executed : List NumberedWord → List NumberedWord
executed words = filter (λ x. not (x.number == 0)) words

abbrev pub cost_line : NumberedWord → List ℕ
cost_line x = address x.at ++ codes " " ++ decimal x.number ++ codes "\n"

abbrev pub function_names : List ℕ → List ℕ → List ℕ
function_names file name = codes "fl=" ++ file ++ codes "\nfn=" ++ name ++ codes "\n"

-- the costs of a function's words; it is left out where there are none
abbrev pub function_costs : List ℕ → List ℕ → List NumberedWord → List ℕ
function_costs file name [] = []
function_costs file name (x ∷ xs) = function_names file name ++ flat_map cost_line (x ∷ xs) ++ codes "\n"

abbrev pub procedure_costs : Image → Profile → Proc → List ℕ
procedure_costs image r p = function_costs p.«module» p.name (executed (words_of_procedure image r p))

-- the lines in front of all costs
abbrev pub callgrind_form : List ℕ
callgrind_form =
    codes "# callgrind format\nversion: 1\ncreator: paradyn\ncmd: program\npositions: instr\nevents: Ticks\n"

abbrev pub callgrind_summary : ℕ → List ℕ
callgrind_summary ticks = codes "summary: " ++ decimal ticks ++ codes "\n\n"

-- The costs of the procedures by ascending address, and of the words that none has.
abbrev pub callgrind_text : Image → List Proc → Profile → List ℕ
callgrind_text image procs r =
    callgrind_form ++ callgrind_summary (ticks_of r) ++ flat_map (procedure_costs image r) procs
    ++ function_costs (codes "???") (codes "???") (executed (words_of_none image procs r))
