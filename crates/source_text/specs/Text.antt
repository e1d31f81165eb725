-- The profile of a program by lines of its source.
use Rattle.std.specs.Prelude.{ℕ, ◌+◌, ◌==◌, nat_lt, Option, Some, None, List, [], ◌∷◌, ◌++◌, codes, flat_map, option_and_then, unwrap_or}
use Rattle.std.specs.Fmt.{decimal}
use Rattle.std.specs.List.{find}
use Rattle.line_table.specs.Meaning.{file_name}
use Rattle.line_table.specs.declared.paths.UnitPaths.{UnitPaths}
use Rattle.line_table.specs.declared.registers.Row.{Row}
use Rattle.pn_types.specs.declared.code.Proc.{Proc}
use Rattle.pn_types.specs.declared.image.Image.{Image}
use Rattle.profile_text.specs.Annotated.{break_text, number_columns}
use Rattle.profile_text.specs.Lines.{procedure_line}
use Rattle.profile_text.specs.NumberedWords.{words_of_procedure}
use Rattle.profile_text.specs.Rows as profile
use Rattle.profile_text.specs.Rows.{rows_named, rows_of}
use Rattle.profile_text.specs.Totals.{ticks_of}
use Rattle.source_text.specs.Sources.{by_place}
use Rattle.source_text.specs.Ticks.{source_ticks}
use Rattle.source_text.specs.declared.source.Source.{Source}
use Rattle.source_text.specs.declared.source.SourceTicks.{SourceTicks}
use Rattle.word_counts.specs.declared.profile.Profile.{Profile}

-- the name of a source's file, and `?` where its unit has none of that number
abbrev pub path_of : List ℕ → List UnitPaths → Source → List ℕ
path_of elf units s = unwrap_or (option_and_then (λ u. file_name elf u s.file) (find (λ u. s.unit == u.unit) units)) (codes "?")

-- `PATH:LINE`, and `?` for no source
abbrev pub source_text : List ℕ → List UnitPaths → Option Source → List ℕ
source_text elf units None = codes "?"
source_text elf units (Some s) = path_of elf units s ++ codes ":" ++ decimal s.line

-- the ticks at a source, their share of all ticks, whether they are many, and the source
abbrev pub source_line : List ℕ → List UnitPaths → ℕ → SourceTicks → List ℕ
source_line elf units all x = number_columns x.ticks all ++ source_text elf units x.source ++ codes "\n"

-- a procedure, an empty line, and the sources of its words
abbrev pub sourced_procedure : List ℕ → List UnitPaths → List Row → Image → Profile → profile.Row → List ℕ
sourced_procedure elf units rows image r x =
    procedure_line x ++ codes "\n" ++ flat_map (source_line elf units (ticks_of r)) (source_ticks rows (words_of_procedure image r x.proc))

-- procedures that are numbered from n on, with an empty line before each but number 0
abbrev pub sourced_procedures : List ℕ → List UnitPaths → List Row → Image → Profile → ℕ → List profile.Row → List ℕ
sourced_procedures elf units rows image r n [] = []
sourced_procedures elf units rows image r n (x ∷ xs) =
    break_text (nat_lt 0 n) ++ sourced_procedure elf units rows image r x ++ sourced_procedures elf units rows image r (n + 1) xs

-- The procedures by descending ticks: all, or those that a text names. The rows are those of a line table.
abbrev pub sourced_text : List ℕ → List UnitPaths → List Row → Image → List Proc → Profile → Option (List ℕ) → List ℕ
sourced_text elf units rows image procs r chosen =
    sourced_procedures elf units (by_place rows) image r 0 (rows_named chosen (rows_of image procs r))
