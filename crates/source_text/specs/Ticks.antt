-- The ticks of words by their sources.
use Rattle.std.specs.Prelude.{ℕ, ◌+◌, ◌*◌, ◌^◌, ◌==◌, if◌then◌else◌, Option, Some, None, List, [], ◌∷◌, map}
use Rattle.line_table.specs.declared.registers.Row.{Row}
use Rattle.profile_text.specs.declared.numbered_word.NumberedWord.{NumberedWord}
use Rattle.source_text.specs.Ordered.{ordered_by}
use Rattle.source_text.specs.Sources.{source_at}
use Rattle.source_text.specs.declared.source.Source.{Source}
use Rattle.source_text.specs.declared.source.SourceTicks.{SourceTicks}

-- Unit, file and line as one number, the line in the lowest 32 bits and the file in the 64 above. No source comes last.
abbrev pub order_of : Option Source → ℕ
order_of None = 2 ^ 160
order_of (Some s) = (s.unit * 2 ^ 64 + s.file) * 2 ^ 32 + s.line

abbrev pub order : SourceTicks → ℕ
order x = order_of x.source

-- a word's ticks with its source
abbrev pub ticks_at : List Row → NumberedWord → SourceTicks
ticks_at rows x = record { source = source_at rows x.at; ticks = x.number }

-- neighbours of one source together, the first of which is x
abbrev pub merged_from : SourceTicks → List SourceTicks → List SourceTicks
merged_from x [] = x ∷ []
merged_from x (y ∷ ys) =
    if order x == order y then merged_from (record { source = x.source; ticks = x.ticks + y.ticks }) ys else x ∷ merged_from y ys

abbrev pub merged : List SourceTicks → List SourceTicks
merged [] = []
merged (x ∷ xs) = merged_from x xs

-- The ticks of words at each of their sources, by ascending unit, file and line. The rows are by place.
abbrev pub source_ticks : List Row → List NumberedWord → List SourceTicks
source_ticks rows words = merged (ordered_by order (map (ticks_at rows) words))
