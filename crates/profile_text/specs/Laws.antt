-- The lines of a profile add up to its ticks.
use Rattle.std.specs.Prelude.{◌≡◌, ◌⊎◌, ◌+◌, ◌<◌, List, ◌++◌, flat_map, length, map, sum_by}
use Rattle.std.specs.List.{AllAdjacentBelow}
use Rattle.std.specs.List.Sorted.{IsPermutation}
use Rattle.pn_types.specs.declared.code.Proc.{Proc}
use Rattle.pn_types.specs.declared.image.Image.{Image}
use Rattle.code_points.specs.Procedures.{AreProcsOf}
use Rattle.word_counts.specs.declared.profile.Profile.{Profile}
use Rattle.profile_text.specs.Callgrind.{executed}
use Rattle.profile_text.specs.NumberedWords.{words_of_none, words_of_procedure}
use Rattle.profile_text.specs.Rows.{Row, procedure_row, rows_of}
use Rattle.profile_text.specs.Totals.{Fits, ticks_of, ticks_of_none, ticks_outside}
use Rattle.profile_text.specs.declared.numbered_word.NumberedWord.{NumberedWord}

-- x has more ticks than y, or as many and the lower address
abbrev pub Precedes : Row → Row → Type 0
Precedes x y = (y.ticks < x.ticks) ⊎ ((x.ticks ≡ y.ticks) × (x.proc.start < y.proc.start))

-- the words that have a cost line in callgrind's format, in the order of the lines
abbrev pub costed_words : Image → List Proc → Profile → List NumberedWord
costed_words image procs r = flat_map (λ p. executed (words_of_procedure image r p)) procs ++ executed (words_of_none image procs r)

-- The rows are those of the procedures, by descending ticks, ties by ascending address. Their ticks, those at words that no procedure
-- has, those outside of the text and the untold ones are all ticks, and so are the costs with the last two.
pub record DoLinesAddUp (image : Image) (procs : List Proc) (r : Profile) : Type 0 where
  pub all_rows : IsPermutation (map (procedure_row image r) procs) (rows_of image procs r)
  pub order : AllAdjacentBelow Precedes (rows_of image procs r) (length (rows_of image procs r))
  pub rows : sum_by (λ x. x.ticks) (rows_of image procs r) + ticks_of_none image procs r + ticks_outside image r + r.untold ≡ ticks_of r
  pub costs : sum_by (λ x. x.number) (costed_words image procs r) + ticks_outside image r + r.untold ≡ ticks_of r

-- So it is of every profile.
abbrev pub LinesAddUp : Type 0
LinesAddUp = (image : Image) (procs : List Proc) (r : Profile) → AreProcsOf image procs → Fits image r → DoLinesAddUp image procs r
