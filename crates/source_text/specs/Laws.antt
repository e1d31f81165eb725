-- What holds of the ticks of a procedure's words by their sources.
use Rattle.std.specs.Prelude.{◌≡◌, ℕ, Bool, List, length, map, sum_by}
use Rattle.std.specs.List.{filter}
use Rattle.std.specs.List.Sorted.{IsStrictlyIncreasing}
use Rattle.line_table.specs.declared.registers.Row.{Row}
use Rattle.pn_types.specs.declared.code.Proc.{Proc}
use Rattle.pn_types.specs.declared.image.Image.{Image}
use Rattle.profile_text.specs.NumberedWords.{words_of_procedure}
use Rattle.profile_text.specs.Rows.{procedure_row}
use Rattle.profile_text.specs.Totals.{Fits}
use Rattle.profile_text.specs.declared.numbered_word.NumberedWord.{NumberedWord}
use Rattle.source_text.specs.Sources.{source_at}
use Rattle.source_text.specs.Ticks.{order, order_of, source_ticks}
use Rattle.word_counts.specs.declared.profile.Profile.{Profile}

-- the order of a word's source
abbrev pub order_at : List Row → NumberedWord → ℕ
order_at rows x = order_of (source_at rows x.at)

-- The sources rise, so that none comes twice. Any of them have the ticks of the words that come from them, and all together those of
-- the procedure.
pub record DoSourcesAddUp (rows : List Row) (image : Image) (r : Profile) (p : Proc) : Type 0 where
  pub rise : IsStrictlyIncreasing (map order (source_ticks rows (words_of_procedure image r p)))
  pub any : (test : ℕ → Bool)
      → sum_by (λ x. x.ticks) (filter (λ x. test (order x)) (source_ticks rows (words_of_procedure image r p)))
      ≡ sum_by (λ x. x.number) (filter (λ x. test (order_at rows x)) (words_of_procedure image r p))
  pub all : sum_by (λ x. x.ticks) (source_ticks rows (words_of_procedure image r p)) ≡ (procedure_row image r p).ticks

-- So it is of every line table and profile.
abbrev pub SourcesAddUp : Type 0
SourcesAddUp = (rows : List Row) (image : Image) (r : Profile) (p : Proc) → Fits image r → DoSourcesAddUp rows image r p
