-- The procedures of a program, by their ticks.
use Rattle.std.specs.Prelude.{ℕ, nat_le, if◌then◌else◌, Bool, true, Option, Some, None, List, [], ◌∷◌, map}
use Rattle.std.specs.List.{filter}
use Rattle.pn_types.specs.declared.code.Proc.{Proc}
use Rattle.pn_types.specs.declared.image.Image.{Image}
use Rattle.rv_word.specs.Memory.{in_range}
use Rattle.word_counts.specs.declared.profile.Profile.{Profile}
use Rattle.word_flow.specs.Numbers.{sum_at}
use Rattle.profile_text.specs.Names.{is_named}
use Rattle.profile_text.specs.NumberedWords.{number_at}

-- a procedure, how often its first word was executed, and how often all its words were
pub record Row : Type 0 where
  pub proc : Proc
  pub entered : ℕ
  pub ticks : ℕ

abbrev pub procedure_row : Image → Profile → Proc → Row
procedure_row image r p =
    record { proc = p; entered = number_at image r p.start; ticks = sum_at (in_range p.start p.len) r.numbers image.text_at }

-- a row put before those of its ticks and below
abbrev pub insert_by_ticks : Row → List Row → List Row
insert_by_ticks x [] = x ∷ []
insert_by_ticks x (y ∷ ys) = if nat_le y.ticks x.ticks then x ∷ (y ∷ ys) else y ∷ insert_by_ticks x ys

-- rows by descending ticks, ties in their order
abbrev pub by_ticks : List Row → List Row
by_ticks [] = []
by_ticks (x ∷ xs) = insert_by_ticks x (by_ticks xs)

-- the procedures by descending ticks, ties by ascending address
abbrev pub rows_of : Image → List Proc → Profile → List Row
rows_of image procs r = by_ticks (map (procedure_row image r) procs)

-- a text names the procedure, where there is one
abbrev pub is_chosen : Option (List ℕ) → Proc → Bool
is_chosen None p = true
is_chosen (Some name) p = is_named name p

-- those that are chosen
abbrev pub rows_named : Option (List ℕ) → List Row → List Row
rows_named chosen rows = filter (λ x. is_chosen chosen x.proc) rows
