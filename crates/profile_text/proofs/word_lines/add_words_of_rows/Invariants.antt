use Rattle.std.proofs.Common.{◌≡◌, ◌++◌, drop, flat_map}
use Rattle.profile_text.specs.Lines.{word_line}
use Rattle.profile_text.specs.NumberedWords.{words_of_procedure}
use Rattle.profile_text.specs.ProcedureRows.{rows_in}
use Rattle.profile_text.proofs.word_lines.add_words_of_rows.Given as goal

-- what is written, and the lines that are left, make all the lines
abbrev pub invariant-loop-row : goal.invariant-loop-row
invariant-loop-row l =
    l.out.items ++ flat_map (λ x. flat_map word_line (words_of_procedure l.text.image.now l.text.profile.now x.proc)) (rows_in (drop l.row-index l.rows))
    ≡ l.initial.out.items ++ flat_map (λ x. flat_map word_line (words_of_procedure l.text.image.now l.text.profile.now x.proc)) (rows_in l.rows)
