use Rattle.std.proofs.Common.{ℕ, List, ◌++◌, flat_map, ap, ◌∙◌}
use Rattle.profile_text.specs.Annotated.{annotated_word}
use Rattle.profile_text.specs.Lines.{procedure_line}
use Rattle.profile_text.specs.NumberedWords.{words_of_procedure}
use Rattle.profile_text.specs.ProcedureRows.{row_of}
use Rattle.profile_text.specs.Totals.{ticks_of}
use Rattle.profile_text.specs.declared.numbered_word.NumberedWord.{NumberedWord}
use Rattle.profile_text.proofs.Joins.{join}
use Rattle.profile_text.proofs.annotating.add_procedure.Goals as goal

pub returns : goal.returns
returns c =
    let n = c.args.notes.now in
    let t = n.text.now in
    let words = words_of_procedure t.image.now t.profile.now c.args.row.now.proc.now in
    let o1 = c.add_row.new.out.items in
    join c.args.out.now.items o1 c.add_words.new.out.items (procedure_line (row_of c.args.row.now))
    (flat_map (annotated_word t.procs.now n.heads.now (ticks_of t.profile.now)) words)
    c.in_ok-add_row.ensures
    (c.in_ok-add_words.ensures ∙ ap (λ (z : List NumberedWord). o1 ++ flat_map (annotated_word t.procs.now n.heads.now n.all) z) c.words_of.ensures
    ∙ ap (λ (k : ℕ). o1 ++ flat_map (annotated_word t.procs.now n.heads.now k) words) c.requires.notes.all)
