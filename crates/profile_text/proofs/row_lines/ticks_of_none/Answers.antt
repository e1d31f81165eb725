use Rattle.std.proofs.Common.{ap, sym, ◌∙◌, arith}
use Rattle.std.specs.Prelude.{is_none, sum_by}
use Rattle.std.proofs.lemmas.List.Filters.{sum_by-filter_both}
use Rattle.std.specs.Prelude.{not}
use Rattle.std.proofs.Common.{refl}
use Rattle.rv_mem.specs.Start.{program_of}
use Rattle.profile_text.specs.Names.{procedure_at}
use Rattle.profile_text.specs.NumberedWords.{numbered_words}
use Rattle.profile_text.specs.declared.numbered_word.NumberedWord.{NumberedWord}
use Rattle.profile_text.proofs.Prepared.{total_small}
use Rattle.profile_text.proofs.Ranges.{sum-with_numbers, sum_at-with_numbers}
use Rattle.profile_text.proofs.row_lines.ticks_of_none.Goals as goal

pub total-requires : goal.total-requires
total-requires c =
    let t = c.args.text.now in
    let small = total_small t.image.now t.profile.now c.requires.text.fits in
    let all = sum-with_numbers t.image.now.text_at (program_of t.image.now).words t.profile.now.numbers c.requires.text.fits.numbers in
    let parts = sum_by-filter_both (λ (x : NumberedWord). is_none (procedure_at t.procs.now x.at)) (λ x. not (is_none (procedure_at t.procs.now x.at))) (λ x. refl) (λ x. x.number) (numbered_words t.image.now t.profile.now) in
    let same = ap (sum_by (λ (x : NumberedWord). x.number)) c.requires.words in
    omega arith

pub returns : goal.returns
returns c =
    let t = c.args.text.now in
    c.total.ensures ∙ ap (sum_by (λ (x : NumberedWord). x.number)) c.requires.words
    ∙ sym (sum_at-with_numbers (λ a. is_none (procedure_at t.procs.now a)) t.image.now.text_at (program_of t.image.now).words t.profile.now.numbers c.requires.text.fits.numbers)
