use Rattle.std.proofs.Common.{◌≡◌, ℕ, refl, ap, arith}
use Rattle.std.specs.Prelude.{not, sum_by}
use Rattle.std.proofs.lemmas.List.Filters.{sum_by-filter_both}
use Rattle.rv_mem.specs.Start.{program_of}
use Rattle.rv_word.specs.Memory.{in_range}
use Rattle.profile_text.specs.NumberedWords.{numbered_words}
use Rattle.profile_text.specs.declared.numbered_word.NumberedWord.{NumberedWord}
use Rattle.profile_text.proofs.Prepared.{total_small}
use Rattle.profile_text.proofs.Ranges.{sum-with_numbers}
use Rattle.source_text.proofs.text.ticks_of_procedure.Goals as goal

pub source_ticks-requires-clause-words : goal.source_ticks-requires-clause-words
source_ticks-requires-clause-words c =
    let t = c.args.text.now.text.now in
    let p = c.args.proc.now in
    let fits = c.requires.text.text.fits in
    let small = total_small t.image.now t.profile.now fits in
    let all = sum-with_numbers t.image.now.text_at (program_of t.image.now).words t.profile.now.numbers fits.numbers in
    let parts = sum_by-filter_both (λ (x : NumberedWord). in_range p.start p.len x.at) (λ x. not (in_range p.start p.len x.at)) (λ x. refl) (λ x. x.number) (numbered_words t.image.now t.profile.now) in
    let same = ap (sum_by (λ (x : NumberedWord). x.number)) c.words_of.ensures in
    omega arith
