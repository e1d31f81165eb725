use Rattle.std.proofs.Common.{List, ap, subst, ◌∙◌, arith}
use Rattle.std.specs.Prelude.{sum_by}
use Rattle.rv_mem.specs.Start.{program_of}
use Rattle.profile_text.specs.Sums.{AreSums}
use Rattle.profile_text.specs.declared.numbered_word.NumberedWord.{NumberedWord}
use Rattle.profile_text.proofs.Prepared.{ascends, total_small}
use Rattle.profile_text.proofs.Ranges.{sum-with_numbers}
use Rattle.profile_text.proofs.reading.profiled_text.Goals as goal

pub sums-requires : goal.sums-requires
sums-requires c =
    let image = c.args.image.now in
    let r = c.args.profile.now in
    let small = total_small image r c.requires.fits in
    let same = ap (sum_by (λ (x : NumberedWord). x.number)) (c.deref.ensures.value ∙ c.in_ok-words.ensures)
    ∙ sum-with_numbers image.text_at (program_of image).words r.numbers c.requires.fits.numbers in
    omega arith

pub returns-clause-is : goal.returns-clause-is
returns-clause-is c =
    record {
      image = c.requires.image;
      procs = c.requires.procs;
      ascend = ascends c.args.image.now c.args.procs.now c.requires.procs;
      fits = c.requires.fits;
      words = c.in_ok-words.ensures;
      sums = subst (λ (ws : List NumberedWord). AreSums ws c.in_ok-sums.sums.items) c.deref.ensures.value c.in_ok-sums.ensures;
    }
