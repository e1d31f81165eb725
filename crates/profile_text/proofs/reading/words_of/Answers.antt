use Rattle.std.proofs.Common.{◌≡◌, ◌+◌, ◌-◌, ◌/◌, take, drop, ap, sym, ◌∙◌, arith}
use Rattle.rv_word.specs.Memory.{in_range}
use Rattle.profile_text.proofs.Ranges.{words_at}
use Rattle.profile_text.proofs.Prepared.{low, many, range_is}
use Rattle.profile_text.proofs.reading.words_of.Goals as goal

pub slice_bounds-result-end : goal.slice_bounds-result-end
slice_bounds-result-end c =
    let m = many c.args.text.now c.requires.text in
    let l = low c.args.text.now c.requires.text in
    let p = c.requires.proc in
    omega arith

pub returns : goal.returns
returns c =
    let t = c.args.text.now in
    let p = c.args.proc.now in
    let r = c.requires.proc in
    let start = c.requires.text.image.start in
    let k = (p.start - t.image.now.text_at) / 4 in
    let m = p.len / 4 in
    let e : k + m - k ≡ m = omega arith in
    ap (λ j. take j (drop k c.deref.result.now)) e
    ∙ ap (λ z. take m (drop k z)) c.deref.ensures.value
    ∙ sym (range_is t c.requires.text k m p.start p.len (omega arith) (omega arith))
    ∙ ap (words_at (in_range p.start p.len)) c.requires.text.words
