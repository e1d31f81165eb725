use Rattle.std.proofs.Common.{◌≡◌, ℕ, ◌+◌, ◌-◌, ◌/◌, ◌%◌, ◌≤◌, get_or, ap, sym, ◌∙◌, arith}
use Rattle.rv_word.specs.Memory.{in_range}
use Rattle.word_flow.specs.Numbers.{sum_at}
use Rattle.profile_text.specs.declared.profiled_text.ProfiledText.{ProfiledText}
use Rattle.profile_text.specs.ProfiledTexts.{IsProfiledText}
use Rattle.profile_text.proofs.Prepared.{get_or_any, many, ticks_are}
use Rattle.profile_text.proofs.reading.ticks_between.Goals as goal

pub index-requires : goal.index-requires
index-requires c =
    let m = many c.args.text.now c.requires.text in
    let l = c.requires.text.sums.len in
    omega arith

pub index-requires-2 : goal.index-requires-2
index-requires-2 c =
    let m = many c.args.text.now c.requires.text in
    let l = c.requires.text.sums.len in
    omega arith

-- the sum before the first, and the ticks, are the sum before the end
between : (t : ProfiledText) (is : IsProfiledText t) (first end a b : ℕ) → first % 4 ≡ 0 → end % 4 ≡ 0 → t.image.now.text_at ≤ first → first ≤ end
    → end ≤ t.image.now.text_at + t.image.now.text_len
    → a ≡ get_or t.sums.items ((first - t.image.now.text_at) / 4) a → b ≡ get_or t.sums.items ((end - t.image.now.text_at) / 4) b
    → a + sum_at (in_range first (end - first)) t.profile.now.numbers t.image.now.text_at ≡ b
between t is first end a b f e low order high x y =
    let at = t.image.now.text_at in
    let k = (first - at) / 4 in
    let m = (end - first) / 4 in
    let start = is.image.start in
    let n = many t is in
    let len = is.sums.len in
    let both : k + m ≡ (end - at) / 4 = omega arith in
    let ticks = ticks_are t is k m first (end - first) (omega arith) (omega arith) (omega arith) in
    let one = x ∙ get_or_any t.sums.items k a 0 (omega arith) in
    let other = y ∙ ap (λ j. get_or t.sums.items j b) (sym both) ∙ get_or_any t.sums.items (k + m) b 0 (omega arith) in
    omega arith

pub overflow_sub-result : goal.overflow_sub-result
overflow_sub-result c =
    let r = c.requires in
    let e = between c.args.text.now r.text c.args.first c.args.end c.index-2.result.now c.index.result.now r.first r.end r.behind r.order r.before c.index-2.ensures c.index.ensures in
    omega arith

pub returns : goal.returns
returns c =
    let r = c.requires in
    let e = between c.args.text.now r.text c.args.first c.args.end c.index-2.result.now c.index.result.now r.first r.end r.behind r.order r.before c.index-2.ensures c.index.ensures in
    omega arith
