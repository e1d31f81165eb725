use Rattle.std.proofs.Common.{◌≡◌, ◌<◌, ◌+◌, ◌-◌, ◌/◌, ◌%◌, ◌^◌, sym, subst, ◌∙◌, get_or, length, arith}
use Rattle.std.proofs.lemmas.List.{get_or_default}
use Rattle.rv_mem.specs.declared.mapped.Region.{Region}
use Rattle.rv_mem.proofs.window.find_quick.Goals as goal

pub returns-then-at-index : goal.returns-then-at-index
returns-then-at-index c =
    let rs = c.args.regions.now.items in
    let i = c.index.result.now in
    let pages = c.args.pages.now.items in
    let page = c.args.at / 4096 in
    let within : page < length pages = omega (arith, c.if-page-len.false) in
    let lt : i < length rs = subst (λ k. k < length rs) (sym (c.index.ensures ∙ get_or_default pages page i 0 within)) (c.requires page within) in
    let one : (d : Region) → c.index-2.result.now ≡ get_or rs i d = λ d. c.index-2.ensures ∙ get_or_default rs i c.index-2.result.now d lt in
    let two : (d : Region) → c.index-3.result.now ≡ get_or rs i d = λ d. c.index-3.ensures ∙ get_or_default rs i c.index-3.result.now d lt in
    record {
      listed = lt;
      near = λ d.
          subst (λ (r : Region). (c.args.at + (2 ^ 64 - r.window.from)) % 2 ^ 64 < (get_or rs i d).quick_len) (one d)
          (subst (λ (r : Region). (c.args.at + (2 ^ 64 - c.index-2.result.now.window.from)) % 2 ^ 64 < r.quick_len) (two d) c.if-at-index.true);
    }
