use Rattle.std.proofs.Common.{◌≡◌, ◌∙◌, sym, ap, arith, get_or, length}
use Rattle.std.proofs.lemmas.List.{get_or_default}
use Rattle.rv_mem.specs.Regions.{content}
use Rattle.rv_mem.specs.declared.mapped.Region.{Region}
use Rattle.rv_mem.proofs.window.window_of.Goals as goal

pub returns : goal.returns
returns c =
    let rs = c.args.regions.now.items in
    let i = c.args.i in
    let one : (d : Region) → get_or rs i d ≡ c.index.result.now = λ d. sym (c.index.ensures ∙ get_or_default rs i c.index.result.now d c.requires) in
    let two : (d : Region) → get_or rs i d ≡ c.index-2.result.now = λ d. sym (c.index-2.ensures ∙ get_or_default rs i c.index-2.result.now d c.requires) in
    record {
      listed = c.requires;
      begins = λ d q g l.
          let z : (get_or rs i d).at ≡ c.index.result.now.at = ap (λ y. y.at) (one d) in
          omega (arith, z, c.beside_text-window.ensures.begins);
      ends = λ d q g l.
          let z : (get_or rs i d).at ≡ c.index.result.now.at = ap (λ y. y.at) (one d) in
          let n : length (content (get_or rs i d)) ≡ length (content c.index-2.result.now) = ap (λ y. length (content y)) (two d) in
          omega (arith, z, n, c.beside_text-window.ensures.ends, c.saturating_add-end.ensures, c.len.ensures);
      apart = c.beside_text-window.ensures.apart;
      first = λ j d q lt g l. c.loop-k.invariant j d q (omega (arith, lt, c.loop-k-test.false)) g l;
    }
