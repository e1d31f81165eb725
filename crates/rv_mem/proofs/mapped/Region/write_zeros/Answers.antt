use Rattle.std.proofs.Common.{◌≡◌, ◌+◌, ◌-◌, ◌++◌, replicate, take, true, sym, ap, ◌∙◌, arith, is_ok}
use Rattle.std.specs.Vec.{vec_len}
use Rattle.std.proofs.lemmas.List.{take_all}
use Rattle.rv_mem.proofs.Contents.{length-content, zeros-written}
use Rattle.rv_mem.proofs.mapped.Region.write_zeros.Goals as goal

pub returns-then-is_ok-clause-same : goal.returns-then-is_ok-clause-same
returns-then-is_ok-clause-same c =
    let r = c.args.self.now in
    let bs = r.bytes.items in
    let count = c.min-count.result in
    let all = c.len-all.result in
    let len = vec_len r.bytes in
    let ok : is_ok c.resize.result ≡ true = sym c.is_ok.ensures.value ∙ c.if-is_ok.true in
    let items = rw ok at c.resize.ensures.items in
    let whole : take count bs ≡ bs = take_all count bs (omega (arith, c.if-len-count.true, c.len.ensures)) in
    let sum : (count - len) + (all - count) ≡ r.behind = omega (arith, c.if-len-count.true, c.len.ensures, c.len-all.ensures, c.min-count.ensures, length-content bs r.behind) in
    c.set_quick_len.ensures.same
    ∙ ap (λ l. l ++ replicate (all - count) 0) (items ∙ ap (λ l. l ++ replicate (count - len) 0) whole)
    ∙ zeros-written bs (count - len) (all - count) r.behind sum
