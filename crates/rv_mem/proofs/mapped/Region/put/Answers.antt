use Rattle.std.specs.Vec.{with_items}
use Rattle.std.proofs.Common.{◌≡◌, ◌++◌, replicate, sym, ap, ◌∙◌, arith, length}
use Rattle.std.proofs.lemmas.List.{with_items_is}
use Rattle.rv_mem.specs.Regions.{with_number}
use Rattle.rv_mem.proofs.Contents.{write-zeros}
use Rattle.rv_mem.proofs.mapped.Region.put.Goals as goal

pub returns-clause-put : goal.returns-clause-put
returns-clause-put c =
    let r = c.args.self.now in
    let new = c.write_at.new.bytes in
    let n : length new ≡ r.bytes.len = omega (arith, c.write_at.auto.bytes, c.deref_mut.ensures.len, r.bytes.ok.0) in
    let e : (with_items r.bytes new).items ≡ with_number c.args.n r.bytes.items c.args.place c.args.v = with_items_is r.bytes new n ∙ c.write_at.ensures ∙ ap (λ bs. with_number c.args.n bs c.args.place c.args.v) c.deref_mut.ensures.value in
    ap (λ bs. bs ++ replicate r.behind 0) e ∙ sym (write-zeros c.args.n r.bytes.items r.behind c.args.place c.args.v c.requires)
