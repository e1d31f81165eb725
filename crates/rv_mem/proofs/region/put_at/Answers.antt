use Rattle.std.proofs.Common.{◌+◌, ◌≤◌, rules, sym, subst, length}
use Rattle.std.specs.Option.{IsSome}
use Rattle.rv_mem.specs.declared.mapped.Region.{Region}
use Rattle.rv_mem.proofs.Clear.{shape-set}
use Rattle.rv_mem.proofs.Numbers.{number_in-spot}
use Rattle.rv_mem.proofs.Overlays.{written_spot}
use Rattle.rv_mem.proofs.region.put_at.Goals as goal

pub put-requires : goal.put-requires
put-requires c =
    let r = c.index_mut.result.now in
    subst (λ (z : Region). c.args.spot.place + c.args.n ≤ length z.bytes.items) (sym c.index_mut.ensures.value) (c.requires.written r)

pub returns-clause-there : goal.returns-clause-there
returns-clause-there c =
    subst IsSome (sym (number_in-spot c.args.regions.now.items c.args.at c.args.n c.args.spot c.index_mut.result.now c.requires.range c.index_mut.ensures.value)) (search rules)

pub returns-clause-put : goal.returns-clause-put
returns-clause-put c = λ q.
    written_spot c.args.regions.now.items c.args.spot c.index_mut.result.now c.put.new.self c.args.n c.args.at c.args.v q c.requires.range c.index_mut.ensures.value c.put.ensures.bounds.begins c.put.ensures.put

pub returns-clause-shape : goal.returns-clause-shape
returns-clause-shape c = shape-set c.args.regions.now.items c.args.spot.region c.index_mut.result.now c.put.new.self c.requires.range.listed c.index_mut.ensures.value c.put.ensures.bounds
