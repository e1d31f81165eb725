use Rattle.std.proofs.Common.{sym, ap, rules, ◌∙◌}
use Rattle.rv_mem.proofs.Writes.{put_found, unfound}
use Rattle.rv_mem.proofs.region.put_byte.Goals as goal

pub returns-in-Some-clause-put : goal.returns-in-Some-clause-put
returns-in-Some-clause-put c =
    put_found c.loop-i.regions.items c.args.regions.now.items c.loop-i.i c.index.result.now c.index_mut.result.now c.set.new.self c.args.at c.args.byte c.in-Some.place (search rules) c.loop-i.invariant.before c.index.ensures (sym c.in-Some.is ∙ c.place_of.ensures) c.index_mut.ensures.value c.set.ensures.bounds.begins c.set.ensures.set (ap (λ v. v.items) c.loop-i.invariant.same)

pub returns : goal.returns
returns c = absurd (unfound c.loop-i.regions.items c.args.regions.now.items c.args.at c.loop-i.i (search rules) c.loop-i.invariant.before (ap (λ v. v.items) c.loop-i.invariant.same) c.requires)
