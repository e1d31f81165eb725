use Rattle.std.proofs.Common.{rules, ◌∙◌}
use Rattle.instrument.proofs.Searching.{goes_on, found_at}
use Rattle.instrument.proofs.freeing.find_free.Goals as goal

pub returns-in-Some-clause-found : goal.returns-in-Some-clause-found
returns-in-Some-clause-found c = found_at c.args.entries.now.items c.loop-place.place c.in-Some.point (search rules) (search rules) c.loop-place.invariant

pub loop-place-preserved : goal.loop-place-preserved
loop-place-preserved c = c.loop-place.invariant ∙ goes_on c.args.entries.now.items c.loop-place.place (search rules) (search rules)
