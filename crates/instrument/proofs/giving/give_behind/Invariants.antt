use Rattle.instrument.proofs.GivenBack.{IsGiving}
use Rattle.instrument.proofs.giving.give_behind.Given as goal

-- the rooms from the place on were given back
abbrev pub invariant-loop-place : goal.invariant-loop-place
invariant-loop-place l = IsGiving l.count l.fn.rooms l.fn.words l.rooms l.words l.place

abbrev pub decreases-loop-place : goal.decreases-loop-place
decreases-loop-place l = l.place
