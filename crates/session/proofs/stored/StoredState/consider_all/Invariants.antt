use Rattle.session.proofs.Considered.{Considering}
use Rattle.session.proofs.stored.StoredState.consider_all.Given as goal

abbrev pub invariant-loop-place : goal.invariant-loop-place
invariant-loop-place l = Considering l.fn.inputs l.fn.wishes l.fn.plans l.fn.self l.place l.self l.candidates.items
