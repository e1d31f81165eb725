use Rattle.std.specs.Prelude.{take}
use Rattle.session.specs.Candidates.{AreOfWishes}
use Rattle.session.proofs.preparing.prepare_wishes.Given as goal

abbrev pub invariant-loop-wish : goal.invariant-loop-wish
invariant-loop-wish l = AreOfWishes l.fn.inputs (take l.wish-index l.fn.wishes) l.plans.items l.candidates.items
