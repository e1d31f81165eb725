use Rattle.std.proofs.Common.{arith, sym, ◌∙◌}
use Rattle.instrument.proofs.Ready.{found_there}
use Rattle.instrument.proofs.kits.find_kit.Goals as goal

pub returns-then-is_for-clause-found : goal.returns-then-is_for-clause-found
returns-then-is_for-clause-found c = found_there _ c.args.kits.now c.loop-place.place c.index-kits-place.result (omega (arith, c.loop-place-test.true)) c.index-kits-place.is (sym c.is_for.ensures ∙ c.if-is_for.true)
