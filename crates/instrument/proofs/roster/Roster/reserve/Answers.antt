use Rattle.std.proofs.Common.{rules, arith, subst, sym}
use Rattle.std.proofs.lemmas.Grind.{common_steps}
use Rattle.instrument.specs.Armable.{AreArmable}
use Rattle.instrument.specs.Listed.{AreInOrder}
use Rattle.instrument.proofs.roster.Roster.reserve.Goals as goal

pub invariant_of-self-2 : goal.invariant_of-self-2
invariant_of-self-2 c =
    let k = c.self.invariant in
    let same = sym c.reserve.ensures.items in
    record {
      slots = search rules;
      order = subst AreInOrder same k.order;
      armable = subst AreArmable same k.armable;
      memory = grind (arith, common_steps);
    }
