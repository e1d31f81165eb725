use Rattle.std.proofs.Common.{◌∙◌, ap, sym, subst, arith}
use Rattle.std.proofs.lemmas.Grind.{common_steps}
use Rattle.tool_space.specs.Rooms.{Rooms, IsTaken, after_give}
use Rattle.instrument.specs.Rosters.{RosterData}
use Rattle.instrument.specs.Spaces.{AreSlotsOf}
use Rattle.instrument.proofs.Added.{found_in, found_taken, found_given, found_low}
use Rattle.instrument.proofs.Fitted.{slots_given, no_slots, slots_for_none}
use Rattle.instrument.proofs.roster.Roster.free_slots.Goals as goal

pub returns-then-count-eq0-clause-slot : goal.returns-then-count-eq0-clause-slot
returns-then-count-eq0-clause-slot c = sym (ap (found_in c.args.self.now.instruments) c.if-count-eq0.true ∙ slots_for_none _)

pub returns-in_err-slot-clause-slot : goal.returns-in_err-slot-clause-slot
returns-in_err-slot-clause-slot c =
    c.from_residual.ensures
    ∙ (sym (no_slots c.self.inside.slots c.self.inside.instruments.items c.self.invariant.slots c.args.count c.in_err-slot.ensures.no_room)
    ∙ ap (λ (r : RosterData). found_in r.instruments c.args.count) c.self.view_is)

pub give-requires-clause-taken : goal.give-requires-clause-taken
give-requires-clause-taken c =
    subst (λ (z : Rooms). IsTaken z c.in_ok-slot.slot c.args.count) (sym c.in_ok-slot.ensures.taken)
    (found_taken c.self.inside.slots c.self.inside.instruments.items c.in_ok-slot.slot c.args.count c.self.invariant.slots (grind (arith, common_steps, c.if-count-eq0.false)) c.in_ok-slot.ensures.lowest c.in_ok-slot.ensures.inside)

pub overflow_cast-result : goal.overflow_cast-result
overflow_cast-result c =
    let low = found_low c.self.inside.slots c.self.inside.instruments.items c.in_ok-slot.slot c.args.count c.self.invariant.slots c.in_ok-slot.ensures.inside.1 in
    omega (arith, low)

pub invariant_of-self-2 : goal.invariant_of-self-2
invariant_of-self-2 c = record {
  slots = subst (λ (z : Rooms). AreSlotsOf z c.self.inside.instruments.items) (sym (c.give.ensures ∙ ap (λ (z : Rooms). after_give z c.in_ok-slot.slot c.args.count) c.in_ok-slot.ensures.taken))
      (found_given c.self.inside.slots c.self.inside.instruments.items c.in_ok-slot.slot c.args.count c.self.invariant.slots (grind (arith, common_steps, c.if-count-eq0.false)) c.in_ok-slot.ensures.lowest c.in_ok-slot.ensures.inside);
  order = c.self.invariant.order;
  armable = c.self.invariant.armable;
  memory = c.self.invariant.memory;
}

pub returns-clause-slot : goal.returns-clause-slot
returns-clause-slot c =
    sym (slots_given c.self.inside.slots c.self.inside.instruments.items c.self.invariant.slots c.in_ok-slot.slot c.args.count c.in_ok-slot.ensures.lowest c.in_ok-slot.ensures.inside (grind (arith, common_steps, c.if-count-eq0.false)))
    ∙ ap (λ (r : RosterData). found_in r.instruments c.args.count) c.self.view_is

pub returns-clause-within : goal.returns-clause-within
returns-clause-within c = found_low c.self.inside.slots c.self.inside.instruments.items c.in_ok-slot.slot c.args.count c.self.invariant.slots c.in_ok-slot.ensures.inside.1
