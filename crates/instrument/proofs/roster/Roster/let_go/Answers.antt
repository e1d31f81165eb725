use Rattle.std.proofs.Common.{◌∙◌, ◌<◌, ◌+◌, ◌++◌, List, ap, arith, drop, filter, length, subst, sym, take}
use Rattle.tool_space.specs.Rooms.{Rooms}
use Rattle.instrument.specs.Freed.{is_kept}
use Rattle.instrument.specs.Armable.{AreArmable}
use Rattle.instrument.specs.Listed.{AreInOrder}
use Rattle.instrument.specs.Spaces.{AreSlotsOf}
use Rattle.instrument.specs.declared.instrument.Instrument.{Instrument}
use Rattle.instrument.proofs.Armable.{armable_filter}
use Rattle.instrument.proofs.Holdings.{parted}
use Rattle.instrument.proofs.Listed.{order_filter}
use Rattle.instrument.proofs.Slotted.{may_go, slots_out}
use Rattle.instrument.proofs.roster.Roster.let_go.Goals as goal

pub give_slots-requires-clause-few : goal.give_slots-requires-clause-few
give_slots-requires-clause-few c =
    let within = subst (λ (is : List Instrument). c.in-Some.place < length is) c.deref.ensures.value c.in-Some.ensures.within in
    (may_go c.self.inside.slots c.self.inside.instruments.items c.in-Some.place c.index.result.now within c.index.ensures c.self.invariant.slots).0

pub give_slots-requires-clause-reserved : goal.give_slots-requires-clause-reserved
give_slots-requires-clause-reserved c =
    let within = subst (λ (is : List Instrument). c.in-Some.place < length is) c.deref.ensures.value c.in-Some.ensures.within in
    (may_go c.self.inside.slots c.self.inside.instruments.items c.in-Some.place c.index.result.now within c.index.ensures c.self.invariant.slots).1

pub give_slots-requires-clause-taken : goal.give_slots-requires-clause-taken
give_slots-requires-clause-taken c =
    let within = subst (λ (is : List Instrument). c.in-Some.place < length is) c.deref.ensures.value c.in-Some.ensures.within in
    (may_go c.self.inside.slots c.self.inside.instruments.items c.in-Some.place c.index.result.now within c.index.ensures c.self.invariant.slots).2

pub invariant_of-self : goal.invariant_of-self
invariant_of-self c =
    let k = c.self.invariant in
    let i = c.in-Some.place in
    let items = c.self.inside.instruments.items in
    let within = subst (λ (is : List Instrument). i < length is) c.deref.ensures.value c.in-Some.ensures.within in
    let e = c.remove.ensures in
    let left = ap (λ (is : List Instrument). take i is ++ drop (i + 1) is) (sym c.deref.ensures.value) ∙ (c.in-Some.ensures.some ∙ ap (filter (is_kept c.args.number.n)) c.deref.ensures.value) in
    let before = subst (λ (is : List Instrument). AreSlotsOf c.self.inside.slots is) (parted items i c.index.result.now within c.index.ensures) k.slots in
    let given = subst (λ (z : Rooms). AreSlotsOf z (take i items ++ drop (i + 1) items)) (sym c.give_slots.ensures) (slots_out c.self.inside.slots (take i items) (drop (i + 1) items) c.index.result.now before) in
    record {
      slots = subst (λ (is : List Instrument). AreSlotsOf c.give_slots.new.slots is) (sym e.by_index.2) given;
      order = subst AreInOrder (sym (e.by_index.2 ∙ left)) (order_filter (is_kept c.args.number.n) items k.order);
      armable = subst AreArmable (sym (e.by_index.2 ∙ left)) (armable_filter (is_kept c.args.number.n) items k.armable);
      memory = omega (arith, k.memory, e.len, e.capacity);
    }
