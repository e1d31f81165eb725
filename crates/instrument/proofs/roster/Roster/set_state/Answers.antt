use Rattle.std.proofs.Common.{rules, ◌∙◌, List, ap, map, refl, subst, sym}
use Rattle.std.proofs.lemmas.List.{with_items_is}
use Rattle.instrument.specs.Armable.{AreArmable}
use Rattle.instrument.specs.Listed.{AreInOrder}
use Rattle.instrument.specs.Placements.{with_state}
use Rattle.instrument.specs.Spaces.{AreSlotsOf}
use Rattle.instrument.specs.declared.instrument.Instrument.{Instrument}
use Rattle.instrument.proofs.Armable.{armable_map}
use Rattle.instrument.proofs.Listed.{order_map}
use Rattle.instrument.proofs.Slotted.{slots_map}
use Rattle.instrument.proofs.roster.Roster.set_state.Goals as goal

pub invariant_of-self : goal.invariant_of-self
invariant_of-self c =
    let n = c.args.number.n in
    let state = c.args.state in
    let items = c.self.inside.instruments.items in
    let same = ap (map (with_state n state)) (sym c.deref_mut.ensures.value) ∙ sym (with_items_is c.self.inside.instruments c.set_state.new.instruments (search rules) ∙ c.set_state.ensures) in
    record {
      slots = subst (λ (is : List Instrument). AreSlotsOf c.self.inside.slots is) same (slots_map c.self.inside.slots (with_state n state) items (λ i. refl) c.self.invariant.slots);
      order = subst AreInOrder same (order_map (with_state n state) items (λ i. refl) c.self.invariant.order);
      armable = subst AreArmable same (armable_map (with_state n state) items (λ i. refl) c.self.invariant.armable);
      memory = c.self.invariant.memory;
    }
