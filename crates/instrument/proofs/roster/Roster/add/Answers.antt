use Rattle.std.proofs.Common.{◌∙◌, ◌∷◌, [], ◌++◌, ◌≡◌, List, ap, sym, subst, arith, Some}
use Rattle.std.proofs.lemmas.Grind.{common_steps}
use Rattle.instrument.specs.Armable.{AreArmable}
use Rattle.instrument.specs.Listed.{AreInOrder, AreNumberedBelow}
use Rattle.instrument.specs.Rosters.{RosterData}
use Rattle.instrument.specs.Admission.{slot_count}
use Rattle.instrument.specs.Spaces.{AreSlotsOf, slots_of}
use Rattle.instrument.specs.declared.instrument.Instrument.{Instrument}
use Rattle.instrument.specs.declared.roster.Roster.TheInside.{Inside}
use Rattle.instrument.proofs.Added.{found_in, slots_added, none_added}
use Rattle.instrument.proofs.Armable.{armable_added}
use Rattle.instrument.proofs.Listed.{order_added}
use Rattle.instrument.proofs.roster.Roster.add.Goals as goal
use Rattle.instrument.proofs.roster.Roster.add.Goals.{then-count-gt0, else-count-gt0}

pub invariant_of-self : goal.invariant_of-self
invariant_of-self c =
    let free = subst (λ (r : RosterData). found_in r.instruments (slot_count c.args.instrument.placed.vars) ≡ Some (slots_of c.args.instrument).at) (sym c.self.view_is) c.requires.free in
    let count = c.slot_count-count.ensures ∙ ap slot_count c.as_slice.ensures in
    let above = subst (λ (r : RosterData). AreNumberedBelow c.args.instrument.no r.instruments) (sym c.self.view_is) c.requires.number in
    let order = order_added c.self.inside.instruments.items c.args.instrument c.self.invariant.order above in
    let armable = armable_added c.self.inside.instruments.items c.args.instrument c.self.invariant.armable c.requires.armable in
    record {
      slots = elim c.if-count-gt0.branch [
        | then-count-gt0 w ↦
            let is = c.self.inside.instruments.items in
            subst (λ (xs : List Instrument). AreSlotsOf c.if-count-gt0.self-inside.slots xs) (sym (c.push_reserved.ensures.items ∙ ap (λ (r : Inside). r.instruments.items ++ c.args.instrument ∷ []) w.self-inside-is))
            (subst (λ (r : Inside). AreSlotsOf r.slots (is ++ c.args.instrument ∷ [])) (sym w.self-inside-is)
            (slots_added c.self.inside.slots w.take.new.self is c.args.instrument w.take.result c.slot_count-count.result c.self.invariant.slots c.requires.row count w.if-count-gt0.true free
            w.take.ensures.no_room w.take.ensures.lowest w.take.ensures.inside w.take.ensures.taken))
        | else-count-gt0 w ↦
            let none : slot_count c.args.instrument.placed.vars ≡ 0 = omega (arith, count, w.if-count-gt0.false) in
            subst (λ (xs : List Instrument). AreSlotsOf c.if-count-gt0.self-inside.slots xs) (sym (c.push_reserved.ensures.items ∙ ap (λ (r : Inside). r.instruments.items ++ c.args.instrument ∷ []) w.self-inside-is))
            (subst (λ (r : Inside). AreSlotsOf r.slots (c.self.inside.instruments.items ++ c.args.instrument ∷ [])) (sym w.self-inside-is)
            (none_added c.self.inside.slots c.self.inside.instruments.items c.args.instrument c.self.invariant.slots c.requires.row none free))
      ];
      order = elim c.if-count-gt0.branch [
        | then-count-gt0 w ↦ subst AreInOrder (sym (c.push_reserved.ensures.items ∙ ap (λ (r : Inside). r.instruments.items ++ c.args.instrument ∷ []) w.self-inside-is)) order
        | else-count-gt0 w ↦ subst AreInOrder (sym (c.push_reserved.ensures.items ∙ ap (λ (r : Inside). r.instruments.items ++ c.args.instrument ∷ []) w.self-inside-is)) order
      ];
      armable = elim c.if-count-gt0.branch [
        | then-count-gt0 w ↦ subst AreArmable (sym (c.push_reserved.ensures.items ∙ ap (λ (r : Inside). r.instruments.items ++ c.args.instrument ∷ []) w.self-inside-is)) armable
        | else-count-gt0 w ↦ subst AreArmable (sym (c.push_reserved.ensures.items ∙ ap (λ (r : Inside). r.instruments.items ++ c.args.instrument ∷ []) w.self-inside-is)) armable
      ];
      memory = elim c.if-count-gt0.branch [
        | then-count-gt0 w ↦ grind (arith, common_steps)
        | else-count-gt0 w ↦ grind (arith, common_steps)
      ];
    }
