use Rattle.std.proofs.Common.{List, take, sym, ap, ◌∙◌, subst, ◌++◌, ◌∷◌, []}
use Rattle.std.proofs.lemmas.List.{take_more}
use Rattle.rv_exec.specs.declared.flat.Flat.{Flat}
use Rattle.tramp_spec.specs.declared.mark.MarkedWord.{MarkedWord}
use Rattle.code_store.specs.Operations.{AreFlatsOf}
use Rattle.code_store.proofs.Flats.{flats_more}
use Rattle.code_store.proofs.building.flats_of.Goals as goal

pub loop-slot-preserved : goal.loop-slot-preserved
loop-slot-preserved c =
    let i = c.loop-slot.slot-index in
    let w = c.slot-item.result in
    let taken = take_more c.args.slots.now i w c.loop-slot-test.true ∙ ap (λ v. take i c.args.slots.now ++ v ∷ []) (sym c.slot-item.is) in
    subst (λ (ws : List MarkedWord). AreFlatsOf ws c.push.new.self.items) (sym taken)
    (subst (λ (flats : List Flat). AreFlatsOf (take i c.args.slots.now ++ w ∷ []) flats) (sym c.in_ok-push.ensures.items)
    (flats_more (take i c.args.slots.now) c.loop-slot.flats.items w c.flat.result c.loop-slot.invariant c.flat.ensures))
