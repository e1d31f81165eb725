use Rattle.std.proofs.Common.{List, ℕ, None, Some, sym, ap, ◌∙◌, slice_get}
use Rattle.mdl_check.proofs.Lookups.{hypothesis_at}
use Rattle.mdl_check.proofs.index.Index.hypothesis_place.Goals as goal

pub returns-in_err-number : goal.returns-in_err-number
returns-in_err-number c =
    c.from_residual.ensures
    ∙ hypothesis_at c.args.name.now c.self.inside.all.now c.args.self.now c.self.inside.kept.now.hypotheses c.self.inside.kept.now.places.items None c.self.invariant.hypotheses_are c.self.invariant.places_are c.self.view_is (sym c.in_err-number.was ∙ c.lookup.ensures)

pub returns : goal.returns
returns c =
    c.place_at.ensures
    ∙ ap (λ (l : List ℕ). slice_get l c.in_ok-number.number) c.deref.ensures.value
    ∙ hypothesis_at c.args.name.now c.self.inside.all.now c.args.self.now c.self.inside.kept.now.hypotheses c.self.inside.kept.now.places.items (Some c.in_ok-number.number) c.self.invariant.hypotheses_are c.self.invariant.places_are c.self.view_is (sym c.in_ok-number.was ∙ c.lookup.ensures)
