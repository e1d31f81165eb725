-- What no item passes, no hypothesis among the items passes.
use Rattle.std.proofs.Common.{◌≡◌, ℕ, zero, suc, ◌&&◌, ◌||◌, Bool, true, false, Some, List, [], ◌∷◌, flat_map, refl, subst}
use Rattle.std.specs.Prelude.{slice_get}
use Rattle.std.specs.List.{list_any}
use Rattle.directives.specs.Laws.{hypothesis_in}
use Rattle.mdl_ast.specs.declared.items.Hypothesis.{Hypothesis}
use Rattle.mdl_ast.specs.declared.items.Item.{Item}
use Rattle.mdl_ast.specs.declared.items.Item.TheVariants as item

either_false : (a b : Bool) → (a || b) ≡ false → (a ≡ false) × (b ≡ false)
either_false true b e = absurd (cc)
either_false false b e = (refl, e)

pub both_true : (a b : Bool) → (a && b) ≡ false → a ≡ true → b ≡ false
both_true true b e f = e
both_true false b e f = absurd (cc)

module _ (test : Item → Bool) where
  pub untested : (items : List Item) (number : ℕ) (h : Hypothesis) → list_any test items ≡ false → slice_get (flat_map hypothesis_in items) number ≡ Some h → test (item.Hypothesis h) ≡ false
  untested [] number h none e = absurd (cc)
  untested (item.Hypothesis x ∷ items) zero h none e =
      let same : x ≡ h = cc in subst (λ (y : Hypothesis). test (item.Hypothesis y) ≡ false) same (either_false (test (item.Hypothesis x)) (list_any test items) none).0
  untested (item.Hypothesis x ∷ items) (suc number) h none e = untested items number h (either_false (test (item.Hypothesis x)) (list_any test items) none).1 e
  untested (item.Include i ∷ items) number h none e = untested items number h (either_false (test (item.Include i)) (list_any test items) none).1 e
  untested (item.Sync s ∷ items) number h none e = untested items number h (either_false (test (item.Sync s)) (list_any test items) none).1 e
  untested (item.Metric m ∷ items) number h none e = untested items number h (either_false (test (item.Metric m)) (list_any test items) none).1 e
  untested (item.Constraint c ∷ items) number h none e = untested items number h (either_false (test (item.Constraint c)) (list_any test items) none).1 e
  untested (item.Search s ∷ items) number h none e = untested items number h (either_false (test (item.Search s)) (list_any test items) none).1 e
  untested (item.Phase p ∷ items) number h none e = untested items number h (either_false (test (item.Phase p)) (list_any test items) none).1 e
  untested (item.Wish w ∷ items) number h none e = untested items number h (either_false (test (item.Wish w)) (list_any test items) none).1 e
