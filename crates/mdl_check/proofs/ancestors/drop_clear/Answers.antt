use Rattle.std.proofs.Common.{◌≡◌, ◌++◌, ◌∷◌, [], ◌-◌, List, ℕ, Option, Some, length, slice_get, sym, ap, subst, ◌∙◌, arith}
use Rattle.std.specs.Prelude.{option_to_list, slice_index_or}
use Rattle.std.proofs.lemmas.Option.{get_or_from_slice_get, slice_get_within}
use Rattle.mdl_check.specs.Ancestry.{KeepsOthers}
use Rattle.mdl_check.proofs.Clearing.{keeps_all, drops_last}
use Rattle.mdl_check.proofs.ancestors.drop_clear.Goals as goal

pub loop-child-init : goal.loop-child-init
loop-child-init c = keeps_all c.args.clear.now c.args.children.now.items

pub loop-child-preserved : goal.loop-child-preserved
loop-child-preserved c =
    let items = c.loop-child.children.items in
    let child = c.in-Some.child.now in
    let last : slice_get items (length items - 1) ≡ Some child = sym (c.in-Some.ensures.value ∙ ap (λ (l : List ℕ). slice_get l (length l - 1)) c.deref.ensures.value) in
    let popped : c.pop.result ≡ Some child =
    c.pop.ensures.value child (omega (arith, slice_get_within items (length items - 1) child last, c.deref.ensures.len, ap length c.deref.ensures.value))
    ∙ ap Some (ap (λ (i : ℕ). slice_index_or items i child) (omega (arith, c.deref.ensures.len, ap length c.deref.ensures.value)) ∙ get_or_from_slice_get items (length items - 1) child child last) in
    let whole : items ≡ c.pop.new.self.items ++ child ∷ [] = c.pop.ensures.items ∙ ap (λ (o : Option ℕ). c.pop.new.self.items ++ option_to_list o) popped in
    drops_last c.args.clear.now c.args.children.now.items c.pop.new.self.items child (subst (KeepsOthers c.args.clear.now c.args.children.now.items) whole c.loop-child.invariant) (sym c.is_clear.ensures ∙ c.if-is_clear.true)
