use Rattle.std.proofs.Common.{◌≡◌, ◌+◌, List, ℕ, Option, length, map, sym, ap, subst, ◌∙◌}
use Rattle.std.proofs.lemmas.List.{length-map}
use Rattle.mdl_check.specs.Ancestry.{HaveChildren, noted}
use Rattle.mdl_check.specs.Rules.{parent_at}
use Rattle.mdl_check.proofs.Clearing.{one_more_child, noted_many}
use Rattle.mdl_check.proofs.ancestors.children_of.Goals as goal

pub loop-place-preserved : goal.loop-place-preserved
loop-place-preserved c =
    let parents = c.args.parents.now in
    let place = c.loop-place.place in
    let old : List (List ℕ) = map (λ l. l.items) c.loop-place.children.items in
    let new : map (λ l. l.items) c.note.new.children.items ≡ noted (parent_at parents place) place old =
    c.in_ok-note.ensures ∙ ap (λ (o : Option ℕ). noted o place old) c.parent_at.ensures in
    record {
      many = sym (length-map c.note.new.children.items (λ l. l.items)) ∙ ap length new ∙ noted_many (parent_at parents place) place old ∙ length-map c.loop-place.children.items (λ l. l.items) ∙ c.loop-place.invariant.many;
      children = subst (HaveChildren (place + 1) parents) (sym new) (one_more_child parents old place c.loop-place.invariant.children);
    }
