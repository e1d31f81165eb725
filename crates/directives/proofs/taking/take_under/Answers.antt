use Rattle.std.proofs.Common.{◌≡◌, ℕ, ◌++◌, ◌∷◌, [], List, length, sym, ap, ◌∙◌, subst, arith}
use Rattle.std.proofs.lemmas.List.{length-append}
use Rattle.mdl_ast.specs.declared.items.Item.{Item}
use Rattle.directives.specs.Standing.{under, items_in_slots, items_left, count, children_of}
use Rattle.directives.proofs.Slots.{Slots, none_there, left_again, count_left}
use Rattle.directives.proofs.Pruning.{IsTaking, at_first, then_children, all_pruned}
use Rattle.directives.proofs.taking.take_under.Goals as goal

pub loop-parent-init : goal.loop-parent-init
loop-parent-init c =
    let start = c.args.slots.now in
    let places : List ℕ = under c.args.named.now c.args.name.now in
    let slots = c.in_ok-take_items.ensures.slots ∙ ap (λ (ks : List ℕ). items_left ks start) c.under.ensures in
    let out = c.in_ok-take_items.ensures.out ∙ ap (λ (xs : List Item). xs ++ items_in_slots c.under.result.now start) c.new-parents.ensures.items ∙ ap (λ (ks : List ℕ). items_in_slots ks start) c.under.ensures in
    record {
      rest = c.take_items.ensures.left;
      taking = λ moved. subst (λ (xs : List Item). IsTaking start moved c.args.name.now c.take_items.new.slots xs) (sym out)
          (subst (λ (s : Slots). IsTaking start moved c.args.name.now s (items_in_slots places start)) (sym slots)
          (at_first start (under c.args.named.now) (under c.args.children.now) c.requires moved c.args.name.now));
    }

pub loop-parent-smaller : goal.loop-parent-smaller
loop-parent-smaller c =
    let before = c.loop-parent.slots in
    let ks = c.children_of.result.now in
    omega (
      arith,
      ap count c.in_ok-taken.ensures.slots,
      ap length c.in_ok-taken.ensures.out,
      length-append c.pop.new.self.items (items_in_slots ks before),
      count_left ks before,
      ap length c.in-Some.ensures.items,
      length-append c.pop.new.self.items (c.in-Some.parent ∷ []),
    )

pub loop-parent-preserved : goal.loop-parent-preserved
loop-parent-preserved c =
    let start = c.args.slots.now in
    let before = c.loop-parent.slots in
    let behind = c.pop.new.self.items in
    let ks : List ℕ = children_of (under c.args.children.now) c.in-Some.parent in
    let slots = c.in_ok-taken.ensures.slots ∙ ap (λ (l : List ℕ). items_left l before) c.children_of.ensures in
    let out = c.in_ok-taken.ensures.out ∙ ap (λ (l : List ℕ). behind ++ items_in_slots l before) c.children_of.ensures in
    record {
      rest = left_again start before c.take_items-taken.new.slots c.loop-parent.invariant.rest c.take_items-taken.ensures.left;
      taking = λ moved. subst (λ (xs : List Item). IsTaking start moved c.args.name.now c.take_items-taken.new.slots xs) (sym out)
          (subst (λ (s : Slots). IsTaking start moved c.args.name.now s (behind ++ items_in_slots ks before)) (sym slots)
          (then_children start (under c.args.named.now) (under c.args.children.now) c.requires moved c.args.name.now before behind c.in-Some.parent
          (subst (λ (xs : List Item). IsTaking start moved c.args.name.now before xs) c.in-Some.ensures.items (c.loop-parent.invariant.taking moved))));
    }

pub returns-clause-pruned : goal.returns-clause-pruned
returns-clause-pruned c moved there =
    let start = c.args.slots.now in
    let slots = c.loop-parent.slots in
    let none : c.loop-parent.parents.items ≡ [] = none_there c.loop-parent.parents.items (omega (arith, c.in_default.ensures.cases, c.loop-parent.parents.ok.0)) in
    all_pruned start (under c.args.named.now) (under c.args.children.now) c.requires moved c.args.name.now slots
    (subst (λ (xs : List Item). IsTaking start moved c.args.name.now slots xs) none (c.loop-parent.invariant.taking moved)) there (omega arith)
