-- What was pruned is gone, with all that has it as an ancestor.
use Rattle.std.proofs.Common.{◌≡◌, ℕ, zero, suc, ◌+◌, ◌≤◌, ◌||◌, ◌&&◌, not, cond, Bool, true, false, Option, Some, None, List, [], ◌∷◌, length, bytes_eq, Ok, refl, sym, ap, ◌∙◌, subst, arith}
use Rattle.std.specs.List.{list_any, filter}
use Rattle.std.proofs.lemmas.Bool.{or_parts}
use Rattle.mdl_ast.specs.declared.items.Item.{Item}
use Rattle.mdl_ast.specs.declared.items.Item.TheVariants.{Include, Sync, Metric, Constraint, Hypothesis, Search, Phase, Wish}
use Rattle.mdl_ast.specs.declared.items.Hypothesis.{Hypothesis as TheHypothesis}
use Rattle.resource_tree.specs.Resources.{Resources}
use Rattle.directives.specs.Hypotheses.{is_named, has_hypothesis}
use Rattle.directives.specs.Acts.{is_under, pruned, without_axis, with_threshold, items_after_act, directed, expanded, applied}
use Rattle.directives.specs.Applying.{IsAccepted}
use Rattle.directives.specs.Laws.{is_prune, is_parent, is_child, IsAncestor, Parent, Higher, PrunedIsGone}
use Rattle.directives.specs.declared.directive.Directive.{Directive}
use Rattle.directives.specs.declared.directive.DirectiveAct.{DirectiveAct}
use Rattle.directives.specs.declared.directive.DirectiveAct.TheVariants.{Prune, PruneAxis, Threshold, First}
use Rattle.directives.proofs.Stripped.{or_none, none_counted, tally, stripped, lift, named, misses, is_lost, has_parent, is_pair, any_stripped}
use Rattle.directives.proofs.Ancestors.{under_itself}
use Rattle.directives.proofs.Cycles.{same_name, parent_of_pair}
use Rattle.directives.proofs.Kept.{stands_named, change_none}
use Rattle.directives.proofs.Runs.{none_pruned, none_first, stays, in_the_end}
use Rattle.directives.proofs.Accepting.{once_before, homes_after}

abbrev Nobody : (TheHypothesis → Bool) → List Item → Type 0
Nobody q items = list_any q (stripped items) ≡ false

-- ---- a pruned name

none_named : (items : List Item) (n : ℕ) (name : List ℕ) (xs : List Item) → list_any (is_named name) (filter (λ x. not (is_under items n name x)) xs) ≡ false
none_named items n name [] = refl
none_named items n name (x ∷ xs) = by (is_named name x) refl (is_under items n name x) refl (none_named items n name xs)
  where
    by : (b : Bool) → is_named name x ≡ b → (w : Bool) → is_under items n name x ≡ w → list_any (is_named name) (filter (λ x. not (is_under items n name x)) xs) ≡ false →
        list_any (is_named name) (cond (not w) (x ∷ filter (λ x. not (is_under items n name x)) xs) (filter (λ x. not (is_under items n name x)) xs)) ≡ false
    by b e true f h = h
    by true e false f h = let g = sym f ∙ under_itself items n name x e in absurd cc
    by false e false f h = or_none (is_named name x) (list_any (is_named name) (filter (λ x. not (is_under items n name x)) xs)) e h

prune_makes : (name : List ℕ) (items : List Item) → Nobody (named name) (pruned name items)
unfolding pruned
prune_makes name items = sym (stands_named name (filter (λ x. not (is_under items (length items) name x)) items)) ∙ none_named items (length items) name items

makes : (name : List ℕ) (act : DirectiveAct) (items : List Item) → is_prune name act ≡ true → Nobody (named name) (items_after_act act items)
makes name (Prune other) items e = subst (λ (n : List ℕ). Nobody (named name) (pruned n items)) (same_name name other e) (prune_makes name items)
makes name (PruneAxis other axis) items e = absurd cc
makes name (Threshold other threshold) items e = absurd cc
makes name (First other) items e = absurd cc

-- a test of names and parents alone
abbrev is_stray : List ℕ → List ℕ → TheHypothesis → Bool
is_stray b p h = bytes_eq b h.name && not (has_parent p h.parent)

keeps_named : (name : List ℕ) (act : DirectiveAct) (items : List Item) → Nobody (named name) items → Nobody (named name) (items_after_act act items)
keeps_named name (Prune other) items h = none_pruned (named name) other items h
keeps_named name (PruneAxis other axis) items h = change_none other (without_axis axis) (named name) (λ x t k. k) items h
keeps_named name (Threshold other threshold) items h = change_none other (with_threshold threshold) (named name) (λ x t k. k) items h
keeps_named name (First other) items h = none_first (named name) other items h

keeps_stray : (b p : List ℕ) (act : DirectiveAct) (items : List Item) → Nobody (is_stray b p) items → Nobody (is_stray b p) (items_after_act act items)
keeps_stray b p (Prune other) items h = none_pruned (is_stray b p) other items h
keeps_stray b p (PruneAxis other axis) items h = change_none other (without_axis axis) (is_stray b p) (λ x t k. k) items h
keeps_stray b p (Threshold other threshold) items h = change_none other (with_threshold threshold) (is_stray b p) (λ x t k. k) items h
keeps_stray b p (First other) items h = none_first (is_stray b p) other items h

-- ---- the parent of what stands stands

child_lift : (b p : List ℕ) (item : Item) → is_child b p item ≡ lift (is_pair b p) item
child_lift b p (Include i) = refl
child_lift b p (Sync s) = refl
child_lift b p (Metric m) = refl
child_lift b p (Constraint c) = refl
child_lift b p (Hypothesis h) = by h.parent
  where
    by : (o : Option (List ℕ)) → (bytes_eq b h.name && is_parent p o) ≡ (bytes_eq b h.name && has_parent p o)
    by None = refl
    by (Some own) = refl
child_lift b p (Search s) = refl
child_lift b p (Phase f) = refl
child_lift b p (Wish w) = refl

child_is : (b p : List ℕ) (items : List Item) → list_any (is_child b p) items ≡ list_any (is_pair b p) (stripped items)
child_is b p items = ap (λ (t : Item → Bool). list_any t items) (λ i item. child_lift b p item i) ∙ sym (any_stripped (is_pair b p) items)

split : (b p : List ℕ) (hs : List TheHypothesis) → tally (named b) hs ≡ tally (is_stray b p) hs + tally (is_pair b p) hs
split b p [] = refl
split b p (h ∷ hs) = by (bytes_eq b h.name) (has_parent p h.parent) (split b p hs)
  where
    by : (c d : Bool) → tally (named b) hs ≡ tally (is_stray b p) hs + tally (is_pair b p) hs → cond c 1 0 + tally (named b) hs ≡ (cond (c && not d) 1 0 + tally (is_stray b p) hs) + (cond (c && d) 1 0 + tally (is_pair b p) hs)
    by true true e = omega arith
    by true false e = omega arith
    by false d e = omega arith

counted : (q : TheHypothesis → Bool) (hs : List TheHypothesis) → list_any q hs ≡ true → 1 ≤ tally q hs
counted q hs h = by (tally q hs) refl
  where
    by : (n : ℕ) → tally q hs ≡ n → 1 ≤ tally q hs
    by zero e = let g = sym (none_counted q hs e) ∙ h in absurd cc
    by (suc n) e = omega arith

no_stray : (b p : List ℕ) (items : List Item) → tally (named b) (stripped items) ≤ 1 → list_any (is_child b p) items ≡ true → Nobody (is_stray b p) items
no_stray b p items once h =
    none_counted (is_stray b p) (stripped items) (omega (arith, once, split b p (stripped items), counted (is_pair b p) (stripped items) (sym (child_is b p items) ∙ h)))

home_of : (b p : List ℕ) (all hs : List TheHypothesis) → list_any (named b) hs ≡ true → list_any (is_stray b p) hs ≡ false → list_any (is_lost all) hs ≡ false → list_any (named p) all ≡ true
home_of b p all [] n s l = absurd cc
home_of b p all (h ∷ hs) n s l =
    let u = or_parts (is_stray b p h) (list_any (is_stray b p) hs) s in
    let v = or_parts (is_lost all h) (list_any (is_lost all) hs) l in
    by (bytes_eq b h.name) (has_parent p h.parent) refl refl n u.0 v.0 (λ k. home_of b p all hs k u.1 v.1)
  where
    by : (c d : Bool) → bytes_eq b h.name ≡ c → has_parent p h.parent ≡ d → (c || list_any (named b) hs) ≡ true → is_stray b p h ≡ false → is_lost all h ≡ false → (list_any (named b) hs ≡ true → list_any (named p) all ≡ true) → list_any (named p) all ≡ true
    by true true e f n s l more = yes (list_any (named p) all) (sym (ap (misses all) (parent_of_pair p h.parent f)) ∙ l)
      where
        yes : (c : Bool) → not c ≡ false → c ≡ true
        yes true e = refl
        yes false e = absurd cc
    by true false e f n s l more = let g = sym (ap (λ (c : Bool). c && not (has_parent p h.parent)) e ∙ ap not f) ∙ s in absurd cc
    by false d e f n s l more = more n

module _ (t : Resources) (shipped items new : List Item) (ds : List Directive) (a : IsAccepted t shipped items) (e : applied shipped items ds ≡ Ok new) where
  run : directed ds (expanded shipped items) ≡ Ok new
  unfolding applied
  run = e

  parent_stands : (b p : List ℕ) → list_any (is_child b p) (expanded shipped items) ≡ true → has_hypothesis b new ≡ true → has_hypothesis p new ≡ true
  parent_stands b p c s =
      let stray : Nobody (is_stray b p) new = stays (Nobody (is_stray b p)) (λ _. false) (λ act items x. absurd cc) (keeps_stray b p) ds (expanded shipped items) new (no_stray b p (expanded shipped items) (once_before t shipped items a b) c) run in
      stands_named p new ∙ home_of b p (stripped new) (stripped new) (sym (stands_named b new) ∙ s) stray (homes_after t shipped items ds new a e)

  ancestor_stands : (ancestor b : List ℕ) → IsAncestor (expanded shipped items) ancestor b → has_hypothesis b new ≡ true → has_hypothesis ancestor new ≡ true
  ancestor_stands ancestor b (Parent name c) s = parent_stands b ancestor c s
  ancestor_stands ancestor b (Higher name parent c higher) s = ancestor_stands ancestor parent higher (parent_stands b parent c s)

pub pruned_is_gone : PrunedIsGone
pruned_is_gone t shipped items new ds name a e d = (gone, λ b up. by b up (has_hypothesis b new) refl)
  where
    gone : has_hypothesis name new ≡ false
    gone = stands_named name new ∙ in_the_end (Nobody (named name)) (is_prune name) (makes name) (keeps_named name) ds (expanded shipped items) new d (run t shipped items new ds a e)

    by : (b : List ℕ) → IsAncestor (expanded shipped items) name b → (c : Bool) → has_hypothesis b new ≡ c → has_hypothesis b new ≡ false
    by b up false s = s
    by b up true s = let g = sym (ancestor_stands t shipped items new ds a e name b up s) ∙ gone in absurd cc
