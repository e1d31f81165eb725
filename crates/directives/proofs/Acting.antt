-- Directives keep hypotheses fine, and change no other item.
use Rattle.std.proofs.Common.{◌≡◌, ℕ, ◌+◌, ◌≤◌, ◌&&◌, not, cond, Bool, true, false, Option, Some, None, List, [], ◌∷◌, ◌++◌, length, map, flat_map, bytes_eq, refl, sym, ap, ◌∙◌, subst, arith}
use Rattle.std.specs.List.{list_any, list_all, filter}
use Rattle.std.proofs.lemmas.Grind.{flat_map-append}
use Rattle.mdl_ast.specs.declared.items.Item.{Item}
use Rattle.mdl_ast.specs.declared.items.Item.TheVariants.{Include, Sync, Metric, Constraint, Hypothesis, Search, Phase, Wish}
use Rattle.mdl_ast.specs.declared.items.Hypothesis.{Hypothesis as TheHypothesis}
use Rattle.mdl_check.specs.Placed.{Entry}
use Rattle.mdl_check.specs.Rules.{is_axis}
use Rattle.directives.specs.Hypotheses.{is_named}
use Rattle.directives.specs.Acts.{is_under, pruned, with_hypothesis, without_axis, with_threshold, with_first, items_after_act}
use Rattle.directives.specs.declared.directive.DirectiveAct.{DirectiveAct}
use Rattle.directives.specs.declared.directive.DirectiveAct.TheVariants.{Prune, PruneAxis, Threshold, First}
use Rattle.directives.proofs.Stripped.{tally, strip, stripped, named, misses, is_lost, Fine}
use Rattle.directives.proofs.FineItems.{tally_append}
use Rattle.directives.proofs.Cycles.{and_both}
use Rattle.directives.proofs.Kept.{fine_part, part_few, part_pruned, rounds_done, Homeless, orphans_lost, same_any, fine_changed, changed_few}
use Rattle.directives.proofs.Settling.{pruned_in_rounds}
use Rattle.directives.proofs.Ancestry.{rounds_pruned}

-- ---- first

tally_parts : (p : Item → Bool) (q : TheHypothesis → Bool) (xs : List Item) → tally q (stripped (filter p xs)) + tally q (stripped (filter (λ x. not (p x)) xs)) ≡ tally q (stripped xs)
tally_parts p q [] = omega arith
tally_parts p q (x ∷ xs) = by (p x) (tally_parts p q xs)
  where
    more : (ys : List Item) → tally q (stripped (x ∷ ys)) ≡ tally q (strip x) + tally q (stripped ys)
    more ys = tally_append q (strip x) (stripped ys)

    by : (b : Bool) → tally q (stripped (filter p xs)) + tally q (stripped (filter (λ x. not (p x)) xs)) ≡ tally q (stripped xs) →
        tally q (stripped (cond b (x ∷ filter p xs) (filter p xs))) + tally q (stripped (cond (not b) (x ∷ filter (λ x. not (p x)) xs) (filter (λ x. not (p x)) xs))) ≡ tally q (stripped (x ∷ xs))
    by true h = omega (arith, h, more xs, more (filter p xs))
    by false h = omega (arith, h, more xs, more (filter (λ x. not (p x)) xs))

pub tally_first : (name : List ℕ) (xs : List Item) (q : TheHypothesis → Bool) → tally q (stripped (with_first name xs)) ≡ tally q (stripped xs)
unfolding with_first
tally_first name xs q =
    let named : List Item = filter (is_named name) xs in
    let others : List Item = filter (λ x. not (is_named name x)) xs in
    ap (tally q) (flat_map-append strip named others) ∙ tally_append q (stripped named) (stripped others) ∙ tally_parts (is_named name) q xs

missing_first : (name : List ℕ) (xs : List Item) (parent : Option (List ℕ)) → misses (stripped (with_first name xs)) parent ≡ misses (stripped xs) parent
missing_first name xs None = refl
missing_first name xs (Some p) = ap not (same_any (named p) (stripped (with_first name xs)) (stripped xs) (tally_first name xs (named p)))

lost_first : (name : List ℕ) (xs : List Item) → list_any (is_lost (stripped xs)) (stripped xs) ≡ false → list_any (is_lost (stripped (with_first name xs))) (stripped (with_first name xs)) ≡ false
lost_first name xs h =
    let missing : misses (stripped (with_first name xs)) ≡ misses (stripped xs) = λ i parent. missing_first name xs parent i in
    ap (λ (m : Option (List ℕ) → Bool). list_any (λ x. m x.parent) (stripped (with_first name xs))) missing
    ∙ same_any (is_lost (stripped xs)) (stripped (with_first name xs)) (stripped xs) (tally_first name xs (is_lost (stripped xs))) ∙ h

-- ---- an act

axes_stay : (axis : List ℕ) (axes : List (List ℕ)) → not (list_all is_axis axes) ≡ false → not (list_all is_axis (filter (λ other. not (bytes_eq axis other)) axes)) ≡ false
axes_stay axis axes h = ap not (kept axes (yes (list_all is_axis axes) h))
  where
    yes : (b : Bool) → not b ≡ false → b ≡ true
    yes true e = refl
    yes false e = absurd cc

    kept : (axes : List (List ℕ)) → list_all is_axis axes ≡ true → list_all is_axis (filter (λ other. not (bytes_eq axis other)) axes) ≡ true
    kept [] e = refl
    kept (a ∷ more) e = let k = and_both (is_axis a) (list_all is_axis more) e in one (not (bytes_eq axis a)) a (filter (λ other. not (bytes_eq axis other)) more) k.0 (kept more k.1)
      where
        one : (b : Bool) (a : List ℕ) (rest : List (List ℕ)) → is_axis a ≡ true → list_all is_axis rest ≡ true → list_all is_axis (cond b (a ∷ rest) rest) ≡ true
        one true a rest p q = ap (λ (c : Bool). c && list_all is_axis rest) p ∙ q
        one false a rest p q = q

-- names stand once and each has its parent, so rounds prune alike
rounds_fine : (o : List Entry) (n : ℕ) (name : List ℕ) (items : List Item) → Fine o n (stripped items) → pruned_in_rounds name items ≡ pruned name items
rounds_fine o n name items f = rounds_pruned name items f.once (orphans_lost items ∙ f.parents)

pub fine_acted : (o : List Entry) (n : ℕ) (act : DirectiveAct) (items : List Item) → Fine o n (stripped items) → Fine o n (stripped (items_after_act act items))
fine_acted o n (Prune name) items f = fine_part o n (stripped (pruned name items)) (stripped items) (part_pruned name items) (sym (orphans_lost (pruned name items)) ∙ subst Homeless (rounds_fine o n name items f) (rounds_done name items)) f
fine_acted o n (PruneAxis name axis) items f = fine_changed name (without_axis axis) o n items (λ h. refl) (λ h. refl) (λ h. refl) (λ h k. axes_stay axis h.axes k) f
fine_acted o n (Threshold name threshold) items f = fine_changed name (with_threshold threshold) o n items (λ h. refl) (λ h. refl) (λ h. refl) (λ h k. k) f
fine_acted o n (First name) items f =
    fine_part o n (stripped (with_first name items)) (stripped items) (λ q. omega (arith, tally_first name items q)) (lost_first name items f.parents) f

pub few_acted : (act : DirectiveAct) (items : List Item) → length (stripped (items_after_act act items)) ≤ length (stripped items)
few_acted (Prune name) items = part_few (stripped (pruned name items)) (stripped items) (part_pruned name items)
few_acted (PruneAxis name axis) items = changed_few name (without_axis axis) items
few_acted (Threshold name threshold) items = changed_few name (with_threshold threshold) items
few_acted (First name) items = part_few (stripped (with_first name items)) (stripped items) (λ q. omega (arith, tally_first name items q))

-- ---- what shows no hypothesis stays

module _ {B : Type 0} (f : Item → List B) (hyp : (h : TheHypothesis) → f (Hypothesis h) ≡ []) where
  hidden_filter : (p : Item → Bool) → ((x : Item) → p x ≡ false → f x ≡ []) → (xs : List Item) → flat_map f (filter p xs) ≡ flat_map f xs
  hidden_filter p h [] = refl
  hidden_filter p h (x ∷ xs) = by (p x) refl (hidden_filter p h xs)
    where
      by : (b : Bool) → p x ≡ b → flat_map f (filter p xs) ≡ flat_map f xs → flat_map f (cond b (x ∷ filter p xs) (filter p xs)) ≡ f x ++ flat_map f xs
      by true e k = ap (λ (l : List B). f x ++ l) k
      by false e k = k ∙ sym (ap (λ (l : List B). l ++ flat_map f xs) (h x e))

  no_name : (name : List ℕ) (x : Item) → not (is_named name x) ≡ false → f x ≡ []
  no_name name (Include i) e = absurd cc
  no_name name (Sync s) e = absurd cc
  no_name name (Metric m) e = absurd cc
  no_name name (Constraint c) e = absurd cc
  no_name name (Hypothesis h) e = hyp h
  no_name name (Search s) e = absurd cc
  no_name name (Phase p) e = absurd cc
  no_name name (Wish w) e = absurd cc

  not_under : (items : List Item) (n : ℕ) (name : List ℕ) (x : Item) → not (is_under items n name x) ≡ false → f x ≡ []
  not_under items n name (Include i) e = absurd cc
  not_under items n name (Sync s) e = absurd cc
  not_under items n name (Metric m) e = absurd cc
  not_under items n name (Constraint c) e = absurd cc
  not_under items n name (Hypothesis h) e = hyp h
  not_under items n name (Search s) e = absurd cc
  not_under items n name (Phase p) e = absurd cc
  not_under items n name (Wish w) e = absurd cc

  hidden_pruned : (name : List ℕ) (xs : List Item) → flat_map f (pruned name xs) ≡ flat_map f xs
  unfolding pruned
  hidden_pruned name xs = hidden_filter (λ item. not (is_under xs (length xs) name item)) (not_under xs (length xs) name) xs

  hidden_change : (name : List ℕ) (change : TheHypothesis → TheHypothesis) (xs : List Item) → flat_map f (map (with_hypothesis name change) xs) ≡ flat_map f xs
  hidden_change name change [] = refl
  hidden_change name change (Include i ∷ xs) = ap (λ (l : List B). f (Include i) ++ l) (hidden_change name change xs)
  hidden_change name change (Sync s ∷ xs) = ap (λ (l : List B). f (Sync s) ++ l) (hidden_change name change xs)
  hidden_change name change (Metric m ∷ xs) = ap (λ (l : List B). f (Metric m) ++ l) (hidden_change name change xs)
  hidden_change name change (Constraint c ∷ xs) = ap (λ (l : List B). f (Constraint c) ++ l) (hidden_change name change xs)
  hidden_change name change (Hypothesis x ∷ xs) = by (bytes_eq name x.name) (hidden_change name change xs)
    where
      by : (b : Bool) → flat_map f (map (with_hypothesis name change) xs) ≡ flat_map f xs → f (cond b (Hypothesis (change x)) (Hypothesis x)) ++ flat_map f (map (with_hypothesis name change) xs) ≡ f (Hypothesis x) ++ flat_map f xs
      by true k = ap (λ (l : List B). l ++ flat_map f (map (with_hypothesis name change) xs)) (hyp (change x) ∙ sym (hyp x)) ∙ ap (λ (l : List B). f (Hypothesis x) ++ l) k
      by false k = ap (λ (l : List B). f (Hypothesis x) ++ l) k
  hidden_change name change (Search s ∷ xs) = ap (λ (l : List B). f (Search s) ++ l) (hidden_change name change xs)
  hidden_change name change (Phase p ∷ xs) = ap (λ (l : List B). f (Phase p) ++ l) (hidden_change name change xs)
  hidden_change name change (Wish w ∷ xs) = ap (λ (l : List B). f (Wish w) ++ l) (hidden_change name change xs)

  shows_none : (p : Item → Bool) → ((x : Item) → p x ≡ true → f x ≡ []) → (xs : List Item) → flat_map f (filter p xs) ≡ []
  shows_none p h [] = refl
  shows_none p h (x ∷ xs) = by (p x) refl (shows_none p h xs)
    where
      by : (b : Bool) → p x ≡ b → flat_map f (filter p xs) ≡ [] → flat_map f (cond b (x ∷ filter p xs) (filter p xs)) ≡ []
      by true e k = ap (λ (l : List B). l ++ flat_map f (filter p xs)) (h x e) ∙ k
      by false e k = k

  hidden_first : (name : List ℕ) (xs : List Item) → flat_map f (with_first name xs) ≡ flat_map f xs
  unfolding with_first
  hidden_first name xs =
      flat_map-append f (filter (is_named name) xs) (filter (λ x. not (is_named name x)) xs)
      ∙ ap (λ (l : List B). l ++ flat_map f (filter (λ x. not (is_named name x)) xs)) (shows_none (is_named name) (λ x e. no_name name x (ap not e)) xs)
      ∙ hidden_filter (λ x. not (is_named name x)) (no_name name) xs

  pub hidden_acted : (act : DirectiveAct) (xs : List Item) → flat_map f (items_after_act act xs) ≡ flat_map f xs
  hidden_acted (Prune name) xs = hidden_pruned name xs
  hidden_acted (PruneAxis name axis) xs = hidden_change name (without_axis axis) xs
  hidden_acted (Threshold name threshold) xs = hidden_change name (with_threshold threshold) xs
  hidden_acted (First name) xs = hidden_first name xs
