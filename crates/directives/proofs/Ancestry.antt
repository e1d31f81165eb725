-- A prune in rounds takes away the hypothesis and those that have it as an ancestor.
use Rattle.std.proofs.Common.{◌≡◌, ℕ, zero, suc, ◌+◌, ◌≤◌, ◌||◌, ◌&&◌, not, cond, Bool, true, false, Option, Some, None, List, [], ◌∷◌, ◌++◌, length, bytes_eq, refl, sym, ap, ◌∙◌, arith}
use Rattle.std.specs.List.{list_any, filter}
use Rattle.std.proofs.lemmas.Bool.{or_parts}
use Rattle.std.proofs.lemmas.List.{append_assoc}
use Rattle.mdl_ast.specs.declared.items.Item.{Item}
use Rattle.mdl_ast.specs.declared.items.Item.TheVariants.{Include, Sync, Metric, Constraint, Hypothesis, Search, Phase, Wish}
use Rattle.directives.specs.Hypotheses.{is_named, has_hypothesis, lacks, is_orphan}
use Rattle.directives.specs.Acts.{parent_in, parent_of, leads_up, is_under, pruned}
use Rattle.directives.proofs.Stripped.{tally, none_counted, stripped, lift, named, count_stripped}
use Rattle.directives.proofs.FineItems.{tally_append}
use Rattle.directives.proofs.Kept.{named_lift, Homeless}
use Rattle.directives.proofs.Settling.{settled, pruned_in_rounds, same_filter}
use Rattle.directives.proofs.Ancestors.{Agrees, under_higher, under_named}

-- ---- the parent of a name is that of its hypothesis

abbrev Agree : List Item → List Item → Type 0
Agree items [] = Unit {0}
Agree items (x ∷ xs) = Agrees items x × Agree items xs

parent_behind : (name : List ℕ) (before rest : List Item) → list_any (is_named name) before ≡ false → parent_of (before ++ rest) name ≡ parent_of rest name
parent_behind name [] rest h = refl
parent_behind name (x ∷ before) rest h =
    let k = or_parts (is_named name x) (list_any (is_named name) before) h in
    ap (λ (b : Bool). cond b (parent_in x) (parent_of (before ++ rest) name)) k.0 ∙ parent_behind name before rest k.1

abbrev weight : Bool → ℕ
weight b = cond b 1 0

module _ (items : List Item) (once : (name : List ℕ) → tally (named name) (stripped items) ≤ 1) where
  few_named : (name : List ℕ) → tally (is_named name) items ≤ 1
  few_named name =
      let same : is_named name ≡ lift (named name) = λ i item. named_lift name item i in
      omega (arith, once name, count_stripped (named name) items, ap (λ (t : Item → Bool). tally t items) same)

  agree_from : (before xs : List Item) → items ≡ before ++ xs → Agree items xs
  agree_from before [] h = tt
  agree_from before (x ∷ xs) h = (here, agree_from (before ++ (x ∷ [])) xs (h ∙ sym (append_assoc before (x ∷ []) xs)))
    where
      here : Agrees items x
      here name e =
          let one : weight (is_named name x) ≡ weight true = ap weight e in
          let none = none_counted (is_named name) before (omega (arith, few_named name, one, ap (tally (is_named name)) h, tally_append (is_named name) before (x ∷ xs))) in
          ap (λ (l : List Item). parent_of l name) h ∙ parent_behind name before (x ∷ xs) none ∙ ap (λ (b : Bool). cond b (parent_in x) (parent_of xs name)) e

-- ---- one round

abbrev free : List Item → ℕ → List ℕ → List Item → List Item
free items k name xs = filter (λ x. not (is_under items k name x)) xs

and_false : (a : Bool) → (a && false) ≡ false
and_false true = refl
and_false false = refl

module _ (items : List Item) (k : ℕ) (name : List ℕ) where
  stands_free : (p : List ℕ) (xs : List Item) → Agree items xs → list_any (is_named p) (free items k name xs) ≡ (not (leads_up items (suc k) name (Some p)) && list_any (is_named p) xs)
  stands_free p [] a = sym (and_false (not (leads_up items (suc k) name (Some p))))
  stands_free p (x ∷ xs) a = by (is_named p x) refl (is_under items k name x) refl (leads_up items (suc k) name (Some p)) refl (stands_free p xs a.1)
    where
      by : (b : Bool) → is_named p x ≡ b → (w : Bool) → is_under items k name x ≡ w → (u : Bool) → leads_up items (suc k) name (Some p) ≡ u →
          list_any (is_named p) (free items k name xs) ≡ (not (leads_up items (suc k) name (Some p)) && list_any (is_named p) xs) →
          list_any (is_named p) (cond (not w) (x ∷ free items k name xs) (free items k name xs)) ≡ (not (leads_up items (suc k) name (Some p)) && (b || list_any (is_named p) xs))
      by true e true f true g h = h ∙ ap (λ (c : Bool). not c && list_any (is_named p) xs) g ∙ sym (ap (λ (c : Bool). not c && true) g)
      by true e true f false g h = let z = sym f ∙ under_named items k name p x a.0 e ∙ g in absurd cc
      by true e false f true g h = let z = sym f ∙ under_named items k name p x a.0 e ∙ g in absurd cc
      by true e false f false g h = ap (λ (c : Bool). c || list_any (is_named p) (free items k name xs)) e ∙ sym (ap (λ (c : Bool). not c && true) g)
      by false e true f u g h = h
      by false e false f u g h = ap (λ (c : Bool). c || list_any (is_named p) (free items k name xs)) e ∙ h

  module _ (agree : Agree items items) where
    orphan_under : (x : Item) → is_under items k name x ≡ false → is_orphan items x ≡ false → is_orphan (free items k name items) x ≡ is_under items (suc k) name x
    orphan_under (Include i) f o = refl
    orphan_under (Sync s) f o = refl
    orphan_under (Metric m) f o = refl
    orphan_under (Constraint c) f o = refl
    orphan_under (Hypothesis x) f o = by x.parent (or_parts (bytes_eq name x.name) (leads_up items k name x.parent) f).0 o
      where
        by : (parent : Option (List ℕ)) → bytes_eq name x.name ≡ false → lacks items parent ≡ false → lacks (free items k name items) parent ≡ (bytes_eq name x.name || leads_up items (suc k) name parent)
        by None b o = sym (ap (λ (c : Bool). c || false) b)
        by (Some p) b o =
            ap not (stands_free p items agree ∙ ap (λ (c : Bool). not (leads_up items (suc k) name (Some p)) && c) (yes (has_hypothesis p items) o)) ∙ twice (leads_up items (suc k) name (Some p))
            ∙ sym (ap (λ (c : Bool). c || leads_up items (suc k) name (Some p)) b)
          where
            yes : (c : Bool) → not c ≡ false → c ≡ true
            yes true e = refl
            yes false e = absurd cc

            twice : (u : Bool) → not (not u && true) ≡ u
            twice true = refl
            twice false = refl
    orphan_under (Search s) f o = refl
    orphan_under (Phase p) f o = refl
    orphan_under (Wish w) f o = refl

    round_in : (xs : List Item) → list_any (is_orphan items) xs ≡ false → filter (λ x. not (is_orphan (free items k name items) x)) (free items k name xs) ≡ free items (suc k) name xs
    round_in [] h = refl
    round_in (x ∷ xs) h = let m = or_parts (is_orphan items x) (list_any (is_orphan items) xs) h in by (is_under items k name x) refl m.0 (round_in xs m.1)
      where
        by : (w : Bool) → is_under items k name x ≡ w → is_orphan items x ≡ false → filter (λ x. not (is_orphan (free items k name items) x)) (free items k name xs) ≡ free items (suc k) name xs →
            filter (λ x. not (is_orphan (free items k name items) x)) (cond (not w) (x ∷ free items k name xs) (free items k name xs)) ≡ cond (not (is_under items (suc k) name x)) (x ∷ free items (suc k) name xs) (free items (suc k) name xs)
        by true f o g = g ∙ sym (ap (λ (c : Bool). cond (not c) (x ∷ free items (suc k) name xs) (free items (suc k) name xs)) (under_higher items k name x f))
        by false f o g =
            ap (λ (c : Bool). cond (not c) (x ∷ filter (λ x. not (is_orphan (free items k name items) x)) (free items k name xs)) (filter (λ x. not (is_orphan (free items k name items) x)) (free items k name xs))) (orphan_under x f o)
            ∙ ap (λ (l : List Item). cond (not (is_under items (suc k) name x)) (x ∷ l) l) g

-- ---- all rounds

rounds_free : (items : List Item) (name : List ℕ) → Agree items items → Homeless items → (n k m : ℕ) → m ≡ n + k → settled n (free items k name items) ≡ free items m name items
rounds_free items name a h zero k m e = ap (λ (j : ℕ). free items j name items) (omega arith)
rounds_free items name a h (suc n) k m e = ap (settled n) (round_in items k name a items h) ∙ rounds_free items name a h n (suc k) m (omega arith)

or_nothing : (b : Bool) → b ≡ (b || false)
or_nothing true = refl
or_nothing false = refl

named_under : (items : List Item) (name : List ℕ) (x : Item) → is_named name x ≡ is_under items 0 name x
named_under items name (Include i) = refl
named_under items name (Sync s) = refl
named_under items name (Metric m) = refl
named_under items name (Constraint c) = refl
named_under items name (Hypothesis h) = or_nothing (bytes_eq name h.name)
named_under items name (Search s) = refl
named_under items name (Phase p) = refl
named_under items name (Wish w) = refl

-- the rounds leave what has no such ancestor, where names stand once and each has its parent
pub rounds_pruned : (name : List ℕ) (items : List Item) → ((own : List ℕ) → tally (named own) (stripped items) ≤ 1) → Homeless items → pruned_in_rounds name items ≡ pruned name items
unfolding pruned pruned_in_rounds
rounds_pruned name items once h =
    let start : filter (λ item. not (is_named name item)) items ≡ free items 0 name items = same_filter _ _ (λ x. ap not (named_under items name x)) items in
    ap (settled (length items)) start ∙ rounds_free items name (agree_from items once [] items refl) h (length items) 0 (length items) (omega arith)
