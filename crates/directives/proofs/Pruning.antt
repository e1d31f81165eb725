-- Taking away a hypothesis, then its children, then theirs, takes away all that have it as an ancestor.
use Rattle.std.proofs.Common.{◌≡◌, ℕ, zero, suc, ◌+◌, ◌≤◌, ◌==◌, ◌||◌, ◌⊎◌, inl, inr, not, cond, Bool, true, false, Option, Some, None, List, [], ◌∷◌, ◌++◌, length, bytes_eq, eqb-true, refl, sym, ap, ◌∙◌, arith}
use Rattle.std.specs.Prelude.{option_to_list}
use Rattle.std.specs.Cmp.Lexicographic.{bytes_decides}
use Rattle.std.specs.List.{list_any, filter, AllByRecursion}
use Rattle.std.specs.Option.{option_map_or}
use Rattle.std.proofs.lemmas.List.Elements.{filter-append}
use Rattle.mdl_ast.specs.declared.items.Item.{Item}
use Rattle.mdl_ast.specs.declared.items.Item.TheVariants.{Include, Sync, Metric, Constraint, Hypothesis, Search, Phase, Wish}
use Rattle.mdl_ast.specs.declared.items.Hypothesis.{Hypothesis as TheHypothesis}
use Rattle.directives.specs.Hypotheses.{is_named, has_hypothesis}
use Rattle.directives.specs.Acts.{parent_in, parent_of, leads_up, is_under, pruned}
use Rattle.directives.specs.Standing.{slot, items_in_slots, items_left, IsLeftOf, count, standing, is_child, is_place, ArePlaces, children_of}
use Rattle.directives.proofs.Slots.{Slots, at, left_at, left_of, nothing_there, stood_there, left_again, emptied_at, any_taken, all_taken, count_left}
use Rattle.directives.proofs.AllStanding.{standing_count, any_standing, some_standing, all_standing, standing_alike}
use Rattle.directives.proofs.Ancestors.{under_is, Agrees, parent_found, no_parent, under_more, under_named, under_itself, under_child}

-- ---- lists

pub one_place : (ks : List ℕ) (j k : ℕ) → length ks ≤ 1 → is_place ks j ≡ true → is_place ks k ≡ true → j ≡ k
one_place [] j k l p q = absurd cc
one_place (i ∷ []) j k l p q = sym (eqb-true i j (one (i == j) p)) ∙ eqb-true i k (one (i == k) q)
  where
    one : (b : Bool) → (b || false) ≡ true → b ≡ true
    one true e = refl
    one false e = absurd cc
one_place (i ∷ h ∷ ks) j k l p q = absurd (omega arith)

any_last : (q : Item → Bool) (xs : List Item) (z : Item) → list_any q (xs ++ z ∷ []) ≡ true → (list_any q xs ≡ true) ⊎ (q z ≡ true)
any_last q [] z h = inr (one (q z) h)
  where
    one : (b : Bool) → (b || false) ≡ true → b ≡ true
    one true e = refl
    one false e = absurd cc
any_last q (x ∷ xs) z h = by (q x) h (any_last q xs z)
  where
    by : (b : Bool) → (b || list_any q (xs ++ z ∷ [])) ≡ true → (list_any q (xs ++ z ∷ []) ≡ true → (list_any q xs ≡ true) ⊎ (q z ≡ true)) → ((b || list_any q xs) ≡ true) ⊎ (q z ≡ true)
    by true h f = inl refl
    by false h f = f h

any_left : (q : Item → Bool) (xs ys : List Item) → list_any q xs ≡ true → list_any q (xs ++ ys) ≡ true
any_left q [] ys h = absurd cc
any_left q (x ∷ xs) ys h = by (q x) h (any_left q xs ys)
  where
    by : (b : Bool) → (b || list_any q xs) ≡ true → (list_any q xs ≡ true → list_any q (xs ++ ys) ≡ true) → (b || list_any q (xs ++ ys)) ≡ true
    by true h f = refl
    by false h f = f h

any_right : (q : Item → Bool) (xs ys : List Item) → list_any q ys ≡ true → list_any q (xs ++ ys) ≡ true
any_right q [] ys h = h
any_right q (x ∷ xs) ys h = by (q x) (any_right q xs ys h)
  where
    by : (b : Bool) → list_any q (xs ++ ys) ≡ true → (b || list_any q (xs ++ ys)) ≡ true
    by true h = refl
    by false h = h

all_both : (P : Item → Type 0) (xs ys : List Item) → AllByRecursion P xs → AllByRecursion P ys → AllByRecursion P (xs ++ ys)
all_both P [] ys a b = b
all_both P (x ∷ xs) ys a b = (a.0, all_both P xs ys a.1 b)

all_more : (P Q : Item → Type 0) → ((x : Item) → P x → Q x) → (xs : List Item) → AllByRecursion P xs → AllByRecursion Q xs
all_more P Q f [] a = tt
all_more P Q f (x ∷ xs) a = (f x a.0, all_more P Q f xs a.1)

all_but_last : (P : Item → Type 0) (xs : List Item) (z : Item) → AllByRecursion P (xs ++ z ∷ []) → AllByRecursion P xs × P z
all_but_last P [] z a = (tt, a.0)
all_but_last P (x ∷ xs) z a = let r = all_but_last P xs z a.1 in ((a.0, r.0), r.1)

some_there : (q : Item → Bool) (xs : List Item) → list_any q xs ≡ true → 1 ≤ length xs
some_there q [] h = absurd cc
some_there q (x ∷ xs) h = omega arith

-- ---- the children of an item

record IsOfParent (children : List ℕ → List ℕ) (z : Item) (k : ℕ) : Type 0 where
  name : List ℕ
  named : is_named name z ≡ true
  below : is_place (children name) k ≡ true

name_itself : (name : List ℕ) → bytes_eq name name ≡ true
name_itself name = (bytes_decides name name).1 refl

of_parent : (children : List ℕ → List ℕ) (z : Item) (k : ℕ) → is_place (children_of children z) k ≡ true → IsOfParent children z k
of_parent children (Include i) k h = absurd cc
of_parent children (Sync s) k h = absurd cc
of_parent children (Metric m) k h = absurd cc
of_parent children (Constraint c) k h = absurd cc
of_parent children (Hypothesis x) k h = record { name = x.name; named = name_itself x.name; below = h }
of_parent children (Search s) k h = absurd cc
of_parent children (Phase p) k h = absurd cc
of_parent children (Wish w) k h = absurd cc

children_named : (children : List ℕ → List ℕ) (z : Item) (name : List ℕ) → is_named name z ≡ true → children_of children z ≡ children name
children_named children (Include i) name h = absurd cc
children_named children (Sync s) name h = absurd cc
children_named children (Metric m) name h = absurd cc
children_named children (Constraint c) name h = absurd cc
children_named children (Hypothesis x) name h = ap children (sym ((bytes_decides name x.name).0 h))
children_named children (Search s) name h = absurd cc
children_named children (Phase p) name h = absurd cc
children_named children (Wish w) name h = absurd cc

-- ---- what holds while they are taken away

module _ (start : Slots) (moved : List ℕ) (name : List ℕ) where
  abbrev whole : List Item
  whole = standing start moved

  -- some are taken away, and those of them wait whose children are still to be taken away
  pub record IsTaking (slots : Slots) (waiting : List Item) : Type 0 where
    pub rest : IsLeftOf start slots
    pub steps : ℕ
    pub spent : steps + count slots ≡ count start
    pub gone : (k : ℕ) (x : Item) → slot start k ≡ Some x → slot slots k ≡ None → is_under whole steps name x ≡ true
    pub known : AllByRecursion (λ x. (is_under whole steps name x ≡ true) × Agrees whole x) waiting
    pub closed : (j k : ℕ) (y x : Item) (p : List ℕ) → slot start j ≡ Some y → slot slots j ≡ None → is_named p y ≡ true → slot slots k ≡ Some x → is_child p x ≡ true → list_any (is_named p) waiting ≡ true
    pub itself : (k : ℕ) (x : Item) → slot start k ≡ Some x → is_named name x ≡ true → slot slots k ≡ None

module _ (start : Slots) (named children : List ℕ → List ℕ) (are : ArePlaces start named children) (moved : List ℕ) (name : List ℕ) where
  abbrev all : List Item
  all = standing start moved

  abbrev Taking : Slots → List Item → Type 0
  Taking slots waiting = IsTaking start moved name slots waiting

  agrees : (k : ℕ) (x : Item) → slot start k ≡ Some x → Agrees all x
  agrees k x s p e = parent_found all p (parent_in x) (all_standing (λ y. is_named p y ≡ true → parent_in y ≡ parent_in x) start moved other) (any_standing (is_named p) start moved k x s e)
    where
      other : (j : ℕ) (y : Item) → slot start j ≡ Some y → is_named p y ≡ true → parent_in y ≡ parent_in x
      other j y t f =
          let same : j ≡ k = one_place (named p) j k (are.once p) (sym (are.by_name p j y t) ∙ f) (sym (are.by_name p k x s) ∙ e) in
          let both : Some y ≡ Some x = sym t ∙ ap (slot start) same ∙ s in
          let one : y ≡ x = cc in
          ap parent_in one

  pub at_first : Taking (items_left (named name) start) (items_in_slots (named name) start)
  at_first = record {
    rest = left_of (named name) start;
    steps = length (items_in_slots (named name) start);
    spent = count_left (named name) start;
    gone = λ k x s n. under_itself all (length (items_in_slots (named name) start)) name x (are.by_name name k x s ∙ emptied_at (named name) start k x s n);
    known = all_taken (λ x. (is_under all (length (items_in_slots (named name) start)) name x ≡ true) × Agrees all x) (named name) start
        (λ k x p s. (under_itself all (length (items_in_slots (named name) start)) name x (are.by_name name k x s ∙ p), agrees k x s));
    closed = λ j k y x p s n m t c. any_taken (is_named p) (named name) start j y (emptied_at (named name) start j y s n) s m;
    itself = λ k x s m. left_at (named name) start k ∙ ap (λ (b : Bool). cond b None (slot start k)) (sym (are.by_name name k x s) ∙ m);
  }

  module _ (slots : Slots) (behind : List Item) (z : Item) (was : Taking slots (behind ++ z ∷ [])) where
    abbrev ks : List ℕ
    ks = children_of children z

    abbrev steps_then : ℕ
    steps_then = was.steps + length (items_in_slots ks slots)

    last : AllByRecursion (λ x. (is_under all was.steps name x ≡ true) × Agrees all x) behind × ((is_under all was.steps name z ≡ true) × Agrees all z)
    last = all_but_last (λ x. (is_under all was.steps name x ≡ true) × Agrees all x) behind z was.known

    taken_under : (k : ℕ) (x : Item) → is_place ks k ≡ true → slot slots k ≡ Some x → is_under all steps_then name x ≡ true
    taken_under k x p s =
        let there : slot start k ≡ Some x = stood_there start slots was.rest k x s in
        let parent = of_parent children z k p in
        let below = under_child all was.steps name parent.name x z last.1.1 parent.named (are.by_parent parent.name k x there ∙ parent.below) last.1.0 in
        let some = some_there (λ y. true) (items_in_slots ks slots) (any_taken (λ y. true) ks slots k x p s refl) in
        under_more all (suc was.steps) steps_then name x (omega arith) below

    pub then_children : Taking (items_left ks slots) (behind ++ items_in_slots ks slots)
    then_children = record {
      rest = left_again start slots (items_left ks slots) was.rest (left_of ks slots);
      steps = steps_then;
      spent = omega (arith, count_left ks slots, was.spent);
      gone = gone_then;
      known = all_both (λ x. (is_under all steps_then name x ≡ true) × Agrees all x) behind (items_in_slots ks slots)
          (all_more (λ x. (is_under all was.steps name x ≡ true) × Agrees all x) (λ x. (is_under all steps_then name x ≡ true) × Agrees all x) (λ x h. (under_more all was.steps steps_then name x (omega arith) h.0, h.1)) behind last.0)
          (all_taken (λ x. (is_under all steps_then name x ≡ true) × Agrees all x) ks slots (λ k x p s. (taken_under k x p s, agrees k x (stood_there start slots was.rest k x s))));
      closed = closed_then;
      itself = λ k x s m. nothing_there slots (items_left ks slots) (left_of ks slots) k (was.itself k x s m);
    }
      where
        gone_then : (k : ℕ) (x : Item) → slot start k ≡ Some x → slot (items_left ks slots) k ≡ None → is_under all steps_then name x ≡ true
        gone_then k x s n = by (was.rest k)
          where
            by : (slot slots k ≡ slot start k) ⊎ (slot slots k ≡ None) → is_under all steps_then name x ≡ true
            by (inl e) = taken_under k x (emptied_at ks slots k x (e ∙ s) n) (e ∙ s)
            by (inr e) = under_more all was.steps steps_then name x (omega arith) (was.gone k x s e)

        closed_then : (j k : ℕ) (y x : Item) (p : List ℕ) → slot start j ≡ Some y → slot (items_left ks slots) j ≡ None → is_named p y ≡ true → slot (items_left ks slots) k ≡ Some x → is_child p x ≡ true → list_any (is_named p) (behind ++ items_in_slots ks slots) ≡ true
        closed_then j k y x p s n m t c = by (was.rest j)
          where
            there : slot slots k ≡ Some x
            there = stood_there slots (items_left ks slots) (left_of ks slots) k x t

            -- what is a child of the last one was taken
            not_here : is_named p z ≡ true → list_any (is_named p) (behind ++ items_in_slots ks slots) ≡ true
            not_here e =
                let place : is_place ks k ≡ true = ap (λ (l : List ℕ). is_place l k) (children_named children z p e) ∙ sym (are.by_parent p k x (stood_there start slots was.rest k x there)) ∙ c in
                let none : slot (items_left ks slots) k ≡ None = left_at ks slots k ∙ ap (λ (b : Bool). cond b None (slot slots k)) place in
                absurd cc

            by : (slot slots j ≡ slot start j) ⊎ (slot slots j ≡ None) → list_any (is_named p) (behind ++ items_in_slots ks slots) ≡ true
            by (inl e) = any_right (is_named p) behind (items_in_slots ks slots) (any_taken (is_named p) ks slots j y (emptied_at ks slots j y (e ∙ s) n) (e ∙ s) m)
            by (inr e) = who (any_last (is_named p) behind z (was.closed j k y x p s e m there c))
              where
                who : (list_any (is_named p) behind ≡ true) ⊎ (is_named p z ≡ true) → list_any (is_named p) (behind ++ items_in_slots ks slots) ≡ true
                who (inl h) = any_left (is_named p) behind (items_in_slots ks slots) h
                who (inr h) = not_here h

  -- ---- at the end

  module _ (slots : Slots) (done : Taking slots []) (there : has_hypothesis name all ≡ true) where
    abbrev Gone : ℕ → Type 0
    Gone n = (k : ℕ) (x : Item) → slot start k ≡ Some x → is_under all n name x ≡ true → slot slots k ≡ None

    never : (m : ℕ) → leads_up all m name None ≡ true → ⊥
    never zero h = absurd cc
    never (suc m) h = absurd cc

    -- what has a parent that is gone is gone
    with_parent : (j k : ℕ) (y x : Item) (p : List ℕ) → slot start j ≡ Some y → slot slots j ≡ None → is_named p y ≡ true → slot start k ≡ Some x → is_child p x ≡ true → slot slots k ≡ None
    with_parent j k y x p s n m t c = by (done.rest k)
      where
        by : (slot slots k ≡ slot start k) ⊎ (slot slots k ≡ None) → slot slots k ≡ None
        by (inr e) = e
        by (inl e) = let g = done.closed j k y x p s n m (e ∙ t) c in absurd cc

    led : (n k : ℕ) (h : TheHypothesis) (parent : Option (List ℕ)) → Gone n → h.parent ≡ parent → slot start k ≡ Some (Hypothesis h) → leads_up all (suc n) name parent ≡ true → slot slots k ≡ None
    led n k h None f e s u = absurd cc
    led n k h (Some p) f e s u = by (list_any (is_named p) all) refl
      where
        child : is_child p (Hypothesis h) ≡ true
        child = ap (λ (o : Option (List ℕ)). option_map_or (bytes_eq p) o false) e ∙ name_itself p

        by : (b : Bool) → list_any (is_named p) all ≡ b → slot slots k ≡ None
        by true a =
            let y = some_standing (is_named p) start moved a in
            with_parent y.place k y.item (Hypothesis h) p y.there (f y.place y.item y.there (under_named all n name p y.item (agrees y.place y.item y.there) y.passes ∙ u)) y.passes s child
        by false a = who (bytes_eq name p) refl u
          where
            who : (b : Bool) → bytes_eq name p ≡ b → (b || leads_up all n name (parent_of all p)) ≡ true → slot slots k ≡ None
            who true q v = let g = sym there ∙ ap (λ (m : List ℕ). list_any (is_named m) all) ((bytes_decides name p).0 q) ∙ a in absurd cc
            who false q v = absurd (never n (ap (leads_up all n name) (sym (no_parent all p a)) ∙ v))

    gone_by : (n : ℕ) → ((k : ℕ) (h : TheHypothesis) → slot start k ≡ Some (Hypothesis h) → leads_up all n name h.parent ≡ true → slot slots k ≡ None) → Gone n
    gone_by n f k x s u = let h = under_is all n name x u in by h.inside (s ∙ ap Some h.is) (ap (is_under all n name) (sym h.is) ∙ u) (bytes_eq name h.inside.name) refl
      where
        by : (h : TheHypothesis) → slot start k ≡ Some (Hypothesis h) → is_under all n name (Hypothesis h) ≡ true → (b : Bool) → bytes_eq name h.name ≡ b → slot slots k ≡ None
        by h s u true e = done.itself k (Hypothesis h) s e
        by h s u false e = f k h s (sym (ap (λ (b : Bool). b || leads_up all n name h.parent) e) ∙ u)

    gone_under : (n : ℕ) → Gone n
    gone_under zero = gone_by zero (λ k h s u. absurd cc)
    gone_under (suc n) = gone_by (suc n) (λ k h s u. led n k h h.parent (gone_under n) refl s u)

    abbrev keeps : Item → Bool
    keeps x = not (is_under all (length all) name x)

    alone : (k : ℕ) → at slots k ≡ filter keeps (at start k)
    alone k = by (slot start k) refl
      where
        here : (x : Item) (b : Bool) → is_under all (length all) name x ≡ b → slot start k ≡ Some x → (slot slots k ≡ slot start k) ⊎ (slot slots k ≡ None) → at slots k ≡ cond (not b) (x ∷ []) []
        here x true u s e = ap option_to_list (gone_under (length all) k x s u)
        here x false u s (inl e) = ap option_to_list (e ∙ s)
        here x false u s (inr e) = let g = sym u ∙ under_more all done.steps (length all) name x (omega (arith, done.spent, standing_count start moved)) (done.gone k x s e) in absurd cc

        by : (o : Option Item) → slot start k ≡ o → at slots k ≡ filter keeps (option_to_list o)
        by None s = ap option_to_list (nothing_there start slots done.rest k s)
        by (Some x) s = here x (is_under all (length all) name x) refl s (done.rest k)

    pub all_pruned : length slots ≡ length start → standing slots moved ≡ pruned name all
    unfolding pruned
    all_pruned len = standing_alike (filter keeps) refl (λ xs ys. filter-append keeps xs ys) start slots moved len alone
