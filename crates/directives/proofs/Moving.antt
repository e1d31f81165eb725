-- Items of which one is changed or moved.
use Rattle.std.proofs.Common.{◌≡◌, ℕ, ◌≤◌, ◌==◌, ◌||◌, ◌&&◌, inl, not, cond, Bool, true, false, Option, Some, None, List, [], ◌∷◌, ◌++◌, length, map, take, drop, slice_get, Result, Ok, Err, OnOk, OnErr, bytes_eq, eqb-true, eq-eqb, refl, sym, ap, ap₂, ◌∙◌, subst, arith}
use Rattle.std.specs.Prelude.{option_to_list}
use Rattle.std.specs.List.{list_any, filter, range_with_len}
use Rattle.std.specs.Option.{option_map, option_map_or}
use Rattle.std.proofs.lemmas.List.{append-nil, length-set, map-append, reverse-append}
use Rattle.std.proofs.lemmas.List.Elements.{filter-append}
use Rattle.mdl_ast.specs.declared.items.Item.{Item}
use Rattle.mdl_ast.specs.declared.items.Item.TheVariants.{Include, Sync, Metric, Constraint, Hypothesis, Search, Phase, Wish}
use Rattle.mdl_ast.specs.declared.items.Hypothesis.{Hypothesis as TheHypothesis}
use Rattle.directives.specs.Hypotheses.{is_named, is_along, has_hypothesis}
use Rattle.directives.specs.Acts.{with_hypothesis, with_first}
use Rattle.directives.specs.Standing.{slot, without, with_change, items_in_slots, IsLeftOf, order, standing, is_child, is_place, AreUnder, ArePlaces, first_at}
use Rattle.directives.proofs.Slots.{Slots, at, slot_without, slot_change, stood_there, left_of, left_again, in_order, taken_alike}
use Rattle.directives.proofs.AllStanding.{any_standing, some_standing, standing_alike}
use Rattle.directives.proofs.Pruning.{one_place}

-- ---- places stay those of what is left

under_left : (test : List ℕ → Item → Bool) (old new : Slots) (places : List ℕ → List ℕ) → IsLeftOf old new → AreUnder test old places → AreUnder test new places
under_left test old new places l are name k x e = are name k x (stood_there old new l k x e)

pub places_left : (old new : Slots) (named children : List ℕ → List ℕ) → IsLeftOf old new → ArePlaces old named children → ArePlaces new named children
places_left old new named children l are = record {
  by_name = under_left is_named old new named l are.by_name;
  once = are.once;
  by_parent = under_left is_child old new children l are.by_parent;
}

-- ---- where the hypothesis of a name stands

abbrev pub is_first : Option ℕ → ℕ → Bool
is_first None k = false
is_first (Some j) k = j == k

or_nothing : (b : Bool) → (b || false) ≡ b
or_nothing true = refl
or_nothing false = refl

turned : (a b : ℕ) → (a == b) ≡ (b == a)
turned a b = by (a == b) refl (b == a) refl
  where
    by : (c : Bool) → (a == b) ≡ c → (d : Bool) → (b == a) ≡ d → (a == b) ≡ (b == a)
    by true e true f = e ∙ sym f
    by true e false f = let g = sym (eq-eqb b a (sym (eqb-true a b e))) ∙ f in absurd cc
    by false e true f = let g = sym (eq-eqb a b (sym (eqb-true b a f))) ∙ e in absurd cc
    by false e false f = e ∙ sym f

place_first : (ks : List ℕ) (k : ℕ) → length ks ≤ 1 → is_place ks k ≡ is_first (slice_get ks 0) k
place_first [] k l = refl
place_first (j ∷ []) k l = or_nothing (j == k)
place_first (i ∷ j ∷ ks) k l = absurd (omega arith)

module _ (slots : Slots) (named children : List ℕ → List ℕ) (are : ArePlaces slots named children) (moved : List ℕ) (name : List ℕ) where
  named_at : (o : Option ℕ) → slice_get (named name) 0 ≡ o → (k : ℕ) (x : Item) → slot slots k ≡ Some x → is_named name x ≡ is_first o k
  named_at o e k x s = are.by_name name k x s ∙ place_first (named name) k (are.once name) ∙ ap (λ (o : Option ℕ). is_first o k) e

  -- a test that passes only the hypothesis of this name passes none but the one at its place
  pub any_named : (t : Item → Bool) → ((x : Item) → t x ≡ true → is_named name x ≡ true) → list_any t (standing slots moved) ≡ option_map_or t (first_at slots (named name)) false
  any_named t only = by (named name) refl
    where
      none : ((k : ℕ) (x : Item) → slot slots k ≡ Some x → t x ≡ true → ⊥) → list_any t (standing slots moved) ≡ false
      none f = where_any (list_any t (standing slots moved)) refl
        where
          where_any : (b : Bool) → list_any t (standing slots moved) ≡ b → list_any t (standing slots moved) ≡ false
          where_any true e = let p = some_standing t slots moved e in absurd (f p.place p.item p.there p.passes)
          where_any false e = e

      by : (ks : List ℕ) → named name ≡ ks → list_any t (standing slots moved) ≡ option_map_or t (first_at slots ks) false
      by [] e = none (λ k x s p. let g = sym (only x p) ∙ are.by_name name k x s ∙ ap (λ (l : List ℕ). is_place l k) e in absurd cc)
      by (j ∷ ks) e = at_place (slot slots j) refl
        where
          here : (k : ℕ) (x : Item) → slot slots k ≡ Some x → t x ≡ true → slot slots j ≡ Some x
          here k x s p =
              let there : is_place (j ∷ ks) k ≡ true = ap (λ (l : List ℕ). is_place l k) (sym e) ∙ sym (are.by_name name k x s) ∙ only x p in
              let itself : is_place (j ∷ ks) j ≡ true = ap (λ (b : Bool). b || is_place ks j) (eq-eqb j j refl) in
              let same : k ≡ j = one_place (j ∷ ks) k j (subst (λ (l : List ℕ). length l ≤ 1) e (are.once name)) there itself in
              ap (slot slots) (sym same) ∙ s

          at_place : (o : Option Item) → slot slots j ≡ o → list_any t (standing slots moved) ≡ option_map_or t (slot slots j) false
          at_place None s = none (λ k x r p. let g = sym (here k x r p) ∙ s in absurd cc) ∙ ap (λ (o : Option Item). option_map_or t o false) (sym s)
          at_place (Some y) s = by_test (t y) refl ∙ ap (λ (o : Option Item). option_map_or t o false) (sym s)
            where
              by_test : (b : Bool) → t y ≡ b → list_any t (standing slots moved) ≡ t y
              by_test true p = any_standing t slots moved j y s p ∙ sym p
              by_test false p =
                  none (λ k x r q.
                  let both : Some x ≡ Some y = sym (here k x r q) ∙ s in
                  let one : x ≡ y = cc in
                  let g = sym q ∙ ap t one ∙ p in absurd cc)
                  ∙ sym p

  -- ---- a change

  module _ (f : Item → Item) (same : (x : Item) → is_named name x ≡ false → f x ≡ x) where
    not_changed : (k : ℕ) → ((x : Item) → slot slots k ≡ Some x → is_named name x ≡ false) → (o : Option Item) → slot slots k ≡ o → option_to_list o ≡ map f (option_to_list o)
    not_changed k g None s = refl
    not_changed k g (Some x) s = ap (λ (y : Item). y ∷ []) (sym (same x (g x s)))

    pub none_changed : slice_get (named name) 0 ≡ None → standing slots moved ≡ map f (standing slots moved)
    none_changed e = standing_alike (map f) refl (λ xs ys. map-append f xs ys) slots slots moved refl (λ k. not_changed k (named_at None e k) (slot slots k) refl)

    pub one_changed : (place : ℕ) → slice_get (named name) 0 ≡ Some place → standing (with_change slots place f) moved ≡ map f (standing slots moved)
    one_changed place e = standing_alike (map f) refl (λ xs ys. map-append f xs ys) slots (with_change slots place f) moved (length-set slots place _) alone
      where
        listed : (o : Option Item) → option_to_list (option_map f o) ≡ map f (option_to_list o)
        listed None = refl
        listed (Some x) = refl

        by : (k : ℕ) (b : Bool) → (place == k) ≡ b → option_to_list (cond b (option_map f (slot slots k)) (slot slots k)) ≡ map f (at slots k)
        by k true p = listed (slot slots k)
        by k false p = not_changed k (λ x s. named_at (Some place) e k x s ∙ p) (slot slots k) refl

        alone : (k : ℕ) → at (with_change slots place f) k ≡ map f (at slots k)
        alone k = ap option_to_list (slot_change slots place f k) ∙ by k (place == k) refl

  -- ---- first

  module _ (there : has_hypothesis name (standing slots moved) ≡ true) where
    pub somewhere : slice_get (named name) 0 ≡ None → ⊥
    somewhere e = let p = some_standing (is_named name) slots moved there in let g = sym p.passes ∙ named_at None e p.place p.item p.there in absurd cc

    module _ (place : ℕ) (e : slice_get (named name) 0 ≡ Some place) where
      abbrev is_other : Item → Bool
      is_other x = not (is_named name x)

      standing_there : is_place (order slots moved) place ≡ true
      standing_there =
          let p = some_standing (is_named name) slots moved there in
          let same : place ≡ p.place = eqb-true place p.place (sym (named_at (Some place) e p.place p.item p.there) ∙ p.passes) in
          in_order slots moved place p.item (ap (slot slots) same ∙ p.there)

      others_left : (k : ℕ) → at (without slots place) k ≡ filter is_other (at slots k)
      others_left k = ap option_to_list (slot_without slots place k) ∙ by (slot slots k) refl
        where
          by : (o : Option Item) → slot slots k ≡ o → option_to_list (cond (place == k) None (slot slots k)) ≡ filter is_other (at slots k)
          by None s = ap (λ (o : Option Item). option_to_list (cond (place == k) None o)) s ∙ empty (place == k) ∙ ap (λ (o : Option Item). filter is_other (option_to_list o)) (sym s)
            where
              nothing : Option Item
              nothing = None

              empty : (b : Bool) → option_to_list (cond b nothing None) ≡ []
              empty true = refl
              empty false = refl
          by (Some x) s = ap (λ (o : Option Item). option_to_list (cond (place == k) None o)) s ∙ one (place == k) refl ∙ ap (λ (o : Option Item). filter is_other (option_to_list o)) (sym s)
            where
              one : (b : Bool) → (place == k) ≡ b → option_to_list (cond b None (Some x)) ≡ filter is_other (x ∷ [])
              one true p = sym (ap (λ (b : Bool). cond (not b) (x ∷ []) []) (named_at (Some place) e k x s ∙ p))
              one false p = sym (ap (λ (b : Bool). cond (not b) (x ∷ []) []) (named_at (Some place) e k x s ∙ p))

      named_taken : (ks : List ℕ) (some : Slots) → IsLeftOf slots some → filter (is_named name) (items_in_slots ks some) ≡ cond (is_place ks place) (at some place) []
      named_taken [] some l = refl
      named_taken (k ∷ ks) some l =
          filter-append (is_named name) (at some k) (items_in_slots ks (without some k)) ∙ ap (λ (xs : List Item). filter (is_named name) (at some k) ++ xs) (named_taken ks (without some k) behind) ∙ by (k == place) refl
        where
          behind : IsLeftOf slots (without some k)
          behind = left_again slots some (without some k) l (left_of (k ∷ []) some)

          alone : (b : Bool) → (k == place) ≡ b → (o : Option Item) → slot some k ≡ o → filter (is_named name) (option_to_list o) ≡ cond b (option_to_list o) []
          alone true p None s = refl
          alone false p None s = refl
          alone b p (Some x) s = ap (λ (c : Bool). cond c (x ∷ []) []) (named_at (Some place) e k x (stood_there slots some l k x s) ∙ turned place k ∙ p) ∙ one b
            where
              one : (b : Bool) → cond b (x ∷ []) [] ≡ cond b (option_to_list (Some x)) []
              one true = refl
              one false = refl

          by : (b : Bool) → (k == place) ≡ b → filter (is_named name) (at some k) ++ cond (is_place ks place) (at (without some k) place) [] ≡ cond (b || is_place ks place) (at some place) []
          by true p =
              let same : k ≡ place = eqb-true k place p in
              let gone : at (without some k) place ≡ [] = ap option_to_list (slot_without some k place ∙ ap (λ (b : Bool). cond b None (slot some place)) p) in
              ap₂ (λ (xs ys : List Item). xs ++ ys) (alone true p (slot some k) refl ∙ ap (at some) same) (ap (λ (l : List Item). cond (is_place ks place) l []) gone ∙ empty (is_place ks place)) ∙ append-nil (at some place)
            where
              nothing : List Item
              nothing = []

              empty : (b : Bool) → cond b nothing [] ≡ []
              empty true = refl
              empty false = refl
          by false p =
              let still : at (without some k) place ≡ at some place = ap option_to_list (slot_without some k place ∙ ap (λ (b : Bool). cond b None (slot some place)) p) in
              ap₂ (λ (xs ys : List Item). xs ++ ys) (alone false p (slot some k) refl) (ap (λ (l : List Item). cond (is_place ks place) l []) still)

      pub moved_first : standing slots (moved ++ place ∷ []) ≡ with_first name (standing slots moved)
      unfolding standing with_first
      moved_first =
          ap (λ (l : List ℕ). items_in_slots (l ++ range_with_len 0 (length slots)) slots) (reverse-append moved (place ∷ []))
          ∙ ap₂ (λ (xs ys : List Item). xs ++ ys) (sym (named_taken (order slots moved) slots (λ k. inl refl) ∙ ap (λ (b : Bool). cond b (at slots place) []) standing_there))
          (taken_alike (filter is_other) refl (λ xs ys. filter-append is_other xs ys) (order slots moved) slots (without slots place) others_left)

-- ---- a change keeps names and parents

module _ (name : List ℕ) (g : TheHypothesis → TheHypothesis) where
  pub not_named : (x : Item) → is_named name x ≡ false → with_hypothesis name g x ≡ x
  not_named (Include i) e = refl
  not_named (Sync s) e = refl
  not_named (Metric m) e = refl
  not_named (Constraint c) e = refl
  not_named (Hypothesis h) e = ap (λ (b : Bool). cond b (Hypothesis (g h)) (Hypothesis h)) e
  not_named (Search s) e = refl
  not_named (Phase p) e = refl
  not_named (Wish w) e = refl

  -- a test that only a hypothesis passes, and as before
  same_test : (t : Item → Bool) → ((h : TheHypothesis) → t (Hypothesis (g h)) ≡ t (Hypothesis h)) → (x : Item) → t (with_hypothesis name g x) ≡ t x
  same_test t f (Include i) = refl
  same_test t f (Sync s) = refl
  same_test t f (Metric m) = refl
  same_test t f (Constraint c) = refl
  same_test t f (Hypothesis h) = by (bytes_eq name h.name)
    where
      by : (b : Bool) → t (cond b (Hypothesis (g h)) (Hypothesis h)) ≡ t (Hypothesis h)
      by true = f h
      by false = refl
  same_test t f (Search s) = refl
  same_test t f (Phase p) = refl
  same_test t f (Wish w) = refl

  under_changed : (test : List ℕ → Item → Bool) → ((own : List ℕ) (h : TheHypothesis) → test own (Hypothesis (g h)) ≡ test own (Hypothesis h)) → (slots : Slots) (place : ℕ) (places : List ℕ → List ℕ) →
      AreUnder test slots places → AreUnder test (with_change slots place (with_hypothesis name g)) places
  under_changed test f slots place places are own k y e = by (place == k) (slot slots k) refl (sym (slot_change slots place (with_hypothesis name g) k) ∙ e)
    where
      by : (b : Bool) (o : Option Item) → slot slots k ≡ o → cond b (option_map (with_hypothesis name g) (slot slots k)) (slot slots k) ≡ Some y → test own y ≡ is_place (places own) k
      by b None s h = let n = sym (ap (λ (o : Option Item). cond b (option_map (with_hypothesis name g) o) o) s) ∙ h in nothing b n
        where
          nothing : (b : Bool) → cond b (option_map (with_hypothesis name g) None) None ≡ Some y → test own y ≡ is_place (places own) k
          nothing true n = absurd cc
          nothing false n = absurd cc
      by b (Some x) s h = some b (sym (ap (λ (o : Option Item). cond b (option_map (with_hypothesis name g) o) o) s) ∙ h)
        where
          some : (b : Bool) → cond b (option_map (with_hypothesis name g) (Some x)) (Some x) ≡ Some y → test own y ≡ is_place (places own) k
          some true n = let one : with_hypothesis name g x ≡ y = cc in ap (test own) (sym one) ∙ same_test (test own) (f own) x ∙ are own k x s
          some false n = let one : x ≡ y = cc in ap (test own) (sym one) ∙ are own k x s

  pub places_changed : ((own : List ℕ) (h : TheHypothesis) → is_named own (Hypothesis (g h)) ≡ is_named own (Hypothesis h)) → ((own : List ℕ) (h : TheHypothesis) → is_child own (Hypothesis (g h)) ≡ is_child own (Hypothesis h)) →
      (slots : Slots) (place : ℕ) (named children : List ℕ → List ℕ) → ArePlaces slots named children → ArePlaces (with_change slots place (with_hypothesis name g)) named children
  places_changed f h slots place named children are = record {
    by_name = under_changed is_named f slots place named are.by_name;
    once = are.once;
    by_parent = under_changed is_child h slots place children are.by_parent;
  }

pub along_named : (name axis : List ℕ) (x : Item) → is_along name axis x ≡ true → is_named name x ≡ true
along_named name axis (Include i) e = absurd cc
along_named name axis (Sync s) e = absurd cc
along_named name axis (Metric m) e = absurd cc
along_named name axis (Constraint c) e = absurd cc
along_named name axis (Hypothesis h) e = by (bytes_eq name h.name) e
  where
    by : (b : Bool) → (b && list_any (bytes_eq axis) h.axes) ≡ true → b ≡ true
    by true e = refl
    by false e = e
along_named name axis (Search s) e = absurd cc
along_named name axis (Phase p) e = absurd cc
along_named name axis (Wish w) e = absurd cc

-- ---- what is written through a slice of a whole list

pub whole_written : {A : Type 0} (xs ys : List A) (n : ℕ) → n ≡ length ys → length xs ≡ length ys → take n (xs ++ drop (length xs) ys) ≡ xs
whole_written [] [] n e l = ap (λ (k : ℕ). take k []) e
whole_written [] (y ∷ ys) n e l = absurd (omega arith)
whole_written (x ∷ xs) [] n e l = absurd (omega arith)
whole_written (x ∷ xs) (y ∷ ys) n e l = ap (λ (k : ℕ). take k (x ∷ (xs ++ drop (length xs) ys))) e ∙ ap (λ (zs : List _). x ∷ zs) (whole_written xs ys (length ys) refl (omega arith))

pub either : {T E A B C : Type 0} (r : Result T E) → OnOk r A → OnErr r B → (A → C) → (B → C) → C
either (Ok x) a b f g = f a
either (Err y) a b f g = g b

pub ok_more : {T E A B : Type 0} (r : Result T E) → OnOk r A → (A → B) → OnOk r B
ok_more (Ok x) a f = f a
ok_more (Err y) a f = tt
