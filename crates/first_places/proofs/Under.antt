-- Numbers under names, where one more is put under a name.
use Rattle.std.proofs.Common.{◌≡◌, ℕ, ◌||◌, cond, Bool, true, false, Option, Some, None, List, [], ◌∷◌, ◌++◌, map, refl, sym, ap, ◌∙◌, bytes_eq, is_some, if◌then◌else◌}
use Rattle.std.specs.Cmp.Lexicographic.{bytes_decides}
use Rattle.std.specs.List.{list_any}
use Rattle.std.specs.Map.{lookup, set_value}
use Rattle.std.specs.Option.{option_map_or}
use Rattle.std.proofs.lemmas.Map.{keys-set_value}
use Rattle.first_places.specs.Entries.{noted}
use Rattle.first_places.proofs.Pushed.{last_entry}
use Rattle.first_places.specs.Numbers.{with_number, names_of, numbers_under, IsAdded, IsUnchanged}

module _ {K V : Type 0} (now : K → List ℕ) (items : V → List ℕ) where
  -- a name has an entry where it is among the names
  has_entry : (name : List ℕ) (es : List (K × V)) → list_any (bytes_eq name) (names_of now es) ≡ is_some (lookup (λ key. bytes_eq name (now key)) es)
  has_entry name [] = refl
  has_entry name (e ∷ es) = by (bytes_eq name (now e.0)) (lookup (λ key. bytes_eq name (now key)) es) (has_entry name es)
    where
      by : (b : Bool) (o : Option V) → list_any (bytes_eq name) (names_of now es) ≡ is_some o → b || list_any (bytes_eq name) (names_of now es) ≡ is_some (cond b (Some e.1) o)
      by true o h = refl
      by false o h = h

  -- other numbers under a name
  written : (name : List ℕ) (v w : V) (es : List (K × V)) → lookup (λ key. bytes_eq name (now key)) es ≡ Some v
      → (other : List ℕ) → numbers_under now items other (set_value (λ key. bytes_eq name (now key)) es w) ≡ cond (bytes_eq other name) (items w) (numbers_under now items other es)
  written name v w [] h other = cc
  written name v w (e ∷ es) h other = by (bytes_eq name (now e.0)) refl h (λ g. written name v w es g other)
    where
      rest : Option V
      rest = lookup (λ key. bytes_eq other (now key)) es

      put : Option V
      put = lookup (λ key. bytes_eq other (now key)) (set_value (λ key. bytes_eq name (now key)) es w)

      here : (b : Bool) → option_map_or items (cond b (Some w) rest) [] ≡ cond b (items w) (option_map_or items (cond b (Some e.1) rest) [])
      here true = refl
      here false = refl

      behind : (c d : Bool) → bytes_eq other (now e.0) ≡ c → bytes_eq other name ≡ d → bytes_eq name (now e.0) ≡ false → option_map_or items put [] ≡ cond d (items w) (option_map_or items rest [])
          → option_map_or items (cond c (Some e.1) put) [] ≡ cond d (items w) (option_map_or items (cond c (Some e.1) rest) [])
      behind true true p q f g =
          let x : other ≡ name = (bytes_decides other name).0 q in
          let y : bytes_eq name (now e.0) ≡ true = ap (λ (n : List ℕ). bytes_eq n (now e.0)) (sym x) ∙ p in
          cc
      behind true false p q f g = refl
      behind false d p q f g = g

      by : (a : Bool) → bytes_eq name (now e.0) ≡ a → cond a (Some e.1) (lookup (λ key. bytes_eq name (now key)) es) ≡ Some v
          → (lookup (λ key. bytes_eq name (now key)) es ≡ Some v → option_map_or items put [] ≡ cond (bytes_eq other name) (items w) (option_map_or items rest []))
          → numbers_under now items other (cond a ((e.0, w) ∷ es) (e ∷ set_value (λ key. bytes_eq name (now key)) es w)) ≡ cond (bytes_eq other name) (items w) (numbers_under now items other (e ∷ es))
      by true p g more =
          let same : name ≡ now e.0 = (bytes_decides name (now e.0)).0 p in
          here (bytes_eq other (now e.0)) ∙ ap (λ (n : List ℕ). cond (bytes_eq other n) (items w) (numbers_under now items other (e ∷ es))) (sym same)
      by false p g more = behind (bytes_eq other (now e.0)) (bytes_eq other name) refl refl p (more g)

  module _ (name : List ℕ) (v w : V) (es : List (K × V)) (found : lookup (λ key. bytes_eq name (now key)) es ≡ Some v) where
    names_stay : names_of now (set_value (λ key. bytes_eq name (now key)) es w) ≡ names_of now es
    names_stay = ap (map now) (keys-set_value (λ key. bytes_eq name (now key)) es w)

    own : (other : List ℕ) → bytes_eq other name ≡ true → items v ≡ numbers_under now items other es
    own other e =
        let same : other ≡ name = (bytes_decides other name).0 e in
        ap (λ (o : Option V). option_map_or items o []) (sym found) ∙ ap (λ (n : List ℕ). numbers_under now items n es) (sym same)

    -- one more number under a name that is there
    pub added_here : (n : ℕ) → items w ≡ items v ++ n ∷ [] → IsAdded now items name n es (set_value (λ key. bytes_eq name (now key)) es w)
    added_here n more = record {
      names = names_stay ∙ sym (ap (λ (b : Bool). if b then names_of now es else names_of now es ++ name ∷ []) (has_entry name es ∙ ap is_some found));
      numbers = λ other. written name v w es found other ∙ by other (bytes_eq other name) refl;
    }
      where
        by : (other : List ℕ) (b : Bool) → bytes_eq other name ≡ b → cond b (items w) (numbers_under now items other es) ≡ with_number b n (numbers_under now items other es)
        by other true e = more ∙ ap (λ (l : List ℕ). l ++ n ∷ []) (own other e)
        by other false e = refl

    -- the numbers of a name that stay
    pub kept_here : items w ≡ items v → IsUnchanged now items es (set_value (λ key. bytes_eq name (now key)) es w)
    kept_here same = record { names = names_stay; numbers = λ other. written name v w es found other ∙ by other (bytes_eq other name) refl }
      where
        by : (other : List ℕ) (b : Bool) → bytes_eq other name ≡ b → cond b (items w) (numbers_under now items other es) ≡ numbers_under now items other es
        by other true e = same ∙ own other e
        by other false e = refl

  -- the first number of a name
  pub added_last : (key : K) (v : V) (n : ℕ) (es : List (K × V)) → lookup (λ k. bytes_eq (now key) (now k)) es ≡ None → items v ≡ n ∷ [] → IsAdded now items (now key) n es (es ++ (key, v) ∷ [])
  added_last key v n es none one = record {
    names = names_more es ∙ sym (ap (λ (b : Bool). if b then names_of now es else names_of now es ++ now key ∷ []) (has_entry (now key) es ∙ ap is_some none));
    numbers = λ other. ap (λ (o : Option V). option_map_or items o []) (last_entry now es key v other) ∙ by other (lookup (λ k. bytes_eq other (now k)) es) (bytes_eq other (now key)) refl refl;
  }
    where
      names_more : (xs : List (K × V)) → names_of now (xs ++ (key, v) ∷ []) ≡ names_of now xs ++ now key ∷ []
      names_more [] = refl
      names_more (x ∷ xs) = ap (λ (l : List (List ℕ)). now x.0 ∷ l) (names_more xs)

      by : (other : List ℕ) (o : Option V) (b : Bool) → lookup (λ k. bytes_eq other (now k)) es ≡ o → bytes_eq other (now key) ≡ b
          → option_map_or items (noted o (now key) v other) [] ≡ with_number b n (option_map_or items o [])
      by other (Some x) true p q =
          let same : other ≡ now key = (bytes_decides other (now key)).0 q in
          let some : lookup (λ k. bytes_eq (now key) (now k)) es ≡ Some x = ap (λ (name : List ℕ). lookup (λ k. bytes_eq name (now k)) es) (sym same) ∙ p in
          cc
      by other (Some x) false p q = refl
      by other None true p q = ap (λ (b : Bool). option_map_or items (if b then Some v else None) []) q ∙ one
      by other None false p q = ap (λ (b : Bool). option_map_or items (if b then Some v else None) []) q
