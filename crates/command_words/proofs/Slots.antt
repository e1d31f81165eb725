-- Each name of a form has a number of its own, at which its value stands.
use Rattle.std.proofs.Common.{◌≡◌, ◌≢◌, ℕ, zero, suc, ◌+◌, ◌<◌, ◌≤◌, ◌||◌, Bool, true, false, not, List, [], ◌∷◌, ◌++◌, length, get_or, refl, ap, sym, ◌∙◌, subst, Option, None, Some, cond, arith}
use Rattle.std.specs.Prelude.{option_map, slice_get, slice_set, replicate}
use Rattle.std.specs.Option.{is_some, option_or}
use Rattle.std.specs.List.{list_any, position_or_len}
use Rattle.std.specs.Str.{bytes_eq}
use Rattle.std.proofs.Math.ListN.{get_or-append}
use Rattle.std.proofs.lemmas.Bool.{lt-ltb}
use Rattle.std.proofs.lemmas.List.{get_or-append-add, get_or-set_same, get_or-set_other}
use Rattle.std.proofs.lemmas.List.Quantifiers.{position-Some}
use Rattle.command_words.specs.Grammar.{Text, Form, NamedValues, given_in, is_among}
use Rattle.command_words.specs.Walks.{position_of, slot_of, Values, no_values, value_at, value_of}
use Rattle.command_words.proofs.ValuesTaken.{same_bytes, eq_bytes, bytes_sym, first_of, given_both}

-- ---- places in lists of names

any_at : (p : Text → Bool) (names : List Text) → list_any p names ≡ true → position_or_len p names < length names
any_at p [] e = absurd (cc)
any_at p (n ∷ names) e = by (p n) refl e (any_at p names)
  where
    by : (b : Bool) → p n ≡ b → (b || list_any p names) ≡ true → (list_any p names ≡ true → position_or_len p names < length names) → position_or_len p (n ∷ names) < length (n ∷ names)
    by true f g h = subst (λ b. cond (not b) (1 + position_or_len p names) 0 < length (n ∷ names)) (sym f) (omega arith)
    by false f g h = let less = h g in subst (λ b. cond (not b) (1 + position_or_len p names) 0 < length (n ∷ names)) (sym f) (omega arith)

any_turned : (names : List Text) (name : Text) → list_any (λ n. bytes_eq n name) names ≡ is_among names name
any_turned [] name = refl
any_turned (n ∷ names) name = ap (λ b. b || list_any (λ n. bytes_eq n name) names) (bytes_sym n name) ∙ ap (λ b. bytes_eq name n || b) (any_turned names name)

has_position : (names : List Text) (name : Text) → is_among names name ≡ true → (k : ℕ) × (position_of names name ≡ Some k)
has_position names name e =
    let less = any_at (λ n. bytes_eq n name) names (any_turned names name ∙ e) in
    (position_or_len (λ n. bytes_eq n name) names, ap (λ b. cond b (Some (position_or_len (λ n. bytes_eq n name) names)) None) (lt-ltb _ _ less))

among_at : (names : List Text) (k : ℕ) (name : Text) → slice_get names k ≡ Some name → is_among names name ≡ true
among_at [] k name e = absurd (cc)
among_at (n ∷ names) zero name e =
    let same : n ≡ name = cc in
    ap (λ b. b || is_among names name) (ap (bytes_eq name) same ∙ eq_bytes name)
among_at (n ∷ names) (suc k) name e = ap (λ b. bytes_eq name n || b) (among_at names k name e) ∙ or_yes (bytes_eq name n)
  where
    or_yes : (b : Bool) → (b || true) ≡ true
    or_yes true = refl
    or_yes false = refl

-- ---- numbers of names

abbrev pub Known : Form → Text → Type 0
Known form name = (slot : ℕ) × (slot_of form name ≡ Some slot)

-- the values are those that were taken
abbrev pub Agree : Form → Values → NamedValues → Type 0
Agree form values taken = (name : Text) → value_of form values name ≡ given_in taken name

-- there is room for a value of each name
abbrev pub IsFew : Form → Type 0
IsFew form = length form.places + length form.options ≤ 16

module _ (form : Form) where
  pub known_option : (name : Text) → is_among form.options name ≡ true → Known form name
  known_option name e =
      let there = has_position form.options name e in
      by (position_of form.places name) refl there.0 there.1
    where
      by : (o : Option ℕ) → position_of form.places name ≡ o → (k : ℕ) → position_of form.options name ≡ Some k → Known form name
      by (Some place) f k g = (place, ap (λ (o : Option ℕ). option_or o (option_map (λ k. length form.places + k) (position_of form.options name))) f)
      by None f k g =
          (length form.places + k, ap (λ (o : Option ℕ). option_or o (option_map (λ k. length form.places + k) (position_of form.options name))) f ∙ ap (λ (o : Option ℕ). option_map (λ k. length form.places + k) o) g)

  pub known_place : (k : ℕ) (name : Text) → slice_get form.places k ≡ Some name → Known form name
  known_place k name e =
      let there = has_position form.places name (among_at form.places k name e) in
      (there.0, ap (λ (o : Option ℕ). option_or o (option_map (λ k. length form.places + k) (position_of form.options name))) there.1)

module _ (form : Form) (few : IsFew form) where
  record Slot (name : Text) (slot : ℕ) : Type 0 where
    low : slot < 16
    is : name ≡ get_or (form.places ++ form.options) slot []

  slot_is : (name : Text) (slot : ℕ) → slot_of form name ≡ Some slot → Slot name slot
  slot_is name slot e = by (position_of form.places name) refl (position_of form.options name) refl e
    where
      by : (o : Option ℕ) → position_of form.places name ≡ o → (p : Option ℕ) → position_of form.options name ≡ p → option_or o (option_map (λ k. length form.places + k) p) ≡ Some slot → Slot name slot
      by (Some k) f p g h =
          let same : k ≡ slot = cc in
          let found = position-Some (λ n. bytes_eq n name) form.places k [] f in
          let low = found.0 in
          record {
            low = omega arith;
            is = sym (ap (λ k. get_or (form.places ++ form.options) k []) (sym same) ∙ get_or-append form.places form.options [] k low ∙ same_bytes (get_or form.places k []) name found.1);
          }
      by None f (Some k) g h =
          let same : length form.places + k ≡ slot = cc in
          let found = position-Some (λ n. bytes_eq n name) form.options k [] g in
          let low = found.0 in
          record {
            low = omega arith;
            is = sym (ap (λ k. get_or (form.places ++ form.options) k []) (sym same) ∙ get_or-append-add form.places form.options k [] ∙ same_bytes (get_or form.options k []) name found.1);
          }
      by None f None g h = absurd (cc)

  -- ---- values

  given_more : (n : Text) (taken : NamedValues) (name value : Text) → given_in (taken ++ (name, value) ∷ []) n ≡ first_of (given_in taken n) (cond (bytes_eq name n) (Some value) None)
  given_more n taken name value = given_both n taken ((name, value) ∷ []) ∙ ap (first_of (given_in taken n)) (by (bytes_eq name n))
    where
      by : (b : Bool) → option_map (λ (t : Text × Text). t.1) (cond b (Some (name, value)) None) ≡ cond b (Some value) None
      by true = refl
      by false = refl

  first_none : (o other : Option Text) → is_some o ≡ false → first_of o other ≡ other
  first_none None other h = refl
  first_none (Some v) other h = absurd (cc)

  keep_first : (o : Option Text) → first_of o None ≡ o
  keep_first None = refl
  keep_first (Some v) = refl

  -- another name's value stays
  other_value : (values : Values) (slot : ℕ) (v : Option Text) (o : Option ℕ) → ((j : ℕ) → o ≡ Some j → j ≢ slot) → value_at (slice_set values slot v) o ≡ value_at values o
  other_value values slot v None h = refl
  other_value values slot v (Some j) h = get_or-set_other values slot j v None (h j refl)

  pub put_agrees : (values : Values) (taken : NamedValues) (name value : Text) (slot : ℕ) → length values ≡ 16 → slot_of form name ≡ Some slot → Agree form values taken → is_some (given_in taken name) ≡ false → Agree form (slice_set values slot (Some value)) (taken ++ (name, value) ∷ [])
  put_agrees values taken name value slot len e agree free n = by (bytes_eq name n) refl ∙ sym (given_more n taken name value)
    where
      at : Slot name slot
      at = slot_is name slot e

      by : (b : Bool) → bytes_eq name n ≡ b → value_of form (slice_set values slot (Some value)) n ≡ first_of (given_in taken n) (cond (bytes_eq name n) (Some value) None)
      by true same =
          let is : name ≡ n = same_bytes name n same in
          let here : slot_of form n ≡ Some slot = subst (λ (x : Text). slot_of form x ≡ Some slot) is e in
          let none : is_some (given_in taken n) ≡ false = subst (λ (x : Text). is_some (given_in taken x) ≡ false) is free in
          let low = at.low in
          let found : value_of form (slice_set values slot (Some value)) n ≡ Some value = ap (value_at (slice_set values slot (Some value))) here ∙ get_or-set_same values slot (Some value) None (omega arith) in
          found ∙ sym (ap (λ b. first_of (given_in taken n) (cond b (Some value) None)) same ∙ first_none (given_in taken n) (Some value) none)
      by false differ =
          let apart : (j : ℕ) → slot_of form n ≡ Some j → j ≢ slot = λ j there one.
          let other = slot_is n j there in
          let same : name ≡ n = at.is ∙ ap (λ k. get_or (form.places ++ form.options) k []) (sym one) ∙ sym other.is in
          let equal : bytes_eq name n ≡ true = ap (bytes_eq name) (sym same) ∙ eq_bytes name in
          absurd (cc) in
          other_value values slot (Some value) (slot_of form n) apart ∙ agree n ∙ sym (ap (λ b. first_of (given_in taken n) (cond b (Some value) None)) differ ∙ keep_first (given_in taken n))

none_in : (m n : ℕ) → get_or {A = Option Text} (replicate m None) n None ≡ None
none_in zero n = refl
none_in (suc m) zero = refl
none_in (suc m) (suc n) = none_in m n

pub none_at : (o : Option ℕ) → value_at no_values o ≡ None
none_at None = refl
none_at (Some slot) = none_in 16 slot
