-- The rules of a form fit it, so that clap takes exactly its words.
use Rattle.std.proofs.Common.{◌≡◌, ℕ, ◌+◌, Bool, true, false, cond, not, ◌&&◌, ◌||◌, List, [], ◌∷◌, ◌++◌, refl, ap, sym, ◌∙◌, Option, None, Some, map}
use Rattle.std.specs.Prelude.{find, option_map, slice_get}
use Rattle.std.specs.Option.{option_and_then}
use Rattle.std.specs.List.{list_all, list_any}
use Rattle.std.specs.Str.{bytes_eq}
use Rattle.clap.specs.Walk.{Row, Rule, arg_by_id, arg_by_long, arg_by_short, first_of}
use Rattle.clap.specs.Takes.{is_given}
use Rattle.clap.specs.Kinds.{Kinds}
use Rattle.command_words.specs.Grammar.{Text, Form, NamedValues, given_in, is_among, is_named}
use Rattle.command_words.proofs.Machine.{has, option_named}
use Rattle.command_words.proofs.ValuesTaken.{bytes_sym, same_bytes, not_same}
use Rattle.command_words.proofs.Rows.{row, option_rule, place_rules, rules_of, Fits, NoDefaults, PlacesFit, is_given-row}
use Rattle.command_words.proofs.Settling.{Agrees}

-- ---- the rules of a form

long_of_options : (options : List Text) (name : Text) → arg_by_long (map option_rule options) name ≡ option_map option_rule (option_named options name)
long_of_options [] name = refl
long_of_options (o ∷ os) name = go (long_of_options os name) (bytes_eq o name)
  where
    go : arg_by_long (map option_rule os) name ≡ option_map option_rule (option_named os name) → (b : Bool) →
        cond (b || false) (Some (option_rule o)) (arg_by_long (map option_rule os) name) ≡ option_map option_rule (cond b (Some o) (option_named os name))
    go h true = refl
    go h false = h

long_of : (i : ℕ) (places options : List Text) (name : Text) → arg_by_long (place_rules i places ++ map option_rule options) name ≡ option_map option_rule (option_named options name)
long_of i [] options name = long_of_options options name
long_of i (place ∷ places) options name = long_of (i + 1) places options name

no_short : (i : ℕ) (places options : List Text) (c : ℕ) → arg_by_short (place_rules i places ++ map option_rule options) c ≡ None
no_short i [] [] c = refl
no_short i [] (o ∷ os) c = no_short i [] os c
no_short i (place ∷ places) options c = no_short (i + 1) places options c

id_of_options : (options : List Text) (o : Text) → arg_by_id (map option_rule options) o ≡ option_map option_rule (option_named options o)
id_of_options [] o = refl
id_of_options (p ∷ ps) o = go (id_of_options ps o) (bytes_eq p o)
  where
    go : arg_by_id (map option_rule ps) o ≡ option_map option_rule (option_named ps o) → (b : Bool) → cond b (Some (option_rule p)) (arg_by_id (map option_rule ps) o) ≡ option_map option_rule (cond b (Some p) (option_named ps o))
    go h true = refl
    go h false = h

id_of : (i : ℕ) (places options : List Text) (o : Text) → is_among places o ≡ false → arg_by_id (place_rules i places ++ map option_rule options) o ≡ option_map option_rule (option_named options o)
id_of i [] options o e = id_of_options options o
id_of i (place ∷ places) options o e = go (bytes_eq o place) (bytes_sym place o) e (id_of (i + 1) places options o)
  where
    go : (b : Bool) → bytes_eq place o ≡ b → (b || is_among places o) ≡ false → (is_among places o ≡ false → arg_by_id (place_rules (i + 1) places ++ map option_rule options) o ≡ option_map option_rule (option_named options o)) →
        arg_by_id (place_rules i (place ∷ places) ++ map option_rule options) o ≡ option_map option_rule (option_named options o)
    go true f g h = absurd (cc)
    go false f g h = rw f (h g)

no_defaults_of : (i : ℕ) (places options : List Text) → NoDefaults (place_rules i places ++ map option_rule options)
no_defaults_of i [] [] = tt
no_defaults_of i [] (o ∷ os) = (refl, no_defaults_of i [] os)
no_defaults_of i (place ∷ places) options = (refl, no_defaults_of (i + 1) places options)

abbrev is_wanting : NamedValues → Rule → Bool
is_wanting taken a = a.required && not (is_given a.id (map row taken))

no_option_wanted : (options : List Text) (taken : NamedValues) → list_any (is_wanting taken) (map option_rule options) ≡ false
no_option_wanted [] taken = refl
no_option_wanted (o ∷ os) taken = no_option_wanted os taken

wanted : (i : ℕ) (places options : List Text) (taken : NamedValues) → list_any (is_wanting taken) (place_rules i places ++ map option_rule options) ≡ not (list_all (λ place. has place taken) places)
wanted i [] options taken = no_option_wanted options taken
wanted i (place ∷ places) options taken = go (wanted (i + 1) places options taken) (is_given place (map row taken)) (has place taken) (is_given-row place taken)
  where
    go : list_any (is_wanting taken) (place_rules (i + 1) places ++ map option_rule options) ≡ not (list_all (λ place. has place taken) places) → (a b : Bool) → a ≡ b →
        (not a || list_any (is_wanting taken) (place_rules (i + 1) places ++ map option_rule options)) ≡ not (b && list_all (λ place. has place taken) places)
    go h true true e = h
    go h false false e = refl
    go h true false e = absurd (cc)
    go h false true e = absurd (cc)

-- an option that was found has the name that was sought
found_is : (options : List Text) (text o : Text) → option_named options text ≡ Some o → (text ≡ o) × (is_among options text ≡ true)
found_is [] text o e = absurd (cc)
found_is (p ∷ ps) text o e = go (bytes_eq text p) (bytes_sym p text) refl e (found_is ps text o)
  where
    go : (b : Bool) → bytes_eq p text ≡ b → bytes_eq text p ≡ b → option_named (p ∷ ps) text ≡ Some o → (option_named ps text ≡ Some o → (text ≡ o) × (is_among ps text ≡ true)) → (text ≡ o) × (is_among (p ∷ ps) text ≡ true)
    go true f t g h =
        let here : Some p ≡ Some o = ap (λ b. cond b (Some p) (option_named ps text)) (sym f) ∙ g in
        let same : p ≡ o = cc in
        (same_bytes text p t ∙ same, ap (λ b. b || is_among ps text) t)
    go false f t g h =
        let later = h (ap (λ b. cond b (Some p) (option_named ps text)) (sym f) ∙ g) in
        (later.0, ap (λ b. b || is_among ps text) t ∙ later.1)

no_place : (options places : List Text) (name : Text) → list_any (is_among options) places ≡ false → is_among options name ≡ true → is_among places name ≡ false
no_place options [] name unlike e = refl
no_place options (place ∷ places) name unlike e = go (is_among options place) refl unlike (no_place options places name)
  where
    go : (b : Bool) → is_among options place ≡ b → (b || list_any (is_among options) places) ≡ false → (list_any (is_among options) places ≡ false → is_among options name ≡ true → is_among places name ≡ false) → is_among (place ∷ places) name ≡ false
    go true f g h = absurd (cc)
    go false f g h = ap (λ b. b || is_among places name) (not_same options name place e f) ∙ h g e

pub fits_with : (form : Form) → PlacesFit (rules_of form) 1 form.places → list_any (is_among form.options) form.places ≡ false → Fits form (rules_of form)
fits_with form places unlike = record {
  places = places;
  long = λ text. long_of 1 form.places form.options text;
  id = λ text o e.
      let found = found_is form.options text o e in
      id_of 1 form.places form.options o (no_place form.options form.places o unlike (ap (is_among form.options) (sym found.0) ∙ found.1))
      ∙ ap (option_map option_rule) (ap (option_named form.options) (sym found.0) ∙ e);
  short = λ c. no_short 1 form.places form.options c;
  defaults = no_defaults_of 1 form.places form.options;
  required = λ taken. wanted 1 form.places form.options taken;
}

-- ---- what clap holds

-- the value of a name
pub first_of-row : (name : Text) (taken : NamedValues) → first_of name (map row taken) ≡ given_in taken name
first_of-row name [] = refl
first_of-row name (t ∷ ts) = go (first_of-row name ts) (bytes_eq t.0 name)
  where
    go : first_of name (map row ts) ≡ given_in ts name → (b : Bool) →
        option_and_then (λ (r : Row). slice_get r.values 0) (cond b (Some (row t)) (find (λ (r : Row). bytes_eq r.id name) (map row ts))) ≡ option_map (λ (t : Text × Text). t.1) (cond b (Some t) (find (is_named name) ts))
    go h true = refl
    go h false = h

pub taken_from : (r : Option NamedValues) (k : Kinds) (rows : List Row) → Agrees r k rows → k ≡ [] → (t : NamedValues) × (r ≡ Some t) × (rows ≡ map row t)
taken_from None k rows a e = absurd (a e)
taken_from (Some t) k rows a e = (t, refl, a.1)

pub none_from : (r : Option NamedValues) (k : Kinds) (rows : List Row) → Agrees r k rows → (k ≡ [] → ⊥) → r ≡ None
none_from None k rows a h = refl
none_from (Some t) k rows a h = absurd (h a.0)
