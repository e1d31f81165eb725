-- Searches in lists of rows, and in lists of what the rows stand for.
use Rattle.std.proofs.Common.{◌≡◌, ◌&&◌, ◌||◌, ℕ, zero, suc, Bool, true, false, cond, not, List, [], ◌∷◌, ◌++◌, Option, Some, None, find, map, length, take, get_or, ◌<◌, ◌+◌, refl, ap, sym, ◌∙◌, Bor}
use Rattle.std.specs.Prelude.{flat_map, option_map, slice_get}
use Rattle.std.proofs.lemmas.List.{map-append, take_more}
use Rattle.std.proofs.lemmas.List.Elements.{filter_map-append}
use Rattle.std.specs.Str.{bytes_eq}
use Rattle.command_words.specs.Grammar.{Text, given_in, is_named}
use Rattle.pd_words.specs.Seen.{pair_seen}
use Rattle.pd_words.specs.declared.given.NamedValue.{NamedValue}
use Rattle.std.specs.Option.{is_none}
use Rattle.std.specs.List.{filter, filter_map, join_by, list_all, list_any, cons_option}
use Rattle.pd_words.specs.Wishes.{joined_values}

pub any_map : {X Y : Type 0} (test : Y → Bool) (f : X → Y) (xs : List X) → list_any (λ x. test (f x)) xs ≡ list_any test (map f xs)
any_map test f [] = refl
any_map test f (x ∷ xs) = ap (λ z. test (f x) || z) (any_map test f xs)

pub find_map : {X Y : Type 0} (test : Y → Bool) (f : X → Y) (xs : List X) → option_map f (find (λ x. test (f x)) xs) ≡ find test (map f xs)
find_map test f [] = refl
find_map test f (x ∷ xs) = by (test (f x)) (find_map test f xs)
  where
    by : (b : Bool) → option_map f (find (λ y. test (f y)) xs) ≡ find test (map f xs)
        → option_map f (cond b (Some x) (find (λ y. test (f y)) xs)) ≡ cond b (Some (f x)) (find test (map f xs))
    by true e = refl
    by false e = e

pub filter_of_map : {X Y : Type 0} (test : Y → Bool) (f : X → Y) (xs : List X) → map f (filter (λ x. test (f x)) xs) ≡ filter test (map f xs)
filter_of_map test f [] = refl
filter_of_map test f (x ∷ xs) = by (test (f x)) (filter_of_map test f xs)
  where
    by : (b : Bool) → map f (filter (λ y. test (f y)) xs) ≡ filter test (map f xs)
        → map f (cond b (x ∷ filter (λ y. test (f y)) xs) (filter (λ y. test (f y)) xs)) ≡ cond b (f x ∷ filter test (map f xs)) (filter test (map f xs))
    by true e = ap (λ z. f x ∷ z) e
    by false e = e

pub all_filter : {X Y : Type 0} (keep test : Y → Bool) (f : X → Y) (xs : List X) → list_all (λ x. not (keep (f x)) || test (f x)) xs ≡ list_all test (filter keep (map f xs))
all_filter keep test f [] = refl
all_filter keep test f (x ∷ xs) = by (keep (f x)) (all_filter keep test f xs)
  where
    by : (b : Bool) → list_all (λ y. not (keep (f y)) || test (f y)) xs ≡ list_all test (filter keep (map f xs))
        → ((not b || test (f x)) && list_all (λ y. not (keep (f y)) || test (f y)) xs) ≡ list_all test (cond b (f x ∷ filter keep (map f xs)) (filter keep (map f xs)))
    by true e = ap (λ z. test (f x) && z) e
    by false e = e

pub get_of_map : {X Y : Type 0} (f : X → Y) (xs : List X) (i : ℕ) → option_map f (slice_get xs i) ≡ slice_get (map f xs) i
get_of_map f [] i = refl
get_of_map f (x ∷ xs) zero = refl
get_of_map f (x ∷ xs) (suc i) = get_of_map f xs i

value_of_pair : (o : Option NamedValue) → option_map (λ (pair : NamedValue). pair.value.now) o ≡ option_map (λ (t : Text × Text). t.1) (option_map pair_seen o)
value_of_pair None = refl
value_of_pair (Some pair) = refl

-- the value of the first pair of a name
pub value_found : (values : List NamedValue) (name : Text)
    → option_map (λ (pair : NamedValue). pair.value.now) (find (λ (pair : NamedValue). bytes_eq pair.name.now name) values) ≡ given_in (map pair_seen values) name
value_found values name =
    value_of_pair (find (λ (pair : NamedValue). bytes_eq pair.name.now name) values)
    ∙ ap (option_map (λ (t : Text × Text). t.1)) (find_map (is_named name) pair_seen values)

pub none_of_map : {X Y : Type 0} (f : X → Y) (o : Option X) → is_none o ≡ true → is_none (option_map f o) ≡ true
none_of_map f None e = refl
none_of_map f (Some x) e = absurd (cc)

-- one row more
pub filter_map_more : {X Y Z : Type 0} (f : Y → Option Z) (g : X → Y) (xs : List X) (i : ℕ) (d : X) → i < length xs
    → filter_map f (map g (take (i + 1) xs)) ≡ filter_map f (map g (take i xs)) ++ cons_option (f (g (get_or xs i d))) []
filter_map_more f g xs i d l =
    ap (λ ys. filter_map f (map g ys)) (take_more xs i d l)
    ∙ ap (filter_map f) (map-append g (take i xs) (get_or xs i d ∷ []))
    ∙ filter_map-append f (map g (take i xs)) (g (get_or xs i d) ∷ [])

flat_of_map : {X Y A : Type 0} (f : Y → List A) (g : X → Y) (xs : List X) → flat_map f (map g xs) ≡ flat_map (λ x. f (g x)) xs
flat_of_map f g [] = refl
flat_of_map f g (x ∷ xs) = ap (λ z. f (g x) ++ z) (flat_of_map f g xs)

join_of_map : {X Y A : Type 0} (f : Y → List A) (g : X → Y) (between : List A) (xs : List X) → join_by f between (map g xs) ≡ join_by (λ x. f (g x)) between xs
join_of_map f g between [] = refl
join_of_map f g between (x ∷ xs) = ap (λ z. f (g x) ++ z) (flat_of_map (λ y. between ++ f y) g xs)

-- the values of a name, with commas between
pub joined_found : (values : List NamedValue) (name : Text)
    → join_by (λ (s : Bor Text). s.now) (44 ∷ []) (map (λ (pair : NamedValue). pair.value) (filter (λ (pair : NamedValue). bytes_eq pair.name.now name) values))
    ≡ joined_values (map pair_seen values) name
joined_found values name =
    let found = filter (λ (pair : NamedValue). bytes_eq pair.name.now name) values in
    join_of_map (λ (s : Bor Text). s.now) (λ (pair : NamedValue). pair.value) (44 ∷ []) found
    ∙ sym (join_of_map (λ (t : Text × Text). t.1) pair_seen (44 ∷ []) found)
    ∙ ap (λ (ts : List (Text × Text)). join_by (λ (t : Text × Text). t.1) (44 ∷ []) ts) (filter_of_map (is_named name) pair_seen values)
