-- Names, and the values that were taken with them.
use Rattle.std.proofs.Common.{◌≡◌, ◌∷◌, [], ◌++◌, ◌||◌, Bool, true, false, cond, List, Option, Some, None, is_some, refl, ap, sym, ◌∙◌, subst, inl, inr}
use Rattle.std.specs.Prelude.{◌⊎◌, find, option_map}
use Rattle.std.specs.List.{list_any, zip}
use Rattle.std.specs.Str.{bytes_eq}
use Rattle.std.proofs.lemmas.Slice.Eq.{bytes_eq-Decides}
use Rattle.command_words.specs.Grammar.{Text, NamedValues, given_in, is_among, is_named}
use Rattle.command_words.proofs.Machine.{has}

-- ---- names

pub same_bytes : (xs ys : Text) → bytes_eq xs ys ≡ true → xs ≡ ys
same_bytes xs ys e = (bytes_eq-Decides xs ys).0 e

pub eq_bytes : (xs : Text) → bytes_eq xs xs ≡ true
eq_bytes xs = (bytes_eq-Decides xs xs).1 refl

pub bytes_sym : (a b : Text) → bytes_eq a b ≡ bytes_eq b a
bytes_sym a b = by (bytes_eq a b) (bytes_eq b a) refl refl
  where
    by : (x y : Bool) → bytes_eq a b ≡ x → bytes_eq b a ≡ y → bytes_eq a b ≡ bytes_eq b a
    by true true e f = e ∙ sym f
    by false false e f = e ∙ sym f
    by true false e f = let same : bytes_eq b a ≡ true = ap (bytes_eq b) (same_bytes a b e) ∙ eq_bytes b in absurd (cc)
    by false true e f = let same : bytes_eq a b ≡ true = ap (bytes_eq a) (same_bytes b a f) ∙ eq_bytes a in absurd (cc)

-- a name that is among some isn't one that isn't
pub not_same : (names : List Text) (a b : Text) → is_among names a ≡ true → is_among names b ≡ false → bytes_eq a b ≡ false
not_same names a b among other = by (bytes_eq a b) refl
  where
    by : (t : Bool) → bytes_eq a b ≡ t → bytes_eq a b ≡ false
    by true e = let same : is_among names a ≡ is_among names b = ap (is_among names) (same_bytes a b e) in absurd (cc)
    by false e = e

-- ---- values

-- the first of two values
abbrev pub first_of : Option Text → Option Text → Option Text
first_of None other = other
first_of (Some v) other = Some v

pub given_both : (n : Text) (xs ys : NamedValues) → given_in (xs ++ ys) n ≡ first_of (given_in xs n) (given_in ys n)
given_both n [] ys = refl
given_both n (t ∷ ts) ys = by (is_named n t) (given_both n ts ys)
  where
    by : (b : Bool) → given_in (ts ++ ys) n ≡ first_of (given_in ts n) (given_in ys n) →
        option_map (λ (t : Text × Text). t.1) (cond b (Some t) (find (is_named n) (ts ++ ys))) ≡ first_of (option_map (λ (t : Text × Text). t.1) (cond b (Some t) (find (is_named n) ts))) (given_in ys n)
    by true e = refl
    by false e = e

pub has_is : (name : Text) (taken : NamedValues) → has name taken ≡ is_some (given_in taken name)
has_is name [] = refl
has_is name (t ∷ ts) = by (is_named name t) (has_is name ts)
  where
    by : (b : Bool) → list_any (is_named name) ts ≡ is_some (given_in ts name) → (b || list_any (is_named name) ts) ≡ is_some (option_map (λ (t : Text × Text). t.1) (cond b (Some t) (find (is_named name) ts)))
    by true e = refl
    by false e = e

-- places with their words give none of another name
pub given_zip : (places words : List Text) (name : Text) → is_among places name ≡ false → given_in (zip places words) name ≡ None
given_zip [] words name e = refl
given_zip (place ∷ places) [] name e = refl
given_zip (place ∷ places) (word ∷ words) name e = by (bytes_eq name place) (bytes_sym place name) e (given_zip places words name)
  where
    by : (b : Bool) → bytes_eq place name ≡ b → (b || is_among places name) ≡ false → (is_among places name ≡ false → given_in (zip places words) name ≡ None) → given_in ((place, word) ∷ zip places words) name ≡ None
    by true same f h = absurd (cc)
    by false differ f h = ap (λ b. option_map (λ (t : Text × Text). t.1) (cond b (Some (place, word)) (find (is_named name) (zip places words)))) differ ∙ h f

moved : (a b c d : Option Text) → (b ≡ None) ⊎ (c ≡ None) → first_of (first_of a b) (first_of c d) ≡ first_of a (first_of c (first_of b d))
moved (Some v) b c d h = refl
moved None None c d h = refl
moved None (Some v) None d h = refl
moved None (Some v) (Some w) d (inl e) = absurd (cc)
moved None (Some v) (Some w) d (inr e) = absurd (cc)

-- a name with its value may stand before or after names that are unlike it
pub given_moved : (xs ys zs : NamedValues) (name value : Text) → given_in ys name ≡ None → (n : Text) → given_in ((xs ++ (name, value) ∷ []) ++ (ys ++ zs)) n ≡ given_in (xs ++ (ys ++ (name, value) ∷ zs)) n
given_moved xs ys zs name value none n =
    given_both n (xs ++ (name, value) ∷ []) (ys ++ zs)
    ∙ ap (λ o. first_of o (given_in (ys ++ zs) n)) (given_both n xs ((name, value) ∷ []))
    ∙ ap (λ o. first_of (first_of (given_in xs n) (given_in ((name, value) ∷ []) n)) o) (given_both n ys zs)
    ∙ moved (given_in xs n) (given_in ((name, value) ∷ []) n) (given_in ys n) (given_in zs n) (by (bytes_eq name n) refl)
    ∙ ap (λ o. first_of (given_in xs n) (first_of (given_in ys n) o)) (sym (given_both n ((name, value) ∷ []) zs))
    ∙ ap (first_of (given_in xs n)) (sym (given_both n ys ((name, value) ∷ zs)))
    ∙ sym (given_both n xs (ys ++ (name, value) ∷ zs))
  where
    by : (b : Bool) → bytes_eq name n ≡ b → (given_in ((name, value) ∷ []) n ≡ None) ⊎ (given_in ys n ≡ None)
    by true e = inr (ap (given_in ys) (sym (same_bytes name n e)) ∙ none)
    by false e = inl (ap (λ b. option_map (λ (t : Text × Text). t.1) (cond b (Some (name, value)) None)) e)

-- ---- results that give the same

-- neither, or both with the same value for each name
abbrev pub SameGiven : Option NamedValues → Option NamedValues → Type 0
SameGiven None None = Unit {0}
SameGiven None (Some t) = ⊥
SameGiven (Some s) None = ⊥
SameGiven (Some s) (Some t) = (name : Text) → given_in s name ≡ given_in t name

pub same_self : (o : Option NamedValues) → SameGiven o o
same_self None = tt
same_self (Some t) = λ name. refl

pub same_equal : (a b : Option NamedValues) → a ≡ b → SameGiven a b
same_equal a b e = subst (λ o. SameGiven a o) e (same_self a)

pub same_then : (a b c : Option NamedValues) → SameGiven a b → SameGiven b c → SameGiven a c
same_then None None c h k = k
same_then None (Some s) c h k = absurd h
same_then (Some r) None c h k = absurd h
same_then (Some r) (Some s) None h k = k
same_then (Some r) (Some s) (Some t) h k = λ name. h name ∙ k name

-- both give, and the same
pub same_some : (a b : Option NamedValues) (t : NamedValues) → a ≡ Some t → SameGiven a b → (u : NamedValues) × (b ≡ Some u) × ((name : Text) → given_in t name ≡ given_in u name)
same_some None b t e h = absurd (cc)
same_some (Some s) None t e h = absurd h
same_some (Some s) (Some u) t e h = let same : s ≡ t = cc in (u, refl, λ name. ap (λ (v : NamedValues). given_in v name) (sym same) ∙ h name)

pub same_none : (a b : Option NamedValues) → a ≡ None → SameGiven a b → b ≡ None
same_none None None e h = refl
same_none None (Some u) e h = absurd h
same_none (Some s) b e h = absurd (cc)
