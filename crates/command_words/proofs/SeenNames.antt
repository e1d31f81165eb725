-- The names of a form, as they are seen and as the code has them.
use Rattle.std.proofs.Common.{◌≡◌, ◌+◌, Bool, cond, not, ◌&&◌, ◌||◌, ℕ, suc, List, [], ◌∷◌, length, refl, ap, ◌∙◌, Option, Some, None, Bor, nat_lt}
use Rattle.std.specs.List.{list_any, list_all, position, prefix_len, position_or_len}
use Rattle.std.specs.Str.{bytes_eq}
use Rattle.std.specs.Prelude.{option_map}
use Rattle.std.specs.Option.{option_or}
use Rattle.command_words.specs.Grammar.{Text}
use Rattle.command_words.specs.Walks.{position_of, slot_of}
use Rattle.command_words.specs.Walked.{form_seen, option_names}
use Rattle.command_words.specs.declared.forms.Form.{Form}

pub any_seen : (p : Text → Bool) (names : List (Bor Text)) → list_any (λ n. p n.now) names ≡ list_any p (option_names names)
any_seen p [] = refl
any_seen p (n ∷ names) = ap (λ b. p n.now || b) (any_seen p names)

pub all_seen : (p : Text → Bool) (names : List (Bor Text)) → list_all (λ n. p n.now) names ≡ list_all p (option_names names)
all_seen p [] = refl
all_seen p (n ∷ names) = ap (λ b. p n.now && b) (all_seen p names)

prefix_seen : (p : Text → Bool) (names : List (Bor Text)) → prefix_len (λ n. p n.now) names ≡ prefix_len p (option_names names)
prefix_seen p [] = refl
prefix_seen p (n ∷ names) = ap (λ k. cond (p n.now) (1 + k) 0) (prefix_seen p names)

pub same_length : (names : List (Bor Text)) → length names ≡ length (option_names names)
same_length [] = refl
same_length (n ∷ names) = ap suc (same_length names)

pub position_seen : (p : Text → Bool) (names : List (Bor Text)) → position (λ n. p n.now) names ≡ position p (option_names names)
position_seen p names =
    ap (λ k. cond (nat_lt k (length names)) (Some k) None) (prefix_seen (λ n. not (p n)) names)
    ∙ ap (λ l. cond (nat_lt (position_or_len p (option_names names)) l) (Some (position_or_len p (option_names names))) None) (same_length names)

-- the number of a name, from its places among the two lists of names
pub slot_by : (form : Form) (name : Text) (o p : Option ℕ) → o ≡ position (λ (n : Bor Text). bytes_eq n.now name) form.places.now → p ≡ position (λ (n : Bor Text). bytes_eq n.now name) form.options.now →
    option_or o (option_map (λ k. length form.places.now + k) p) ≡ slot_of (form_seen form) name
slot_by form name o p e f =
    ap (λ o. option_or o (option_map (λ k. length form.places.now + k) p)) (e ∙ position_seen (λ n. bytes_eq n name) form.places.now)
    ∙ ap (λ p. option_or (position_of (option_names form.places.now) name) (option_map (λ k. length form.places.now + k) p)) (f ∙ position_seen (λ n. bytes_eq n name) form.options.now)
    ∙ ap (λ l. option_or (position_of (option_names form.places.now) name) (option_map (λ k. l + k) (position_of (option_names form.options.now) name))) (same_length form.places.now)
