-- What clap's lexer says of a word of each kind.
use Rattle.std.proofs.Common.{◌≡◌, ℕ, ◌==◌, Bool, true, false, List, [], ◌∷◌, refl, ap, sym, ◌∙◌, Option, None, Some, codes, cond}
use Rattle.std.specs.Prelude.{slice_get}
use Rattle.std.specs.List.{list_any, before_first, after_first}
use Rattle.std.specs.Str.{bytes_eq, chars, IsUtf8, encode_utf8_all}
use Rattle.std.specs.Char.{encode_utf8}
use Rattle.std.proofs.lemmas.Str.{encodes-chars}
use Rattle.std.proofs.lemmas.Bool.{eqb-true}
use Rattle.clap.specs.Lexer.{long_of, short_of}
use Rattle.command_words.specs.Grammar.{Text, end_of_options, option, other_flag, plain, is_equals, kind_of}

pub data Word (word : Text) : Type 0 where
  dashes : kind_of word ≡ end_of_options → bytes_eq word (codes "--") ≡ true → Word word
  simple : kind_of word ≡ plain → bytes_eq word (codes "--") ≡ false → long_of word ≡ None → short_of word ≡ None → Word word
  long : (name : Text) (value : Option Text) → kind_of word ≡ option name value → bytes_eq word (codes "--") ≡ false → long_of word ≡ Some (name, value) → Word word
  short : kind_of word ≡ other_flag → bytes_eq word (codes "--") ≡ false → long_of word ≡ None → (b : ℕ) (rest : Text) → short_of word ≡ Some (b ∷ rest) →
      (x : ℕ) → slice_get (chars (b ∷ rest)) 0 ≡ Some x → Word word

-- the first character after a hyphen
first_of_list : (cs : List ℕ) (c : ℕ) (rest : Text) → encode_utf8_all (45 ∷ cs) ≡ 45 ∷ c ∷ rest → (x : ℕ) × (slice_get cs 0 ≡ Some x)
unfolding encode_utf8
first_of_list [] c rest e = absurd (cc)
first_of_list (x ∷ xs) c rest e = (x, refl)

behind_hyphen : (c : ℕ) (rest : Text) → chars (45 ∷ c ∷ rest) ≡ 45 ∷ chars (c ∷ rest)
unfolding chars
behind_hyphen c rest = refl

first_char : (c : ℕ) (rest : Text) → IsUtf8 (45 ∷ c ∷ rest) → (x : ℕ) × (slice_get (chars (c ∷ rest)) 0 ≡ Some x)
first_char c rest u = first_of_list (chars (c ∷ rest)) c rest (ap encode_utf8_all (sym (behind_hyphen c rest)) ∙ encodes-chars (45 ∷ c ∷ rest) u)

pub word_is : (word : Text) → IsUtf8 word → Word word
word_is [] u = simple refl refl refl refl
word_is (a ∷ []) u = one (a == 45) refl
  where
    one : (t : Bool) → (a == 45) ≡ t → Word (a ∷ [])
    one true e = simple (rw e refl) (rw e refl) (rw e refl) (rw e refl)
    one false e = simple (rw e refl) (rw e refl) (rw e refl) (rw e refl)
word_is (a ∷ b ∷ []) u = two (a == 45) refl (b == 45) refl
  where
    two : (t : Bool) → (a == 45) ≡ t → (v : Bool) → (b == 45) ≡ v → Word (a ∷ b ∷ [])
    two false e v f = simple (rw e refl) (rw e refl) (rw e refl) (rw e refl)
    two true e true f = dashes (rw (e, f) refl) (rw (e, f) refl)
    two true e false f =
        let h : a ≡ 45 = eqb-true a 45 e in
        let first = first_char b [] (rw h at u) in
        short (rw (e, f) refl) (rw (e, f) refl) (rw (e, f) refl) b [] (rw (e, f) refl) first.0 first.1
word_is (a ∷ b ∷ c ∷ rest) u = two (a == 45) refl (b == 45) refl
  where
    two : (t : Bool) → (a == 45) ≡ t → (v : Bool) → (b == 45) ≡ v → Word (a ∷ b ∷ c ∷ rest)
    two false e v f = simple (rw e refl) (rw e refl) (rw e refl) (rw e refl)
    two true e true f = long (before_first is_equals (c ∷ rest)) (cond (list_any is_equals (c ∷ rest)) (Some (after_first is_equals (c ∷ rest))) None) (rw (e, f) refl) (rw (e, f) refl) (rw (e, f) refl)
    two true e false f =
        let h : a ≡ 45 = eqb-true a 45 e in
        let first = first_char b (c ∷ rest) (rw h at u) in
        short (rw (e, f) refl) (rw (e, f) refl) (rw (e, f) refl) b (c ∷ rest) (rw (e, f) refl) first.0 first.1
