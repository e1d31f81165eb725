-- What kinds words are.
use Rattle.std.proofs.Common.{◌≡◌, ◌≢◌, ℕ, ◌==◌, Bool, true, false, [], ◌∷◌, length, take, refl, ap, sym, ◌∙◌, Option, None, Some, Bor, arith}
use Rattle.std.specs.Prelude.{MatchOption}
use Rattle.std.specs.List.{list_any, before_first, position_or_len}
use Rattle.std.proofs.lemmas.Bool.{eqb-true}
use Rattle.std.proofs.lemmas.List.Folds.{list_any_none}
use Rattle.std.proofs.lemmas.List.Sums.{fails_before_first}
use Rattle.std.proofs.Math.Seq.{take-length}
use Rattle.command_words.specs.Grammar.{Text, option, other_flag, plain, is_equals, option_kind, kind_of}
use Rattle.pd_words.specs.Reading.{value_behind}

-- ---- kinds

-- text without `=` is a name
pub only_name : (text : Text) → position_or_len is_equals text ≡ length text → option text None ≡ option_kind text
only_name text e =
    let none : list_any is_equals text ≡ false = list_any_none is_equals text (λ i d l. fails_before_first is_equals text i d (omega arith)) in
    let whole : before_first is_equals text ≡ text = ap (λ n. take n text) e ∙ take-length text in
    rw (none, whole) refl

by_first : (a b : ℕ) (rest : Text) (t : Bool) → (a == 45) ≡ t → ((other : Text) → a ∷ b ∷ rest ≢ 45 ∷ other) → plain ≡ kind_of (a ∷ b ∷ rest)
by_first a b rest true e h = absurd (h (b ∷ rest) (ap (λ x. x ∷ b ∷ rest) (eqb-true a 45 e)))
by_first a b [] false e h = rw e refl
by_first a b (c ∷ rest) false e h = rw e refl

by_only : (a : ℕ) (t : Bool) → (a == 45) ≡ t → plain ≡ kind_of (a ∷ [])
by_only a true e = rw e refl
by_only a false e = rw e refl

-- a word that doesn't begin with `-` is plain
no_hyphen : (word : Text) → ((rest : Text) → word ≢ 45 ∷ rest) → plain ≡ kind_of word
no_hyphen [] h = refl
no_hyphen (a ∷ []) h = by_only a (a == 45) refl
no_hyphen (a ∷ b ∷ rest) h = by_first a b rest (a == 45) refl h

by_second : (b : ℕ) (rest : Text) (t : Bool) → (b == 45) ≡ t → ((other : Text) → b ∷ rest ≢ 45 ∷ other) → other_flag ≡ kind_of (45 ∷ b ∷ rest)
by_second b rest true e h = absurd (h rest (ap (λ x. x ∷ rest) (eqb-true b 45 e)))
by_second b [] false e h = rw e refl
by_second b (c ∷ rest) false e h = rw e refl

one_hyphen : (flag : Text) → (length flag ≡ 0 → ⊥) → ((rest : Text) → flag ≢ 45 ∷ rest) → other_flag ≡ kind_of (45 ∷ flag)
one_hyphen [] some h = absurd (some refl)
one_hyphen (b ∷ rest) some h = by_second b rest (b == 45) refl h

pub plain_word : (word : Text) (r : Option (Bor Text)) → r ≡ None → MatchOption r ((rest : Text) → word ≢ 45 ∷ rest) (λ x. word ≡ 45 ∷ x.now) → plain ≡ kind_of word
plain_word word None e h = no_hyphen word h
plain_word word (Some x) e h = absurd (cc)

pub flag_word : (word : Text) (r : Option (Bor Text)) (flag : Bor Text) (s : Option (Bor Text)) → r ≡ Some flag → MatchOption r ((rest : Text) → word ≢ 45 ∷ rest) (λ x. word ≡ 45 ∷ x.now) → (length flag.now ≡ 0 → ⊥) →
    s ≡ None → MatchOption s ((rest : Text) → flag.now ≢ 45 ∷ rest) (λ x. flag.now ≡ 45 ∷ x.now) → other_flag ≡ kind_of word
flag_word word None flag s e h some f g = absurd (cc)
flag_word word (Some x) flag None e h some f g =
    let same : x ≡ flag = cc in
    let is : word ≡ 45 ∷ flag.now = h ∙ ap (λ (y : Bor Text). 45 ∷ y.now) same in
    one_hyphen flag.now some g ∙ ap kind_of (sym is)
flag_word word (Some x) flag (Some y) e h some f g = absurd (cc)

-- ---- letters

by_sign : (sign : ℕ) (rest : Text) (t : Bool) → (sign == 61) ≡ t → ((other : Text) → sign ∷ rest ≢ 61 ∷ other) → Some (sign ∷ rest) ≡ value_behind (sign ∷ rest)
by_sign sign rest true e h = absurd (h rest (ap (λ x. x ∷ rest) (eqb-true sign 61 e)))
by_sign sign rest false e h = rw e refl

-- a value that doesn't begin with `=`
pub value_itself : (text : Text) → (length text ≡ 0 → ⊥) → ((rest : Text) → text ≢ 61 ∷ rest) → Some text ≡ value_behind text
value_itself [] some h = absurd (some refl)
value_itself (sign ∷ rest) some h = by_sign sign rest (sign == 61) refl h

pub value_without : (text : Text) (r : Option (Bor Text)) → (length text ≡ 0 → ⊥) → r ≡ None → MatchOption r ((rest : Text) → text ≢ 61 ∷ rest) (λ x. text ≡ 61 ∷ x.now) → Some text ≡ value_behind text
value_without text None some e h = value_itself text some h
value_without text (Some x) some e h = absurd (cc)
