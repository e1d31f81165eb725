-- The readers of single words: keywords, signs, names, texts and numbers.
use Rattle.std.proofs.Common.{◌≡◌, ℕ, Bool, true, false, List, [], ◌∷◌, Some, Ok, refl, sym, ap, ◌∙◌, get_or, eq-eqb}
use Rattle.std.proofs.lemmas.Slice.Eq.{bytes_eq-Decides}
use Rattle.std.proofs.lemmas.Bool.{eqb-true}
use Rattle.pn_text.specs.Words.{Word, NameWord, NumberWord, QuotedWord, FocusPath, DollarArg, SignWord}
use Rattle.pn_text.specs.declared.token.Sign.{Sign}
use Rattle.pn_text.specs.declared.token.Sign.TheVariants.{OpenBrace, CloseBrace, OpenBracket, CloseBracket, OpenParen, CloseParen, OpenCode, CloseCode, Semicolon, Comma, PlusPlus, MinusMinus, Assign, Equal, NotEqual, Less, LessEqual, Greater, GreaterEqual}
use Rattle.mdl_parse.specs.WordsInText.{Starts, IsWord}
use Rattle.mdl_parse.specs.Steps.{line_at}
use Rattle.mdl_parse.specs.Picks.{is_sign, is_arg, sign_number, when, name_of, word_number, quoted_of, path_of}
use Rattle.mdl_parse.specs.Shapes.{is_keyword}
use Rattle.mdl_parse.specs.Readers.{keyword_at, sign_at, arg_at, start_at, name_at, number_at, quoted_at, path_at}
use Rattle.mdl_parse.specs.Grammar.{keyword}
use Rattle.mdl_parse.proofs.Readers.{Reads, closed, any, one as one_word}
use Rattle.mdl_parse.proofs.MadeReaders.{made_reads}
use Rattle.mdl_parse.proofs.Bounded.{lined_at, lined_tree_words, lined_ok, lined_on, lined_reads}
use Rattle.mdl_parse.proofs.Combine.{bind_assoc, leaf_any}

-- ---- keywords and signs

pub is_keyword-true : (text : List ℕ) (w : Word) → is_keyword text w ≡ true → w ≡ keyword text
is_keyword-true text (NameWord name) h = ap NameWord ((bytes_eq-Decides name text).0 h)
is_keyword-true text w h = absurd cc

pub keyword-is : (text : List ℕ) → is_keyword text (keyword text) ≡ true
keyword-is text = (bytes_eq-Decides text text).1 refl

pub when_some : {A : Type 0} (b : Bool) (a x : A) → when b a ≡ Some x → b ≡ true
when_some true a x e = refl
when_some false a x e = absurd cc

pub keyword_reads : (text : List ℕ) → IsWord (keyword text) → Reads (λ n. keyword_at text) (one_word (λ x. keyword text)) any closed
keyword_reads text good = leaf_any (λ word. when (is_keyword text word) tt) (λ x. keyword text)
    (λ w a e. is_keyword-true text w (when_some (is_keyword text w) tt a e))
    (λ a. rw (keyword-is text) refl)
    tt good

-- a keyword with its line
pub start_reads : (text : List ℕ) → IsWord (keyword text) → Reads (λ n. start_at text) (λ line. Starts line (keyword text) ∷ []) any closed
unfolding start_at
start_reads text good =
    let p = lined_reads (λ n. keyword_at text) (one_word (λ x. keyword text)) any closed (keyword_reads text good) (λ n a h. tt) in
    made_reads (lined_at (λ n. keyword_at text)) (lined_tree_words (one_word (λ x. keyword text))) (lined_ok any) (lined_on closed) p
    (λ n. start_at text) (λ line. Starts line (keyword text) ∷ []) any closed (λ x. x.0)
    (λ n words_ahead. sym (bind_assoc (keyword_at text words_ahead) (λ x. Ok ((line_at words_ahead, x.0), x.1)) (λ x. Ok (x.0.0, x.1))))
    (λ n a h. refl) (λ n a h. refl) (λ n a h. tt) (λ n b h. ((b, tt), tt, refl)) (λ n k b le h. tt)

signs : List Sign
signs = OpenBrace ∷ CloseBrace ∷ OpenBracket ∷ CloseBracket ∷ OpenParen ∷ CloseParen ∷ OpenCode ∷ CloseCode ∷ Semicolon ∷ Comma ∷ PlusPlus ∷ MinusMinus ∷ Assign ∷ Equal ∷ NotEqual
    ∷ Less ∷ LessEqual ∷ Greater ∷ GreaterEqual ∷ []

sign_numbered : (sign : Sign) → get_or signs (sign_number sign) OpenBrace ≡ sign
unfolding signs
sign_numbered OpenBrace = refl
sign_numbered CloseBrace = refl
sign_numbered OpenBracket = refl
sign_numbered CloseBracket = refl
sign_numbered OpenParen = refl
sign_numbered CloseParen = refl
sign_numbered OpenCode = refl
sign_numbered CloseCode = refl
sign_numbered Semicolon = refl
sign_numbered Comma = refl
sign_numbered PlusPlus = refl
sign_numbered MinusMinus = refl
sign_numbered Assign = refl
sign_numbered Equal = refl
sign_numbered NotEqual = refl
sign_numbered Less = refl
sign_numbered LessEqual = refl
sign_numbered Greater = refl
sign_numbered GreaterEqual = refl

-- signs of one number are one
pub sign_number-injective : (a b : Sign) → sign_number a ≡ sign_number b → a ≡ b
sign_number-injective a b e = sym (sign_numbered a) ∙ ap (λ (n : ℕ). get_or signs n OpenBrace) e ∙ sign_numbered b

pub is_sign-true : (sign : Sign) (w : Word) → is_sign sign w ≡ true → w ≡ SignWord sign
is_sign-true sign (SignWord x) h = ap SignWord (sign_number-injective x sign (eqb-true (sign_number x) (sign_number sign) h))
is_sign-true sign w h = absurd cc

pub sign-is : (sign : Sign) → is_sign sign (SignWord sign) ≡ true
sign-is sign = eq-eqb (sign_number sign) (sign_number sign) refl

pub sign_reads : (sign : Sign) → Reads (λ n. sign_at sign) (one_word (λ x. SignWord sign)) any closed
sign_reads sign = leaf_any (λ word. when (is_sign sign word) tt) (λ x. SignWord sign)
    (λ w a e. is_sign-true sign w (when_some (is_sign sign w) tt a e))
    (λ a. rw (sign-is sign) refl)
    tt refl

is_arg-true : (w : Word) → is_arg w ≡ true → w ≡ DollarArg
is_arg-true DollarArg h = refl
is_arg-true w h = absurd cc

pub arg_reads : Reads (λ n. arg_at) (one_word (λ x. DollarArg)) any closed
arg_reads = leaf_any (λ word. when (is_arg word) tt) (λ x. DollarArg) (λ w a e. is_arg-true w (when_some (is_arg w) tt a e)) (λ a. refl) tt refl

-- ---- texts and numbers

name_picked : (w : Word) (a : List ℕ) → name_of w ≡ Some a → w ≡ NameWord a
name_picked (NameWord x) a e = ap NameWord cc
name_picked w a e = absurd cc

pub name_reads : Reads (λ n. name_at) (one_word NameWord) any closed
name_reads = leaf_any name_of NameWord name_picked (λ a. refl) (97 ∷ []) refl

number_picked : (w : Word) (a : ℕ) → word_number w ≡ Some a → w ≡ NumberWord a
number_picked (NumberWord x) a e = ap NumberWord cc
number_picked w a e = absurd cc

pub number_reads : Reads (λ n. number_at) (one_word NumberWord) any closed
number_reads = leaf_any word_number NumberWord number_picked (λ a. refl) 0 refl

quoted_picked : (w : Word) (a : List ℕ) → quoted_of w ≡ Some a → w ≡ QuotedWord a
quoted_picked (QuotedWord x) a e = ap QuotedWord cc
quoted_picked w a e = absurd cc

pub quoted_reads : Reads (λ n. quoted_at) (one_word QuotedWord) any closed
quoted_reads = leaf_any quoted_of QuotedWord quoted_picked (λ a. refl) [] refl

path_picked : (w : Word) (a : List ℕ) → path_of w ≡ Some a → w ≡ FocusPath a
path_picked (FocusPath x) a e = ap FocusPath cc
path_picked w a e = absurd cc

pub path_reads : Reads (λ n. path_at) (one_word FocusPath) any closed
path_reads = leaf_any path_of FocusPath path_picked (λ a. refl) (47 ∷ 97 ∷ []) refl
