-- A text has one meaning.
use Rattle.std.proofs.Common.{◌≡◌, ℕ, List, [], ◌∷◌, ◌++◌, refl, sym, ap, subst, ◌∙◌}
use Rattle.std.proofs.lemmas.List.{append_assoc}
use Rattle.pn_text.specs.Scans.{fault_place}
use Rattle.pn_text.specs.declared.place.Place.{Place}
use Rattle.pn_text.specs.declared.token.LexFault.{LexFault}
use Rattle.mdl_parse.specs.WordsInText.{PlacedWord, AreWords, placed_words}
use Rattle.mdl_parse.proofs.Rules.{AreWords-append, ok_is}
use Rattle.mdl_parse.proofs.Unique.{text_words, words_behind}
use Rattle.directives.specs.declared.directive.Directive.{Directive}
use Rattle.directives.specs.declared.fault.DirectiveKind.{DirectiveKind}
use Rattle.directives.specs.Meaning.{AreOf, Begin, lex_kind, AtWord, AtBytes, AtLast, OneDirectives, OneFault, DirectivesOrFault}
use Rattle.directives.proofs.Exact.{read_again, whole_begins}

-- what stands before words of a beginning is a beginning
begin_before : (a b : List PlacedWord) → AreWords b → Begin (a ++ b) → Begin a
begin_before a b h w = record {
  whole = w.whole;
  tail = b ++ w.tail;
  words = AreWords-append b w.tail h w.words;
  spelled = subst (λ (t : List PlacedWord). AreOf t w.whole) (append_assoc a b w.tail) w.spelled;
}

-- a word that can't follow stands in no beginning
not_in : (text : List ℕ) (before after : List PlacedWord) (placed : PlacedWord) → placed_words text ≡ before ++ (placed ∷ after) → (Begin (before ++ (placed ∷ [])) → ⊥) → Begin (placed_words text) → ⊥
not_in text before after placed e cant b =
    let whole : placed_words text ≡ (before ++ (placed ∷ [])) ++ after = e ∙ sym (append_assoc before (placed ∷ []) after) in
    cant (begin_before (before ++ (placed ∷ [])) after (words_behind (before ++ (placed ∷ [])) after (subst AreWords whole (text_words text))) (subst Begin whole b))

-- ---- the first word that can't follow

words_before : (a b : List PlacedWord) → AreWords (a ++ b) → AreWords a
words_before [] b h = tt
words_before (x ∷ a) b h = (h.0, words_before a b h.1)

-- what holds of words, and of all that stand before them, ends to hold at one word
one_end : (B : List PlacedWord → Type 0) → ((a b : List PlacedWord) → AreWords b → B (a ++ b) → B a) → (a xs b ys : List PlacedWord) (x y : PlacedWord) →
    a ++ (x ∷ xs) ≡ b ++ (y ∷ ys) → AreWords (a ++ (x ∷ xs)) → AreWords (b ++ (y ∷ ys)) → B a → (B (a ++ (x ∷ [])) → ⊥) → B b → (B (b ++ (y ∷ [])) → ⊥) → x ≡ y
one_end B before [] xs [] ys x y e v w p bad q worse = cc
one_end B before [] xs (d ∷ b) ys x y e v w p bad q worse =
    let same : d ≡ x = cc in absurd (bad (subst (λ (s : PlacedWord). B (s ∷ [])) same (before (d ∷ []) b (words_before b (y ∷ ys) w.1) q)))
one_end B before (c ∷ a) xs [] ys x y e v w p bad q worse =
    let same : c ≡ y = cc in absurd (worse (subst (λ (s : PlacedWord). B (s ∷ [])) same (before (c ∷ []) a (words_before a (x ∷ xs) v.1) p)))
one_end B before (c ∷ a) xs (d ∷ b) ys x y e v w p bad q worse =
    let same : c ≡ d = cc in
    let rest : a ++ (x ∷ xs) ≡ b ++ (y ∷ ys) = cc in
    one_end (λ t. B (c ∷ t)) (λ u t. before (c ∷ u) t) a xs b ys x y rest v.1 w.1 p bad (subst (λ (s : PlacedWord). B (s ∷ b)) (sym same) q)
    (λ k. worse (subst (λ (s : PlacedWord). B (s ∷ (b ++ (y ∷ [])))) same k))

same_word : (text : List ℕ) (a xs b ys : List PlacedWord) (x y : PlacedWord) → placed_words text ≡ a ++ (x ∷ xs) → placed_words text ≡ b ++ (y ∷ ys) →
    Begin a → (Begin (a ++ (x ∷ [])) → ⊥) → Begin b → (Begin (b ++ (y ∷ [])) → ⊥) → x ≡ y
same_word text a xs b ys x y e f p bad q worse =
    one_end Begin begin_before a xs b ys x y (sym e ∙ f) (subst AreWords e (text_words text)) (subst AreWords f (text_words text)) p bad q worse

-- ---- the laws

pub one_directives : OneDirectives
one_directives text ds others i j =
    ap (λ (p : List Directive × List PlacedWord). p.0)
    (ok_is (ds, []) (others, []) (sym (read_again (placed_words text) ds i.spelled) ∙ read_again (placed_words text) others j.spelled))

pub directives_or_fault : DirectivesOrFault
directives_or_fault text ds line col kind i (AtWord before placed after e b cant) = not_in text before after placed e cant (whole_begins (placed_words text) ds i.spelled)
directives_or_fault text ds line col kind i (AtBytes fault e b) = (let f = sym i.end ∙ e in absurd cc)
directives_or_fault text ds line col kind i (AtLast last e b none) = none ds i.spelled

abbrev Same : ℕ → ℕ → ℕ → ℕ → DirectiveKind → DirectiveKind → Type 0
Same line col other_line other_col kind other = (line ≡ other_line) × (col ≡ other_col) × (kind ≡ other)

same_lex : (f g : LexFault) → f ≡ g → Same (fault_place f).line (fault_place f).col (fault_place g).line (fault_place g).col (lex_kind f) (lex_kind g)
same_lex f g e = (ap (λ (l : LexFault). (fault_place l).line) e, ap (λ (l : LexFault). (fault_place l).col) e, ap lex_kind e)

pub one_fault : OneFault
one_fault text line col other_line other_col kind other (AtWord a x xs e b cant) (AtWord a' y ys e' b' cant') =
    let q = same_word text a xs a' ys x y e e' b cant b' cant' in (ap (λ (s : PlacedWord). s.line) q, ap (λ (s : PlacedWord). s.col) q, refl)
one_fault text line col other_line other_col kind other (AtWord a x xs e b cant) (AtBytes fault e' b') = absurd (not_in text a xs x e cant b')
one_fault text line col other_line other_col kind other (AtWord a x xs e b cant) (AtLast last e' b' none) = absurd (not_in text a xs x e cant b')
one_fault text line col other_line other_col kind other (AtBytes fault e b) (AtWord a' y ys e' b' cant') = absurd (not_in text a' ys y e' cant' b)
one_fault text line col other_line other_col kind other (AtBytes fault e b) (AtBytes fault' e' b') = (let f = sym e ∙ e' in same_lex fault fault' (cc))
one_fault text line col other_line other_col kind other (AtBytes fault e b) (AtLast last e' b' none) = (let f = sym e ∙ e' in absurd cc)
one_fault text line col other_line other_col kind other (AtLast last e b none) (AtWord a' y ys e' b' cant') = absurd (not_in text a' ys y e' cant' b)
one_fault text line col other_line other_col kind other (AtLast last e b none) (AtBytes fault' e' b') = (let f = sym e ∙ e' in absurd cc)
one_fault text line col other_line other_col kind other (AtLast last e b none) (AtLast last' e' b' none') =
    (let f = sym e ∙ e' in let same : last ≡ last' = cc in (ap (λ (p : Place). p.line) same, ap (λ (p : Place). p.col) same, refl))
