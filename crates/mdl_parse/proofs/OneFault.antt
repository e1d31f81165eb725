-- A text has one fault.
use Rattle.std.proofs.Common.{◌≡◌, ℕ, ◌+◌, List, [], ◌∷◌, ◌++◌, sym, ap, subst, ◌∙◌, refl}
use Rattle.std.proofs.lemmas.List.{append_assoc}
use Rattle.pn_text.specs.Scans.{fault_place}
use Rattle.pn_text.specs.declared.place.Place.{Place}
use Rattle.pn_text.specs.declared.token.LexFault.{LexFault}
use Rattle.mdl_parse.specs.declared.refusal.Refusal.{Refusal}
use Rattle.mdl_parse.specs.declared.refusal.Refusal.TheVariants.{Unexpected, TooDeep}
use Rattle.mdl_parse.specs.declared.fault.SyntaxKind.{SyntaxKind}
use Rattle.mdl_parse.specs.WordsInText.{PlacedWord, AreWords, placed_words}
use Rattle.mdl_parse.specs.Meaning.{most_conditions, AreOf, Begin, CantFollow, refusal_kind, lex_kind, IsFault, AtWord, AtBytes, AtLast}
use Rattle.mdl_parse.proofs.Unique.{text_words, words_behind, never_both}

pub record SameFault (l c other_l other_c : ℕ) (k other : SyntaxKind) : Type 0 where
  pub line : l ≡ other_l
  pub col : c ≡ other_c
  pub kind : k ≡ other

words_append : (a b : List PlacedWord) → AreWords a → AreWords b → AreWords (a ++ b)
words_append [] b h g = g
words_append (x ∷ a) b h g = (h.0, words_append a b h.1 g)

-- what stands before words of a beginning is a beginning
begin_before : (n : ℕ) (a b : List PlacedWord) → AreWords b → Begin n (a ++ b) → Begin n a
begin_before n a b h whole = record {
  whole = whole.whole;
  tail = b ++ whole.tail;
  words = words_append b whole.tail h whole.words;
  spelled = subst (λ (t : List PlacedWord). AreOf n t whole.whole) (append_assoc a b whole.tail) whole.spelled;
}

-- a word that can't follow stands in no beginning
not_in : (text : List ℕ) (before after words_ahead : List PlacedWord) (placed : PlacedWord) (why : Refusal) → words_ahead ≡ before ++ (placed ∷ after) → AreWords words_ahead → CantFollow why (before ++ (placed ∷ [])) → Begin most_conditions words_ahead → ⊥
not_in text before after words_ahead placed why e words cant b =
    let whole : words_ahead ≡ (before ++ (placed ∷ [])) ++ after = e ∙ sym (append_assoc before (placed ∷ []) after) in
    never_both why (before ++ (placed ∷ [])) cant
    (begin_before most_conditions (before ++ (placed ∷ [])) after (words_behind (before ++ (placed ∷ [])) after (subst AreWords whole words)) (subst (Begin most_conditions) whole b))

-- ---- two words

-- where two words stand in a list
data Places (a : List PlacedWord) (x : PlacedWord) (xs : List PlacedWord) (b : List PlacedWord) (y : PlacedWord) : Type 0 where
  Same : a ≡ b → x ≡ y → Places a x xs b y
  First : (rest : List PlacedWord) → b ≡ a ++ (x ∷ rest) → Places a x xs b y
  Second : (rest : List PlacedWord) → a ≡ b ++ (y ∷ rest) → Places a x xs b y

places : (a xs b ys : List PlacedWord) (x y : PlacedWord) → a ++ (x ∷ xs) ≡ b ++ (y ∷ ys) → Places a x xs b y
places [] xs [] ys x y e = Same refl (cc)
places [] xs (d ∷ b) ys x y e = let same : d ≡ x = cc in First b (ap (λ (s : PlacedWord). s ∷ b) same)
places (c ∷ a) xs [] ys x y e = let same : c ≡ y = cc in Second a (ap (λ (s : PlacedWord). s ∷ a) same)
places (c ∷ a) xs (d ∷ b) ys x y e =
    let front : c ≡ d = cc in
    let rest : a ++ (x ∷ xs) ≡ b ++ (y ∷ ys) = cc in
    elim (places a xs b ys x y rest) [
      | Same p q ↦ Same (ap (λ (s : PlacedWord). s ∷ a) front ∙ ap (λ (t : List PlacedWord). d ∷ t) p) q
      | First r p ↦ First r (ap (λ (t : List PlacedWord). d ∷ t) p ∙ ap (λ (s : PlacedWord). s ∷ (a ++ (x ∷ r))) (sym front))
      | Second r p ↦ Second r (ap (λ (t : List PlacedWord). c ∷ t) p ∙ ap (λ (s : PlacedWord). s ∷ (b ++ (y ∷ r))) front)
    ]

words_before : (a b : List PlacedWord) → AreWords (a ++ b) → AreWords a
words_before [] b h = tt
words_before (x ∷ a) b h = (h.0, words_before a b h.1)

one_refusal : (words_ahead : List PlacedWord) (v w : Refusal) → CantFollow v words_ahead → CantFollow w words_ahead → v ≡ w
one_refusal words_ahead Unexpected Unexpected h g = refl
one_refusal words_ahead Unexpected TooDeep h g = absurd (h (most_conditions + 1) g.1)
one_refusal words_ahead TooDeep Unexpected h g = absurd (g (most_conditions + 1) h.1)
one_refusal words_ahead TooDeep TooDeep h g = refl

same_words : (text : List ℕ) (a xs b ys : List PlacedWord) (x y : PlacedWord) (v w : Refusal) → placed_words text ≡ a ++ (x ∷ xs) → Begin most_conditions a → CantFollow v (a ++ (x ∷ []))
    → placed_words text ≡ b ++ (y ∷ ys) → Begin most_conditions b → CantFollow w (b ++ (y ∷ [])) → SameFault x.line x.col y.line y.col (refusal_kind v) (refusal_kind w)
same_words text a xs b ys x y v w e begun cant f begun' cant' = elim (places a xs b ys x y (sym e ∙ f)) [
  | Same p q ↦
      let one : a ++ (x ∷ []) ≡ b ++ (y ∷ []) = ap (λ (t : List PlacedWord). t ++ (x ∷ [])) p ∙ ap (λ (s : PlacedWord). b ++ (s ∷ [])) q in
      let why = one_refusal (b ++ (y ∷ [])) v w (subst (CantFollow v) one cant) cant' in
      record { line = ap (λ (s : PlacedWord). s.line) q; col = ap (λ (s : PlacedWord). s.col) q; kind = ap refusal_kind why }
  | First r p ↦ absurd (not_in text a r b x v p (words_before b (y ∷ ys) (subst AreWords f (text_words text))) cant begun')
  | Second r p ↦ absurd (not_in text b r a y w p (words_before a (x ∷ xs) (subst AreWords e (text_words text))) cant' begun)
]

-- ---- two faults

same_lex : (f g : LexFault) → f ≡ g → SameFault (fault_place f).line (fault_place f).col (fault_place g).line (fault_place g).col (lex_kind f) (lex_kind g)
same_lex f g e = record { line = ap (λ (l : LexFault). (fault_place l).line) e; col = ap (λ (l : LexFault). (fault_place l).col) e; kind = ap lex_kind e }

same_fault : (text : List ℕ) (line col other_line other_col : ℕ) (kind other : SyntaxKind) → IsFault text line col kind → IsFault text other_line other_col other → SameFault line col other_line other_col kind other
same_fault text line col other_line other_col kind other (AtWord a x xs v e b cant) (AtWord a' x' ys w e' b' cant') = same_words text a xs a' ys x x' v w e b cant e' b' cant'
same_fault text line col other_line other_col kind other (AtWord a x xs v e b cant) (AtBytes fault e' b') = absurd (not_in text a xs (placed_words text) x v e (text_words text) cant b')
same_fault text line col other_line other_col kind other (AtWord a x xs v e b cant) (AtLast last e' b' none) = absurd (not_in text a xs (placed_words text) x v e (text_words text) cant b')
same_fault text line col other_line other_col kind other (AtBytes fault e b) (AtWord a' x' ys w e' b' cant') = absurd (not_in text a' ys (placed_words text) x' w e' (text_words text) cant' b)
same_fault text line col other_line other_col kind other (AtBytes fault e b) (AtBytes fault' e' b') = (let f = sym e ∙ e' in same_lex fault fault' (cc))
same_fault text line col other_line other_col kind other (AtBytes fault e b) (AtLast last e' b' none) = (let f = sym e ∙ e' in absurd cc)
same_fault text line col other_line other_col kind other (AtLast last e b none) (AtWord a' x' ys w e' b' cant') = absurd (not_in text a' ys (placed_words text) x' w e' (text_words text) cant' b)
same_fault text line col other_line other_col kind other (AtLast last e b none) (AtBytes fault' e' b') = (let f = sym e ∙ e' in absurd cc)
same_fault text line col other_line other_col kind other (AtLast last e b none) (AtLast last' e' b' none') =
    (let f = sym e ∙ e' in let same : last ≡ last' = cc in record { line = ap (λ (p : Place). p.line) same; col = ap (λ (p : Place). p.col) same; kind = refl })

pub one_fault : (text : List ℕ) (line col other_line other_col : ℕ) (kind other : SyntaxKind) → IsFault text line col kind → IsFault text other_line other_col other → (line ≡ other_line) × (col ≡ other_col) × (kind ≡ other)
one_fault text line col other_line other_col kind other f g = let s = same_fault text line col other_line other_col kind other f g in (s.line, s.col, s.kind)
