-- The words of a tree are spelled by any words that are the same, where the tree takes their lines.
use Rattle.std.proofs.Common.{◌≡◌, ℕ, List, [], ◌∷◌, ◌++◌, map, refl, sym, ap, ap₂, subst, ◌∙◌}
use Rattle.std.specs.List.{flat_map, AllByRecursion}
use Rattle.std.proofs.lemmas.List.{map-append}
use Rattle.pn_text.specs.Words.{Word}
use Rattle.mdl_parse.specs.WordsInText.{PlacedWord, TreeWord, plain_word, other_words, starts, Spells}
use Rattle.mdl_parse.specs.Steps.{line_at}
use Rattle.mdl_parse.proofs.Rules.{Spells-append}

abbrev pub words_at : List PlacedWord → List Word
words_at words_ahead = map (λ placed. placed.word) words_ahead

abbrev pub plain_words : List TreeWord → List Word
plain_words tree_words = map plain_word tree_words

-- ---- the words of tree words

pub goes_words : (words : List Word) → plain_words (other_words words) ≡ words
goes_words [] = refl
goes_words (w ∷ words) = ap (λ (t : List Word). w ∷ t) (goes_words words)

pub starts_words : (line : ℕ) (words : List Word) → plain_words (starts line words) ≡ words
starts_words line [] = refl
starts_words line (w ∷ words) = ap (λ (t : List Word). w ∷ t) (goes_words words)

pub plain_words-append : (a b : List TreeWord) → plain_words (a ++ b) ≡ plain_words a ++ plain_words b
plain_words-append a b = map-append plain_word a b

-- ---- single parts

pub goes_spelled : (words : List Word) (front : List PlacedWord) → words_at front ≡ words → Spells (other_words words) front
goes_spelled [] [] e = tt
goes_spelled [] (s ∷ front) e = absurd cc
goes_spelled (w ∷ words) [] e = absurd cc
goes_spelled (w ∷ words) (s ∷ front) e = (cc, goes_spelled words front cc)

pub starts_spelled : (words : List Word) (front : List PlacedWord) → words_at front ≡ words → Spells (starts (line_at front) words) front
starts_spelled [] [] e = tt
starts_spelled [] (s ∷ front) e = absurd cc
starts_spelled (w ∷ words) [] e = absurd cc
starts_spelled (w ∷ words) (s ∷ front) e = ((cc, refl), goes_spelled words front cc)

-- ---- two parts

pub record Halves (a b : List Word) (front : List PlacedWord) : Type 0 where
  pub first : List PlacedWord
  pub second : List PlacedWord
  pub whole : front ≡ first ++ second
  pub first_words : words_at first ≡ a
  pub second_words : words_at second ≡ b

pub halves : (a b : List Word) (front : List PlacedWord) → words_at front ≡ a ++ b → Halves a b front
halves [] b front e = record { first = []; second = front; whole = refl; first_words = refl; second_words = e }
halves (w ∷ a) b [] e = absurd cc
halves (w ∷ a) b (s ∷ front) e =
    let rest : words_at front ≡ a ++ b = cc in
    let here : s.word ≡ w = cc in
    let h = halves a b front rest in
    record {
      first = s ∷ h.first;
      second = h.second;
      whole = ap (λ (t : List PlacedWord). s ∷ t) h.whole;
      first_words = ap₂ (λ (x : Word) (t : List Word). x ∷ t) here h.first_words;
      second_words = h.second_words;
    }

-- ---- trees

-- a tree that takes the lines of these words, and is the same but for lines
pub record Relined {A : Type 0} (tree_words : A → List TreeWord) (but : A → A) (ok : ℕ → A → Type 0) (a : A) (front : List PlacedWord) : Type 0 where
  pub again : A
  pub spelled : Spells (tree_words again) front
  pub same : but again ≡ but a
  pub shaped : (n : ℕ) → ok n a → ok n again

abbrev pub Relines : {A : Type 0} → (A → List TreeWord) → (A → A) → (ℕ → A → Type 0) → Type 0
Relines {A} tree_words but ok = (a : A) (front : List PlacedWord) → words_at front ≡ plain_words (tree_words a) → Relined tree_words but ok a front

abbrev pub each : {A : Type 0} → (ℕ → A → Type 0) → ℕ → List A → Type 0
each ok n = AllByRecursion (ok n)

pub all_relined : {A : Type 0} (tree_words : A → List TreeWord) (but : A → A) (ok : ℕ → A → Type 0) → Relines tree_words but ok → Relines (flat_map tree_words) (map but) (each ok)
all_relined tree_words but ok one [] [] e = record { again = []; spelled = tt; same = refl; shaped = λ n h. h }
all_relined tree_words but ok one [] (s ∷ front) e = absurd cc
all_relined {A} tree_words but ok one (a ∷ others) front e =
    let h = halves (plain_words (tree_words a)) (plain_words (flat_map tree_words others)) front (e ∙ plain_words-append (tree_words a) (flat_map tree_words others)) in
    let x = one a h.first h.first_words in
    let xs = all_relined tree_words but ok one others h.second h.second_words in
    record {
      again = x.again ∷ xs.again;
      spelled = subst (Spells (tree_words x.again ++ flat_map tree_words xs.again)) (sym h.whole) (Spells-append (tree_words x.again) (flat_map tree_words xs.again) h.first h.second x.spelled xs.spelled);
      same = ap₂ (λ (y : A) (t : List A). y ∷ t) x.same xs.same;
      shaped = λ n k. (x.shaped n k.0, xs.shaped n k.1);
    }
