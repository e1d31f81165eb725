-- Readers of words, and what they keep: each reads exactly the words that its value is spelled by.
use Rattle.std.proofs.Common.{◌≡◌, ◌<◌, Bool, false, List, [], ◌∷◌, ◌++◌, length, map, Ok, Err, refl, sym, ap, subst, ◌∙◌, arith, inl, inr, ◌⊎◌}
use Rattle.std.proofs.lemmas.List.{length-append}
use Rattle.pn_text.specs.Words.{Word}
use Rattle.mdl_parse.specs.WordsInText.{IsWord}
use Rattle.mdl_parse.specs.WordsInText.{PlacedWord, AreWords, TreeWord, Starts, Goes, plain_word, Fits, Spells}
use Rattle.mdl_parse.specs.Steps.{Stop, Read, ◌>>=◌, is_first}

-- ---- words of texts and trees

abbrev pub AreTreeWords : List TreeWord → Type 0
AreTreeWords [] = Unit {0}
AreTreeWords (tree_word ∷ tree_words) = IsWord (plain_word tree_word) × AreTreeWords tree_words

-- a spelling of one tree word
abbrev pub placed_as : TreeWord → PlacedWord
placed_as (Starts line word) = record { word = word; line = line; col = 0 }
placed_as (Goes word) = record { word = word; line = 0; col = 0 }

-- a spelling
abbrev pub all_placed_as : List TreeWord → List PlacedWord
all_placed_as tree_words = map placed_as tree_words

pub placed_fits : (tree_word : TreeWord) → Fits tree_word (placed_as tree_word)
placed_fits (Starts line word) = (refl, refl)
placed_fits (Goes word) = refl

pub placed_spell : (tree_words : List TreeWord) → Spells tree_words (all_placed_as tree_words)
placed_spell [] = tt
placed_spell (tree_word ∷ tree_words) = (placed_fits tree_word, placed_spell tree_words)

pub placed_is : (tree_word : TreeWord) → (placed_as tree_word).word ≡ plain_word tree_word
placed_is (Starts line word) = refl
placed_is (Goes word) = refl

pub placed_are_words : (tree_words : List TreeWord) → AreTreeWords tree_words → AreWords (all_placed_as tree_words)
placed_are_words [] h = tt
placed_are_words (tree_word ∷ tree_words) h = (subst IsWord (sym (placed_is tree_word)) h.0, placed_are_words tree_words h.1)

pub AreWords-append : (a b : List PlacedWord) → AreWords a → AreWords b → AreWords (a ++ b)
AreWords-append [] b h k = k
AreWords-append (x ∷ a) b h k = (h.0, AreWords-append a b h.1 k)

pub AreTreeWords-append : (a b : List TreeWord) → AreTreeWords a → AreTreeWords b → AreTreeWords (a ++ b)
AreTreeWords-append [] b h k = k
AreTreeWords-append (x ∷ a) b h k = (h.0, AreTreeWords-append a b h.1 k)

pub fits_word : (tree_word : TreeWord) (placed : PlacedWord) → Fits tree_word placed → placed.word ≡ plain_word tree_word
fits_word (Starts line word) placed h = h.0
fits_word (Goes word) placed h = h

pub Spells-append : (m n : List TreeWord) (a b : List PlacedWord) → Spells m a → Spells n b → Spells (m ++ n) (a ++ b)
Spells-append [] n [] b h k = k
Spells-append [] n (x ∷ a) b h k = absurd h
Spells-append (tree_word ∷ m) n [] b h k = absurd h
Spells-append (tree_word ∷ m) n (x ∷ a) b h k = (h.0, Spells-append m n a b h.1 k)

-- a spelling of two lists of words
pub record Parted (m n : List TreeWord) (words_ahead : List PlacedWord) : Type 0 where
  pub front : List PlacedWord
  pub behind : List PlacedWord
  pub parts : words_ahead ≡ front ++ behind
  pub first : Spells m front
  pub second : Spells n behind

pub Spells-parted : (m n : List TreeWord) (words_ahead : List PlacedWord) → Spells (m ++ n) words_ahead → Parted m n words_ahead
Spells-parted [] n words_ahead h = record { front = []; behind = words_ahead; parts = refl; first = tt; second = h }
Spells-parted (tree_word ∷ m) n [] h = absurd h
Spells-parted (tree_word ∷ m) n (x ∷ words_ahead) h =
    let p = Spells-parted m n words_ahead h.1 in
    record { front = x ∷ p.front; behind = p.behind; parts = ap (λ (t : List PlacedWord). x ∷ t) p.parts; first = (h.0, p.first); second = p.second }

-- ---- first words

-- it doesn't begin with such a word
abbrev pub Misses : (Word → Bool) → List PlacedWord → Type 0
Misses first [] = Unit {0}
Misses first (placed ∷ words_ahead) = first placed.word ≡ false

-- no word goes on
abbrev pub never : Word → Bool
never word = false

pub Misses-never : (words_ahead : List PlacedWord) → Misses never words_ahead
Misses-never [] = tt
Misses-never (placed ∷ words_ahead) = refl

pub Misses-same : (first : Word → Bool) (used : List PlacedWord) (x : PlacedWord) (more other : List PlacedWord) → Misses first (used ++ (x ∷ more)) → Misses first (used ++ (x ∷ other))
Misses-same first [] x more other h = h
Misses-same first (y ∷ used) x more other h = h

-- it begins with a word of this kind
abbrev pub StartsAs : (Word → Bool) → Bool → List TreeWord → Type 0
StartsAs first b [] = ⊥
StartsAs first b (tree_word ∷ tree_words) = first (plain_word tree_word) ≡ b

pub is_first-spelled : (first : Word → Bool) (b : Bool) (tree_words : List TreeWord) (words_ahead rest : List PlacedWord) → Spells tree_words words_ahead → StartsAs first b tree_words → is_first first (words_ahead ++ rest) ≡ b
is_first-spelled first b [] words_ahead rest h s = absurd s
is_first-spelled first b (tree_word ∷ tree_words) [] rest h s = absurd h
is_first-spelled first b (tree_word ∷ tree_words) (placed ∷ words_ahead) rest h s = ap first (fits_word tree_word placed h.0) ∙ s

pub Misses-first : (first : Word → Bool) (words_ahead : List PlacedWord) → is_first first words_ahead ≡ false → Misses first words_ahead
Misses-first first [] h = tt
Misses-first first (placed ∷ words_ahead) h = h

pub first-Misses : (first : Word → Bool) (words_ahead : List PlacedWord) → Misses first words_ahead → is_first first words_ahead ≡ false
first-Misses first [] h = refl
first-Misses first (placed ∷ words_ahead) h = h

pub longer : (first : Word → Bool) (b : Bool) (tree_words : List TreeWord) (front rest : List PlacedWord) → Spells tree_words front → StartsAs first b tree_words → length rest < length (front ++ rest)
longer first b [] front rest h s = absurd s
longer first b (tree_word ∷ tree_words) [] rest h s = absurd h
longer first b (tree_word ∷ tree_words) (x ∷ front) rest h s = omega (arith, length-append front rest)

-- ---- results

pub bind_ok : {A B : Type 0} (r : Read A) (f : A × List PlacedWord → Read B) (y : B × List PlacedWord) → (r >>= f) ≡ Ok y → (x : A × List PlacedWord) × (r ≡ Ok x) × (f x ≡ Ok y)
bind_ok (Ok x) f y e = (x, refl, e)
bind_ok (Err d) f y e = absurd cc

pub bind_err : {A B : Type 0} (r : Read A) (f : A × List PlacedWord → Read B) (s : Stop) → (r >>= f) ≡ Err s → (r ≡ Err s) ⊎ ((x : A × List PlacedWord) × (r ≡ Ok x) × (f x ≡ Err s))
bind_err (Ok x) f s e = inr (x, refl, e)
bind_err (Err d) f s e = inl cc

pub bind_same : {A B : Type 0} (r : Read A) (f : A × List PlacedWord → Read B) (s : Stop) → r ≡ Err s → (r >>= f) ≡ Err s
bind_same r f s e = rw e refl

abbrev answer : {A : Type 0} → A × List PlacedWord → Read A
answer x = Ok x

abbrev refused : {A : Type 0} → Stop → Read A
refused x = Err x

pub ok_is : {A : Type 0} (x y : A × List PlacedWord) → answer x ≡ answer y → x ≡ y
ok_is x y e = cc

pub err_is : {A : Type 0} (x y : Stop) → refused {A = A} x ≡ refused {A = A} y → x ≡ y
err_is x y e = cc
