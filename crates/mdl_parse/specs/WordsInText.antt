-- Words that stand in a text, and the words that a tree has.
use Rattle.std.specs.Prelude.{◌≡◌, ℕ, true, List, [], ◌∷◌, map}
use Rattle.pn_text.specs.Words.{Word, is_word, word_of}
use Rattle.pn_text.specs.Scans.{tokens_of}
use Rattle.pn_text.specs.declared.token.Token.{Token}

-- some text has the word
abbrev pub IsWord : Word → Type 0
IsWord word = is_word word ≡ true

-- a word, and where its first byte stands
pub record PlacedWord : Type 0 where
  pub word : Word
  pub line : ℕ
  pub col : ℕ

-- some text has the words
abbrev pub AreWords : List PlacedWord → Type 0
AreWords [] = Unit {0}
AreWords (placed ∷ words_ahead) = IsWord placed.word × AreWords words_ahead

-- a token of a text
abbrev pub placed_word : List ℕ → Token → PlacedWord
placed_word text token = record { word = word_of text token; line = token.line; col = token.col }

-- The words of a text, up to its end or its fault.
abbrev pub placed_words : List ℕ → List PlacedWord
placed_words text = map (placed_word text) (tokens_of text).tokens

-- a word of a tree: the first of a part, whose line the tree holds, or another
pub data TreeWord : Type 0 where
  Starts : ℕ → Word → TreeWord
  Goes : Word → TreeWord

abbrev pub plain_word : TreeWord → Word
plain_word (Starts line word) = word
plain_word (Goes word) = word

-- words of which the tree holds no line
abbrev pub other_words : List Word → List TreeWord
other_words words = map Goes words

-- words of a part whose line the tree holds
abbrev pub starts : ℕ → List Word → List TreeWord
starts line [] = []
starts line (word ∷ words) = Starts line word ∷ other_words words

-- the word of a text is the one of the tree, on the line that the tree holds
abbrev pub Fits : TreeWord → PlacedWord → Type 0
Fits (Starts line word) placed = (placed.word ≡ word) × (placed.line ≡ line)
Fits (Goes word) placed = placed.word ≡ word

-- each word of a text is the one of the tree
abbrev pub Spells : List TreeWord → List PlacedWord → Type 0
Spells [] [] = Unit {0}
Spells [] (placed ∷ words_ahead) = ⊥
Spells (tree_word ∷ tree_words) [] = ⊥
Spells (tree_word ∷ tree_words) (placed ∷ words_ahead) = Fits tree_word placed × Spells tree_words words_ahead
