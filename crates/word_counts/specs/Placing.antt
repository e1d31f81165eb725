-- The counts of a text's words: a block's count is that of its first word, and no other word is counted.
use Rattle.std.specs.Prelude.{ℕ, ◌+◌, ◌==◌, if◌then◌else◌, Option, None, List, [], ◌∷◌}
use Rattle.block_count.specs.declared.block_head.BlockHead.{BlockHead}

-- the count of the last of these blocks that begins at an address, and what is given where none does
abbrev pub count_at : Option ℕ → List BlockHead → List (Option ℕ) → ℕ → Option ℕ
count_at given [] cs a = given
count_at given (h ∷ hs) [] a = given
count_at given (h ∷ hs) (c ∷ cs) a = count_at (if h.at == a then c else given) hs cs a

-- the count of each of these words, the first of which stands at a
abbrev pub counts_of_words : List BlockHead → List (Option ℕ) → List ℕ → ℕ → List (Option ℕ)
counts_of_words hs cs [] a = []
counts_of_words hs cs (w ∷ ws) a = count_at None hs cs a ∷ counts_of_words hs cs ws (a + 4)
