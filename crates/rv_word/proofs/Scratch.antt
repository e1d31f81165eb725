-- One word further in the search for x31.
use Rattle.std.proofs.Common.{◌≡◌, ℕ, suc, ◌+◌, List, drop, Some, ap, ◌∙◌, cond, true, false}
use Rattle.rv_word.specs.Names.{scratch_in, has_scratch, word_at, words_in}

pub hit : (n k a : ℕ) (text : List ℕ) → n ≡ suc k → has_scratch (word_at text) ≡ true → scratch_in (words_in n text) a ≡ Some a
hit n k a text n-is e = ap (λ j. scratch_in (words_in j text) a) n-is ∙ ap (λ t. cond t (Some a) (scratch_in (words_in k (drop 4 text)) (a + 4))) e

pub miss : (n k a : ℕ) (text : List ℕ) → n ≡ suc k → has_scratch (word_at text) ≡ false → scratch_in (words_in n text) a ≡ scratch_in (words_in k (drop 4 text)) (a + 4)
miss n k a text n-is e = ap (λ j. scratch_in (words_in j text) a) n-is ∙ ap (λ t. cond t (Some a) (scratch_in (words_in k (drop 4 text)) (a + 4))) e
