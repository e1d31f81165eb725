-- The words of any bytes have 32 bits.
use Rattle.std.proofs.Common.{ℕ, zero, suc, ◌<◌, ◌^◌, ◌/◌, List, [], ◌∷◌, arith, length}
use Rattle.std.specs.Prelude.{drop}
use Rattle.std.specs.List.{AllByRecursion}
use Rattle.rv_word.specs.Names.{word_at, words_in, words_of}

word_low : (bytes : List ℕ) → AllByRecursion (λ b. b < 256) bytes → word_at bytes < 2 ^ 32
word_low [] l = omega arith
word_low (a ∷ []) l = let p = l.0 in omega arith
word_low (a ∷ b ∷ []) l = let p = l.0 in let q = l.1.0 in omega arith
word_low (a ∷ b ∷ c ∷ []) l = let p = l.0 in let q = l.1.0 in let r = l.1.1.0 in omega arith
word_low (a ∷ b ∷ c ∷ d ∷ rest) l = let p = l.0 in let q = l.1.0 in let r = l.1.1.0 in let s = l.1.1.1.0 in omega arith

bytes_behind : (n : ℕ) (bytes : List ℕ) → AllByRecursion (λ b. b < 256) bytes → AllByRecursion (λ b. b < 256) (drop n bytes)
bytes_behind zero bytes l = l
bytes_behind (suc n) [] l = tt
bytes_behind (suc n) (b ∷ bytes) l = bytes_behind n bytes l.1

words_low : (n : ℕ) (bytes : List ℕ) → AllByRecursion (λ b. b < 256) bytes → AllByRecursion (λ w. w < 2 ^ 32) (words_in n bytes)
words_low zero bytes l = tt
words_low (suc n) bytes l = (word_low bytes l, words_low n (drop 4 bytes) (bytes_behind 4 bytes l))

pub narrow : (bytes : List ℕ) → AllByRecursion (λ b. b < 256) bytes → AllByRecursion (λ w. w < 2 ^ 32) (words_of bytes)
narrow bytes l = words_low (length bytes / 4) bytes l
