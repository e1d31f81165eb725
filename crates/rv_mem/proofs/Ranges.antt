-- Whether the bytes of a range can be read, one by one.
use Rattle.std.proofs.Common.{◌≡◌, ℕ, zero, suc, ◌+◌, ◌-◌, ◌<◌, List, ◌∷◌, length, Result, Ok, Err, IsOk, refl, ap, subst, sym, ◌∙◌, arith}
use Rattle.std.specs.Prelude.{IfOk}
use Rattle.rv_word.specs.declared.outcome.MemStop.{MemStop}
use Rattle.rv_word.specs.Memory.{Memory, cell, bytes_at, next_address, ◌>>=◌}

-- the bytes after the first
longer : (r : Result ℕ MemStop) (q : Result (List ℕ) MemStop) (n : ℕ) → IfOk q (λ bs. length bs ≡ n) → IfOk (r >>= λ first. q >>= λ others. Ok (first ∷ others)) (λ bs. length bs ≡ suc n)
longer (Ok first) (Ok others) n h = ap suc h
longer (Ok first) (Err e) n h = tt
longer (Err e) q n h = tt

pub length-bytes_at : (n : ℕ) (m : Memory) (a : ℕ) → IfOk (bytes_at n m a) (λ bs. length bs ≡ n)
unfolding bytes_at
length-bytes_at zero m a = refl
length-bytes_at (suc n) m a = longer (cell m a) (bytes_at n m (next_address a)) n (length-bytes_at n m (next_address a))

-- n bytes are the first and the k after it
first_of : (n k : ℕ) (m : Memory) (a : ℕ) → n ≡ suc k → bytes_at n m a ≡ (cell m a >>= λ first. bytes_at k m (next_address a) >>= λ others. Ok (first ∷ others))
unfolding bytes_at
first_of n k m a e = ap (λ j. bytes_at j m a) e

pub refused_here : (n i : ℕ) (m : Memory) (a : ℕ) (e : MemStop) → i < n → Err e ≡ cell m a → bytes_at (n - i) m a ≡ Err e
refused_here n i m a e l is =
    first_of (n - i) (n - (i + 1)) m a (omega arith) ∙ ap (λ r. r >>= λ first. bytes_at (n - (i + 1)) m (next_address a) >>= λ others. Ok (first ∷ others)) (sym is)

past : (n i : ℕ) (m : Memory) (a b : ℕ) → i < n → Ok b ≡ cell m a → bytes_at (n - i) m a ≡ (bytes_at (n - (i + 1)) m (next_address a) >>= λ others. Ok (b ∷ others))
past n i m a b l is =
    first_of (n - i) (n - (i + 1)) m a (omega arith) ∙ ap (λ r. r >>= λ first. bytes_at (n - (i + 1)) m (next_address a) >>= λ others. Ok (first ∷ others)) (sym is)

pub refused_past : (n i : ℕ) (m : Memory) (a b : ℕ) (e : MemStop) → i < n → Ok b ≡ cell m a → bytes_at (n - (i + 1)) m (next_address a) ≡ Err e → bytes_at (n - i) m a ≡ Err e
refused_past n i m a b e l is h = past n i m a b l is ∙ ap (λ r. r >>= λ others. Ok (b ∷ others)) h

one_more : (q : Result (List ℕ) MemStop) (b : ℕ) → IsOk q → IsOk (q >>= λ others. Ok (b ∷ others))
one_more (Ok others) b h = refl
one_more (Err e) b h = h

pub read_past : (n i : ℕ) (m : Memory) (a b : ℕ) → i < n → Ok b ≡ cell m a → IsOk (bytes_at (n - (i + 1)) m (next_address a)) → IsOk (bytes_at (n - i) m a)
read_past n i m a b l is h = subst IsOk (sym (past n i m a b l is)) (one_more (bytes_at (n - (i + 1)) m (next_address a)) b h)

-- nothing is left to read
pub read_all : (n i : ℕ) (m : Memory) (a : ℕ) → n < i + 1 → IsOk (bytes_at (n - i) m a)
unfolding bytes_at
read_all n i m a l = let e : n - i ≡ 0 = omega arith in subst (λ j. IsOk (bytes_at j m a)) (sym e) refl
