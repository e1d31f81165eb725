-- Memory as a finite map from addresses to bytes, and the accesses to it.
use Rattle.std.specs.Prelude.{ℕ, zero, suc, ◌+◌, ◌-◌, ◌*◌, ◌/◌, ◌%◌, ◌^◌, nat_le, nat_lt, ◌&&◌, Bool, if◌then◌else◌, List, [], ◌∷◌, ◌++◌, Option, Some, None, Result, Ok, Err}
use Rattle.std.specs.FinMap.{FinMap, get, insert, from_entries, code}
use Rattle.std.specs.Ordering.{nat_cmp}
use Rattle.std.specs.Coded.{Coded, code_by, coded×, coded_ℕ}
use mathlib.Core.Path.{refl}
use Rattle.rv_word.specs.declared.outcome.MemStop.{MemStop}
use Rattle.rv_word.specs.declared.outcome.MemStop.TheVariants.{Unmapped, InText}

-- the mapped bytes, and the range of the text
pub record Memory : Type 0 where
  pub text_at : ℕ
  pub text_len : ℕ
  pub cells : FinMap nat_cmp ℕ

abbrev pub memory_code : Coded Memory
memory_code =
    code_by (ℕ × (ℕ × FinMap nat_cmp ℕ))
    (coded× coded_ℕ (coded× coded_ℕ (code coded_ℕ coded_ℕ)))
    (λ m. (m.text_at, (m.text_len, m.cells)))
    (λ p. record { text_at = p.0; text_len = p.1.0; cells = p.1.1 })
    (λ _. refl)

-- an address is one of the len from `at` on
abbrev pub in_range : ℕ → ℕ → ℕ → Bool
in_range at len a = nat_le at a && nat_lt (a - at) len

abbrev pub mapped : Option ℕ → ℕ → Result ℕ MemStop
mapped None a = Err (Unmapped a)
mapped (Some b) a = Ok b

-- the byte at an address, or why there is none that may be touched
abbrev pub cell : Memory → ℕ → Result ℕ MemStop
cell m a = if in_range m.text_at m.text_len a then Err (InText a) else mapped (get m.cells a) a

-- m with a byte at a
abbrev pub set_byte : Memory → ℕ → ℕ → Memory
set_byte m a b = record { text_at = m.text_at; text_len = m.text_len; cells = insert m.cells a b }

infixl 10 ◌>>=◌
abbrev pub ◌>>=◌ : {A B : Type 0} → Result A MemStop → (A → Result B MemStop) → Result B MemStop
(Ok x) >>= f = f x
(Err e) >>= f = Err e

-- the address after a
abbrev pub next_address : ℕ → ℕ
next_address a = (a + 1) % 2 ^ 64

-- The number in n bytes from a, the lowest first; or the fault of the first byte that cannot be read.
unfoldable pub load : ℕ → Memory → ℕ → Result ℕ MemStop
load zero m a = Ok 0
load (suc n) m a = do
  low ← cell m a
  high ← load n m (next_address a)
  Ok (low + high * 256)

-- the n bytes from a, or the fault of the first that cannot be read
unfoldable pub bytes_at : ℕ → Memory → ℕ → Result (List ℕ) MemStop
bytes_at zero m a = Ok []
bytes_at (suc n) m a = do
  first ← cell m a
  others ← bytes_at n m (next_address a)
  Ok (first ∷ others)

-- m with the lowest n bytes of v from a
unfoldable pub put_bytes : ℕ → Memory → ℕ → ℕ → Memory
put_bytes zero m a v = m
put_bytes (suc n) m a v = put_bytes n (set_byte m a (v % 256)) (next_address a) (v / 256)

-- a store: nothing is written unless each byte can be
abbrev pub store : ℕ → Memory → ℕ → ℕ → Result Memory MemStop
store n m a v = do
  old ← load n m a
  Ok (put_bytes n m a v)

-- the bytes with their addresses
abbrev pub numbered : ℕ → List ℕ → List (ℕ × ℕ)
numbered at [] = []
numbered at (b ∷ bs) = (at, b) ∷ numbered (at + 1) bs

-- parts of memory, an address and the bytes from there
abbrev pub flat : List (ℕ × List ℕ) → List (ℕ × ℕ)
flat [] = []
flat (p ∷ ps) = numbered p.0 p.1 ++ flat ps

abbrev pub memory_of : ℕ → ℕ → List (ℕ × List ℕ) → Memory
memory_of text_at text_len parts = record { text_at = text_at; text_len = text_len; cells = from_entries (flat parts) }
