-- Loads and stores of doublewords of the bank.
use Rattle.std.proofs.Common.{◌≡◌, ℕ, ◌/◌, ◌^◌, ◌≤◌, Ok, Err, ap, ◌∙◌, arith}
use Rattle.std.specs.Prelude.{true, false}
use Rattle.std.proofs.lemmas.Bool.{cond-true, cond-false}
use Rattle.rv_word.specs.Exec.{next}
use Rattle.rv_word.specs.declared.outcome.Cause.TheVariants.{Access}
use Rattle.tramp_spec.specs.Banks.{bank_at, bank_len, is_in_bank}
use Rattle.tramp_spec.specs.Steps.{Bench, stand, with_doubleword, with_value}
use Rattle.code_store.specs.Operations.{bank_loaded, bank_stored}

pub bank_small : bank_len ≤ 2 ^ 32
unfolding bank_len
bank_small = omega arith

pub not_loaded : (rd at ticks pc : ℕ) (x : Bench) → is_in_bank bank_len at ≡ false → bank_loaded rd at ticks pc x ≡ Err (Access at)
not_loaded rd at ticks pc x o = cond-false (is_in_bank bank_len at) _ _ o

pub is_loaded : (rd at ticks pc place : ℕ) (x : Bench) → is_in_bank bank_len at ≡ true → at / 8 ≡ place → bank_loaded rd at ticks pc x ≡ Ok (stand (next pc) (with_value x rd (bank_at ticks x.bank place)))
is_loaded rd at ticks pc place x i e = cond-true (is_in_bank bank_len at) _ _ i ∙ ap (λ n. Ok (stand (next pc) (with_value x rd (bank_at ticks x.bank n)))) e

pub not_stored : (v at pc : ℕ) (x : Bench) → is_in_bank bank_len at ≡ false → bank_stored v at pc x ≡ Err (Access at)
not_stored v at pc x o = cond-false (is_in_bank bank_len at) _ _ o

pub is_stored : (v at pc place : ℕ) (x : Bench) → is_in_bank bank_len at ≡ true → at / 8 ≡ place → bank_stored v at pc x ≡ Ok (stand (next pc) (with_doubleword x place v))
is_stored v at pc place x i e = cond-true (is_in_bank bank_len at) _ _ i ∙ ap (λ n. Ok (stand (next pc) (with_doubleword x n v))) e
