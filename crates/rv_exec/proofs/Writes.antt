-- What a write returns where the bytes are there.
use Rattle.std.proofs.Common.{◌≡◌, ℕ, ◌+◌, ◌<◌, ◌≤◌, List, ◌++◌, length, Result, Ok, Err, ap, sym, ◌∙◌, arith}
use Rattle.std.specs.Prelude.{IsOk, IfOk, nat_lt}
use Rattle.std.proofs.lemmas.Bool.{cond-true, cond-false, lt-ltb, le-ltb}
use Rattle.rv_word.specs.declared.outcome.MemStop.{MemStop}
use Rattle.rv_word.specs.Exec.{written_is, minus}

pub too_much : (r : Result (List ℕ) MemStop) (out : List ℕ) (n a : ℕ) → IsOk r → IfOk r (λ bs. length bs ≡ n) → 1048576 < length out + n → a ≡ minus 28 → written_is r out ≡ (Ok a, out)
too_much (Ok bs) out n a ok l h e = cond-true (nat_lt 1048576 (length out + length bs)) _ _ (lt-ltb 1048576 (length out + length bs) (omega (arith, l))) ∙ ap (λ x. (Ok x, out)) (sym e)
too_much (Err x) out n a ok l h e = absurd (cc)

pub appended : (r : Result (List ℕ) MemStop) (out new : List ℕ) (n : ℕ) → IsOk r → IfOk r (λ bs. length bs ≡ n) → length out + n ≤ 1048576 → IfOk r (λ bs. new ≡ out ++ bs) → written_is r out ≡ (Ok n, new)
appended (Ok bs) out new n ok l h e = cond-false (nat_lt 1048576 (length out + length bs)) _ _ (le-ltb 1048576 (length out + length bs) (omega (arith, l))) ∙ ap (λ x. (Ok x, out ++ bs)) l ∙ ap (λ x. (Ok n, x)) (sym e)
appended (Err x) out new n ok l h e = absurd (cc)
