-- The counts of blocks against the executions of their first words.
use Rattle.std.proofs.Common.{◌≡◌, ℕ, ◌%◌, ◌^◌, ◌<◌, List, [], ◌∷◌, length, Option, Some, None, refl, ap, arith, Bool, true, false, cond}
use Rattle.std.specs.Prelude.{◌==◌, map}
use Rattle.std.specs.Option.{option_map}
use Rattle.std.proofs.lemmas.Bool.{eqb-true}
use Rattle.std.proofs.lemmas.List.Sums.{count_by-le-length}
use Rattle.rv_exec.specs.Run.{Position, executions}
use Rattle.block_count.specs.Counted.{passes_of}
use Rattle.block_count.specs.declared.counted_block.CountedBlock.{CountedBlock}
use Rattle.word_flow.specs.Laws.{CountsAtMost}
use Rattle.word_counts.specs.Placing.{count_at}

-- ---- a count is at most the executions

passes_low : (tr : List Position) (s : CountedBlock) (a : ℕ) → s.head.at ≡ a → CountsAtMost (passes_of tr s) (executions a tr)
passes_low tr s a e = by s.counter
  where
    by : {A : Type 0} (o : Option A) → CountsAtMost (option_map (λ _. executions s.head.at tr % 2 ^ 64) o) (executions a tr)
    by None = tt
    by (Some c) = let f = ap (λ z. executions z tr) e in omega arith

pub counts_low : (tr : List Position) (bs : List CountedBlock) (o : Option ℕ) (a : ℕ) → CountsAtMost o (executions a tr)
    → CountsAtMost (count_at o (map (λ (s : CountedBlock). s.head) bs) (map (passes_of tr) bs) a) (executions a tr)
counts_low tr [] o a c = c
counts_low tr (s ∷ bs) o a c = counts_low tr bs _ a (by (s.head.at == a) refl)
  where
    by : (b : Bool) → (s.head.at == a) ≡ b → CountsAtMost (cond b (passes_of tr s) o) (executions a tr)
    by true e = passes_low tr s a (eqb-true s.head.at a e)
    by false e = c

-- ---- a count is the executions where the trace is shorter than 2^64

abbrev pub CountsExactly : Option ℕ → ℕ → Type 0
CountsExactly None executions = Unit {0}
CountsExactly (Some c) executions = c ≡ executions

passes_exact : (tr : List Position) (s : CountedBlock) (a : ℕ)
    → length tr < 2 ^ 64 → s.head.at ≡ a → CountsExactly (passes_of tr s) (executions a tr)
passes_exact tr s a few e = by s.counter
  where
    by : {A : Type 0} (o : Option A) → CountsExactly (option_map (λ _. executions s.head.at tr % 2 ^ 64) o) (executions a tr)
    by None = tt
    by (Some c) =
        let f = ap (λ z. executions z tr) e in
        let g = count_by-le-length (λ (q : Position). q.pc == s.head.at) tr in
        omega arith

pub counts_exact : (tr : List Position) (bs : List CountedBlock) (o : Option ℕ) (a : ℕ)
    → length tr < 2 ^ 64 → CountsExactly o (executions a tr)
    → CountsExactly (count_at o (map (λ (s : CountedBlock). s.head) bs) (map (passes_of tr) bs) a) (executions a tr)
counts_exact tr [] o a few c = c
counts_exact tr (s ∷ bs) o a few c = counts_exact tr bs (cond (s.head.at == a) (passes_of tr s) o) a few (by (s.head.at == a) refl)
  where
    by : (b : Bool) → (s.head.at == a) ≡ b → CountsExactly (cond b (passes_of tr s) o) (executions a tr)
    by true e = passes_exact tr s a few (eqb-true s.head.at a e)
    by false e = c
