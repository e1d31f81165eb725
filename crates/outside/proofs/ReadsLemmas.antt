-- Readings one after the other.
use Rattle.std.proofs.Common.{ℕ, List, ◌∙◌, arith}
use Rattle.outside.specs.Outside.{Holding, ReadsOnly}

-- readings of one name, one after the other
pub reads_twice : {F : Type 0} (holds : F → List ℕ → Holding) (faults : F → List ℕ → ℕ)
    (name : List ℕ) (a b c : F) →
    ReadsOnly holds faults name a b → ReadsOnly holds faults name b c → ReadsOnly holds faults name a c
reads_twice holds faults name a b c first second = record {
  same = λ n. second.same n ∙ first.same n;
  rising = λ n. omega (arith, first.rising n, second.rising n);
  others = λ n ne told. second.others n ne (rw (first.same n) told) ∙ first.others n ne told;
}
