-- The bytes of the text, statement by statement.
use Rattle.std.proofs.Common.{◌≡◌, ℕ, suc, ◌+◌, ◌<◌, Result, Ok, Err, List, ◌∷◌, ◌++◌, length, map, drop, get_or, drop-cons, append_assoc, refl, ap, sym, ◌∙◌, arith}
use Rattle.rv_asm.specs.declared.fault.AsmFault.{AsmFault}
use Rattle.rv_asm.specs.declared.fault.AsmError.{AsmError}
use Rattle.rv_asm.specs.declared.fault.AsmError.TheVariants as error
use Rattle.rv_asm.specs.FirstPass.{◌>>=◌, Placed}
use Rattle.rv_asm.specs.Means.{AsmRefuses}
use Rattle.rv_asm.specs.SecondPass.{code, code_of, joined}

-- a refusal says as much as its reason
pub refuses_more : {why also : AsmFault → Type 0} (e : AsmError) → ((fault : AsmFault) → why fault → also fault) → AsmRefuses e why → AsmRefuses e also
refuses_more (error.Fault fault) more refused = more fault refused
refuses_more error.NoMemory more refused = tt

joins : (out next : List ℕ) (first others : Result (List ℕ) AsmFault) → joined out first ≡ Ok next → joined next others ≡ joined out (first >>= (λ a. others >>= (λ b. Ok (a ++ b))))
joins out next (Err fault) others e = cc
joins out next (Ok a) (Ok b) e =
    let same : next ≡ out ++ a = cc in
    rw same (ap Ok (append_assoc out a b))
joins out next (Ok a) (Err fault) e = refl

fails : (out : List ℕ) (first others : Result (List ℕ) AsmFault) (fault : AsmFault) → joined out first ≡ Err fault → joined out (first >>= (λ a. others >>= (λ b. Ok (a ++ b)))) ≡ Err fault
fails out (Err other) others fault e = e
fails out (Ok a) others fault e = cc

module _ {X : Type 0} (f : X → Placed) (labels : List (List ℕ × ℕ)) where
  next_code : (ps : List X) (i : ℕ) (d : X) → i < length ps → code labels (map f (drop i ps)) ≡ (code_of labels (f (get_or ps i d)) >>= (λ a. code labels (map f (drop (i + 1) ps)) >>= (λ b. Ok (a ++ b))))
  next_code ps i d h =
      let here : drop i ps ≡ get_or ps i d ∷ drop (suc i) ps = drop-cons ps i d h in
      let next : i + 1 ≡ suc i = omega arith in
      rw (next, here) refl

  -- a statement more
  pub code_step : (ps : List X) (i : ℕ) (d : X) (out next : List ℕ) (all : Result (List ℕ) AsmFault) → i < length ps → joined out (code_of labels (f (get_or ps i d))) ≡ Ok next → joined out (code labels (map f (drop i ps))) ≡ all → joined next (code labels (map f (drop (i + 1) ps))) ≡ all
  code_step ps i d out next all h e inv =
      joins out next (code_of labels (f (get_or ps i d))) (code labels (map f (drop (i + 1) ps))) e
      ∙ ap (joined out) (sym (next_code ps i d h)) ∙ inv

  -- the first that is faulty
  pub code_fault : (ps : List X) (i : ℕ) (d : X) (out : List ℕ) (fault : AsmFault) (all : Result (List ℕ) AsmFault) → i < length ps → joined out (code_of labels (f (get_or ps i d))) ≡ Err fault → joined out (code labels (map f (drop i ps))) ≡ all → all ≡ Err fault
  code_fault ps i d out fault all h e inv =
      sym inv ∙ ap (joined out) (next_code ps i d h)
      ∙ fails out (code_of labels (f (get_or ps i d))) (code labels (map f (drop (i + 1) ps))) fault e
