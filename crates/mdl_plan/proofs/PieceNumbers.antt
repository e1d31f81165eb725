-- The numbers of pieces.
use Rattle.std.proofs.Common.{◌≡◌, ℕ, zero, suc, ◌+◌, ◌-◌, ◌<◌, ◌==◌, cond, Bool, true, false, Option, Some, None, List, [], ◌∷◌, ◌++◌, length, take, get_or, slice_get, refl, sym, ap, ◌∙◌, arith}
use Rattle.std.specs.Option.{option_map_or}
use Rattle.std.proofs.lemmas.Bool.{ne_eqb}
use Rattle.std.proofs.lemmas.List.{take_more, length-take-le}
use Rattle.std.proofs.lemmas.Option.{slice_get_within}
use Rattle.pn_types.specs.declared.code.Proc.{Proc}
use Rattle.mdl_plan.specs.Pieces.{Piece}
use Rattle.mdl_plan.specs.Numbers.{Added, AreNumbers, once, numbers_from}

-- one more piece
numbers_push : (n : ℕ) (test : Piece → Bool) (ps : List Piece) (p : Piece)
    → numbers_from n test (ps ++ p ∷ []) ≡ cond (test p) (numbers_from n test ps ++ (n + length ps) ∷ []) (numbers_from n test ps)
numbers_push n test [] p = let k : n ≡ n + 0 = omega arith in ap (λ (m : ℕ). cond (test p) (m ∷ []) []) k
numbers_push n test (x ∷ ps) p = by (test x) (test p) refl (numbers_push (n + 1) test ps p)
  where
    by : (b d : Bool) → test p ≡ d → numbers_from (n + 1) test (ps ++ p ∷ []) ≡ cond (test p) (numbers_from (n + 1) test ps ++ (n + 1 + length ps) ∷ []) (numbers_from (n + 1) test ps)
        → cond b (n ∷ numbers_from (n + 1) test (ps ++ p ∷ [])) (numbers_from (n + 1) test (ps ++ p ∷ []))
        ≡ cond d (cond b (n ∷ numbers_from (n + 1) test ps) (numbers_from (n + 1) test ps) ++ (n + suc (length ps)) ∷ []) (cond b (n ∷ numbers_from (n + 1) test ps) (numbers_from (n + 1) test ps))
    by b d e h =
        let k : n + 1 + length ps ≡ n + suc (length ps) = omega arith in
        let g = h ∙ ap (λ (x : Bool). cond x (numbers_from (n + 1) test ps ++ (n + 1 + length ps) ∷ []) (numbers_from (n + 1) test ps)) e
        ∙ ap (λ (m : ℕ). cond d (numbers_from (n + 1) test ps ++ m ∷ []) (numbers_from (n + 1) test ps)) k in
        ap (λ (l : List ℕ). cond b (n ∷ l) l) g ∙ same b d
      where
        same : (b d : Bool)
            → cond b (n ∷ cond d (numbers_from (n + 1) test ps ++ (n + suc (length ps)) ∷ []) (numbers_from (n + 1) test ps)) (cond d (numbers_from (n + 1) test ps ++ (n + suc (length ps)) ∷ []) (numbers_from (n + 1) test ps))
            ≡ cond d (cond b (n ∷ numbers_from (n + 1) test ps) (numbers_from (n + 1) test ps) ++ (n + suc (length ps)) ∷ []) (cond b (n ∷ numbers_from (n + 1) test ps) (numbers_from (n + 1) test ps))
        same true true = refl
        same true false = refl
        same false true = refl
        same false false = refl

-- each number is below that of the next piece
numbers_below : (n : ℕ) (test : Piece → Bool) (ps : List Piece) (k x : ℕ) → slice_get (numbers_from n test ps) k ≡ Some x → x < n + length ps
numbers_below n test [] k x h = cc
numbers_below n test (p ∷ ps) k x h = by (λ j g. numbers_below (n + 1) test ps j x g) (test p) k h
  where
    by : ((j : ℕ) → slice_get (numbers_from (n + 1) test ps) j ≡ Some x → x < n + 1 + length ps)
        → (b : Bool) (k : ℕ) → slice_get (cond b (n ∷ numbers_from (n + 1) test ps) (numbers_from (n + 1) test ps)) k ≡ Some x → x < n + suc (length ps)
    by more true zero h = let e : n ≡ x = cc in omega arith
    by more true (suc k) h = omega (arith, more k h)
    by more false k h = omega (arith, more k h)

-- so the next piece's number is put last
once_next : (i : ℕ) (test : Piece → Bool) (ps : List Piece) → length ps ≡ i → once i (numbers_from 0 test ps) ≡ numbers_from 0 test ps ++ i ∷ []
once_next i test ps len =
    ap (λ (b : Bool). cond b (numbers_from 0 test ps) (numbers_from 0 test ps ++ i ∷ [])) (by (slice_get (numbers_from 0 test ps) (length (numbers_from 0 test ps) - 1)) refl)
  where
    by : (o : Option ℕ) → slice_get (numbers_from 0 test ps) (length (numbers_from 0 test ps) - 1) ≡ o → option_map_or (λ x. x == i) o false ≡ false
    by None e = refl
    by (Some x) e = ne_eqb x i (λ (same : x ≡ i). omega (arith, numbers_below 0 test ps (length (numbers_from 0 test ps) - 1) x e))

-- the next piece
pub next_piece : (procs : List Proc) (test : ℕ → Proc → Piece → Bool) (pieces : List Piece) (i : ℕ) (piece : Piece) (old new : List (List ℕ))
    → i < length pieces → piece ≡ get_or pieces i piece → Added procs (λ q p. test q p piece) i old new → AreNumbers procs test (take i pieces) old → AreNumbers procs test (take (i + 1) pieces) new
next_piece procs test pieces i piece old new lt is added h = record {
  len = added.len ∙ h.len;
  at = λ q p e.
      let within : q < length old = omega (arith, h.len, slice_get_within procs q p e) in
      let len : length (take i pieces) ≡ i = length-take-le i pieces (omega arith) in
      let more : take (i + 1) pieces ≡ take i pieces ++ piece ∷ [] = take_more pieces i piece lt ∙ ap (λ (x : Piece). take i pieces ++ x ∷ []) (sym is) in
      let k : 0 + length (take i pieces) ≡ i = omega (arith, len) in
      added.at q p e within
      ∙ ap (λ (l : List ℕ). cond (test q p piece) (once i l) l) (h.at q p e)
      ∙ ap (λ (l : List ℕ). cond (test q p piece) l (numbers_from 0 (test q p) (take i pieces))) (once_next i (test q p) (take i pieces) len)
      ∙ sym (ap (numbers_from 0 (test q p)) more
      ∙ numbers_push 0 (test q p) (take i pieces) piece
      ∙ ap (λ (m : ℕ). cond (test q p piece) (numbers_from 0 (test q p) (take i pieces) ++ m ∷ []) (numbers_from 0 (test q p) (take i pieces))) k);
}
