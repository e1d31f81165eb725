-- Folding in place, and the last bin.
use Rattle.std.proofs.Common.{◌≡◌, ℕ, zero, suc, ◌+◌, ◌*◌, ◌<◌, List, [], ◌∷◌, ◌++◌, length, take, drop, get_or, set, refl, sym, ap, ◌∙◌, arith, append_assoc}
use Rattle.std.proofs.lemmas.List.{take_more_set, drop-set-lt}
use Rattle.fold_hist.specs.declared.bin.Bin.{Bin}
use Rattle.fold_hist.specs.Steps.{bins_joined, paired, with_last}

-- one pair more
pub fold_step : (bs : List Bin) (i : ℕ) (x : Bin) → 2 * i < length bs → paired (drop (2 * i) bs) ≡ x ∷ paired (drop (2 * (i + 1)) bs)
    → take (i + 1) (set bs i x) ++ paired (drop (2 * (i + 1)) (set bs i x)) ≡ take i bs ++ paired (drop (2 * i) bs)
fold_step bs i x h e =
    ap (λ (l : List Bin). l ++ paired (drop (2 * (i + 1)) (set bs i x))) (take_more_set bs i x (omega arith))
    ∙ ap (λ (l : List Bin). (take i bs ++ x ∷ []) ++ paired l) (drop-set-lt (2 * (i + 1)) bs i x (omega arith))
    ∙ append_assoc (take i bs) (x ∷ []) (paired (drop (2 * (i + 1)) bs))
    ∙ ap (λ (l : List Bin). take i bs ++ l) (sym e)

pub set_last : (bs : List Bin) (i : ℕ) (d s : Bin) → suc i ≡ length bs → set bs i (bins_joined (get_or bs i d) s) ≡ with_last bs s
set_last [] i d s e = absurd (omega arith)
set_last (a ∷ []) zero d s e = refl
set_last (a ∷ []) (suc i) d s e = absurd (omega arith)
set_last (a ∷ b ∷ bs) zero d s e = absurd (omega arith)
set_last (a ∷ b ∷ bs) (suc i) d s e = ap (λ (l : List Bin). a ∷ l) (set_last (b ∷ bs) i d s (omega arith))
