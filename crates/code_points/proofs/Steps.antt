-- One address or one procedure further.
use Rattle.std.proofs.Common.{◌≡◌, ℕ, suc, ◌+◌, List, [], ◌∷◌, ◌++◌, map, Bool, true, false, cond, ap, sym, ◌∙◌, append_assoc}
use Rattle.std.specs.List.{filter, range_with_len}
use Rattle.pn_types.specs.declared.code.Point.{Point}

-- what passes is added, before what is to come
taken : (test : Point → Bool) (q : Point) (done new rest : List Point) → test q ≡ true → new ≡ done ++ q ∷ [] → new ++ rest ≡ done ++ cond (test q) (q ∷ rest) rest
taken test q done new rest t e =
    ap (λ z. z ++ rest) e ∙ append_assoc done (q ∷ []) rest ∙ sym (ap (λ b. done ++ cond b (q ∷ rest) rest) t)

-- one address with a kind more, before those that are to come
pub point_step : (test : Point → Bool) (f : ℕ → Point) (place : ℕ → ℕ) (done new : List Point) (k n m : ℕ) → n ≡ suc m → test (f (place k)) ≡ true → new ≡ done ++ f (place k) ∷ [] → new ++ filter test (map f (map place (range_with_len (k + 1) m))) ≡ done ++ filter test (map f (map place (range_with_len k n)))
point_step test f place done new k n m e t h =
    taken test (f (place k)) done new (filter test (map f (map place (range_with_len (k + 1) m)))) t h
    ∙ sym (ap (λ j. done ++ filter test (map f (map place (range_with_len k j)))) e)

-- one address without a kind more
pub plain_step : (test : Point → Bool) (f : ℕ → Point) (place : ℕ → ℕ) (done new : List Point) (k n m : ℕ) → n ≡ suc m → test (f (place k)) ≡ false → new ≡ done → new ++ filter test (map f (map place (range_with_len (k + 1) m))) ≡ done ++ filter test (map f (map place (range_with_len k n)))
plain_step test f place done new k n m e t h =
    let rest = filter test (map f (map place (range_with_len (k + 1) m))) in
    ap (λ z. z ++ rest) h
    ∙ sym (ap (λ b. done ++ cond b (f (place k) ∷ rest) rest) t)
    ∙ sym (ap (λ j. done ++ filter test (map f (map place (range_with_len k j)))) e)
