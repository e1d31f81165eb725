-- What is written piece by piece.
use Rattle.std.proofs.Common.{◌≡◌, ◌+◌, ◌<◌, ℕ, zero, suc, List, [], ◌∷◌, ◌++◌, length, refl, ap, sym, ◌∙◌, append_assoc, add-one, get_or, take, map, Bor, Bool, false, arith}
use Rattle.std.specs.Prelude.{◌==◌, if◌then◌else◌, replicate}
use Rattle.std.specs.List.{join_with_byte}
use Rattle.std.proofs.Math.Seq.{take-suc}
use Rattle.std.proofs.lemmas.Bool.Decides.{nat_tests}
use Rattle.std.proofs.lemmas.List.{length-map, length-take-le, map-append}
use Rattle.fold_hist.specs.Bins.{last_to}
use Rattle.fold_hist.specs.declared.bin.Bin.{Bin}

-- a piece y behind what is written, which is x behind what was there
pub join : (old now next x y : List ℕ) → now ≡ old ++ x → next ≡ now ++ y → next ≡ old ++ (x ++ y)
join old now next x y e f = f ∙ ap (λ z. z ++ y) e ∙ append_assoc old x y

two_more : (n x : ℕ) → replicate (suc (suc n)) x ≡ replicate n x ++ x ∷ x ∷ []
two_more zero x = refl
two_more (suc n) x = ap (λ (z : List ℕ). x ∷ z) (two_more n x)

-- one number twice more
pub twice_more : (n m x : ℕ) → m ≡ n + 2 → replicate m x ≡ replicate n x ++ x ∷ x ∷ []
twice_more n m x e = let f : m ≡ suc (suc n) = omega arith in ap (λ z. replicate z x) f ∙ two_more n x

-- one part more, which isn't the first
pub joined_more : (c : ℕ) (parts : List (List ℕ)) (part : List ℕ) → 0 < length parts → join_with_byte c (parts ++ part ∷ []) ≡ join_with_byte c parts ++ c ∷ part
joined_more c [] part h = absurd (omega arith)
joined_more c (x ∷ []) part h = refl
joined_more c (x ∷ y ∷ parts) part h =
    ap (λ (z : List ℕ). x ++ (c ∷ z)) (joined_more c (y ∷ parts) part (omega arith))
    ∙ sym (append_assoc x (c ∷ join_with_byte c (y ∷ parts)) (c ∷ part))

no_first : (place : ℕ) → (suc place == 0) ≡ false
no_first place = grind (arith, nat_tests)

step_in : (place : ℕ) (parts : List (List ℕ)) (part : List ℕ) → length parts ≡ place → join_with_byte 44 (parts ++ part ∷ []) ≡ join_with_byte 44 parts ++ (if place == 0 then [] else 44 ∷ []) ++ part
step_in zero [] part e = refl
step_in zero (x ∷ parts) part e = absurd (omega arith)
step_in (suc place) [] part e = absurd (omega arith)
step_in (suc place) (x ∷ parts) part e =
    joined_more 44 (x ∷ parts) part (omega arith) ∙ sym (append_assoc (join_with_byte 44 (x ∷ parts)) (44 ∷ []) part)
    ∙ ap (λ (b : Bool). join_with_byte 44 (x ∷ parts) ++ (if b then [] else 44 ∷ []) ++ part) (sym (no_first place))

-- one part of a list more
joined_step : (parts : List (Bor (List ℕ))) (place : ℕ) (d : Bor (List ℕ)) → place < length parts
    → join_with_byte 44 (map (λ p. p.now) (take (place + 1) parts))
    ≡ join_with_byte 44 (map (λ p. p.now) (take place parts)) ++ (if place == 0 then [] else 44 ∷ []) ++ (get_or parts place d).now
joined_step parts place d l =
    let now : Bor (List ℕ) → List ℕ = λ p. p.now in
    let e : take (place + 1) parts ≡ take place parts ++ get_or parts place d ∷ [] = rw add-one (take-suc parts place d l) in
    let n : length (map now (take place parts)) ≡ place = length-map (take place parts) now ∙ length-take-le place parts (omega arith) in
    ap (λ (ps : List (Bor (List ℕ))). join_with_byte 44 (map now ps)) e
    ∙ ap (join_with_byte 44) (map-append now (take place parts) (get_or parts place d ∷ []))
    ∙ step_in place (map now (take place parts)) (get_or parts place d).now n

pub joined_kept : (parts : List (Bor (List ℕ))) (place : ℕ) (d : Bor (List ℕ)) (old new : List ℕ) → place < length parts
    → new ≡ old ++ (if place == 0 then [] else 44 ∷ []) ++ (get_or parts place d).now
    → old ≡ join_with_byte 44 (map (λ p. p.now) (take place parts))
    → new ≡ join_with_byte 44 (map (λ p. p.now) (take (place + 1) parts))
joined_kept parts place d old new l e i =
    e ∙ ap (λ (z : List ℕ). z ++ (if place == 0 then [] else 44 ∷ []) ++ (get_or parts place d).now) i ∙ sym (joined_step parts place d l)

-- ---- the last bin

pub last_is : (bins : List Bin) (k : ℕ) (d : Bin) → k + 1 ≡ length bins → (get_or bins k d).to ≡ last_to bins
last_is [] k d e = absurd (omega arith)
last_is (x ∷ []) zero d e = refl
last_is (x ∷ []) (suc k) d e = absurd (omega arith)
last_is (x ∷ y ∷ bins) zero d e = absurd (omega arith)
last_is (x ∷ y ∷ bins) (suc k) d e = last_is (y ∷ bins) k d (omega arith)
