-- What is written piece by piece.
use Rattle.std.proofs.Common.{◌≡◌, ℕ, List, ◌++◌, Result, Ok, Err, ap, ◌∙◌, append_assoc}
use Rattle.std.specs.Prelude.{if◌then◌else◌, is_ok}
use Rattle.std.specs.Result.{OnOk}

-- a piece y behind what is written, which is x behind what was there
pub join : (old now next x y : List ℕ) → now ≡ old ++ x → next ≡ now ++ y → next ≡ old ++ (x ++ y)
join old now next x y e f = f ∙ ap (λ z. z ++ y) e ∙ append_assoc old x y

-- the same where y was written, if all went well
pub join_ok : {A B : Type 0} (old now next x y : List ℕ) (r : Result A B) → now ≡ old ++ x → OnOk r (next ≡ now ++ y) → OnOk r (next ≡ old ++ (x ++ y))
join_ok old now next x y (Ok v) e f = join old now next x y e f
join_ok old now next x y (Err n) e f = tt

-- the same where y is the last piece
pub join_last : {A B : Type 0} (old now next x y : List ℕ) (r : Result A B) → now ≡ old ++ x → next ≡ (if is_ok r then now ++ y else now) → OnOk r (next ≡ old ++ (x ++ y))
join_last old now next x y (Ok v) e f = join old now next x y e f
join_last old now next x y (Err n) e f = tt

-- a piece that has another name
pub named : (old now x y : List ℕ) → now ≡ old ++ x → x ≡ y → now ≡ old ++ y
named old now x y e f = e ∙ ap (λ z. old ++ z) f
