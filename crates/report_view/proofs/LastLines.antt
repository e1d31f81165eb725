-- An LF at the end.
use Rattle.std.proofs.Common.{◌≡◌, ℕ, ◌==◌, ◌&&◌, Bool, true, false, cond, List, [], ◌∷◌, ◌++◌, refl}
use Rattle.pn_text.specs.Lines.{is_none}
use Rattle.report_view.specs.Harts.{without_last_lf}

is_none_last : (xs : List ℕ) (x : ℕ) → is_none (xs ++ (x ∷ [])) ≡ false
is_none_last [] x = refl
is_none_last (y ∷ xs) x = refl

and_false : (b : Bool) → (b && false) ≡ false
and_false true = refl
and_false false = refl

pub last_lf : (xs : List ℕ) (x : ℕ) → without_last_lf (xs ++ (x ∷ [])) ≡ cond (x == 10) xs (xs ++ (x ∷ []))
last_lf [] x = elim (x == 10) as (λ b. cond (b && true) [] (x ∷ []) ≡ cond b [] (x ∷ [])) [ true ↦ refl | false ↦ refl ]
last_lf (y ∷ xs) x =
    rw (is_none_last xs x, and_false (y == 10), last_lf xs x)
    (elim (x == 10) as (λ b. y ∷ cond b xs (xs ++ (x ∷ [])) ≡ cond b (y ∷ xs) (y ∷ (xs ++ (x ∷ [])))) [ true ↦ refl | false ↦ refl ])
