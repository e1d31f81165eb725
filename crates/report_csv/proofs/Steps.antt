-- Lines that are added one after another.
use Rattle.std.proofs.Common.{◌≡◌, ◌∙◌, ℕ, suc, ◌+◌, ◌<◌, List, [], ◌∷◌, ◌++◌, add-one, ap, append_assoc, drop, drop-cons, get_or, length, refl, sym}
use Rattle.report_csv.specs.Cells.{line, lines}

pub lines_both : (xs ys : List (List (List ℕ))) → lines (xs ++ ys) ≡ lines xs ++ lines ys
lines_both [] ys = refl
lines_both (x ∷ xs) ys = ap (λ (l : List ℕ). line x ++ l) (lines_both xs ys) ∙ sym (append_assoc (line x) (lines xs) (lines ys))

module _ {A : Type 0} (xs : List A) (n : ℕ) (x d : A) (within : n < length xs) (is : x ≡ get_or xs n d) where
  first : drop n xs ≡ x ∷ drop (n + 1) xs
  first = rw add-one (drop-cons xs n d within ∙ ap (λ (y : A). y ∷ drop (suc n) xs) (sym is))

  -- once a part's lines are added, those of the parts that are left make all
  pub next_part : (rows : ℕ → List A → List (List (List ℕ))) (text : ℕ → A → List ℕ)
      → ((m : ℕ) (y : A) (ys : List A) → lines (rows m (y ∷ ys)) ≡ text m y ++ lines (rows (m + 1) ys))
      → (all before after : List ℕ) → after ≡ before ++ text n x → before ++ lines (rows n (drop n xs)) ≡ all
      → after ++ lines (rows (n + 1) (drop (n + 1) xs)) ≡ all
  next_part rows text begins all before after added left =
      ap (λ (l : List ℕ). l ++ lines (rows (n + 1) (drop (n + 1) xs))) added
      ∙ append_assoc before (text n x) (lines (rows (n + 1) (drop (n + 1) xs)))
      ∙ ap (λ (l : List ℕ). before ++ l) (sym (begins n x (drop (n + 1) xs)))
      ∙ ap (λ (l : List A). before ++ lines (rows n l)) (sym first)
      ∙ left
