-- A table that is read entry by entry.
use Rattle.std.proofs.Common.{◌≡◌, ℕ, zero, suc, ◌+◌, ◌-◌, ◌*◌, ◌<◌, ◌≤◌, List, [], ◌∷◌, ◌++◌, length, refl, sym, ap, ◌∙◌, arith, append_assoc, length-append}
use Rattle.elf_form.specs.Fields.{table}

module _ {A : Type 0} (read : List ℕ → ℕ → A) (size : ℕ) (b : List ℕ) where
  -- the entries from one on are that one and those after it
  table-next : (n i at : ℕ) → i < n → table read size b (n - i) (at + i * size) ≡ read b (at + i * size) ∷ table read size b (n - (i + 1)) (at + (i + 1) * size)
  table-next n i at h =
      let count : n - i ≡ suc (n - (i + 1)) = omega arith in
      let place : at + i * size + size ≡ at + (i + 1) * size = omega arith in
      ap (λ m. table read size b m (at + i * size)) count ∙ ap (λ p. read b (at + i * size) ∷ table read size b (n - (i + 1)) p) place

  -- one more is read
  pub table_more : (n i at : ℕ) (done items all : List A) (x : A) → items ≡ done ++ x ∷ [] → x ≡ read b (at + i * size) → i < n → done ++ table read size b (n - i) (at + i * size) ≡ all → items ++ table read size b (n - (i + 1)) (at + (i + 1) * size) ≡ all
  table_more n i at done items all x e f h so_far =
      let x' = read b (at + i * size) in
      let rest = table read size b (n - (i + 1)) (at + (i + 1) * size) in
      ap (λ ys. ys ++ rest) (e ∙ ap (λ y. done ++ y ∷ []) f)
      ∙ append_assoc done (x' ∷ []) rest ∙ ap (λ t. done ++ t) (sym (table-next n i at h)) ∙ so_far

  length-table : (n at : ℕ) → length (table read size b n at) ≡ n
  length-table zero at = refl
  length-table (suc n) at = ap suc (length-table n (at + size))

  -- all are read
  pub length_all : (n i at : ℕ) (done : List A) → n ≤ i → done ++ table read size b (n - i) (at + i * size) ≡ table read size b n at → length done ≡ n
  length_all n i at done h e =
      let none : n - i ≡ 0 = omega arith in
      let lengths : length (done ++ table read size b (n - i) (at + i * size)) ≡ n = ap length e ∙ length-table n at in
      omega (arith, lengths, length-append done (table read size b (n - i) (at + i * size)), length-table (n - i) (at + i * size))
