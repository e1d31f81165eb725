-- The section headers, one after the other.
use Rattle.std.proofs.Common.{◌≡◌, ℕ, zero, suc, ◌+◌, ◌-◌, ◌*◌, ◌<◌, ◌≤◌, Bool, true, false, cond, List, Option, Some, None, find, refl, sym, ap, ◌∙◌, arith}
use Rattle.std.specs.List.{slice_get}
use Rattle.elf_form.specs.Fields.{table}

module _ {A : Type 0} (read : List ℕ → ℕ → A) (size : ℕ) (b : List ℕ) where
  -- the entry of an index
  pub get_within : (n at i : ℕ) → i < n → slice_get (table read size b n at) i ≡ Some (read b (at + i * size))
  get_within zero at i h = absurd (omega arith)
  get_within (suc n) at zero h = let e : at ≡ at + 0 * size = omega arith in ap (λ p. Some (read b p)) e
  get_within (suc n) at (suc i) h =
      let e : at + size + i * size ≡ at + suc i * size = omega arith in
      get_within n (at + size) i (omega arith) ∙ ap (λ p. Some (read b p)) e

  pub get_past : (n at i : ℕ) → n ≤ i → slice_get (table read size b n at) i ≡ None
  get_past zero at i h = refl
  get_past (suc n) at zero h = absurd (omega arith)
  get_past (suc n) at (suc i) h = get_past n (at + size) i (omega arith)

  -- the first entry of those from one on that passes a test
  find-next : (test : A → Bool) (n i at : ℕ) → i < n → find test (table read size b (n - i) (at + i * size))
      ≡ cond (test (read b (at + i * size))) (Some (read b (at + i * size))) (find test (table read size b (n - (i + 1)) (at + (i + 1) * size)))
  find-next test n i at h =
      let count : n - i ≡ suc (n - (i + 1)) = omega arith in
      let place : at + i * size + size ≡ at + (i + 1) * size = omega arith in
      ap (λ m. find test (table read size b m (at + i * size))) count
      ∙ ap (λ p. cond (test (read b (at + i * size))) (Some (read b (at + i * size))) (find test (table read size b (n - (i + 1)) p))) place

  pub find_later : (test : A → Bool) (n i at : ℕ) (all : Option A) → i < n → test (read b (at + i * size)) ≡ false
      → find test (table read size b (n - i) (at + i * size)) ≡ all → find test (table read size b (n - (i + 1)) (at + (i + 1) * size)) ≡ all
  find_later test n i at all h fails so_far =
      let rest = find test (table read size b (n - (i + 1)) (at + (i + 1) * size)) in
      sym (find-next test n i at h ∙ ap (λ t. cond t (Some (read b (at + i * size))) rest) fails) ∙ so_far

  pub find_here : (test : A → Bool) (n i at : ℕ) (all : Option A) → i < n → test (read b (at + i * size)) ≡ true
      → find test (table read size b (n - i) (at + i * size)) ≡ all → Some (read b (at + i * size)) ≡ all
  find_here test n i at all h passes so_far =
      let rest = find test (table read size b (n - (i + 1)) (at + (i + 1) * size)) in
      sym (find-next test n i at h ∙ ap (λ t. cond t (Some (read b (at + i * size))) rest) passes) ∙ so_far

  pub find_none : (test : A → Bool) (n i at : ℕ) (all : Option A) → n ≤ i
      → find test (table read size b (n - i) (at + i * size)) ≡ all → None ≡ all
  find_none test n i at all h so_far =
      let count : n - i ≡ 0 = omega arith in
      sym (ap (λ m. find test (table read size b m (at + i * size))) count) ∙ so_far
