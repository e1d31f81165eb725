-- Which names are ended, and what a long name gives.
use Rattle.std.proofs.Common.{◌≡◌, ℕ, zero, suc, ◌+◌, ◌-◌, ◌<◌, ◌≤◌, Bool, true, false, cond, not, List, [], ◌∷◌, length, take, drop, get_or, refl, sym, ap, ◌∙◌, arith, ⊎_elim, min, length-take}
use Rattle.std.specs.Prelude.{◌==◌, nat_lt}
use Rattle.std.specs.List.{prefix_len}
use Rattle.std.proofs.lemmas.List.{take-take}
use Rattle.std.proofs.lemmas.List.Sums.{prefix_len-le-length}
use Rattle.std.proofs.lemmas.Bool.{cases_lt, lt-ltb, le-ltb}
use Rattle.std.proofs.lemmas.Grind.{common_steps}
use Rattle.elf_form.specs.Symbols.{is_ended, name_at, module_of}
use Rattle.pn_types.specs.GoodNames.{program_module}

-- a name is ended that begins at or before a zero byte
ended : (s : List ℕ) (at k : ℕ) → at ≤ k → k < length s → get_or s k 0 ≡ 0 → is_ended s at ≡ true
ended [] at k le lt z = absurd (omega arith)
ended (x ∷ xs) zero zero le lt z = grind (arith, common_steps)
ended (x ∷ xs) zero (suc k) le lt z = let e = ended xs 0 k (omega arith) (omega arith) z in grind (arith, common_steps)
ended (x ∷ xs) (suc at) zero le lt z = absurd (omega arith)
ended (x ∷ xs) (suc at) (suc k) le lt z = ended xs at k (omega arith) (omega arith) z

-- after a place from which none is ended, none is
not_ended : (s : List ℕ) (end at : ℕ) → end ≤ at → is_ended s end ≡ false → is_ended s at ≡ false
not_ended [] end zero le h = refl
not_ended [] end (suc at) le h = refl
not_ended (x ∷ xs) zero zero le h = h
not_ended (x ∷ xs) zero (suc at) le h = not_ended xs 0 at (omega arith) (grind (arith, common_steps))
not_ended (x ∷ xs) (suc end) zero le h = absurd (omega arith)
not_ended (x ∷ xs) (suc end) (suc at) le h = not_ended xs end at (omega arith) h

pub ended_before : (s : List ℕ) (end : ℕ) → end ≤ length s → is_ended s end ≡ false → (0 < end → get_or s (end - 1) 0 ≡ 0) → (at : ℕ) → is_ended s at ≡ nat_lt at end
ended_before s end within none last at =
    ⊎_elim (λ (h : at < end). ended s at (end - 1) (omega arith) (omega arith) (last (omega arith)) ∙ sym (lt-ltb at end h))
    (λ (h : end ≤ at). not_ended s end at h none ∙ sym (le-ltb at end h)) (cases_lt at end)

-- how many bytes pass of the first n
prefix_len-take : (p : ℕ → Bool) (n : ℕ) (xs : List ℕ) → prefix_len p (take n xs) ≡ min n (prefix_len p xs)
prefix_len-take p zero xs = omega arith
prefix_len-take p (suc n) [] = omega arith
prefix_len-take p (suc n) (x ∷ xs) = let e = prefix_len-take p n xs in one (p x) n (prefix_len p (take n xs)) (prefix_len p xs) e
  where
    one : (b : Bool) (n j k : ℕ) → j ≡ min n k → cond b (1 + j) 0 ≡ min (suc n) (cond b (1 + k) 0)
    one true n j k e = omega arith
    one false n j k e = omega arith

long : (name : List ℕ) → 200 < length name → module_of name ≡ program_module
long name h = grind (arith, common_steps)

-- the front of a name that is cut after n bytes
cut : (n : ℕ) (xs : List ℕ) → name_at (take n xs) 0 ≡ take (min n (prefix_len (λ byte. not (byte == 0)) xs)) xs
cut n xs =
    let k = prefix_len (λ byte. not (byte == 0)) xs in
    let le : min n k ≤ n = omega arith in
    ap (λ j. take j (take n xs)) (prefix_len-take (λ byte. not (byte == 0)) n xs) ∙ take-take (min n k) n xs le

-- a name that is cut after 201 bytes gives the same module
module_of-cut : (xs : List ℕ) → module_of (name_at (take 201 xs) 0) ≡ module_of (name_at xs 0)
module_of-cut xs =
    let k = prefix_len (λ byte. not (byte == 0)) xs in
    let le : k ≤ length xs = prefix_len-le-length (λ byte. not (byte == 0)) xs in
    ⊎_elim
    (λ (h : 200 < k).
    let one : length (name_at (take 201 xs) 0) ≡ 201 = ap length (cut 201 xs) ∙ length-take (min 201 k) xs ∙ omega arith in
    long (name_at (take 201 xs) 0) (omega arith) ∙ sym (long (name_at xs 0) (omega (arith, length-take k xs))))
    (λ (h : k ≤ 200). let m : min 201 k ≡ k = omega arith in ap module_of (cut 201 xs ∙ ap (λ j. take j xs) m))
    (cases_lt 200 k)

pub cut_name : (strings : List ℕ) (at : ℕ) → module_of (name_at (take 201 (drop at strings)) 0) ≡ module_of (name_at strings at)
cut_name strings at = module_of-cut (drop at strings)
