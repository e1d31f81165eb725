-- Procedures that ascend are found by their addresses.
use Rattle.std.proofs.Common.{◌≡◌, ℕ, zero, suc, ◌+◌, ◌<◌, ◌≤◌, List, [], ◌∷◌, length, get_or, Bool, true, false, cond, Some, None, refl, ap, sym, subst, ◌∙◌, arith}
use Rattle.std.specs.List.{find, All}
use Rattle.std.specs.List.Sorted.{IsNonDecreasingBy}
use Rattle.std.proofs.lemmas.List.Elements.{All-tail}
use Rattle.std.proofs.lemmas.List.Sorted.{IsNonDecreasingBy-from_all_adjacent}
use Rattle.pn_types.specs.declared.code.Proc.{Proc}
use Rattle.code_points.specs.Procedures.{Ascend}
use Rattle.profile_text.specs.Finding.{DoAscend, option_if}
use Rattle.profile_text.proofs.Tests.{not_true}

-- none is empty, each starts where the one before it ends or after, and the first at n or after
abbrev pub Follow : ℕ → List Proc → Type 0
Follow n [] = Unit {0}
Follow n (p ∷ ps) = (n ≤ p.start) × (0 < p.len) × Follow (p.start + p.len) ps

next : (p : Proc) (ps : List Proc) (j : ℕ) (d : Proc) → (get_or ps j d).start + (get_or ps j d).len ≤ (get_or (p ∷ ps) (suc j + 1) d).start
    → (get_or ps j d).start + (get_or ps j d).len ≤ (get_or ps (j + 1) d).start
next p ps j d h =
    let e : suc j + 1 ≡ suc (j + 1) = omega arith in
    subst (λ i. (get_or ps j d).start + (get_or ps j d).len ≤ (get_or (p ∷ ps) i d).start) e h

follow : (k : ℕ) (ps : List Proc) → All (λ p. 0 < p.len) ps → Ascend ps → ((d : Proc) → 0 < length ps → k ≤ (get_or ps 0 d).start) → Follow k ps
follow k [] h a l = tt
follow k (p ∷ ps) h a l = (
  l p (omega arith),
  h 0 p (omega arith),
  follow (p.start + p.len) ps (All-tail (λ (q : Proc). 0 < q.len) p ps h)
      (λ j d b. next p ps j d (a (suc j) d (omega arith))) (λ d b. a 0 d (omega arith)),
)

pub follows : (ps : List Proc) → DoAscend ps → Follow 0 ps
follows ps h = follow 0 ps h.some h.ascend (λ d l. omega arith)

pub starts_rise : (ps : List Proc) → DoAscend ps → IsNonDecreasingBy (λ p. p.start) ps
starts_rise ps h = IsNonDecreasingBy-from_all_adjacent (λ (p : Proc). p.start) ps (λ k d l. omega (arith, h.ascend k d l))

pub starts : (n : ℕ) (ps : List Proc) → Follow n ps → (i : ℕ) → i < length ps → (d : Proc) → n ≤ (get_or ps i d).start
starts n [] h i l d = absurd (omega arith)
starts n (p ∷ ps) h zero l d = h.0
starts n (p ∷ ps) h (suc i) l d = omega (arith, h.0, starts (p.start + p.len) ps h.2 i (omega arith) d)

-- what passes the test has the address
abbrev pub Has : (Proc → Bool) → ℕ → Type 0
Has t at = (q : Proc) → 0 < q.len → t q ≡ true → (q.start ≤ at) × (at < q.start + q.len)

skip : (t : Proc → Bool) (p : Proc) (ps : List Proc) → t p ≡ false → find t (p ∷ ps) ≡ find t ps
skip t p ps e = ap (λ b. cond b (Some p) (find t ps)) e

-- none is found where all start later
pub none_found : (t : Proc → Bool) (at n : ℕ) (ps : List Proc) → Has t at → Follow n ps
    → ((k : ℕ) (d : Proc) → k < length ps → at < (get_or ps k d).start) → find t ps ≡ None
none_found t at n [] has h late = refl
none_found t at n (p ∷ ps) has h late =
    skip t p ps (not_true (t p) (λ e. let x = has p h.1 e in let y = late 0 p (omega arith) in omega arith))
    ∙ none_found t at (p.start + p.len) ps has h.2 (λ k d l. late (suc k) d (omega arith))

-- what is found is the last that starts at the address or before, if that passes
pub last_found : (t : Proc → Bool) (at n : ℕ) (ps : List Proc) → Has t at → Follow n ps → (i : ℕ) (p : Proc) → i < length ps → p ≡ get_or ps i p
    → p.start ≤ at → ((k : ℕ) (d : Proc) → i < k → k < length ps → at < (get_or ps k d).start) → find t ps ≡ option_if t (Some p)
last_found t at n [] has h i p l e b late = absurd (omega arith)
last_found t at n (q ∷ ps) has h zero p l e b late =
    ap (λ o. cond (t q) (Some q) o)
    (none_found t at (q.start + q.len) ps has h.2 (λ k d m. late (suc k) d (omega arith) (omega arith)))
    ∙ ap (λ z. option_if t (Some z)) (sym e)
last_found t at n (q ∷ ps) has h (suc i) p l e b late =
    let below = starts (q.start + q.len) ps h.2 i (omega arith) p in
    let same = ap (λ (z : Proc). z.start) e in
    skip t q ps (not_true (t q) (λ y. let x = has q h.1 y in omega arith))
    ∙ last_found t at (q.start + q.len) ps has h.2 i p (omega arith) e b (λ k d m j. late (suc k) d (omega arith) (omega arith))
