-- The words of a counter's mini block.
use Rattle.std.proofs.Common.{◌≡◌, ℕ, zero, suc, ◌+◌, ◌<◌, ◌≤◌, [], ◌∷◌, length, Some, refl, subst, arith}
use Rattle.std.specs.Prelude.{false, slice_get, ◌⊎◌}
use Rattle.tramp_spec.specs.Banks.{bank_len, first_slot}
use Rattle.tramp_spec.specs.Bodies.{Harmless}
use Rattle.tramp_spec.specs.Slots.{VariableSlot, width, ArePlaces, places_of}
use Rattle.tramp_spec.specs.Statements.{body_of}
use Rattle.prim_code.specs.Fitting.{AreStmtsOf}
use Rattle.prim_code.proofs.Whole.{statements_work}
use Rattle.block_count.specs.Counters.{Counter, passes, one_more, mini_of, placed_of}

pub body_len : (slot : ℕ) → length (body_of (slot ∷ []) one_more) ≡ 4
unfolding body_of
body_len slot = refl

pub mini_len : (k : Counter) → length (mini_of k).words ≡ 5
unfolding body_of
mini_len k = refl

pub fitting : AreStmtsOf passes one_more
fitting = (record { short = omega arith; conds = tt; act = refl }, tt)

-- the counter's slot is one
pub places : (k : Counter) → first_slot ≤ k.slot → k.slot < bank_len → ArePlaces (places_of (placed_of k))
places k least most = record { within = within; apart = apart }
  where
    within : (n : ℕ) (p : VariableSlot) → slice_get (places_of (placed_of k)) n ≡ Some p → (first_slot ≤ p.slot) × (p.slot + width p ≤ bank_len)
    within zero p e =
        let s : record { slot = k.slot; timer = false } ≡ p = cc in
        subst (λ (q : VariableSlot). (first_slot ≤ q.slot) × (q.slot + width q ≤ bank_len)) s (least, omega arith)
    within (suc n) p e = absurd cc

    apart : (n m : ℕ) (p q : VariableSlot) → slice_get (places_of (placed_of k)) n ≡ Some p → slice_get (places_of (placed_of k)) m ≡ Some q → (n ≡ m → ⊥) → (p.slot + width p ≤ q.slot) ⊎ (q.slot + width q ≤ p.slot)
    apart zero zero p q en em ne = absurd (ne refl)
    apart zero (suc m) p q en em ne = absurd cc
    apart (suc n) m p q en em ne = absurd cc

pub harmless : (k : Counter) → first_slot ≤ k.slot → k.slot < bank_len → Harmless (body_of (k.slot ∷ []) one_more)
harmless k least most = (statements_work (k.slot ∷ []) passes one_more refl (places k least most) fitting).harmless
