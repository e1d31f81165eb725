-- The slots of a program's counters.
use Rattle.std.proofs.Common.{◌≡◌, ℕ, zero, suc, ◌+◌, ◌<◌, ◌≤◌, List, [], ◌∷◌, ◌++◌, length, Option, Some, None, refl, sym, ap, ◌∙◌, subst, arith, inl, inr}
use Rattle.std.specs.Prelude.{false, slice_get, ◌⊎◌}
use Rattle.rv_word.specs.Plain.{Words}
use Rattle.tramp_spec.specs.Banks.{bank_len, first_slot}
use Rattle.tramp_spec.specs.Slots.{IsSlotOf, VariableSlot, ShareNone, places_of, width}
use Rattle.tramp_spec.specs.Statements.{body_of}
use Rattle.prim_code.proofs.Whole.{statements_work}
use Rattle.machine.specs.Cores.{In}
use Rattle.machine.specs.Instruments.{Spares}
use Rattle.block_count.specs.declared.block_head.BlockHead.{BlockHead}
use Rattle.block_count.specs.Counters.{Counter, end_of, one_more, passes, placed_of}
use Rattle.block_count.specs.CountedBlocks.{counter_for, counters_in, counted_from}
use Rattle.block_count.proofs.Bodies.{fitting, places}
use Rattle.block_count.proofs.Chains.{is_for}

-- the counters have slots that follow each other
abbrev pub Slots : ℕ → List Counter → Type 0
Slots s [] = Unit {0}
Slots s (k ∷ ks) = (k.slot ≡ s) × Slots (s + 1) ks

pub slots_follow : (t : Words) (heads : List BlockHead) (slot at : ℕ) → Slots slot (counters_in (counted_from t slot at heads))
slots_follow t [] slot at = tt
slots_follow t (h ∷ heads) slot at = by (λ s a. slots_follow t heads s a) (counter_for t slot at h.at) refl
  where
    by : ((s a : ℕ) → Slots s (counters_in (counted_from t s a heads))) → (o : Option Counter) → counter_for t slot at h.at ≡ o → Slots slot (counters_in (elim o [
      | None ↦ record { head = h; counter = None } ∷ counted_from t slot at heads
      | Some c ↦ record { head = h; counter = Some c } ∷ counted_from t (slot + 1) (end_of c) heads
    ]))
    by rest None e = rest slot at
    by rest (Some k) e = (ap (λ (c : Counter). c.slot) (is_for t slot at h.at k e).is, rest (slot + 1) (end_of k))

pub slot_within : (s : ℕ) (ks : List Counter) (j : Counter) → Slots s ks → In j ks → (s ≤ j.slot) × (j.slot < s + length ks)
slot_within s [] j f h = absurd h
slot_within s (k ∷ ks) j f (inl e) = let i = ap (λ (c : Counter). c.slot) e in let n = f.0 in (omega arith, omega arith)
slot_within s (k ∷ ks) j f (inr h) = let r = slot_within (s + 1) ks j f.1 h in let a = r.0 in let b = r.1 in (omega arith, omega arith)

pub slots_apart : (s : ℕ) (ks : List Counter) (j k : Counter) → Slots s ks → In j ks → In k ks → (j ≡ k) ⊎ (j.slot ≡ k.slot → ⊥)
slots_apart s [] j k f hj hk = absurd hj
slots_apart s (x ∷ ks) j k f (inl e) (inl i) = inl (e ∙ sym i)
slots_apart s (x ∷ ks) j k f (inl e) (inr h) = let n = ap (λ (c : Counter). c.slot) e in let z = f.0 in let r = (slot_within (s + 1) ks k f.1 h).0 in inr (λ q. omega arith)
slots_apart s (x ∷ ks) j k f (inr h) (inl e) = let n = ap (λ (c : Counter). c.slot) e in let z = f.0 in let r = (slot_within (s + 1) ks j f.1 h).0 in inr (λ q. omega arith)
slots_apart s (x ∷ ks) j k f (inr h) (inr i) = slots_apart (s + 1) ks j k f.1 h i

-- a counter among the others: none after it has its slot
pub record Parted (k : Counter) (ks : List Counter) : Type 0 where
  pub front : List Counter
  pub back : List Counter
  pub is : ks ≡ front ++ k ∷ back
  pub later : (j : Counter) → In j back → j.slot ≡ k.slot → ⊥

pub parted : (s : ℕ) (ks : List Counter) (k : Counter) → Slots s ks → In k ks → Parted k ks
parted s [] k f h = absurd h
parted s (x ∷ ks) k f (inl e) =
    let n = ap (λ (c : Counter). c.slot) e in
    let z = f.0 in
    record { front = []; back = ks; is = ap (λ c. c ∷ ks) (sym e); later = λ j i q. let r = (slot_within (s + 1) ks j f.1 i).0 in omega arith }
parted s (x ∷ ks) k f (inr h) = let p = parted (s + 1) ks k f.1 h in record { front = x ∷ p.front; back = p.back; is = ap (λ cs. x ∷ cs) p.is; later = p.later }

-- ---- what names a slot

pub slot_is : (k : Counter) (q : ℕ) → IsSlotOf (places_of (placed_of k)) q → q ≡ k.slot
slot_is k q h = by h.0 h.1 h.2 h.3 h.4
  where
    by : (n : ℕ) (p : VariableSlot) → slice_get (places_of (placed_of k)) n ≡ Some p → p.slot ≤ q → q < p.slot + width p → q ≡ k.slot
    by zero p e l m =
        let s : record { slot = k.slot; timer = false } ≡ p = cc in
        subst (λ (x : VariableSlot). x.slot ≤ q → q < x.slot + width x → q ≡ k.slot) s (λ a b. omega arith) l m
    by (suc n) p e l m = absurd cc

pub share_none : (k j : Counter) → (j.slot ≡ k.slot → ⊥) → ShareNone (places_of (placed_of k)) (places_of (placed_of j))
share_none k j apart q h i = apart (sym (slot_is j q i) ∙ slot_is k q h)

pub spares : (k j : Counter) → first_slot ≤ j.slot → j.slot < bank_len → (j.slot ≡ k.slot → ⊥) → Spares (placed_of k) (body_of (j.slot ∷ []) one_more)
spares k j least most apart slot h at ticks x st =
    (statements_work (j.slot ∷ []) passes one_more refl (places j least most) fitting).others at ticks slot x st (λ i. apart (sym (slot_is j slot i) ∙ slot_is k slot h))
