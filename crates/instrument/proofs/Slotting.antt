-- The slots of a new instrument are its own.
use Rattle.std.proofs.Common.{◌≡◌, ℕ, zero, suc, ◌+◌, ◌<◌, ◌≤◌, List, [], ◌∷◌, length, Some, refl, sym, ap, subst, arith, inl, inr}
use Rattle.std.specs.List.{flat_map}
use Rattle.std.specs.Prelude.{slice_get, cond, Bool, true, false, ◌⊎◌}
use Rattle.std.proofs.lemmas.List.Sums.{sum_by-cons}
use Rattle.pn_types.specs.declared.plan.Var.{Var}
use Rattle.tramp_spec.specs.Banks.{bank_len}
use Rattle.tramp_spec.specs.Slots.{VariableSlot, width, places, places_of, IsSlotOf, ArePlaces}
use Rattle.machine.specs.Cores.{In}
use Rattle.instrument.specs.Admission.{slots_of_var, slot_count, slots_from}
use Rattle.instrument.specs.declared.instrument.Instrument.{Instrument}
use Rattle.std.proofs.lemmas.Grind.{flat_map-append}
use Rattle.instrument.proofs.Folds.{append_nil, append_left, append_right}
use Rattle.instrument.proofs.Going.{get_in}
use Rattle.instrument.proofs.Fitting.{FreeSlots}

pub slots_len : (slot : ℕ) (vars : List Var) → length (slots_from slot vars) ≡ length vars
slots_len slot [] = refl
slots_len slot (v ∷ vars) = ap suc (slots_len (slot + slots_of_var v) vars)

-- each variable has its slots between
within : (slot : ℕ) (vars : List Var) (n : ℕ) (p : VariableSlot) → slice_get (places (slots_from slot vars) vars) n ≡ Some p → (slot ≤ p.slot) × (p.slot + width p ≤ slot + slot_count vars)
within slot [] n p e = absurd cc
within slot (v ∷ vars) zero p e =
    let z : record { slot = slot; timer = v.timer } ≡ p = cc in
    let c = sum_by-cons slots_of_var v vars in
    subst (λ (u : VariableSlot). (slot ≤ u.slot) × (u.slot + width u ≤ slot + slot_count (v ∷ vars))) z (omega arith, omega (arith, c))
within slot (v ∷ vars) (suc n) p e =
    let r = within (slot + slots_of_var v) vars n p e in
    let c = sum_by-cons slots_of_var v vars in
    let a = r.0 in let b = r.1 in (omega arith, omega (arith, c))

has_width : (p : VariableSlot) → 0 < width p
has_width p = by p.timer
  where
    by : (b : Bool) → 0 < cond b 2 1
    by true = omega arith
    by false = omega arith

apart : (slot : ℕ) (vars : List Var) (n m : ℕ) (p q : VariableSlot) → slice_get (places (slots_from slot vars) vars) n ≡ Some p → slice_get (places (slots_from slot vars) vars) m ≡ Some q → (n ≡ m → ⊥) → (p.slot + width p ≤ q.slot) ⊎ (q.slot + width q ≤ p.slot)
apart slot [] n m p q e f d = absurd cc
apart slot (v ∷ vars) zero zero p q e f d = absurd (d refl)
apart slot (v ∷ vars) zero (suc m) p q e f d =
    let z : record { slot = slot; timer = v.timer } ≡ p = cc in
    let r = (within (slot + slots_of_var v) vars m q f).0 in
    inl (subst (λ (u : VariableSlot). u.slot + width u ≤ q.slot) z r)
apart slot (v ∷ vars) (suc n) zero p q e f d =
    let z : record { slot = slot; timer = v.timer } ≡ q = cc in
    let r = (within (slot + slots_of_var v) vars n p e).0 in
    inr (subst (λ (u : VariableSlot). u.slot + width u ≤ p.slot) z r)
apart slot (v ∷ vars) (suc n) (suc m) p q e f d = apart (slot + slots_of_var v) vars n m p q e f (λ i. d (ap suc i))

pub new_places : (taken : List VariableSlot) (slot : ℕ) (vars : List Var) → FreeSlots taken slot (slot_count vars) → ArePlaces (places (slots_from slot vars) vars)
new_places taken slot vars f = record {
  within = λ n p e.
      let r = within slot vars n p e in
      let a = r.0 in let b = r.1 in let w = has_width p in let l = f.low in
      (omega arith, last p.slot (width p) w (λ k lo hi. f.high k (omega arith) (omega arith)));
  apart = λ n m p q e g d. apart slot vars n m p q e g d;
}
  where
    last : (s w : ℕ) → 0 < w → ((k : ℕ) → s ≤ k → k < s + w → k < bank_len) → s + w ≤ bank_len
    last s zero l g = absurd (omega arith)
    last s (suc w) l g = let z = g (s + w) (omega arith) (omega arith) in omega arith

in_flat : (f : Instrument → List VariableSlot) (xs : List Instrument) (i : Instrument) (p : VariableSlot) → In i xs → In p (f i) → In p (flat_map f xs)
in_flat f [] i p h k = absurd h
in_flat f (x ∷ xs) i p (inl e) k = subst (λ l. In p l) (sym (flat_map-append f (x ∷ []) xs)) (append_left (flat_map f (x ∷ [])) (flat_map f xs) p (subst (λ (u : Instrument). In p (flat_map f (u ∷ []))) e (subst (λ l. In p l) (sym (append_nil (f i))) k)))
in_flat f (x ∷ xs) i p (inr h) k = subst (λ l. In p l) (sym (flat_map-append f (x ∷ []) xs)) (append_right (flat_map f (x ∷ [])) (flat_map f xs) p (in_flat f xs i p h k))

pub new_apart : (instruments : List Instrument) (slot : ℕ) (vars : List Var) → FreeSlots (flat_map (λ i. places_of i.placed) instruments) slot (slot_count vars)
    → (i : Instrument) → In i instruments → (q : ℕ) → IsSlotOf (places_of i.placed) q → IsSlotOf (places (slots_from slot vars) vars) q → ⊥
new_apart instruments slot vars f i h q own new =
    let r = within slot vars new.0 new.1 new.2 in
    let a = r.0 in let b = r.1 in let lo = new.3 in let hi = new.4 in
    f.free q (omega arith) (omega arith) own.1 (in_flat (λ i. places_of i.placed) instruments i own.1 h (get_in (places_of i.placed) own.0 own.1 own.2)) own.3 own.4
