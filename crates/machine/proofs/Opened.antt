-- What arming sets, and with how many ticks.
use Rattle.std.proofs.Common.{◌≡◌, ℕ, zero, suc, ◌+◌, ◌-◌, ◌%◌, ◌^◌, ◌<◌, ◌≤◌, List, [], ◌∷◌, length, Option, Some, None, refl, sym, ap, ◌∙◌, subst, arith, ⊎_elim}
use Rattle.std.specs.Prelude.{Bool, true, false, if◌then◌else◌, IsTrue, is_none, slice_get, slice_set, slice_index, ◌==◌, nat_lt}
use Rattle.std.proofs.lemmas.Bool.{ltb-true, and_parts, cases_eq}
use Rattle.std.proofs.lemmas.List.{get_or-set_same, get_or-set_other, length-set}
use Rattle.rv_word.specs.Plain.{Words, PlainHart, Plain, Alone, plain, turn_of, hart_after, may_go, can}
use Rattle.rv_word.specs.Plain as plain
use Rattle.rv_word.specs.declared.outcome.Next.{Next}
use Rattle.rv_word.specs.declared.outcome.Next.TheVariants.{Go, Stop}
use Rattle.rv_exec.specs.Run.{run_from, LegalFrom}
use Rattle.tramp_spec.specs.Banks.{bank_len}
use Rattle.tramp_spec.specs.Slots.{VariableSlot, width, IsSlotOf, ArePlaces, set_place, set_places, running, read_place}
use Rattle.prim_code.specs.Standing.{HasValue, StandFor}
use Rattle.prim_code.proofs.Keeping.{stays, reads}
use Rattle.machine.specs.Arming.{ArmingSets}
use Rattle.machine.proofs.Arming.{length_place, length_places}
use Rattle.machine.proofs.ForceEvents.{set_leaves}
use Rattle.machine.proofs.Lists.{get_set_same, get_set_other, same_some}

-- ---- slots

none_left : (b : Bool) (v ticks : ℕ) → ticks < 2 ^ 64 → ((if b then 0 else (2 ^ 64 - ticks) % 2 ^ 64) + (if b then 0 else ticks)) % 2 ^ 64 ≡ 0
none_left true v ticks l = refl
none_left false v ticks l = omega arith

-- a place that is set
set_has : (timer : Bool) (s spare v ticks : ℕ) (bank : List ℕ) → s + (if timer then 2 else 1) ≤ length bank → v + spare < 2 ^ 64 → HasValue timer s spare v (set_place timer s v ticks bank)
set_has false s spare v ticks bank l b = (get_or-set_same bank s v 0 (omega arith), omega arith)
set_has true s spare v ticks bank l b = (
  get_or-set_other (slice_set bank (s + 1) v) s (s + 1) (if v == 0 then 0 else (2 ^ 64 - ticks) % 2 ^ 64) 0 (λ e. omega arith) ∙ get_or-set_same bank (s + 1) v 0 (omega arith),
  b,
)

set_reads : (s v ticks : ℕ) (bank : List ℕ) → s + 2 ≤ length bank → ticks < 2 ^ 64 → read_place true s ticks (set_place true s v ticks bank) ≡ 0
set_reads s v ticks bank l t =
    let sum = if v == 0 then 0 else (2 ^ 64 - ticks) % 2 ^ 64 in
    let one = slice_set bank (s + 1) v in
    let size : length one ≡ length bank = length-set bank (s + 1) v in
    let a : slice_index (slice_set one s sum) s ≡ sum = get_or-set_same one s sum 0 (omega arith) in
    let b : slice_index (slice_set one s sum) (s + 1) ≡ v = get_or-set_other one s (s + 1) sum 0 (λ e. omega arith) ∙ get_or-set_same bank (s + 1) v 0 (omega arith) in
    ap (λ n. (n + running (slice_index (slice_set one s sum) (s + 1)) ticks) % 2 ^ 64) a
    ∙ (ap (λ n. (sum + running n ticks) % 2 ^ 64) b ∙ none_left (v == 0) v ticks t)

read_set : (timer : Bool) (s v ticks : ℕ) (bank : List ℕ) → timer ≡ true → s + (if timer then 2 else 1) ≤ length bank → ticks < 2 ^ 64 → read_place true s ticks (set_place timer s v ticks bank) ≡ 0
read_set false s v ticks bank e l t = absurd cc
read_set true s v ticks bank e l t = set_reads s v ticks bank l t

rest_places : (p : VariableSlot) (ps : List VariableSlot) → ArePlaces (p ∷ ps) → ArePlaces ps
rest_places p ps a = record {
  within = λ n q e. a.within (suc n) q e;
  apart = λ n m q r en em ne. a.apart (suc n) (suc m) q r en em (λ e. ne (omega arith));
}

-- the slots of the first place are none of the others'
apart_first : (p : VariableSlot) (ps : List VariableSlot) → ArePlaces (p ∷ ps) → (q : ℕ) → p.slot ≤ q → q < p.slot + width p → IsSlotOf ps q → ⊥
apart_first p ps a q lo up s =
    let l = s.3 in
    let u = s.4 in
    ⊎_elim (λ z. omega arith) (λ z. omega arith) (a.apart 0 (suc s.0) p s.1 refl s.2 (λ e. omega arith))

pub arming_sets : ArmingSets
arming_sets [] values bank spare ticks a same size l low = record { stand = λ n p e. absurd cc; timers = λ n p e t. absurd cc; others = λ q n. refl; size = refl }
arming_sets (p ∷ ps) [] bank spare ticks a same size l low = absurd (omega arith)
arming_sets (p ∷ ps) (v ∷ values) bank spare ticks a same size l low =
    let one = set_place p.timer p.slot v ticks bank in
    let next = set_places ps values ticks one in
    let long : length one ≡ bank_len = length_place p.timer p.slot v ticks bank ∙ size in
    let r = arming_sets ps values one spare ticks (rest_places p ps a) (omega arith) long l low.1 in
    let w = (a.within 0 p refl).1 in
    let room : p.slot + width p ≤ length bank = omega arith in
    let kept : (q : ℕ) → p.slot ≤ q → q < p.slot + width p → slice_index next q ≡ slice_index one q = λ q lo up. r.others q (apart_first p ps a q lo up) in
    record {
      stand = λ n q e. first_or p ps v values spare next (stays p.timer p.slot spare v one next kept (set_has p.timer p.slot spare v ticks bank room low.0)) r.stand n q e;
      timers = λ n q e t. timer_or p ps ticks next (λ z. reads p.timer p.slot ticks one next z kept ∙ read_set p.timer p.slot v ticks bank z room l) r.timers n q e t;
      others = λ q n. set_leaves (p ∷ ps) (v ∷ values) ticks q bank n;
      size = length_places (p ∷ ps) (v ∷ values) ticks bank;
    }
  where
    first_or : (p : VariableSlot) (ps : List VariableSlot) (v : ℕ) (values : List ℕ) (spare : ℕ) (next : List ℕ) → HasValue p.timer p.slot spare v next → StandFor ps spare values next → StandFor (p ∷ ps) spare (v ∷ values) next
    first_or p ps v values spare next h t zero q e = let s : p ≡ q = cc in subst (λ (z : VariableSlot). HasValue z.timer z.slot spare v next) s h
    first_or p ps v values spare next h t (suc n) q e = t n q e

    timer_or : (p : VariableSlot) (ps : List VariableSlot) (ticks : ℕ) (next : List ℕ) → (p.timer ≡ true → read_place true p.slot ticks next ≡ 0) → ((n : ℕ) (q : VariableSlot) → slice_get ps n ≡ Some q → q.timer ≡ true → read_place true q.slot ticks next ≡ 0)
        → (n : ℕ) (q : VariableSlot) → slice_get (p ∷ ps) n ≡ Some q → q.timer ≡ true → read_place true q.slot ticks next ≡ 0
    timer_or p ps ticks next h t zero q e z = let s : p ≡ q = cc in ap (λ (u : VariableSlot). read_place true u.slot ticks next) (sym s) ∙ h (ap (λ (u : VariableSlot). u.timer) s ∙ z)
    timer_or p ps ticks next h t (suc n) q e z = t n q e z

-- ---- ticks

-- no hart has more ticks than the budget
abbrev pub AreWithin : ℕ → Plain → Type 0
AreWithin budget s = (h : ℕ) (y : PlainHart) → slice_get s.harts h ≡ Some y → y.ticks ≤ budget

one_more : (n : Next) (regs : List ℕ) (y : PlainHart) → (hart_after n regs y).ticks ≡ y.ticks + 1
one_more (Go pc) regs y = refl
one_more (Stop cause) regs y = refl

within_turn : (t : Words) (budget h : ℕ) (s : Plain) (o : Option PlainHart) → slice_get s.harts h ≡ o → IsTrue (may_go o budget) → AreWithin budget s → AreWithin budget (turn_of o t h s)
within_turn t budget h s None e m w j z ez = w j z ez
within_turn t budget h s (Some y) e m w j z ez =
    let a = plain.turn_alone t h (record { hart = y; prog = s.prog }) in
    let low : y.ticks < budget = ltb-true y.ticks budget (and_parts (is_none y.stop) (nat_lt y.ticks budget) m).1 in
    ⊎_elim
    (λ (same : j ≡ h).
    let is : z ≡ a.hart = same_some (slice_get (slice_set s.harts h a.hart) h) z a.hart (ap (slice_get (slice_set s.harts h a.hart)) (sym same) ∙ ez) (get_set_same s.harts h y a.hart e) in
    let up : z.ticks ≡ y.ticks + 1 = ap (λ (u : PlainHart). u.ticks) is ∙ one_more _ _ y in
    omega arith)
    (λ (away : j ≡ h → ⊥). w j z (sym (get_set_other s.harts h j a.hart away) ∙ ez))
    (cases_eq j h)

pub within_run : (t : Words) (budget : ℕ) (turns : List ℕ) (s : Plain) → LegalFrom t budget turns s → AreWithin budget s → AreWithin budget (run_from t turns s)
within_run t budget [] s l w = w
within_run t budget (h ∷ turns) s l w = within_run t budget turns (plain t h s) l.1 (within_turn t budget h s (slice_get s.harts h) refl l.0 w)
