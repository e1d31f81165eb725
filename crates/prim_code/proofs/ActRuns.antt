-- The runs of the acts' words.
use Rattle.std.proofs.Common.{◌≡◌, ℕ, ◌+◌, ◌-◌, ◌*◌, ◌^◌, ◌<◌, ◌≤◌, Bool, true, false, List, length, Some, refl, sym, ap, ◌∙◌, subst, arith, ⊎_elim}
use Rattle.std.specs.Prelude.{slice_get, ◌==◌, not, if◌then◌else◌}
use Rattle.std.proofs.lemmas.Bool.{cond-true, cond-false, cases_Bool}
use Rattle.rv_word.specs.Exec.{action, asked}
use Rattle.rv_word.specs.Registers.{reg, arguments_of}
use Rattle.rv_word.specs.Values.{wrap}
use Rattle.rv_word.specs.Words.{word_of, IsJump}
use Rattle.rv_word.specs.declared.action.Action.TheVariants.{BranchTo}
use Rattle.rv_word.specs.declared.instr.Instr.TheVariants.{Branch}
use Rattle.rv_word.specs.declared.instr.BranchOp.TheVariants.{Beq, Bne}
use Rattle.pn_types.specs.declared.plan.Act.{Act}
use Rattle.pn_types.specs.declared.plan.Act.TheVariants.{Up, Down, Put, Start, Stop}
use Rattle.tramp_spec.specs.Banks.{bank_len}
use Rattle.tramp_spec.specs.Bodies.{Stands}
use Rattle.tramp_spec.specs.Marks.{tool}
use Rattle.tramp_spec.specs.MovedWords.{tools}
use Rattle.tramp_spec.specs.Routes.{Route, BodyDoes}
use Rattle.tramp_spec.specs.Statements.{up_code, down_code, put_code, start_code, stop_code, act_code, slot_of}
use Rattle.tramp_spec.specs.Steps.{Bench}
use Rattle.tramp_spec.specs.declared.mark.MarkedWord.{MarkedWord}
use Rattle.tramp_spec.proofs.Encodings.{beq_reads}
use Rattle.tramp_spec.proofs.Registers.{zero_reg}
use Rattle.prim_code.proofs.Effects.{up_bank, down_bank, put_bank, start_bank, stop_bank, act_bank}
use Rattle.prim_code.proofs.Reaching.{Reach, Here, begins, high_up, upper_five, lower_five, add_five, plus_five, minus_five, load_five, load_up, ticks_five, store_five, taken, passed}
use Rattle.prim_code.proofs.WordsRead.{bne_reads, minus_fits}

module _ (body : List MarkedWord) (at ticks : ℕ) (x0 : Bench) (st : Stands body at x0) where
  -- the end is reached, with this bank
  abbrev pub Ends : List ℕ → Type 0
  Ends k = (a b : ℕ) × Reach body at ticks x0 st (length body) a b k

  pub end : (e : ℕ) (a b : ℕ) (k : List ℕ) → e ≡ length body → Reach body at ticks x0 st e a b k → Ends k
  end e a b k q r = (a, b, subst (λ n. Reach body at ticks x0 st n a b k) q r)

  -- a branch on x5 and x0, either way
  asks_beq : (i a b t : ℕ) (k : List ℕ) (r : Reach body at ticks x0 st i a b k) (v : Bool) → (a == 0) ≡ v → asked (Branch Beq 5 0 t) (at + 4 * i) (r.x).regs ≡ BranchTo v (wrap (at + 4 * i + t))
  unfolding action
  asks_beq i a b t k r v e = ap (λ c. BranchTo c (wrap (at + 4 * i + t))) (ap (λ u. u == reg (r.x).regs 0) r.five_is ∙ (ap (λ u. a == u) (zero_reg (r.x).regs) ∙ e))

  asks_bne : (i a b t : ℕ) (k : List ℕ) (r : Reach body at ticks x0 st i a b k) (v : Bool) → (a == 0) ≡ v → asked (Branch Bne 5 0 t) (at + 4 * i) (r.x).regs ≡ BranchTo (not v) (wrap (at + 4 * i + t))
  unfolding action
  asks_bne i a b t k r v e = ap (λ c. BranchTo (not c) (wrap (at + 4 * i + t))) (ap (λ u. u == reg (r.x).regs 0) r.five_is ∙ (ap (λ u. a == u) (zero_reg (r.x).regs) ∙ e))

  -- over the rest where x5 is 0
  pub zero_ends : (i a b t : ℕ) (k f : List ℕ) → Reach body at ticks x0 st i a b k → slice_get body i ≡ Some (tool (word_of (Branch Beq 5 0 t))) → IsJump 13 t → t ≡ 4 * (length body - i) → i < length body
      → (Reach body at ticks x0 st (i + 1) a b k → Ends f) → Ends (if a == 0 then k else f)
  zero_ends i a b t k f r e j q l go =
      let here : Here body at ticks x0 st i (Branch Beq 5 0 t) = record { word = e; reads = beq_reads 5 0 t (omega arith) (omega arith) j } in
      ⊎_elim
      (λ z. subst Ends (sym (cond-true (a == 0) k f z)) (a, b, taken body at ticks x0 st i (length body) a b t (wrap (at + 4 * i + t)) k r (Branch Beq 5 0 t) here (asks_beq i a b t k r true z) refl q l (omega arith)))
      (λ z. subst Ends (sym (cond-false (a == 0) k f z)) (go (passed body at ticks x0 st i a b (wrap (at + 4 * i + t)) k r (Branch Beq 5 0 t) here (asks_beq i a b t k r false z))))
      (cases_Bool (a == 0))

  -- over the rest where it isn't
  pub other_ends : (i a b t : ℕ) (k f : List ℕ) → Reach body at ticks x0 st i a b k → slice_get body i ≡ Some (tool (word_of (Branch Bne 5 0 t))) → IsJump 13 t → t ≡ 4 * (length body - i) → i < length body
      → (Reach body at ticks x0 st (i + 1) a b k → Ends f) → Ends (if a == 0 then f else k)
  other_ends i a b t k f r e j q l go =
      let here : Here body at ticks x0 st i (Branch Bne 5 0 t) = record { word = e; reads = bne_reads 5 0 t (omega arith) (omega arith) j } in
      ⊎_elim
      (λ z. subst Ends (sym (cond-true (a == 0) f k z)) (go (passed body at ticks x0 st i a b (wrap (at + 4 * i + t)) k r (Branch Bne 5 0 t) here (asks_bne i a b t k r true z))))
      (λ z. subst Ends (sym (cond-false (a == 0) f k z)) (a, b, taken body at ticks x0 st i (length body) a b t (wrap (at + 4 * i + t)) k r (Branch Bne 5 0 t) here (asks_bne i a b t k r false z) refl q l (omega arith)))
      (cases_Bool (a == 0))

  pub does_of : (k : List ℕ) → Ends k → (y : Bench) × Route body at ticks 0 (length body) x0 y × (y.bank ≡ k)
  does_of k e = ((e.2).x, (e.2).way, (e.2).bank_is)

-- the displacements
jump_12 : IsJump 13 12
jump_12 = (omega arith, omega arith)

jump_28 : IsJump 13 28
jump_28 = (omega arith, omega arith)

jump_40 : IsJump 13 40
jump_40 = (omega arith, omega arith)

module _ (s at ticks : ℕ) (x : Bench) (lo : 2 ≤ s) where
  up : (st : Stands (tools (up_code s)) at x) → s < bank_len → Ends (tools (up_code s)) at ticks x st (up_bank s ticks (arguments_of x.regs) x.bank)
  up st l =
      let c = tools (up_code s) in
      let r0 = begins c at ticks x st in
      let r1 = high_up c at ticks x st _ _ _ s _ r0 refl l in
      let r2 = load_five c at ticks x st _ _ s _ r1 refl lo l in
      let r3 = add_five c at ticks x st _ _ _ 1 _ r2 refl (omega arith) in
      let r4 = store_five c at ticks x st _ _ s _ r3 refl lo l in
      end c at ticks x st _ _ _ _ refl r4

  down : (st : Stands (tools (down_code s)) at x) → s < bank_len → Ends (tools (down_code s)) at ticks x st (down_bank s ticks (arguments_of x.regs) x.bank)
  down st l =
      let c = tools (down_code s) in
      let r0 = begins c at ticks x st in
      let r1 = high_up c at ticks x st _ _ _ s _ r0 refl l in
      let r2 = load_five c at ticks x st _ _ s _ r1 refl lo l in
      zero_ends c at ticks x st _ _ _ _ _ _ r2 refl jump_12 refl (omega arith) (λ r3.
      let r4 = add_five c at ticks x st _ _ _ _ _ r3 refl minus_fits in
      let r5 = store_five c at ticks x st _ _ s _ r4 refl lo l in
      end c at ticks x st _ _ _ _ refl r5)

  put : (n : ℕ) (st : Stands (tools (put_code s n)) at x) → s < bank_len → n < 2 ^ 31 → Ends (tools (put_code s n)) at ticks x st (put_bank s n ticks (arguments_of x.regs) x.bank)
  put n st l q =
      let c = tools (put_code s n) in
      let r0 = begins c at ticks x st in
      let r1 = upper_five c at ticks x st _ _ _ n _ r0 refl in
      let r2 = lower_five c at ticks x st _ _ n _ r1 refl q in
      let r3 = high_up c at ticks x st _ _ _ s _ r2 refl l in
      let r4 = store_five c at ticks x st _ _ s _ r3 refl lo l in
      end c at ticks x st _ _ _ _ refl r4

  start : (st : Stands (tools (start_code s)) at x) → s + 1 < bank_len → Ends (tools (start_code s)) at ticks x st (start_bank s ticks (arguments_of x.regs) x.bank)
  start st l =
      let c = tools (start_code s) in
      let lo' : 2 ≤ s + 1 = omega arith in
      let l' : s < bank_len = omega arith in
      let r0 = begins c at ticks x st in
      let r1 = high_up c at ticks x st _ _ _ (s + 1) _ r0 refl l in
      let r2 = load_five c at ticks x st _ _ (s + 1) _ r1 refl lo' l in
      let r3 = add_five c at ticks x st _ _ _ 1 _ r2 refl (omega arith) in
      let r4 = store_five c at ticks x st _ _ (s + 1) _ r3 refl lo' l in
      let r5 = add_five c at ticks x st _ _ _ _ _ r4 refl minus_fits in
      other_ends c at ticks x st _ _ _ _ _ _ r5 refl jump_28 refl (omega arith) (λ r6.
      let r7 = high_up c at ticks x st _ _ _ s _ r6 refl l' in
      let r8 = load_up c at ticks x st _ _ s _ r7 refl lo l' in
      let r9 = ticks_five c at ticks x st _ _ _ _ r8 refl in
      let r10 = minus_five c at ticks x st _ _ _ _ r9 refl in
      let r11 = high_up c at ticks x st _ _ _ s _ r10 refl l' in
      let r12 = store_five c at ticks x st _ _ s _ r11 refl lo l' in
      end c at ticks x st _ _ _ _ refl r12)

  stop : (st : Stands (tools (stop_code s)) at x) → s + 1 < bank_len → Ends (tools (stop_code s)) at ticks x st (stop_bank s ticks (arguments_of x.regs) x.bank)
  stop st l =
      let c = tools (stop_code s) in
      let lo' : 2 ≤ s + 1 = omega arith in
      let l' : s < bank_len = omega arith in
      let r0 = begins c at ticks x st in
      let r1 = high_up c at ticks x st _ _ _ (s + 1) _ r0 refl l in
      let r2 = load_five c at ticks x st _ _ (s + 1) _ r1 refl lo' l in
      zero_ends c at ticks x st _ _ _ _ _ _ r2 refl jump_40 refl (omega arith) (λ r3.
      let r4 = add_five c at ticks x st _ _ _ _ _ r3 refl minus_fits in
      let r5 = store_five c at ticks x st _ _ (s + 1) _ r4 refl lo' l in
      other_ends c at ticks x st _ _ _ _ _ _ r5 refl jump_28 refl (omega arith) (λ r6.
      let r7 = high_up c at ticks x st _ _ _ s _ r6 refl l' in
      let r8 = load_up c at ticks x st _ _ s _ r7 refl lo l' in
      let r9 = ticks_five c at ticks x st _ _ _ _ r8 refl in
      let r10 = plus_five c at ticks x st _ _ _ _ r9 refl in
      let r11 = high_up c at ticks x st _ _ _ s _ r10 refl l' in
      let r12 = store_five c at ticks x st _ _ s _ r11 refl lo l' in
      end c at ticks x st _ _ _ _ refl r12))

-- the slots of an act are some
abbrev pub IsInBank : List ℕ → Act → Type 0
IsInBank slots (Up v) = (2 ≤ slot_of slots v) × (slot_of slots v < bank_len)
IsInBank slots (Down v) = (2 ≤ slot_of slots v) × (slot_of slots v < bank_len)
IsInBank slots (Put v n) = (2 ≤ slot_of slots v) × (slot_of slots v < bank_len) × (n < 2 ^ 31)
IsInBank slots (Start v) = (2 ≤ slot_of slots v) × (slot_of slots v + 1 < bank_len)
IsInBank slots (Stop v) = (2 ≤ slot_of slots v) × (slot_of slots v + 1 < bank_len)

pub act_does : (slots : List ℕ) (a : Act) → IsInBank slots a → BodyDoes (tools (act_code slots a)) (act_bank slots a)
act_does slots (Up v) f at ticks x st = does_of (tools (up_code (slot_of slots v))) at ticks x st _ (up (slot_of slots v) at ticks x f.0 st f.1)
act_does slots (Down v) f at ticks x st = does_of (tools (down_code (slot_of slots v))) at ticks x st _ (down (slot_of slots v) at ticks x f.0 st f.1)
act_does slots (Put v n) f at ticks x st = does_of (tools (put_code (slot_of slots v) n)) at ticks x st _ (put (slot_of slots v) at ticks x f.0 n st f.1 f.2)
act_does slots (Start v) f at ticks x st = does_of (tools (start_code (slot_of slots v))) at ticks x st _ (start (slot_of slots v) at ticks x f.0 st f.1)
act_does slots (Stop v) f at ticks x st = does_of (tools (stop_code (slot_of slots v))) at ticks x st _ (stop (slot_of slots v) at ticks x f.0 st f.1)
