-- What a run's turns say of the executions of its words, and of its ticks.
use Rattle.std.proofs.Common.{◌≡◌, ℕ, zero, suc, ◌+◌, ◌-◌, ◌*◌, ◌≤◌, List, [], ◌∷◌, length, Some, None, refl, ap, ◌∙◌, sym, subst, arith, Bool, true, false, cond}
use Rattle.std.specs.Prelude.{◌==◌, ◌&&◌, not, is_none, is_some, sum_by, count_by}
use Rattle.std.proofs.lemmas.Bool.{and_from, and_left, eqb-true, eq-eqb}
use Rattle.std.proofs.lemmas.List.Sums.{sum_by-cons}
use Rattle.pn_types.specs.declared.image.Image.{Image}
use Rattle.rv_word.specs.Exec.{next}
use Rattle.rv_word.specs.Names.{ends_block}
use Rattle.rv_word.specs.Table.{decode_of}
use Rattle.rv_word.specs.Plain.{Words, PlainHart, program_word}
use Rattle.rv_mem.specs.Start.{program_of}
use Rattle.rv_exec.specs.Run.{Position, executions, run, trace, IsLegal}
use Rattle.rv_exec.proofs.Runs.{length-run_from}
use Rattle.rv_exec.specs.Start.{start, start_hart, harts_from}
use Rattle.word_flow.specs.Executions.{run_ticks}
use Rattle.word_flow.specs.HartEnds.{hart_end_of, hart_ends_of, run_ends, is_stopped_at, is_waiting_at}
use Rattle.word_flow.specs.declared.hart_end.HartEnd.{HartEnd}
use Rattle.word_flow.proofs.Steps.{IsTurn}
use Rattle.word_flow.proofs.Accounts.{IsBalanced, all_balance}

abbrev pub one_if : Bool → ℕ
one_if b = cond b 1 0

abbrev pub is_outside : Words → ℕ → Bool
is_outside t a = is_none (program_word t a)

-- ---- sums and counts

pub sum_by-0 : {A : Type 0} (xs : List A) → sum_by (λ (x : A). 0) xs ≡ 0
sum_by-0 [] = refl
sum_by-0 {A = A} (x ∷ xs) = let a = sum_by-cons (λ (x : A). 0) x xs in let b = sum_by-0 xs in omega arith

pub sum_by-1 : (tr : List Position) → sum_by (λ (q : Position). 1) tr ≡ length tr
sum_by-1 [] = refl
sum_by-1 (q ∷ tr) = let a = sum_by-cons (λ (q : Position). 1) q tr in let b = sum_by-1 tr in omega arith

pub sum_by-add : {A : Type 0} (f g : A → ℕ) (xs : List A) → sum_by (λ x. f x + g x) xs ≡ sum_by f xs + sum_by g xs
sum_by-add f g [] = refl
sum_by-add f g (x ∷ xs) =
    let a = sum_by-cons (λ x. f x + g x) x xs in
    let b = sum_by-cons f x xs in
    let c = sum_by-cons g x xs in
    let d = sum_by-add f g xs in
    omega arith

pub count_by-hart_ends_of : (P : HartEnd → Bool) (hs : List PlainHart) → count_by P (hart_ends_of hs) ≡ count_by (λ x. P (hart_end_of x)) hs
count_by-hart_ends_of P [] = refl
count_by-hart_ends_of P (x ∷ xs) =
    let a = sum_by-cons (λ e. one_if (P e)) (hart_end_of x) (hart_ends_of xs) in
    let b = sum_by-cons (λ x. one_if (P (hart_end_of x))) x xs in
    let c = count_by-hart_ends_of P xs in
    omega arith

-- no hart of the start passes a test that no hart passes before it stops
pub none_at_start : (P : PlainHart → Bool)
    → (fails : (x : PlainHart) → x.stop ≡ None → P x ≡ false) → (image : Image) (n : ℕ) → count_by P (start image n).harts ≡ 0
none_at_start P fails image n = by n 0
  where
    by : (more h : ℕ) → count_by P (harts_from more h image n) ≡ 0
    by zero h = refl
    by (suc more) h =
        let a = sum_by-cons (λ x. cond (P x) 1 0) (start_hart image n h) (harts_from more (h + 1) image n) in
        let b : one_if (P (start_hart image n h)) ≡ 0 = ap one_if (fails (start_hart image n h) refl) in
        let c = by more (h + 1) in
        omega arith

-- ---- stops

stops_balance : (t : Words) (budget : ℕ) (P : ℕ → Bool)
    → IsBalanced t budget (λ a. 0) (λ a. one_if (P a)) (λ x. 0) (λ x. one_if (is_some x.stop && P x.pc))
stops_balance t budget P x y free less turn = by (is_some y.stop) refl
  where
    by : (b : Bool) → is_some y.stop ≡ b → 0 + 0 + one_if (b && P y.pc) ≤ one_if (P x.pc) + 0 + one_if (is_some x.stop && P x.pc)
    by true e = let s = ap (λ a. one_if (P a)) (turn.stays e) in omega arith
    by false e = omega arith

-- no more harts stopped at addresses that pass a test than positions are at them
pub stops_low : (image : Image) (n budget : ℕ) (turns : List ℕ) (P : ℕ → Bool) → IsLegal image n budget turns
    → count_by (λ (e : HartEnd). e.is_stopped && P e.pc) (run_ends image n turns)
    ≤ count_by (λ (q : Position). P q.pc) (trace image n turns)
stops_low image n budget turns P legal =
    let t = program_of image in
    let s = start image n in
    let B : PlainHart → ℕ = λ x. one_if (is_some x.stop && P x.pc) in
    let all = all_balance t budget (λ a. 0) (λ a. one_if (P a)) (λ x. 0) B (stops_balance t budget P) turns s legal in
    let first : count_by (λ (x : PlainHart). is_some x.stop && P x.pc) s.harts ≡ 0
    = none_at_start (λ x. is_some x.stop && P x.pc) (λ x e. and_left _ (P x.pc) (ap is_some e)) image n in
    let a = sum_by-0 (run image n turns).harts in
    let b = sum_by-0 s.harts in
    let c = sum_by-0 (trace image n turns) in
    let d = count_by-hart_ends_of (λ e. e.is_stopped && P e.pc) (run image n turns).harts in
    omega arith

-- ---- ticks

positions_balance : (t : Words) (budget : ℕ) → IsBalanced t budget (λ a. 1) (λ a. 0) (λ x. x.ticks) (λ x. 0)
positions_balance t budget x y free less turn = let k = turn.ticks in omega arith

-- each position is a tick
pub positions_low : (image : Image) (n budget : ℕ) (turns : List ℕ) → IsLegal image n budget turns
    → length (trace image n turns) ≤ run_ticks image n turns
positions_low image n budget turns legal =
    let t = program_of image in
    let s = start image n in
    let all = all_balance t budget (λ a. 1) (λ a. 0) (λ x. x.ticks) (λ x. 0) (positions_balance t budget) turns s legal in
    let a = sum_by-1 (trace image n turns) in
    let b = sum_by-0 (trace image n turns) in
    let c = sum_by-0 (run image n turns).harts in
    let d = sum_by-0 s.harts in
    omega arith

-- no hart has more ticks than the budget
excess_balances : (t : Words) (budget : ℕ) → IsBalanced t budget (λ a. 0) (λ a. 0) (λ x. 0) (λ x. x.ticks - budget)
excess_balances t budget x y free less turn = let k = turn.ticks in omega arith

-- ticks are budgets and what exceeds these
ticks_with_excess : (budget : ℕ) (hs : List PlainHart)
    → sum_by (λ (x : PlainHart). x.ticks) hs ≤ length hs * budget + sum_by (λ (x : PlainHart). x.ticks - budget) hs
ticks_with_excess budget [] = omega arith
ticks_with_excess budget (x ∷ xs) =
    let a = sum_by-cons (λ (x : PlainHart). x.ticks) x xs in
    let b = sum_by-cons (λ (x : PlainHart). x.ticks - budget) x xs in
    let c = ticks_with_excess budget xs in
    let d : length (x ∷ xs) * budget ≡ budget + length xs * budget = omega arith in
    omega arith

start_excess : (budget : ℕ) (image : Image) (n more h : ℕ) → sum_by (λ (x : PlainHart). x.ticks - budget) (harts_from more h image n) ≡ 0
start_excess budget image n zero h = refl
start_excess budget image n (suc more) h =
    let a = sum_by-cons (λ (x : PlainHart). x.ticks - budget) (start_hart image n h) (harts_from more (h + 1) image n) in
    let b = start_excess budget image n more (h + 1) in
    omega arith

length-harts_from : (image : Image) (n more h : ℕ) → length (harts_from more h image n) ≡ more
length-harts_from image n zero h = refl
length-harts_from image n (suc more) h = let r = length-harts_from image n more (h + 1) in omega arith

pub ticks_low : (image : Image) (n budget : ℕ) (turns : List ℕ) → IsLegal image n budget turns → run_ticks image n turns ≤ n * budget
ticks_low image n budget turns legal =
    let t = program_of image in
    let s = start image n in
    let all = all_balance t budget (λ a. 0) (λ a. 0) (λ x. 0) (λ x. x.ticks - budget) (excess_balances t budget) turns s legal in
    let b = sum_by-0 (trace image n turns) in
    let c = sum_by-0 (run image n turns).harts in
    let d = sum_by-0 s.harts in
    let e = start_excess budget image n n 0 in
    let f = ticks_with_excess budget (run image n turns).harts in
    let g : length (run image n turns).harts ≡ n = length-run_from t turns s ∙ length-harts_from image n n 0 in
    let k : length (run image n turns).harts * budget ≡ n * budget = ap (λ z. z * budget) g in
    omega arith

-- ---- from a word to the next

module _ (t : Words) (a w : ℕ) (is : program_word t a ≡ Some w) (straight : ends_block (decode_of w) ≡ false) where
  -- after its turn a hart that was at the word waits at the next one, or stopped at this one
  stops_or_waits : (x y : PlainHart) → IsTurn t x y → x.pc ≡ a → (b : Bool) → is_some y.stop ≡ b
      → 1 ≤ one_if (is_stopped_at a (hart_end_of y)) + one_if (is_waiting_at (next a) (hart_end_of y))
  stops_or_waits x y turn e true s =
      let h = ap one_if (and_from (is_some y.stop) (y.pc == a) s (eq-eqb y.pc a (turn.stays s ∙ e))) in omega arith
  stops_or_waits x y turn e false s =
      let there : y.pc ≡ next x.pc = turn.goes w (subst (λ p. program_word t p ≡ Some w) (sym e) is) straight s in
      let h = ap one_if (and_from (not (is_some y.stop)) (y.pc == next a) (ap not s) (eq-eqb y.pc (next a) (there ∙ ap next e))) in
      omega arith

  one_flows : (x y : PlainHart) → IsTurn t x y → (b : Bool) → (x.pc == a) ≡ b
      → one_if b ≤ one_if (is_stopped_at a (hart_end_of y)) + one_if (is_waiting_at (next a) (hart_end_of y))
  one_flows x y turn true e = stops_or_waits x y turn (eqb-true x.pc a e) (is_some y.stop) refl
  one_flows x y turn false e = omega arith

  flow_balances : (budget : ℕ)
      → IsBalanced t budget (λ p. one_if (p == a)) (λ p. one_if (p == next a))
      (λ x. one_if (is_stopped_at a (hart_end_of x)) + one_if (is_waiting_at (next a) (hart_end_of x))) (λ x. 0)
  flow_balances budget x y free less turn =
      let s : one_if (is_stopped_at a (hart_end_of x)) ≡ 0 = ap (λ o. one_if (is_some o && (x.pc == a))) free in
      let v : one_if (is_waiting_at (next a) (hart_end_of x)) ≡ one_if (x.pc == next a)
      = ap (λ o. one_if (not (is_some o) && (x.pc == next a))) free in
      let h = one_flows x y turn (x.pc == a) refl in
      omega arith

-- A word with which no block ends is executed no more often than the next one, with the harts that stopped at it and those that wait
-- at the next one.
pub flow_low : (image : Image) (n budget : ℕ) (turns : List ℕ) (a w : ℕ)
    → program_word (program_of image) a ≡ Some w → ends_block (decode_of w) ≡ false → IsLegal image n budget turns
    → executions a (trace image n turns)
    ≤ executions (next a) (trace image n turns)
    + (count_by (is_stopped_at a) (run_ends image n turns) + count_by (is_waiting_at (next a)) (run_ends image n turns))
flow_low image n budget turns a w is straight legal =
    let t = program_of image in
    let s = start image n in
    let harts = (run image n turns).harts in
    let A : PlainHart → ℕ = λ x. one_if (is_stopped_at a (hart_end_of x)) + one_if (is_waiting_at (next a) (hart_end_of x)) in
    let all = all_balance t budget (λ p. one_if (p == a)) (λ p. one_if (p == next a)) A (λ x. 0)
    (flow_balances t a w is straight budget) turns s legal in
    let stops : PlainHart → ℕ = λ x. one_if (is_stopped_at a (hart_end_of x)) in
    let waits : PlainHart → ℕ = λ x. one_if (is_waiting_at (next a) (hart_end_of x)) in
    let e = sum_by-add stops waits harts in
    let y = sum_by-0 harts in
    let z = sum_by-0 s.harts in
    let k = count_by-hart_ends_of (is_stopped_at a) harts in
    let m = count_by-hart_ends_of (is_waiting_at (next a)) harts in
    omega arith
