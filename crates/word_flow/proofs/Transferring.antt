-- How harts come to words.
use Rattle.std.proofs.Common.{◌≡◌, ℕ, zero, suc, ◌+◌, ◌≤◌, List, [], ◌∷◌, length, Option, Some, None, refl, ap, ◌∙◌, subst, arith, Bool, true, false}
use Rattle.std.specs.Prelude.{IsTrue, ◌==◌, ◌&&◌, not, is_some, slice_get, slice_set, sum_by, count_by}
use Rattle.std.specs.Option.{option_map_or}
use Rattle.std.proofs.lemmas.Bool.{and_left, and_parts, eqb-true, eq-eqb}
use Rattle.std.proofs.lemmas.List.Sums.{sum_by-cons}
use Rattle.pn_types.specs.declared.image.Image.{Image}
use Rattle.rv_word.specs.Registers.{arguments_of}
use Rattle.rv_word.specs.Names.{ends_block}
use Rattle.rv_word.specs.Table.{decode_of}
use Rattle.rv_word.specs.Plain.{Words, PlainHart, Plain, may_go, program_word, turn_of, turn_alone}
use Rattle.rv_mem.specs.Start.{program_of}
use Rattle.rv_exec.specs.Run.{Position, executions, position_of, run, run_from, trace, trace_from, IsLegal, LegalFrom}
use Rattle.rv_exec.specs.Start.{start, start_hart, harts_from}
use Rattle.word_flow.specs.declared.hart_end.HartEnd.{HartEnd}
use Rattle.word_flow.specs.Executions.{run_ticks}
use Rattle.word_flow.specs.HartEnds.{hart_end_of, run_ends, is_stopped_at, is_waiting_at}
use Rattle.word_flow.specs.Transfers.{falls_through_to, is_transfer_to, count_turn, count_turns, run_transfers, harts_starting_at}
use Rattle.word_flow.proofs.Steps.{IsTurn, is_turn}
use Rattle.word_flow.proofs.Accounts.{IsBalanced, all_balance, not_stopped, sum_along, sum_by-put_back}
use Rattle.word_flow.proofs.Flows.{one_if, sum_by-0, sum_by-1, sum_by-add, count_by-hart_ends_of, none_at_start}

-- ---- turns with transfers

-- one turn before others
add_turn : (f g l ax ay ao az ae fr gr lr fs gs : ℕ)
    → fs ≡ f + fr → gs ≡ g + gr → az + ax ≡ ao + ay → f + ay ≤ g + ax + l → fr + ae ≤ gr + az + lr → fs + ae ≤ gs + ao + (l + lr)
add_turn f g l ax ay ao az ae fr gr lr fs gs a b c d e = omega arith

slice_get-slice_set : (hs : List PlainHart) (h : ℕ) (x y : PlainHart) → slice_get hs h ≡ Some x → slice_get (slice_set hs h y) h ≡ Some y
slice_get-slice_set [] h x y e = absurd cc
slice_get-slice_set (z ∷ hs) zero x y e = refl
slice_get-slice_set (z ∷ hs) (suc h) x y e = slice_get-slice_set hs h x y e

-- a turn that transfers control to a may add one to what f weighs
abbrev MayTransfer : Words → ℕ → (ℕ → ℕ) → (ℕ → ℕ) → (PlainHart → ℕ) → Type 0
MayTransfer t a f g A = (x y : PlainHart) → x.stop ≡ None → IsTurn t x y → f x.pc + A y ≤ g x.pc + A x + one_if (is_transfer_to t a x y)

-- the turns hs from a state on are balanced together, but for their transfers to a
abbrev BalanceWithTransfers : Words → ℕ → (ℕ → ℕ) → (ℕ → ℕ) → (PlainHart → ℕ) → List ℕ → Plain → Type 0
BalanceWithTransfers t a f g A hs s =
    sum_along f (trace_from t hs s) + sum_by A (run_from t hs s).harts
    ≤ sum_along g (trace_from t hs s) + sum_by A s.harts + count_turns (is_transfer_to t a) t hs s

-- what holds of each turn with its transfer holds of all
all_transfer : (t : Words) (budget a : ℕ) (f g : ℕ → ℕ) (A : PlainHart → ℕ) → MayTransfer t a f g A
    → (hs : List ℕ) (s : Plain) → LegalFrom t budget hs s → BalanceWithTransfers t a f g A hs s
all_transfer t budget a f g A w [] s legal = omega arith
all_transfer t budget a f g A w (h ∷ hs) s legal = by (slice_get s.harts h) refl (λ z l. all_transfer t budget a f g A w hs z l)
  where
    by : (o : Option PlainHart) → slice_get s.harts h ≡ o → ((z : Plain) → LegalFrom t budget hs z → BalanceWithTransfers t a f g A hs z)
        → sum_along f (position_of h o (trace_from t hs (turn_of o t h s))) + sum_by A (run_from t hs (turn_of o t h s)).harts
        ≤ sum_along g (position_of h o (trace_from t hs (turn_of o t h s))) + sum_by A s.harts
        + (count_turn (is_transfer_to t a) o (slice_get (turn_of o t h s).harts h)
        + count_turns (is_transfer_to t a) t hs (turn_of o t h s))
    by None e rest = let never : IsTrue (may_go None budget) = subst (λ z. IsTrue (may_go z budget)) e legal.0 in absurd cc
    by (Some x) e rest =
        let may : IsTrue (may_go (Some x) budget) = subst (λ z. IsTrue (may_go z budget)) e legal.0 in
        let free = not_stopped x budget may in
        let y = (turn_alone t h (record { hart = x; prog = s.prog })).hart in
        let z = turn_of (Some x) t h s in
        let one : f x.pc + A y ≤ g x.pc + A x + one_if (is_transfer_to t a x y) = w x y free (is_turn t h x s.prog free) in
        let same : count_turn (is_transfer_to t a) (Some x) (slice_get z.harts h) ≡ one_if (is_transfer_to t a x y)
        = ap (count_turn (is_transfer_to t a) (Some x)) (slice_get-slice_set s.harts h x y e) in
        let others : BalanceWithTransfers t a f g A hs z = rest z (subst (λ o. LegalFrom t budget hs (turn_of o t h s)) e legal.1) in
        let p : Position = record { hart = h; pc = x.pc; arguments = arguments_of x.regs } in
        let all = add_turn (f x.pc) (g x.pc) (one_if (is_transfer_to t a x y)) (A x) (A y) (sum_by A s.harts) (sum_by A z.harts) _ _ _ _ _ _
        (sum_by-cons (λ (q : Position). f q.pc) p (trace_from t hs z)) (sum_by-cons (λ (q : Position). g q.pc) p (trace_from t hs z))
        (sum_by-put_back A s.harts h x y e) one others in
        omega arith

-- where each turn that passes one test passes another, no more turns pass the first
pub count_turns-le : (t : Words) (budget : ℕ) (p q : PlainHart → PlainHart → Bool)
    → ((x y : PlainHart) → x.stop ≡ None → IsTurn t x y → p x y ≡ true → q x y ≡ true)
    → (hs : List ℕ) (s : Plain) → LegalFrom t budget hs s → count_turns p t hs s ≤ count_turns q t hs s
count_turns-le t budget p q w [] s legal = omega arith
count_turns-le t budget p q w (h ∷ hs) s legal = by (slice_get s.harts h) refl (λ z l. count_turns-le t budget p q w hs z l)
  where
    one_if-le : (a b : Bool) → (a ≡ true → b ≡ true) → one_if a ≤ one_if b
    one_if-le true b f = let e = ap one_if (f refl) in omega arith
    one_if-le false b f = omega arith

    by : (o : Option PlainHart) → slice_get s.harts h ≡ o
        → ((z : Plain) → LegalFrom t budget hs z → count_turns p t hs z ≤ count_turns q t hs z)
        → count_turn p o (slice_get (turn_of o t h s).harts h) + count_turns p t hs (turn_of o t h s)
        ≤ count_turn q o (slice_get (turn_of o t h s).harts h) + count_turns q t hs (turn_of o t h s)
    by None e rest = let never : IsTrue (may_go None budget) = subst (λ z. IsTrue (may_go z budget)) e legal.0 in absurd cc
    by (Some x) e rest =
        let may : IsTrue (may_go (Some x) budget) = subst (λ z. IsTrue (may_go z budget)) e legal.0 in
        let free = not_stopped x budget may in
        let y = (turn_alone t h (record { hart = x; prog = s.prog })).hart in
        let z = turn_of (Some x) t h s in
        let there = slice_get-slice_set s.harts h x y e in
        let l = one_if-le (p x y) (q x y) (w x y free (is_turn t h x s.prog free)) in
        let a : count_turn p (Some x) (slice_get z.harts h) ≡ one_if (p x y) = ap (count_turn p (Some x)) there in
        let b : count_turn q (Some x) (slice_get z.harts h) ≡ one_if (q x y) = ap (count_turn q (Some x)) there in
        let others : count_turns p t hs z ≤ count_turns q t hs z
        = rest z (subst (λ o. LegalFrom t budget hs (turn_of o t h s)) e legal.1) in
        omega arith

-- ---- from the word before

module _ (t : Words) (a b : ℕ) (after : a + 4 ≡ b) where
  -- a hart that comes to b, and isn't transferred there, comes from a
  flow_or_transfer : (x y : PlainHart) → x.stop ≡ None → IsTurn t x y
      → one_if (x.pc == b) + (one_if (is_stopped_at a (hart_end_of y)) + one_if (is_waiting_at b (hart_end_of y)))
      ≤ one_if (x.pc == a) + (one_if (is_stopped_at a (hart_end_of x)) + one_if (is_waiting_at b (hart_end_of x)))
      + one_if (is_transfer_to t b x y)
  flow_or_transfer x y free turn =
      let s : one_if (is_stopped_at a (hart_end_of x)) ≡ 0 = ap (λ o. one_if (is_some o && (x.pc == a))) free in
      let v : one_if (is_waiting_at b (hart_end_of x)) ≡ one_if (x.pc == b) = ap (λ o. one_if (not (is_some o) && (x.pc == b))) free in
      let h = by (is_some y.stop) refl in
      omega arith
    where
      from_a : (q : Bool) → falls_through_to t b x ≡ q → one_if q ≤ one_if (x.pc == a)
      from_a true e =
          let goes_on = option_map_or (λ w. not (ends_block (decode_of w))) (program_word t x.pc) false in
          let i : x.pc + 4 ≡ b = eqb-true (x.pc + 4) b (and_parts goes_on (x.pc + 4 == b) e).1 in
          let k : one_if (x.pc == a) ≡ 1 = ap one_if (eq-eqb x.pc a (omega arith)) in
          omega arith
      from_a false e = omega arith

      falls_or_not : (p q : Bool) → one_if p ≤ one_if q + one_if (p && not q)
      falls_or_not true true = omega arith
      falls_or_not true false = omega arith
      falls_or_not false q = omega arith

      by : (c : Bool) → is_some y.stop ≡ c
          → one_if (c && (y.pc == a)) + one_if (not c && (y.pc == b))
          ≤ one_if (x.pc == a) + one_if (not c && (y.pc == b) && not (falls_through_to t b x))
      by true e = let k : one_if (y.pc == a) ≡ one_if (x.pc == a) = ap (λ z. one_if (z == a)) (turn.stays e) in omega arith
      by false e =
          let d = falls_or_not (y.pc == b) (falls_through_to t b x) in
          let f = from_a (falls_through_to t b x) refl in
          omega arith

-- at the start the harts at b wait there
waiting_at_start : (image : Image) (n b : ℕ)
    → count_by (λ x. is_waiting_at b (hart_end_of x)) (start image n).harts ≡ harts_starting_at image n b
waiting_at_start image n b = by n 0
  where
    by : (more h : ℕ)
        → count_by (λ x. is_waiting_at b (hart_end_of x)) (harts_from more h image n)
        ≡ count_by (λ x. x.pc == b) (harts_from more h image n)
    by zero h = refl
    by (suc more) h =
        let x = start_hart image n h in
        let p = sum_by-cons (λ x. one_if (is_waiting_at b (hart_end_of x))) x (harts_from more (h + 1) image n) in
        let q = sum_by-cons (λ x. one_if (x.pc == b)) x (harts_from more (h + 1) image n) in
        let r = by more (h + 1) in
        omega arith

none_stopped_at_start : (image : Image) (n a : ℕ) → count_by (λ x. is_stopped_at a (hart_end_of x)) (start image n).harts ≡ 0
none_stopped_at_start image n a =
    none_at_start (λ x. is_stopped_at a (hart_end_of x)) (λ x e. and_left (is_some x.stop) (x.pc == a) (ap is_some e)) image n

-- A word to which no control is transferred is executed at most as often as the one before it, less the harts that stopped there or
-- wait here.
pub flow_high : (image : Image) (n budget : ℕ) (turns : List ℕ) (a b : ℕ)
    → a + 4 ≡ b → IsLegal image n budget turns → harts_starting_at image n b ≡ 0 → run_transfers image n turns b ≡ 0
    → executions b (trace image n turns)
    + (count_by (is_stopped_at a) (run_ends image n turns) + count_by (is_waiting_at b) (run_ends image n turns))
    ≤ executions a (trace image n turns)
flow_high image n budget turns a b after legal free none =
    let t = program_of image in
    let s = start image n in
    let e = run image n turns in
    let A : PlainHart → ℕ = λ x. one_if (is_stopped_at a (hart_end_of x)) + one_if (is_waiting_at b (hart_end_of x)) in
    let all = all_transfer t budget b (λ p. one_if (p == b)) (λ p. one_if (p == a)) A (flow_or_transfer t a b after) turns s legal in
    let stops : PlainHart → ℕ = λ x. one_if (is_stopped_at a (hart_end_of x)) in
    let waits : PlainHart → ℕ = λ x. one_if (is_waiting_at b (hart_end_of x)) in
    let c = sum_by-add stops waits s.harts in
    let d = sum_by-add stops waits e.harts in
    let f = waiting_at_start image n b in
    let g = none_stopped_at_start image n a in
    let k = count_by-hart_ends_of (is_stopped_at a) e.harts in
    let m = count_by-hart_ends_of (is_waiting_at b) e.harts in
    omega arith

-- ---- where no word falls through

module _ (t : Words) (b : ℕ) (none : (x : PlainHart) → falls_through_to t b x ≡ false) where
  only_transfers : (x y : PlainHart) → x.stop ≡ None → IsTurn t x y
      → one_if (x.pc == b) + one_if (is_waiting_at b (hart_end_of y))
      ≤ 0 + one_if (is_waiting_at b (hart_end_of x)) + one_if (is_transfer_to t b x y)
  only_transfers x y free turn =
      let v : one_if (is_waiting_at b (hart_end_of x)) ≡ one_if (x.pc == b) = ap (λ o. one_if (not (is_some o) && (x.pc == b))) free in
      let w : one_if (is_waiting_at b (hart_end_of y) && not (falls_through_to t b x)) ≡ one_if (is_waiting_at b (hart_end_of y) && true)
      = ap (λ q. one_if (is_waiting_at b (hart_end_of y) && not q)) (none x) in
      let u = and_always (is_waiting_at b (hart_end_of y)) in
      omega arith
    where
      and_always : (p : Bool) → one_if (p && true) ≡ one_if p
      and_always true = refl
      and_always false = refl

pub never_executed : (image : Image) (n budget : ℕ) (turns : List ℕ) (b : ℕ)
    → ((x : PlainHart) → falls_through_to (program_of image) b x ≡ false) → IsLegal image n budget turns
    → harts_starting_at image n b ≡ 0 → run_transfers image n turns b ≡ 0 → executions b (trace image n turns) ≡ 0
never_executed image n budget turns b before legal free none =
    let t = program_of image in
    let s = start image n in
    let A : PlainHart → ℕ = λ x. one_if (is_waiting_at b (hart_end_of x)) in
    let all = all_transfer t budget b (λ p. one_if (p == b)) (λ p. 0) A (only_transfers t b before) turns s legal in
    let f = waiting_at_start image n b in
    let z = sum_by-0 (trace image n turns) in
    omega arith

-- ---- words at which harts stop

-- a test of addresses at which each word stops its hart
halts_balance : (t : Words) (budget : ℕ) (P : ℕ → Bool)
    → ((x y : PlainHart) → IsTurn t x y → P x.pc ≡ true → is_some y.stop ≡ true)
    → IsBalanced t budget (λ a. one_if (P a)) (λ a. 0) (λ x. one_if (is_some x.stop && P x.pc)) (λ x. 0)
halts_balance t budget P halt x y free less turn =
    let z : one_if (is_some x.stop && P x.pc) ≡ 0 = ap one_if (and_left (is_some x.stop) (P x.pc) (ap is_some free)) in
    let h = by (P x.pc) refl in
    omega arith
  where
    by : (b : Bool) → P x.pc ≡ b → one_if b ≤ one_if (is_some y.stop && P y.pc)
    by false e = omega arith
    by true e =
        let s = halt x y turn e in
        let p : P y.pc ≡ true = ap P (turn.stays s) ∙ e in
        let k : one_if (is_some y.stop && P y.pc) ≡ one_if (true && P y.pc) = ap (λ b. one_if (b && P y.pc)) s in
        let m : one_if (P y.pc) ≡ 1 = ap one_if p in
        omega arith

pub stops_high : (image : Image) (n budget : ℕ) (turns : List ℕ) (P : ℕ → Bool)
    → ((x y : PlainHart) → IsTurn (program_of image) x y → P x.pc ≡ true → is_some y.stop ≡ true) → IsLegal image n budget turns
    → count_by (λ (q : Position). P q.pc) (trace image n turns)
    ≤ count_by (λ (e : HartEnd). e.is_stopped && P e.pc) (run_ends image n turns)
stops_high image n budget turns P halt legal =
    let t = program_of image in
    let s = start image n in
    let A : PlainHart → ℕ = λ x. one_if (is_some x.stop && P x.pc) in
    let all = all_balance t budget (λ a. one_if (P a)) (λ a. 0) A (λ x. 0) (halts_balance t budget P halt) turns s legal in
    let first : count_by (λ (x : PlainHart). is_some x.stop && P x.pc) s.harts ≡ 0
    = none_at_start (λ x. is_some x.stop && P x.pc) (λ x e. and_left (is_some x.stop) (P x.pc) (ap is_some e)) image n in
    let y = sum_by-0 (run image n turns).harts in
    let z = sum_by-0 s.harts in
    let w = sum_by-0 (trace image n turns) in
    let m = count_by-hart_ends_of (λ e. e.is_stopped && P e.pc) (run image n turns).harts in
    omega arith

-- ---- ticks

ticks_balance : (t : Words) (budget : ℕ) → IsBalanced t budget (λ a. 0) (λ a. 1) (λ x. 0) (λ x. x.ticks)
ticks_balance t budget x y free less turn = let k = turn.ticks in omega arith

no_ticks_at_start : (image : Image) (n more h : ℕ) → sum_by (λ (x : PlainHart). x.ticks) (harts_from more h image n) ≡ 0
no_ticks_at_start image n zero h = refl
no_ticks_at_start image n (suc more) h =
    let a = sum_by-cons (λ (x : PlainHart). x.ticks) (start_hart image n h) (harts_from more (h + 1) image n) in
    let b = no_ticks_at_start image n more (h + 1) in
    omega arith

pub positions_high : (image : Image) (n budget : ℕ) (turns : List ℕ) → IsLegal image n budget turns
    → run_ticks image n turns ≤ length (trace image n turns)
positions_high image n budget turns legal =
    let t = program_of image in
    let s = start image n in
    let all = all_balance t budget (λ a. 0) (λ a. 1) (λ x. 0) (λ x. x.ticks) (ticks_balance t budget) turns s legal in
    let a = sum_by-1 (trace image n turns) in
    let b = sum_by-0 (trace image n turns) in
    let c = sum_by-0 (run image n turns).harts in
    let d = sum_by-0 s.harts in
    let e = no_ticks_at_start image n n 0 in
    omega arith
