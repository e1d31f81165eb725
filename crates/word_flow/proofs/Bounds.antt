-- The numbers against the executions.
use Rattle.std.proofs.Common.{◌≡◌, ℕ, ◌+◌, ◌-◌, ◌*◌, ◌^◌, ◌<◌, ◌≤◌, List, [], ◌∷◌, length, Option, Some, None, refl, ap, ◌∙◌, subst, arith, Bool, true, false, cond}
use Rattle.std.specs.Prelude.{◌==◌, sum, count_by}
use Rattle.std.specs.List.{AllZip}
use Rattle.std.proofs.lemmas.List.Sums.{sum_by-cons}
use Rattle.pn_types.specs.declared.image.Image.{Image}
use Rattle.rv_word.specs.Exec.{next}
use Rattle.rv_word.specs.Names.{ends_block}
use Rattle.rv_word.specs.Table.{decode_of}
use Rattle.rv_word.specs.Plain.{Words, program_word}
use Rattle.rv_mem.specs.Start.{program_of}
use Rattle.rv_exec.specs.Run.{Position, executions, trace, IsLegal}
use Rattle.word_flow.specs.declared.hart_end.HartEnd.{HartEnd}
use Rattle.word_flow.specs.Executions.{executions_of, run_executions, run_ticks}
use Rattle.word_flow.specs.HartEnds.{run_ends, is_stopped_at, is_waiting_at, is_stopped_outside}
use Rattle.word_flow.specs.Numbers.{flow_to_next, number_of, word_numbers, sum_at}
use Rattle.word_flow.specs.Laws.{CountsAtMost, run_numbers, AreExecutionBounds, NumbersBoundExecutions}
use Rattle.word_flow.proofs.Flows.{stops_low, positions_low, flow_low, is_outside}
use Rattle.word_flow.proofs.Splits.{StandFrom, text_stands, length-trace, sum_at-executions_of, sum_at-all}

-- ---- lists of which one is nowhere more than the other

abbrev pub AtMost : List ℕ → List ℕ → Type 0
AtMost = AllZip (λ k e. k ≤ e)

sum-cons : (x : ℕ) (xs : List ℕ) → sum (x ∷ xs) ≡ x + sum xs
sum-cons x xs = sum_by-cons (λ (n : ℕ). n) x xs

-- on a set it falls short by no more than on all
sum_at-near : (p : ℕ → Bool) (xs ys : List ℕ) (a : ℕ) → AtMost xs ys → sum_at p ys a + sum xs ≤ sum_at p xs a + sum ys
sum_at-near p [] [] a l = omega arith
sum_at-near p [] (y ∷ ys) a l = absurd l
sum_at-near p (x ∷ xs) [] a l = absurd l
sum_at-near p (x ∷ xs) (y ∷ ys) a l =
    let c = sum-cons x xs in
    let d = sum-cons y ys in
    let r = sum_at-near p xs ys (a + 4) l.1 in
    let h : cond (p a) y 0 + x ≤ cond (p a) x 0 + y = by (p a) l.0 in
    omega arith
  where
    by : (b : Bool) → x ≤ y → cond b y 0 + x ≤ cond b x 0 + y
    by true h = omega arith
    by false h = omega arith

sum_at-le : (p : ℕ → Bool) (xs ys : List ℕ) (a : ℕ) → AtMost xs ys → sum_at p xs a ≤ sum_at p ys a
sum_at-le p [] [] a l = omega arith
sum_at-le p [] (y ∷ ys) a l = absurd l
sum_at-le p (x ∷ xs) [] a l = absurd l
sum_at-le p (x ∷ xs) (y ∷ ys) a l =
    let r = sum_at-le p xs ys (a + 4) l.1 in
    let h : cond (p a) x 0 ≤ cond (p a) y 0 = by (p a) l.0 in
    omega arith
  where
    by : (b : Bool) → x ≤ y → cond b x 0 ≤ cond b y 0
    by true h = omega arith
    by false h = omega arith

-- a set has no more than all
pub sum_at-le-sum : (p : ℕ → Bool) (xs : List ℕ) (a : ℕ) → sum_at p xs a ≤ sum xs
sum_at-le-sum p [] a = omega arith
sum_at-le-sum p (x ∷ xs) a =
    let c = sum-cons x xs in
    let r = sum_at-le-sum p xs (a + 4) in
    let h : cond (p a) x 0 ≤ x = by (p a) in
    omega arith
  where
    by : (b : Bool) → cond b x 0 ≤ x
    by true = omega arith
    by false = omega arith

pub sum-le : (xs ys : List ℕ) → AtMost xs ys → sum xs ≤ sum ys
sum-le xs ys l = let a = sum_at-le (λ z. true) xs ys 0 l in let b = sum_at-all xs 0 in let c = sum_at-all ys 0 in omega arith

-- lists with the same sum are the same
same_lists : (xs ys : List ℕ) → AtMost xs ys → sum ys ≤ sum xs → xs ≡ ys
same_lists [] [] l s = refl
same_lists [] (y ∷ ys) l s = absurd l
same_lists (x ∷ xs) [] l s = absurd l
same_lists (x ∷ xs) (y ∷ ys) l s =
    let c = sum-cons x xs in
    let d = sum-cons y ys in
    let r = sum-le xs ys l.1 in
    let h : x ≤ y = l.0 in
    let e : x ≡ y = omega arith in
    let q : sum ys ≤ sum xs = omega arith in
    ap (λ z. z ∷ xs) e ∙ ap (λ zs. y ∷ zs) (same_lists xs ys l.1 q)

-- ---- each number is low

module _ (image : Image) (n budget : ℕ) (turns : List ℕ) (legal : IsLegal image n budget turns) where
  abbrev t : Words
  t = program_of image

  abbrev tr : List Position
  tr = trace image n turns

  abbrev ends : List HartEnd
  ends = run_ends image n turns

  stops_at_low : (a : ℕ) → count_by (is_stopped_at a) ends ≤ executions a tr
  stops_at_low a = stops_low image n budget turns (λ p. p == a) legal

  number_low : (o : Option ℕ) (a flow : ℕ)
      → CountsAtMost o (executions a tr) → flow ≤ executions a tr → number_of o ends a flow ≤ executions a tr
  number_low None a flow c l = let s = stops_at_low a in omega arith
  number_low (Some k) a flow c l = c

  flow_to_next_low : (a w k : ℕ) → program_word t a ≡ Some w → a + 4 < 2 ^ 64
      → k ≤ executions a tr → flow_to_next ends w a k ≤ executions (a + 4) tr
  flow_to_next_low a w k is low l = by (ends_block (decode_of w)) refl
    where
      by : (b : Bool) → ends_block (decode_of w) ≡ b
          → cond b 0 (k - (count_by (is_stopped_at a) ends + count_by (is_waiting_at (a + 4)) ends)) ≤ executions (a + 4) tr
      by true e = omega arith
      by false e =
          let f = flow_low image n budget turns a w is e legal in
          let to : next a ≡ a + 4 = omega arith in
          let g : executions a tr ≤ executions (a + 4) tr + (count_by (is_stopped_at a) ends + count_by (is_waiting_at (a + 4)) ends)
          = subst (λ z. executions a tr ≤ executions z tr + (count_by (is_stopped_at a) ends + count_by (is_waiting_at z) ends)) to f in
          omega arith

  numbers_low : (cs : List (Option ℕ)) (ws : List ℕ) (a flow : ℕ)
      → AllZip CountsAtMost cs (executions_of ws a tr) → StandFrom t ws a → a + 4 * length ws < 2 ^ 64 → flow ≤ executions a tr
      → AtMost (word_numbers ends flow cs ws a) (executions_of ws a tr)
  numbers_low [] [] a flow c s low l = tt
  numbers_low [] (w ∷ ws) a flow c s low l = absurd c
  numbers_low (c ∷ cs) [] a flow h s low l = absurd h
  numbers_low (c ∷ cs) (w ∷ ws) a flow h s low l =
      let k = number_low c a flow h.0 l in
      (k, numbers_low cs ws (a + 4) _ h.1 s.1 (omega arith) (flow_to_next_low a w _ s.0 (omega arith) k))

  -- all positions are ticks
  executions_low : sum (run_executions image n turns) + count_by (is_stopped_outside t) ends ≤ run_ticks image n turns
  executions_low =
      let a = length-trace t tr in
      let b = positions_low image n budget turns legal in
      let c = stops_low image n budget turns (is_outside t) legal in
      omega arith

  are_bounds : (counts : List (Option ℕ)) → AllZip CountsAtMost counts (run_executions image n turns)
      → t.at + 4 * length t.words < 2 ^ 64 → AreExecutionBounds image n turns counts
  are_bounds counts are low =
      let ns = run_numbers image n turns counts in
      let es = run_executions image n turns in
      let l : AtMost ns es = numbers_low counts t.words t.at 0 are (text_stands t) low (omega arith) in
      let s = sum-le ns es l in
      let a = executions_low in
      record {
        low = l;
        within = omega arith;
        least = λ p. let m = sum_at-le p ns es t.at l in let i = sum_at-executions_of t p tr in omega arith;
        most = λ p. let m = sum_at-near p ns es t.at l in let i = sum_at-executions_of t p tr in omega arith;
        exact = λ e. same_lists ns es l (omega arith);
      }

pub numbers_bound : NumbersBoundExecutions
numbers_bound image n budget turns counts low legal are = are_bounds image n budget turns legal counts are low
