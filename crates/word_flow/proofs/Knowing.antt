-- Where the executions of all words are known, the numbers tell all ticks.
use Rattle.std.proofs.Common.{◌≡◌, ℕ, ◌+◌, ◌-◌, ◌*◌, ◌^◌, ◌<◌, ◌≤◌, List, [], ◌∷◌, length, Option, Some, None, refl, ap, ◌∙◌, arith, Bool, true, false, cond, ⊎_elim}
use Rattle.std.specs.Prelude.{◌==◌, ◌&&◌, not, is_none, count_by}
use Rattle.std.specs.List.{AllZip}
use Rattle.std.specs.Option.{option_map_or}
use Rattle.std.proofs.lemmas.Bool.{and_right, eqb-true, ne_eqb}
use Rattle.pn_types.specs.declared.image.Image.{Image}
use Rattle.rv_word.specs.Names.{ends_block}
use Rattle.rv_word.specs.Table.{decode_of}
use Rattle.rv_word.specs.Plain.{Words, PlainHart, program_word}
use Rattle.rv_mem.specs.Start.{program_of}
use Rattle.rv_exec.specs.Run.{Position, executions, trace, IsLegal}
use Rattle.word_flow.specs.declared.hart_end.HartEnd.{HartEnd}
use Rattle.word_flow.specs.Executions.{executions_of, run_executions, run_ticks}
use Rattle.word_flow.specs.HartEnds.{run_ends, is_stopped_at, is_waiting_at}
use Rattle.word_flow.specs.Laws.{CountsAtMost, AreExecutionBounds, run_numbers, run_told_ticks}
use Rattle.word_flow.specs.Transfers.{falls_through_to, run_transfers, harts_starting_at, IsWordKnown, AreWordsKnown, KnownWordsTellAll}
use Rattle.word_flow.specs.Numbers.{flow_to_next, number_of, word_numbers}
use Rattle.word_flow.proofs.Flows.{is_outside}
use Rattle.word_flow.proofs.Splits.{StandFrom, text_stands, length-trace, has_place}
use Rattle.word_flow.proofs.Bounds.{AtMost, sum-le, numbers_bound}
use Rattle.word_flow.proofs.Transferring.{flow_high, never_executed, stops_high, positions_high}

-- nothing falls through to the first word of the text
none_before : (t : Words) (x : PlainHart) → falls_through_to t t.at x ≡ false
none_before t x = by (program_word t x.pc) refl
  where
    by : (o : Option ℕ) → program_word t x.pc ≡ o
        → (option_map_or (λ w. not (ends_block (decode_of w))) o false && (x.pc + 4 == t.at)) ≡ false
    by None e = refl
    by (Some w) e =
        let p = has_place t x.pc w e in
        let at : x.pc ≡ t.at + 4 * p.i = p.at in
        and_right (not (ends_block (decode_of w))) (x.pc + 4 == t.at) (ne_eqb (x.pc + 4) t.at (λ z. omega arith))

-- and nothing to a word after one with which a block ends
none_after_end : (t : Words) (a w : ℕ) → program_word t a ≡ Some w → ends_block (decode_of w) ≡ true
    → (x : PlainHart) → falls_through_to t (a + 4) x ≡ false
none_after_end t a w is ends x = by (x.pc + 4 == a + 4) refl
  where
    by : (b : Bool) → (x.pc + 4 == a + 4) ≡ b
        → (option_map_or (λ w. not (ends_block (decode_of w))) (program_word t x.pc) false && b) ≡ false
    by true e =
        let s : x.pc + 4 ≡ a + 4 = eqb-true (x.pc + 4) (a + 4) e in
        let q : x.pc ≡ a = omega arith in
        ap (λ o. option_map_or (λ w. not (ends_block (decode_of w))) o false && true) (ap (program_word t) q ∙ is)
        ∙ ap (λ b. not b && true) ends
    by false e = and_right (option_map_or (λ w. not (ends_block (decode_of w))) (program_word t x.pc) false) false refl

module _ (image : Image) (n budget : ℕ) (turns : List ℕ) (legal : IsLegal image n budget turns) where
  abbrev t : Words
  t = program_of image

  abbrev tr : List Position
  tr = trace image n turns

  abbrev ends : List HartEnd
  ends = run_ends image n turns

  -- the flow is all executions where no control is transferred to a
  abbrev FlowsAll : ℕ → ℕ → Type 0
  FlowsAll a flow = harts_starting_at image n a ≡ 0 → run_transfers image n turns a ≡ 0 → executions a tr ≤ flow

  illegal_stops : (a w : ℕ) → program_word t a ≡ Some w → decode_of w ≡ None → executions a tr ≤ count_by (is_stopped_at a) ends
  illegal_stops a w is illegal =
      stops_high image n budget turns (λ p. p == a)
      (λ x y turn e. turn.fails w (ap (program_word t) (eqb-true x.pc a e) ∙ is) illegal) legal

  number_high : (c : Option ℕ) (a w flow : ℕ) → program_word t a ≡ Some w → IsWordKnown image n turns c w a → FlowsAll a flow
      → executions a tr ≤ number_of c ends a flow
  number_high (Some k) a w flow is known all = let e : k ≡ executions a tr = known in omega arith
  number_high None a w flow is known all =
      ⊎_elim (λ (illegal : decode_of w ≡ None). let f = illegal_stops a w is illegal in omega arith)
      (λ (k : (harts_starting_at image n a ≡ 0) × (run_transfers image n turns a ≡ 0)).
      let f : executions a tr ≤ flow = all k.0 k.1 in omega arith) known

  flow_to_next_high : (a w k : ℕ) → program_word t a ≡ Some w → executions a tr ≤ k → FlowsAll (a + 4) (flow_to_next ends w a k)
  flow_to_next_high a w k is l none free = by (ends_block (decode_of w)) refl
    where
      by : (b : Bool) → ends_block (decode_of w) ≡ b
          → executions (a + 4) tr ≤ cond b 0 (k - (count_by (is_stopped_at a) ends + count_by (is_waiting_at (a + 4)) ends))
      by false e = let f = flow_high image n budget turns a (a + 4) refl legal none free in omega arith
      by true e = let f = never_executed image n budget turns (a + 4) (none_after_end t a w is e) legal none free in omega arith

  numbers_high : (cs : List (Option ℕ)) (ws : List ℕ) (a flow : ℕ)
      → AreWordsKnown image n turns cs ws a → StandFrom t ws a → FlowsAll a flow
      → AtMost (executions_of ws a tr) (word_numbers ends flow cs ws a)
  numbers_high [] [] a flow known s all = tt
  numbers_high [] (w ∷ ws) a flow known s all = absurd known
  numbers_high (c ∷ cs) [] a flow known s all = absurd known
  numbers_high (c ∷ cs) (w ∷ ws) a flow known s all =
      let k = number_high c a w flow s.0 known.0 all in
      (k, numbers_high cs ws (a + 4) _ known.1 s.1 (flow_to_next_high a w _ s.0 k))

  counts_low : (cs : List (Option ℕ)) (ws : List ℕ) (a : ℕ)
      → AreWordsKnown image n turns cs ws a → AllZip CountsAtMost cs (executions_of ws a tr)
  counts_low [] [] a known = tt
  counts_low [] (w ∷ ws) a known = absurd known
  counts_low (c ∷ cs) [] a known = absurd known
  counts_low (None ∷ cs) (w ∷ ws) a known = (tt, counts_low cs ws (a + 4) known.1)
  counts_low (Some k ∷ cs) (w ∷ ws) a known = let e : k ≡ executions a tr = known.0 in (omega arith, counts_low cs ws (a + 4) known.1)

  tells_all : (counts : List (Option ℕ)) → t.at + 4 * length t.words < 2 ^ 64 → AreWordsKnown image n turns counts t.words t.at
      → run_told_ticks image n turns counts ≡ run_ticks image n turns
  tells_all counts low known =
      let ns = run_numbers image n turns counts in
      let es = run_executions image n turns in
      let bounds : AreExecutionBounds image n turns counts
      = numbers_bound image n budget turns counts low legal (counts_low counts t.words t.at known) in
      let within = bounds.within in
      let first : FlowsAll t.at 0
      = λ none free. let f = never_executed image n budget turns t.at (none_before t) legal none free in omega arith in
      let high : AtMost es ns = numbers_high counts t.words t.at 0 known (text_stands t) first in
      let s = sum-le es ns high in
      let a = length-trace t tr in
      let b = positions_high image n budget turns legal in
      let c = stops_high image n budget turns (is_outside t) (λ x y turn e. turn.halts (none_by (program_word t x.pc) e)) legal in
      omega arith
    where
      none_by : {A : Type 0} (o : Option A) → is_none o ≡ true → o ≡ None
      none_by None e = refl
      none_by (Some x) e = absurd cc

pub known_words_tell : KnownWordsTellAll
known_words_tell image n budget turns counts low legal known = tells_all image n budget turns legal counts low known
