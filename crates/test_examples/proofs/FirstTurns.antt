-- Thirteen turns, one by one.
use Rattle.std.proofs.Common.{◌≡◌, ℕ, suc, List, [], ◌∷◌, ◌++◌, Option, Some, None, refl, ap, ◌∙◌}
use Rattle.std.specs.FinMap.{get, gets}
use Rattle.std.specs.Prelude.{Bool, true, false, replicate, slice_index, map}
use Rattle.rv_word.specs.Exec.{action, perform, prog_of}
use Rattle.rv_word.specs.Memory.{memory_of}
use Rattle.rv_word.specs.Registers.{reg, with_reg}
use Rattle.rv_word.specs.Table.{decode_of}
use Rattle.rv_word.specs.declared.outcome.Cause.{Cause}
use Rattle.rv_word.specs.declared.outcome.Cause.TheVariants.{Exit}
use Rattle.tramp_spec.specs.Codes.{Code}
use Rattle.tramp_spec.specs.Banks.{bank_len}
use Rattle.tramp_spec.specs.Marks.{own, enter, tool, leave}
use Rattle.tramp_spec.specs.Steps.{perform_on}
use Rattle.tramp_spec.specs.Statements.{body_of}
use Rattle.tramp_spec.specs.Harts.{Hart}
use Rattle.machine.specs.Cores.{Core, Row, Live}
use Rattle.machine.specs.Turns.{turn}
use Rattle.machine.specs.Events.{Turn}
use Rattle.machine.specs.Effects.{owned}
use Rattle.machine.specs.Replays.{replay, owns}
use Rattle.test_examples.specs.FirstTurns.{three_words, linked_core, turns, FirstTurns}

-- ---- the words that stand

record Stand (code : Code) : Type 0 where
  entered : get code 0x10000 ≡ Some (enter 0x0000106f)
  number : get code 0x10004 ≡ Some (own 0x05d00893)
  call : get code 0x10008 ≡ Some (own 0x00000073)
  save : get code 0x11000 ≡ Some (tool 0x00503423)
  head : get code 0x11004 ≡ Some (tool 0x0100006f)
  restore : get code 0x11008 ≡ Some (tool 0x00803283)
  moved : get code 0x1100c ≡ Some (own 0x00150513)
  leaves : get code 0x11010 ≡ Some (leave 0xff5fe06f)
  high : get code 0x11014 ≡ Some (tool 0x00000fb7)
  load : get code 0x11018 ≡ Some (tool 0x010fb283)
  add : get code 0x1101c ≡ Some (tool 0x00128293)
  keep : get code 0x11020 ≡ Some (tool 0x005fb823)
  last : get code 0x11024 ≡ Some (tool 0xfe5ff06f)

stand : Stand linked_core.code
unfolding body_of decode_of
stand =
    record {
      entered = simp gets;
      number = simp gets;
      call = simp gets;
      save = simp gets;
      head = simp gets;
      restore = simp gets;
      moved = simp gets;
      leaves = simp gets;
      high = simp gets;
      load = simp gets;
      add = simp gets;
      keep = simp gets;
      last = simp gets;
    }

-- ---- the states

abbrev rows : List Row
rows =
    record { point = 0x10000; at = 0x11000; len = 5; base = true; status = Live }
    ∷ record { point = 0x10000; at = 0x11014; len = 5; base = false; status = Live } ∷ []

-- the hart by its pc, registers, ticks, stop, inside, and the doublewords 1 and 2 of its bank
abbrev hart : ℕ → List ℕ → ℕ → Option Cause → Bool → ℕ → ℕ → Hart
hart pc regs ticks stop inside saved slot = record { pc = pc; regs = regs; ticks = ticks; stop = stop; inside = inside; bank = 0 ∷ saved ∷ slot ∷ 0 ∷ [] }

abbrev core : Code → Hart → Core
core code x = record { program = three_words; budget = 1000; harts = x ∷ []; prog = prog_of (memory_of 0x10000 12 []) (None ∷ []) []; code = code; rows = rows }

-- x5 is 7 for the program, a0 and a7 are 0 at first, and x5 is changed by the tool
abbrev file : ℕ → ℕ → ℕ → List ℕ
file a0 a7 t0 = with_reg (with_reg (with_reg (replicate 32 0) 5 t0) 10 a0) 17 a7

record Step (c d : Core) (ticks : List ℕ) : Type 0 where
  state : turn c 0 ≡ d
  owned_by : owned c (Turn 0) ≡ ticks

module _ (code : Code) (s : Stand code) where
  step_0 : Step (core code (hart 0x10000 (file 0 0 7) 0 None false 0 0)) (core code (hart 0x11000 (file 0 0 7) 0 None true 0 0)) ([])
  unfolding decode_of action perform perform_on reg with_reg bank_len
  step_0 = record { state = rw s.entered refl; owned_by = rw s.entered refl }

  step_1 : Step (core code (hart 0x11000 (file 0 0 7) 0 None true 0 0)) (core code (hart 0x11004 (file 0 0 7) 0 None true 7 0)) ([])
  unfolding decode_of action perform perform_on reg with_reg bank_len
  step_1 = record { state = rw s.save refl; owned_by = rw s.save refl }

  step_2 : Step (core code (hart 0x11004 (file 0 0 7) 0 None true 7 0)) (core code (hart 0x11014 (file 0 0 7) 0 None true 7 0)) ([])
  unfolding decode_of action perform perform_on reg with_reg bank_len
  step_2 = record { state = rw s.head refl; owned_by = rw s.head refl }

  step_3 : Step (core code (hart 0x11014 (file 0 0 7) 0 None true 7 0)) (core code (hart 0x11018 (file 0 0 7) 0 None true 7 0)) ([])
  unfolding decode_of action perform perform_on reg with_reg bank_len
  step_3 = record { state = rw s.high refl; owned_by = rw s.high refl }

  step_4 : Step (core code (hart 0x11018 (file 0 0 7) 0 None true 7 0)) (core code (hart 0x1101c (file 0 0 0) 0 None true 7 0)) ([])
  unfolding decode_of action perform perform_on reg with_reg bank_len
  step_4 = record { state = rw s.load refl; owned_by = rw s.load refl }

  step_5 : Step (core code (hart 0x1101c (file 0 0 0) 0 None true 7 0)) (core code (hart 0x11020 (file 0 0 1) 0 None true 7 0)) ([])
  unfolding decode_of action perform perform_on reg with_reg bank_len
  step_5 = record { state = rw s.add refl; owned_by = rw s.add refl }

  step_6 : Step (core code (hart 0x11020 (file 0 0 1) 0 None true 7 0)) (core code (hart 0x11024 (file 0 0 1) 0 None true 7 1)) ([])
  unfolding decode_of action perform perform_on reg with_reg bank_len
  step_6 = record { state = rw s.keep refl; owned_by = rw s.keep refl }

  step_7 : Step (core code (hart 0x11024 (file 0 0 1) 0 None true 7 1)) (core code (hart 0x11008 (file 0 0 1) 0 None true 7 1)) ([])
  unfolding decode_of action perform perform_on reg with_reg bank_len
  step_7 = record { state = rw s.last refl; owned_by = rw s.last refl }

  step_8 : Step (core code (hart 0x11008 (file 0 0 1) 0 None true 7 1)) (core code (hart 0x1100c (file 0 0 7) 0 None true 7 1)) ([])
  unfolding decode_of action perform perform_on reg with_reg bank_len
  step_8 = record { state = rw s.restore refl; owned_by = rw s.restore refl }

  step_9 : Step (core code (hart 0x1100c (file 0 0 7) 0 None true 7 1)) (core code (hart 0x11010 (file 1 0 7) 1 None true 7 1)) (0 ∷ [])
  unfolding decode_of action perform perform_on reg with_reg bank_len
  step_9 = record { state = rw s.moved refl; owned_by = rw s.moved refl }

  step_10 : Step (core code (hart 0x11010 (file 1 0 7) 1 None true 7 1)) (core code (hart 0x10004 (file 1 0 7) 1 None false 7 1)) ([])
  unfolding decode_of action perform perform_on reg with_reg bank_len
  step_10 = record { state = rw s.leaves refl; owned_by = rw s.leaves refl }

  step_11 : Step (core code (hart 0x10004 (file 1 0 7) 1 None false 7 1)) (core code (hart 0x10008 (file 1 93 7) 2 None false 7 1)) (0 ∷ [])
  unfolding decode_of action perform perform_on reg with_reg bank_len
  step_11 = record { state = rw s.number refl; owned_by = rw s.number refl }

  step_12 : Step (core code (hart 0x10008 (file 1 93 7) 2 None false 7 1)) (core code (hart 0x10008 (file 1 93 7) 3 (Some (Exit 1)) false 7 1)) (0 ∷ [])
  unfolding decode_of action perform perform_on reg with_reg bank_len
  step_12 = record { state = rw s.call refl; owned_by = rw s.call refl }

-- ---- together

leads : (n : ℕ) (c d : Core) (ticks : List ℕ) → Step c d ticks → replay (turns (suc n)) c ≡ replay (turns n) d
leads n c d ticks s = ap (replay (turns n)) s.state

owned_on : (n : ℕ) (c d : Core) (ticks : List ℕ) → Step c d ticks → owns (turns (suc n)) c ≡ ticks ++ owns (turns n) d
owned_on n c d ticks s = ap (λ z. z ++ owns (turns n) (turn c 0)) s.owned_by ∙ ap (λ z. ticks ++ owns (turns n) z) s.state

begins : linked_core ≡ core linked_core.code (hart 0x10000 (file 0 0 7) 0 None false 0 0)
unfolding with_reg body_of
begins = refl

module _ (code : Code) (s : Stand code) where
  -- the states after this many turns
  after_11 : replay (turns 11) (core code (hart 0x10000 (file 0 0 7) 0 None false 0 0)) ≡ core code (hart 0x10004 (file 1 0 7) 1 None false 7 1)
  after_11 = leads 10 _ _ _ (step_0 code s) ∙ leads 9 _ _ _ (step_1 code s) ∙ leads 8 _ _ _ (step_2 code s) ∙ leads 7 _ _ _ (step_3 code s) ∙ leads 6 _ _ _ (step_4 code s) ∙ leads 5 _ _ _ (step_5 code s) ∙ leads 4 _ _ _ (step_6 code s) ∙ leads 3 _ _ _ (step_7 code s) ∙ leads 2 _ _ _ (step_8 code s) ∙ leads 1 _ _ _ (step_9 code s) ∙ leads 0 _ _ _ (step_10 code s)

  after_13 : replay (turns 13) (core code (hart 0x10000 (file 0 0 7) 0 None false 0 0)) ≡ core code (hart 0x10008 (file 1 93 7) 3 (Some (Exit 1)) false 7 1)
  after_13 = leads 12 _ _ _ (step_0 code s) ∙ leads 11 _ _ _ (step_1 code s) ∙ leads 10 _ _ _ (step_2 code s) ∙ leads 9 _ _ _ (step_3 code s) ∙ leads 8 _ _ _ (step_4 code s) ∙ leads 7 _ _ _ (step_5 code s) ∙ leads 6 _ _ _ (step_6 code s) ∙ leads 5 _ _ _ (step_7 code s) ∙ leads 4 _ _ _ (step_8 code s) ∙ leads 3 _ _ _ (step_9 code s) ∙ leads 2 _ _ _ (step_10 code s) ∙ leads 1 _ _ _ (step_11 code s) ∙ leads 0 _ _ _ (step_12 code s)

  owned_9 : owns (turns 9) (core code (hart 0x10000 (file 0 0 7) 0 None false 0 0)) ≡ []
  owned_9 = owned_on 8 _ _ _ (step_0 code s) ∙ owned_on 7 _ _ _ (step_1 code s) ∙ owned_on 6 _ _ _ (step_2 code s) ∙ owned_on 5 _ _ _ (step_3 code s) ∙ owned_on 4 _ _ _ (step_4 code s) ∙ owned_on 3 _ _ _ (step_5 code s) ∙ owned_on 2 _ _ _ (step_6 code s) ∙ owned_on 1 _ _ _ (step_7 code s) ∙ owned_on 0 _ _ _ (step_8 code s)

  owned_10 : owns (turns 10) (core code (hart 0x10000 (file 0 0 7) 0 None false 0 0)) ≡ 0 ∷ []
  owned_10 = owned_on 9 _ _ _ (step_0 code s) ∙ owned_on 8 _ _ _ (step_1 code s) ∙ owned_on 7 _ _ _ (step_2 code s) ∙ owned_on 6 _ _ _ (step_3 code s) ∙ owned_on 5 _ _ _ (step_4 code s) ∙ owned_on 4 _ _ _ (step_5 code s) ∙ owned_on 3 _ _ _ (step_6 code s) ∙ owned_on 2 _ _ _ (step_7 code s) ∙ owned_on 1 _ _ _ (step_8 code s) ∙ owned_on 0 _ _ _ (step_9 code s)

  owned_11 : owns (turns 11) (core code (hart 0x10000 (file 0 0 7) 0 None false 0 0)) ≡ 0 ∷ []
  owned_11 = owned_on 10 _ _ _ (step_0 code s) ∙ owned_on 9 _ _ _ (step_1 code s) ∙ owned_on 8 _ _ _ (step_2 code s) ∙ owned_on 7 _ _ _ (step_3 code s) ∙ owned_on 6 _ _ _ (step_4 code s) ∙ owned_on 5 _ _ _ (step_5 code s) ∙ owned_on 4 _ _ _ (step_6 code s) ∙ owned_on 3 _ _ _ (step_7 code s) ∙ owned_on 2 _ _ _ (step_8 code s) ∙ owned_on 1 _ _ _ (step_9 code s) ∙ ap (λ (l : List ℕ). 0 ∷ l) (owned_on 0 _ _ _ (step_10 code s))

  owned_13 : owns (turns 13) (core code (hart 0x10000 (file 0 0 7) 0 None false 0 0)) ≡ 0 ∷ 0 ∷ 0 ∷ []
  owned_13 = owned_on 12 _ _ _ (step_0 code s) ∙ owned_on 11 _ _ _ (step_1 code s) ∙ owned_on 10 _ _ _ (step_2 code s) ∙ owned_on 9 _ _ _ (step_3 code s) ∙ owned_on 8 _ _ _ (step_4 code s) ∙ owned_on 7 _ _ _ (step_5 code s) ∙ owned_on 6 _ _ _ (step_6 code s) ∙ owned_on 5 _ _ _ (step_7 code s) ∙ owned_on 4 _ _ _ (step_8 code s) ∙ owned_on 3 _ _ _ (step_9 code s) ∙ ap (λ (l : List ℕ). 0 ∷ l) (owned_on 2 _ _ _ (step_10 code s)) ∙ ap (λ (l : List ℕ). 0 ∷ l) (owned_on 1 _ _ _ (step_11 code s)) ∙ ap (λ (l : List ℕ). 0 ∷ 0 ∷ l) (owned_on 0 _ _ _ (step_12 code s))

pub first_turns : FirstTurns
unfolding reg with_reg
first_turns =
    let code = linked_core.code in
    let end = ap (replay (turns 13)) begins ∙ after_13 code stand in
    record {
      nine = ap (owns (turns 9)) begins ∙ owned_9 code stand;
      ten = ap (owns (turns 10)) begins ∙ owned_10 code stand;
      eleven = ap (owns (turns 11)) begins ∙ owned_11 code stand;
      thirteen = ap (owns (turns 13)) begins ∙ owned_13 code stand;
      ticks = ap (λ (c : Core). map (λ x. x.ticks) c.harts) end;
      stop = ap (λ (c : Core). map (λ x. x.stop) c.harts) end;
      pc = ap (λ (c : Core). map (λ x. x.pc) c.harts) end;
      kept = ap (λ (c : Core). map (λ x. reg x.regs 5) c.harts) (ap (replay (turns 11)) begins ∙ after_11 code stand);
      slot = ap (λ (c : Core). map (λ x. slice_index x.bank 2) c.harts) end;
    }
