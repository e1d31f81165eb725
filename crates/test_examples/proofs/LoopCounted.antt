-- Three rounds of the loop, turn by turn.
use Rattle.std.proofs.Common.{◌≡◌, ℕ, zero, suc, ◌+◌, ◌%◌, ◌^◌, List, [], ◌∷◌, ◌++◌, None, refl, sym, ap, ◌∙◌, subst, inl, inr}
use Rattle.std.specs.Prelude.{Bool, true, false, replicate, slice_index, slice_set, unwrap_or, nat_lt}
use Rattle.pn_types.specs.declared.placed.PlacedSite.{PlacedSite}
use Rattle.rv_word.specs.Exec.{Prog, action, perform}
use Rattle.rv_word.specs.Registers.{reg, with_reg}
use Rattle.rv_word.specs.Table.{decode_of}
use Rattle.rv_mem.specs.Start.{program_of}
use Rattle.rv_exec.specs.Start.{start, start_regs, start_hart}
use Rattle.tramp_spec.specs.Banks.{bank_len}
use Rattle.tramp_spec.specs.Codes.{Code}
use Rattle.tramp_spec.specs.Harts.{Hart}
use Rattle.tramp_spec.specs.Jumps.{jump_word}
use Rattle.tramp_spec.specs.Marks.{tool}
use Rattle.tramp_spec.specs.Statements.{body_of}
use Rattle.tramp_spec.specs.Steps.{perform_on}
use Rattle.frame_walk.specs.Walks.{walk}
use Rattle.frame_walk.proofs.Waits.{cold_begins}
use Rattle.machine.specs.Cores.{Core, Row, Live, In, first_hart}
use Rattle.machine.specs.Effects.{after_event, owned}
use Rattle.machine.specs.Events.{Event, Turn, Arm, May, MayArm, HasMini, IsEntered, IsQuiet}
use Rattle.machine.specs.Instruments.{Carries, InForce, IsSpared, AllLet, body_in}
use Rattle.machine.specs.Measures.{difference, level, measure}
use Rattle.test_examples.specs.LoopCounted.{loop, loop_core, count_up, rounds, counter, linking, three_rounds, LoopCounted}
use Rattle.machine.specs.Readings.{readings}
use Rattle.machine.specs.Replays.{replay, Legal, owns}
use Rattle.machine.specs.Turns.{turn}
use Rattle.machine.proofs.Openings.{armed_cold}
use Rattle.machine.proofs.Replaying.{replay-append, owns-append, legal-append}
use Rattle.std.proofs.lemmas.Bool.{true≢false}
use Rattle.test_examples.proofs.LoopLinked.{program, measurable, bank_is, places, base_row, mini_row, linked, linked_code, linking_legal, Stand, stand}

-- ---- a round

abbrev rows : List Row
rows = base_row ∷ mini_row ∷ []

-- the hart by its pc, x5, ticks, inside, and the doublewords 1 and 2 of its bank
abbrev hart : List ℕ → ℕ → ℕ → ℕ → Bool → ℕ → ℕ → Hart
hart rest pc t0 ticks inside saved slot = record { pc = pc; regs = with_reg (start_regs 0 1) 5 t0; ticks = ticks; stop = None; inside = inside; bank = 0 ∷ saved ∷ slot ∷ rest }

abbrev core : Code → Prog → Hart → Core
core code prog x = record { program = program_of loop; budget = 1000; harts = x ∷ []; prog = prog; code = code; rows = rows }

-- a turn that may be taken
record Step (c d : Core) (ticks : List ℕ) : Type 0 where
  may : May c (Turn 0)
  state : turn c 0 ≡ d
  owned_by : owned c (Turn 0) ≡ ticks

module _ (code : Code) (s : Stand code) (prog : Prog) (rest : List ℕ) (n : ℕ) (low : nat_lt n 1000 ≡ true) where
  step_0 : Step (core code prog (hart rest 0x10000 0 n false 0 n)) (core code prog (hart rest 0x11000 0 n true 0 n)) []
  unfolding decode_of action perform perform_on reg with_reg bank_len
  step_0 = record { may = low; state = rw s.entered refl; owned_by = rw s.entered refl }

  step_1 : Step (core code prog (hart rest 0x11000 0 n true 0 n)) (core code prog (hart rest 0x11004 0 n true 0 n)) []
  unfolding decode_of action perform perform_on reg with_reg bank_len
  step_1 = record { may = refl; state = rw s.save refl; owned_by = rw s.save refl }

  step_2 : Step (core code prog (hart rest 0x11004 0 n true 0 n)) (core code prog (hart rest 0x11010 0 n true 0 n)) []
  unfolding decode_of action perform perform_on reg with_reg bank_len
  step_2 = record { may = refl; state = rw s.head refl; owned_by = rw s.head refl }

  step_3 : Step (core code prog (hart rest 0x11010 0 n true 0 n)) (core code prog (hart rest 0x11014 0 n true 0 n)) []
  unfolding decode_of action perform perform_on reg with_reg bank_len
  step_3 = record { may = refl; state = rw s.high refl; owned_by = rw s.high refl }

  step_4 : Step (core code prog (hart rest 0x11014 0 n true 0 n)) (core code prog (hart rest 0x11018 n n true 0 n)) []
  unfolding decode_of action perform perform_on reg with_reg bank_len
  step_4 = record { may = refl; state = rw s.load refl; owned_by = rw s.load refl }

  step_5 : Step (core code prog (hart rest 0x11018 n n true 0 n)) (core code prog (hart rest 0x1101c ((n + 1) % 2 ^ 64) n true 0 n)) []
  unfolding decode_of action perform perform_on reg with_reg bank_len
  step_5 = record { may = refl; state = rw s.add refl; owned_by = rw s.add refl }

  step_6 : Step (core code prog (hart rest 0x1101c ((n + 1) % 2 ^ 64) n true 0 n)) (core code prog (hart rest 0x11020 ((n + 1) % 2 ^ 64) n true 0 ((n + 1) % 2 ^ 64))) []
  unfolding decode_of action perform perform_on reg with_reg bank_len
  step_6 = record { may = refl; state = rw s.keep refl; owned_by = rw s.keep refl }

  step_7 : Step (core code prog (hart rest 0x11020 ((n + 1) % 2 ^ 64) n true 0 ((n + 1) % 2 ^ 64))) (core code prog (hart rest 0x11008 ((n + 1) % 2 ^ 64) n true 0 ((n + 1) % 2 ^ 64))) []
  unfolding decode_of action perform perform_on reg with_reg bank_len
  step_7 = record { may = refl; state = rw s.last refl; owned_by = rw s.last refl }

  step_8 : Step (core code prog (hart rest 0x11008 ((n + 1) % 2 ^ 64) n true 0 ((n + 1) % 2 ^ 64))) (core code prog (hart rest 0x1100c 0 n true 0 ((n + 1) % 2 ^ 64))) []
  unfolding decode_of action perform perform_on reg with_reg bank_len
  step_8 = record { may = refl; state = rw s.restore refl; owned_by = rw s.restore refl }

  step_9 : Step (core code prog (hart rest 0x1100c 0 n true 0 ((n + 1) % 2 ^ 64))) (core code prog (hart rest 0x10000 0 (n + 1) false 0 ((n + 1) % 2 ^ 64))) (0 ∷ [])
  unfolding decode_of action perform perform_on reg with_reg bank_len
  step_9 = record { may = refl; state = rw s.moved refl; owned_by = rw s.moved refl }

-- ---- round by round

-- turns that may be taken, where they lead and their ticks
record Run (es : List Event) (c d : Core) (ticks : List ℕ) : Type 0 where
  legal : Legal es c
  state : replay es c ≡ d
  owned_by : owns es c ≡ ticks

rests : (c : Core) → Run [] c c []
rests c = record { legal = tt; state = refl; owned_by = refl }

goes_on : (es : List Event) (c d e : Core) (ticks more : List ℕ) → Step c d ticks → Run es d e more → Run (Turn 0 ∷ es) c e (ticks ++ more)
goes_on es c d e ticks more s r = record {
  legal = (s.may, subst (Legal es) (sym s.state) r.legal);
  state = ap (replay es) s.state ∙ r.state;
  owned_by = ap (λ z. z ++ owns es (turn c 0)) s.owned_by ∙ ap (λ z. ticks ++ z) (ap (owns es) s.state ∙ r.owned_by);
}

abbrev round_of : List Event → List Event
round_of es = replicate 10 (Turn 0) ++ es

module _ (code : Code) (s : Stand code) (prog : Prog) (rest : List ℕ) where
  round : (n : ℕ) → nat_lt n 1000 ≡ true → (es : List Event) (e : Core) (ticks : List ℕ) → Run es (core code prog (hart rest 0x10000 0 (n + 1) false 0 ((n + 1) % 2 ^ 64))) e ticks → Run (round_of es) (core code prog (hart rest 0x10000 0 n false 0 n)) e (0 ∷ ticks)
  round n low es e ticks r =
      goes_on _ _ _ _ _ _ (step_0 code s prog rest n low)
      (goes_on _ _ _ _ _ _ (step_1 code s prog rest n low)
      (goes_on _ _ _ _ _ _ (step_2 code s prog rest n low)
      (goes_on _ _ _ _ _ _ (step_3 code s prog rest n low)
      (goes_on _ _ _ _ _ _ (step_4 code s prog rest n low)
      (goes_on _ _ _ _ _ _ (step_5 code s prog rest n low)
      (goes_on _ _ _ _ _ _ (step_6 code s prog rest n low)
      (goes_on _ _ _ _ _ _ (step_7 code s prog rest n low)
      (goes_on _ _ _ _ _ _ (step_8 code s prog rest n low)
      (goes_on _ _ _ _ _ _ (step_9 code s prog rest n low) r)))))))))

  three : Run (replicate 30 (Turn 0)) (core code prog (hart rest 0x10000 0 0 false 0 0)) (core code prog (hart rest 0x10000 0 3 false 0 3)) (0 ∷ 0 ∷ 0 ∷ [])
  three =
      round 0 refl (replicate 20 (Turn 0)) (core code prog (hart rest 0x10000 0 3 false 0 3)) (0 ∷ 0 ∷ [])
      (round 1 refl (replicate 10 (Turn 0)) (core code prog (hart rest 0x10000 0 3 false 0 3)) (0 ∷ [])
      (round 2 refl [] (core code prog (hart rest 0x10000 0 3 false 0 3)) [] (rests (core code prog (hart rest 0x10000 0 3 false 0 3)))))

-- ---- from the arming on

-- the doublewords after the counter's slot
rest : List ℕ
rest = 0 ∷ replicate bank_is.0 0

abbrev with_bank : List ℕ → Core
with_bank bank =
    record {
      program = program_of loop;
      budget = 1000;
      harts = record { pc = 0x10000; regs = start_regs 0 1; ticks = 0; stop = None; inside = false; bank = slice_set bank 2 0 } ∷ [];
      prog = (start loop 1).prog;
      code = linked_code;
      rows = rows;
    }

abbrev behind : ℕ → Core
behind n = core linked_code (start loop 1).prog (hart rest 0x10000 0 n false 0 n)

bank_so : replicate bank_len 0 ≡ 0 ∷ 0 ∷ 0 ∷ rest
unfolding rest
bank_so = ap (λ n. replicate n 0) bank_is.1

armed_so : after_event (linked 1000) (Arm counter) ≡ with_bank (replicate bank_len 0)
unfolding body_of
armed_so = ap (λ (x : Hart). record (linked 1000) { harts = x ∷ [] }) (armed_cold (linked 1000) counter (first_hart (start_hart loop 1 0)) refl)

begins : after_event (linked 1000) (Arm counter) ≡ core linked_code (start loop 1).prog (hart rest 0x10000 0 0 false 0 0)
unfolding with_reg
begins = armed_so ∙ ap with_bank bank_so

run : Run (replicate 30 (Turn 0)) (after_event (linked 1000) (Arm counter)) (core linked_code (start loop 1).prog (hart rest 0x10000 0 3 false 0 3)) (0 ∷ 0 ∷ 0 ∷ [])
run = subst (λ c. Run (replicate 30 (Turn 0)) c (core linked_code (start loop 1).prog (hart rest 0x10000 0 3 false 0 3)) (0 ∷ 0 ∷ 0 ∷ [])) (sym begins) (three linked_code stand (start loop 1).prog rest)

outside : (n : ℕ) → IsQuiet (core linked_code (start loop 1).prog (hart rest 0x10000 0 n false 0 n))
outside n zero x e = let s : hart rest 0x10000 0 n false 0 n ≡ x = cc in ap (λ (u : Hart). u.inside) (sym s)
outside n (suc h) x e = absurd cc

arms : (budget : ℕ) → MayArm (linked budget) counter
unfolding body_of
arms budget = record { quiet = quiet; linked = sites }
  where
    quiet : IsQuiet (linked budget)
    quiet zero x e = let s : first_hart (start_hart loop 1 0) ≡ x = cc in ap (λ (u : Hart). u.inside) (sym s)
    quiet (suc h) x e = absurd cc

    at_loop : HasMini (linked budget) 0x10000 0x11010 Live × IsEntered (linked budget) 0x10000
    at_loop = (record { row = mini_row; listed = inr (inl refl); mini = refl; point = refl; at = refl; is = refl }, record { jump = jump_word 0x10000 0x11000; stands = stand.entered })

    sites : (s : PlacedSite) → In s counter.sites → HasMini (linked budget) s.at s.mini Live × IsEntered (linked budget) s.at
    sites s (inl e) = subst (λ (u : PlacedSite). HasMini (linked budget) u.at u.mini Live × IsEntered (linked budget) u.at) (sym e) at_loop
    sites s (inr h) = absurd h

carries : Carries (linked 1000) counter rounds
unfolding body_of
carries = record {
  vars = refl;
  many = refl;
  places = places;
  sites = (refl, record { row = mini_row; listed = inr (inl refl); mini = refl; point = refl; at = refl; is = body }, tt);
  opens = refl;
}
  where
    body : body_in linked_code mini_row ≡ body_of (2 ∷ []) count_up
    body =
        let a = ap (λ o. unwrap_or o (tool 0)) stand.high in
        let b = ap (λ o. unwrap_or o (tool 0)) stand.load in
        let c = ap (λ o. unwrap_or o (tool 0)) stand.add in
        let d = ap (λ o. unwrap_or o (tool 0)) stand.keep in
        cc

all_legal : Legal three_rounds (loop_core 1000)
all_legal = legal-append linking (Arm counter ∷ replicate 30 (Turn 0)) (loop_core 1000) (linking_legal 1000) (arms 1000, run.legal)

in_force : InForce counter three_rounds (loop_core 1000)
in_force = record { before = linking; since = replicate 30 (Turn 0); is = refl; spared = spared; lets = turns 30 }
  where
    spared : IsSpared (linked 1000) counter
    spared r (inl e) b = absurd (true≢false (sym (ap (λ (u : Row). u.base) e) ∙ b))
    spared r (inr (inl e)) b = inl (record { at = 0x10000; mini = 0x11010 }, inl refl, sym (ap (λ (u : Row). u.at) e))
    spared r (inr (inr h)) b = absurd h

    turns : (n : ℕ) → AllLet counter (replicate n (Turn 0))
    turns zero = tt
    turns (suc n) = (tt, turns n)

at_end : replay three_rounds (loop_core 1000) ≡ core linked_code (start loop 1).prog (hart rest 0x10000 0 3 false 0 3)
at_end = replay-append linking (Arm counter ∷ replicate 30 (Turn 0)) (loop_core 1000) ∙ run.state

measured : measure (program_of loop) rounds (0 ∷ []) 0 0 3 (0 ∷ 0 ∷ 0 ∷ []) (start loop 1) ≡ 3
unfolding decode_of action perform reg with_reg
measured =
    ap (λ values. (difference (slice_index values 0) (slice_index (level (program_of loop) rounds 0 (0 ∷ 0 ∷ 0 ∷ []) (start loop 1) (record { values = values; runs = 0 })).values 0) + 0) % 2 ^ 64)
    (cold_begins (walk (start loop 1) 0) rounds.vars)

pub loop_counted : LoopCounted
unfolding in_force
loop_counted = record {
  program = program;
  measurable = measurable;
  begins = λ budget. legal-append linking (Arm counter ∷ []) (loop_core budget) (linking_legal budget) (arms budget, tt);
  legal = all_legal;
  sampled = record {
    force = in_force;
    carries = carries;
    first = [];
    rest = replicate 30 (Turn 0);
    parts = refl;
    earlier = subst IsQuiet (sym begins) (outside 0);
    now = subst IsQuiet (sym at_end) (outside 3);
  };
  from_arm = refl;
  owned = owns-append linking (Arm counter ∷ replicate 30 (Turn 0)) (loop_core 1000) ∙ run.owned_by;
  at_first = ap (readings counter (0 ∷ [])) begins;
  at_last = ap (readings counter (0 ∷ [])) at_end;
  measured = measured;
}
