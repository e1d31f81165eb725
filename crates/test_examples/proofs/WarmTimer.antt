-- Three rounds of two harts under the timer.
use Rattle.std.proofs.Common.{◌≡◌, ℕ, zero, suc, ◌+◌, ◌%◌, ◌^◌, List, [], ◌∷◌, ◌++◌, None, refl, sym, ap, ◌∙◌, subst, inl, inr}
use Rattle.std.specs.Prelude.{true, false, replicate, slice_index, slice_set, nat_lt, map}
use Rattle.pn_types.specs.declared.placed.PlacedSite.{PlacedSite}
use Rattle.rv_word.specs.Exec.{action, perform}
use Rattle.rv_word.specs.Registers.{reg, with_reg}
use Rattle.rv_word.specs.Table.{decode_of}
use Rattle.rv_mem.specs.Start.{program_of}
use Rattle.rv_exec.specs.Start.{start, start_regs, start_hart}
use Rattle.tramp_spec.specs.Banks.{bank_len}
use Rattle.tramp_spec.specs.Harts.{Hart, Solo}
use Rattle.tramp_spec.specs.Marks.{own, enter, tool}
use Rattle.tramp_spec.specs.Slots.{places_of, set_places}
use Rattle.tramp_spec.specs.Statements.{body_of}
use Rattle.tramp_spec.specs.Steps.{perform_on}
use Rattle.machine.specs.Cores.{Core, Row, Live, In, first_hart}
use Rattle.machine.specs.Effects.{armed_hart}
use Rattle.machine.specs.Events.{Event, Turn, Arm, MayArm, IsLinked, IsQuiet}
use Rattle.machine.specs.Instruments.{Carries, InForce, IsSpared, AllLet}
use Rattle.frame_walk.specs.Openings.{opening}
use Rattle.frame_walk.specs.Walks.{walk}
use Rattle.machine.specs.Measures.{difference, level, measure}
use Rattle.machine.specs.Readings.{readings}
use Rattle.machine.specs.Replays.{replay, Legal}
use Rattle.test_examples.specs.WarmTimer.{procedure, two_harts, procedure_time, timer, linking_timer, timing, both_inside, timed_rounds, WarmTimer}
use Rattle.std.proofs.lemmas.Bool.{true≢false}
use Rattle.machine.proofs.Replaying.{replay-append, owns-append, legal-append}
use Rattle.test_examples.proofs.ThreeLinked.{bank_five}
use Rattle.test_examples.proofs.Traces.{Trace, placed, Seat, seated, Run, and_then, follows_seated}
use Rattle.test_examples.proofs.WarmLinked.{program, measurable, places, base_row, mini_row, linked, linking_legal, linked_code, stand, body_stands}
use Rattle.test_examples.proofs.WarmOpening.{opens_so}

-- ---- the harts

abbrev rows : List Row
rows = base_row Live ∷ mini_row Live ∷ []

abbrev with_harts : List Hart → Core
with_harts harts = record { program = program_of procedure; budget = 1000; harts = harts; prog = (start procedure 2).prog; code = linked_code; rows = rows }

-- hart h outside, at the jump
abbrev with_bank : List ℕ → ℕ → ℕ → Hart
with_bank bank h ticks = record { pc = 0x10004; regs = start_regs h 2; ticks = ticks; stop = None; inside = false; bank = bank }

-- the doublewords after slot 4
rest : List ℕ
rest = replicate bank_five.0 0

-- its timer has one start in force
abbrev hart : ℕ → ℕ → Hart
hart h ticks = with_bank (0 ∷ 0 ∷ 0 ∷ 1 ∷ 1 ∷ rest) h ticks

-- at the test of `on`, which x5 has
abbrev at_test : ℕ → ℕ → Hart
at_test h ticks = record (hart h ticks) { pc = 0x11018; regs = with_reg (start_regs h 2) 5 1; inside = true }

outside : (n m : ℕ) → IsQuiet (with_harts (hart 0 n ∷ hart 1 m ∷ []))
outside n m zero x e = let s : hart 0 n ≡ x = cc in ap (λ (u : Hart). u.inside) (sym s)
outside n m (suc zero) x e = let s : hart 1 m ≡ x = cc in ap (λ (u : Hart). u.inside) (sym s)
outside n m (suc (suc h)) x e = absurd cc

-- ---- the arming

abbrev set_slots : List ℕ → List ℕ
set_slots bank = slice_set (slice_set (slice_set bank 3 1) 2 0) 4 1

bank_so : set_slots (replicate bank_len 0) ≡ 0 ∷ 0 ∷ 0 ∷ 1 ∷ 1 ∷ rest
unfolding rest
bank_so = ap (λ n. set_slots (replicate n 0)) bank_five.1

armed_so : (h : ℕ) → armed_hart linked timer (first_hart (start_hart procedure 2 h)) ≡ hart h 0
armed_so h =
    ap (λ values. with_bank (set_places (places_of timer) values 0 (replicate bank_len 0)) h 0) (opens_so h) ∙ ap (λ bank. with_bank bank h 0) bank_so

abbrev begun : Core
begun = with_harts (hart 0 0 ∷ hart 1 0 ∷ [])

begins : replay timing two_harts ≡ begun
unfolding body_of
begins = ap (λ x. with_harts (x ∷ armed_hart linked timer (first_hart (start_hart procedure 2 1)) ∷ [])) (armed_so 0) ∙ ap (λ x. with_harts (hart 0 0 ∷ x ∷ [])) (armed_so 1)

arms : MayArm linked timer
unfolding body_of
arms = record { quiet = quiet; linked = sites }
  where
    quiet : IsQuiet linked
    quiet zero x e = let s : first_hart (start_hart procedure 2 0) ≡ x = cc in ap (λ (u : Hart). u.inside) (sym s)
    quiet (suc zero) x e = let s : first_hart (start_hart procedure 2 1) ≡ x = cc in ap (λ (u : Hart). u.inside) (sym s)
    quiet (suc (suc h)) x e = absurd cc

    here : IsLinked linked (record { at = 0x10004; mini = 0x11010 })
    here = (record { row = mini_row Live; listed = inr (inl refl); mini = refl; point = refl; at = refl; is = refl }, record { jump = 0x7fd0006f; stands = stand.entered })

    sites : (s : PlacedSite) → In s timer.sites → IsLinked linked s
    sites s (inl e) = subst (IsLinked linked) (sym e) here
    sites s (inr h) = absurd h

-- ---- the rounds

abbrev to_test : Trace
to_test = placed 0x10004 (enter 0x7fd0006f ∷ []) (placed 0x11000 (tool 0x00503423 ∷ tool 0x00c0006f ∷ []) (placed 0x11010 (tool 0x00000fb7 ∷ tool 0x020fb283 ∷ []) []))

-- the branch leads over the stop to the last word
abbrev from_test : Trace
from_test = placed 0x11018 (tool 0x00000fb7 ∷ tool 0x000f8f9b ∷ tool 0x03f29a63 ∷ []) (placed 0x11054 (tool 0xfb5ff06f ∷ []) (placed 0x11008 (tool 0x00803283 ∷ own 0xff9fe06f ∷ []) []))

abbrev solo : Hart → Solo
solo x = record { hart = x; prog = (start procedure 2).prog }

module _ (seat : Seat) (n : ℕ) where
  abbrev h : ℕ
  h = seat.number

  abbrev at : Hart → Core
  at x = seated seat (program_of procedure) 1000 linked_code rows (solo x)

  comes : nat_lt n 1000 ≡ true → Run (replicate 5 (Turn h)) (at (hart h n)) (at (at_test h n)) []
  unfolding decode_of action perform perform_on reg with_reg bank_len
  comes low =
      follows_seated seat (program_of procedure) 1000 linked_code rows to_test (solo (hart h n)) (rw low refl)
      (stand.entered, (stand.base.0, (stand.base.1.0, (stand.test.0, (stand.test.1.0, tt)))))

  leaves : Run (replicate 6 (Turn h)) (at (at_test h n)) (at (hart h (n + 1))) (h ∷ [])
  unfolding decode_of action perform perform_on reg with_reg bank_len
  leaves =
      follows_seated seat (program_of procedure) 1000 linked_code rows from_test (solo (at_test h n)) refl
      (stand.test.1.1.0, (stand.test.1.1.1.0, (stand.test.1.1.1.1.0, (stand.last, stand.base.1.1))))

-- hart 0 beside another, and hart 1
abbrev first : Hart → Seat
first y = record { number = 0; among = λ x. x ∷ y ∷ []; found = λ x. refl; set = λ x z. refl }

abbrev second : Hart → Seat
second y = record { number = 1; among = λ x. y ∷ x ∷ []; found = λ x. refl; set = λ x z. refl }

abbrev turns_inside : List Event
turns_inside = replicate 16 (Turn 0) ++ replicate 5 (Turn 1)

abbrev turns_outside : List Event
turns_outside = replicate 6 (Turn 0) ++ replicate 6 (Turn 1)

enter_both : Run turns_inside begun (with_harts (at_test 0 1 ∷ at_test 1 0 ∷ [])) (0 ∷ [])
enter_both =
    let beside = first (hart 1 0) in
    and_then (comes beside 0 refl) (and_then (leaves beside 0) (and_then (comes beside 1 refl) (comes (second (at_test 0 1)) 0 refl)))

leave_both : Run turns_outside (with_harts (at_test 0 1 ∷ at_test 1 0 ∷ [])) (with_harts (hart 0 2 ∷ hart 1 1 ∷ [])) (0 ∷ 1 ∷ [])
leave_both = and_then (leaves (first (at_test 1 0)) 1) (leaves (second (hart 0 2)) 0)

abbrev turns : List Event
turns = turns_inside ++ turns_outside

abbrev ended : Core
ended = with_harts (hart 0 2 ∷ hart 1 1 ∷ [])

run : Run turns (replay timing two_harts) ended (0 ∷ 0 ∷ 1 ∷ [])
run = subst (λ c. Run turns c ended (0 ∷ 0 ∷ 1 ∷ [])) (sym begins) (and_then enter_both leave_both)

at_inside : replay both_inside two_harts ≡ with_harts (at_test 0 1 ∷ at_test 1 0 ∷ [])
at_inside = replay-append timing turns_inside two_harts ∙ (ap (replay turns_inside) begins ∙ enter_both.state)

at_end : replay timed_rounds two_harts ≡ ended
at_end = replay-append timing turns two_harts ∙ run.state

-- ---- the law

all_legal : Legal timed_rounds two_harts
all_legal = legal-append timing turns two_harts (legal-append linking_timer (Arm timer ∷ []) two_harts linking_legal (arms, tt)) run.legal

carries : Carries linked timer procedure_time
unfolding body_of
carries = record {
  vars = refl;
  many = refl;
  places = places;
  sites = (refl, record { row = mini_row Live; listed = inr (inl refl); mini = refl; point = refl; at = refl; is = body_stands }, tt);
  opens = refl;
}

in_force : InForce timer timed_rounds two_harts
unfolding body_of
in_force = record { before = linking_timer; since = turns; is = refl; spared = spared; lets = lets }
  where
    spared : IsSpared linked timer
    spared r (inl e) b = absurd (true≢false (sym (ap (λ (u : Row). u.base) e) ∙ b))
    spared r (inr (inl e)) b = inl (record { at = 0x10004; mini = 0x11010 }, inl refl, sym (ap (λ (u : Row). u.at) e))
    spared r (inr (inr h)) b = absurd h

    lets_more : (n h : ℕ) (es : List Event) → AllLet timer es → AllLet timer (replicate n (Turn h) ++ es)
    lets_more zero h es a = a
    lets_more (suc n) h es a = (tt, lets_more n h es a)

    lets : AllLet timer turns
    lets = lets_more 16 0 (replicate 5 (Turn 1) ++ turns_outside) (lets_more 5 1 turns_outside (lets_more 6 0 (replicate 6 (Turn 1)) (lets_more 6 1 [] tt)))

measured : measure (program_of procedure) procedure_time (0 ∷ 1 ∷ []) 0 0 3 (0 ∷ 0 ∷ 1 ∷ []) (start procedure 2) ≡ 3
unfolding decode_of action perform reg with_reg
measured =
    let runs = λ (h : ℕ) (values : List ℕ). (level (program_of procedure) procedure_time h (0 ∷ 0 ∷ 1 ∷ []) (start procedure 2) (record { values = values; runs = 0 })).runs in
    ap (λ values. (difference 0 (runs 0 values) + (difference 0 (runs 1 (opening procedure_time.opens (walk (start procedure 2) 1) procedure_time.vars)) + 0) % 2 ^ 64) % 2 ^ 64) (opens_so 0)
    ∙ ap (λ values. (2 + (difference 0 (runs 1 values) + 0) % 2 ^ 64) % 2 ^ 64) (opens_so 1)

pub warm_timer : WarmTimer
unfolding in_force
warm_timer = record {
  program = program;
  measurable = measurable;
  legal = all_legal;
  sampled = record {
    force = in_force;
    carries = carries;
    first = [];
    rest = turns;
    parts = refl;
    earlier = subst IsQuiet (sym begins) (outside 0 0);
    now = subst IsQuiet (sym at_end) (outside 2 1);
  };
  from_arm = refl;
  starts = ap (λ (c : Core). map (λ x. slice_index x.bank 3) c.harts) begins;
  on = ap (λ (c : Core). map (λ x. slice_index x.bank 4) c.harts) begins;
  inside = ap (λ (c : Core). map (λ x. x.inside) c.harts) at_inside;
  owned = owns-append timing turns two_harts ∙ run.owned_by;
  at_first = ap (readings timer (0 ∷ 1 ∷ [])) begins;
  at_last = ap (readings timer (0 ∷ 1 ∷ [])) at_end;
  measured = measured;
}
