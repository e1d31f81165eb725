-- Three counters at the loop's point, event by event.
use Rattle.std.proofs.Common.{◌≡◌, ℕ, zero, suc, List, [], ◌∷◌, ◌++◌, Some, refl, sym, ap, ◌∙◌, subst, arith, inl, inr}
use Rattle.std.specs.FinMap.{get, gets, insert}
use Rattle.std.specs.Prelude.{true, false, IsTrue, replicate, slice_set, map}
use Rattle.pn_types.specs.declared.placed.PlacedSite.{PlacedSite}
use Rattle.rv_word.specs.Registers.{with_reg}
use Rattle.rv_word.specs.Table.{decode_of}
use Rattle.tramp_spec.specs.Banks.{bank_len}
use Rattle.tramp_spec.specs.Codes.{Code, put_words}
use Rattle.tramp_spec.specs.Harts.{Hart}
use Rattle.tramp_spec.specs.Jumps.{jump_word}
use Rattle.tramp_spec.specs.Marks.{own, tool}
use Rattle.tramp_spec.specs.Statements.{body_of}
use Rattle.machine.specs.Cores.{Core, Row, Status, Written, Live, Retired, In}
use Rattle.machine.specs.Effects.{after_event, armed_hart, mini_unlinked}
use Rattle.machine.specs.Events.{UnlinkMini, UnlinkPoint, Free, Arm, May, MayArm, HasMini, IsLinked, IsQuiet, before, target_at}
use Rattle.machine.specs.Places.{holds}
use Rattle.test_examples.specs.FirstTurns.{turns}
use Rattle.test_examples.specs.LoopCounted.{loop_core, linking}
use Rattle.machine.specs.Readings.{readings}
use Rattle.machine.specs.Replays.{replay, Legal, owns}
use Rattle.machine.specs.States.{settling}
use Rattle.test_examples.specs.ThreeCounters.{counter_on, mini_on, first, second, third, fourth, adding, arming, counted, at_second, passing_by, passed_by, gone_on, renewing, renewed, ended, MinisUnlinked, at_third, left, gone_out, PointUnlinked}
use Rattle.std.proofs.lemmas.Bool.{true≢false}
use Rattle.test_examples.proofs.LoopLinked.{linked, linking_legal}
use Rattle.machine.proofs.Openings.{armed_cold}
use Rattle.machine.proofs.Replaying.{replay-append, legal-append}
use Rattle.test_examples.proofs.ThreeLinked.{Three, entering, left_code, three_left, three, three_code, row, base_row, rows_third, unarmed, at, added, adding_legal, bank_five, past_second, past_both, three_past_second, three_past_both, fourth_code, three_fourth, may_write, links_mini}
use Rattle.test_examples.proofs.ThreeTurns.{hart, comes_to_third, comes_to_second, goes_on, leaving_second, goes_out, leaving_third, goes_round, three_rounds}
use Rattle.test_examples.proofs.Traces.{Run}

-- ---- arming

quiet_at : (code : Code) (rows : List Row) (x : Hart) → x.inside ≡ false → IsQuiet (at code rows x)
quiet_at code rows x o zero y e = let s : x ≡ y = cc in ap (λ (u : Hart). u.inside) (sym s) ∙ o
quiet_at code rows x o (suc h) y e = absurd cc

arms : (code : Code) (rows : List Row) (x : Hart) (slot mini head f t : ℕ) → x.inside ≡ false → In (row mini Live) rows → Three code entering head f t → MayArm (at code rows x) (counter_on slot mini)
arms code rows x slot mini head f t o i s = record { quiet = quiet_at code rows x o; linked = sites }
  where
    here : IsLinked (at code rows x) (record { at = 0x10000; mini = mini })
    here = (record { row = row mini Live; listed = i; mini = refl; point = refl; at = refl; is = refl }, record { jump = 0x0000106f; stands = s.point })

    sites : (z : PlacedSite) → In z (counter_on slot mini).sites → IsLinked (at code rows x) z
    sites z (inl e) = subst (IsLinked (at code rows x)) (sym e) here
    sites z (inr h) = absurd h

-- the counter's slot is 0
arms_so : (code : Code) (rows : List Row) (x : Hart) (slot mini : ℕ) → after_event (at code rows x) (Arm (counter_on slot mini)) ≡ at code rows (record x { bank = slice_set x.bank slot 0 })
arms_so code rows x slot mini = ap (at code rows) (armed_cold (at code rows x) (counter_on slot mini) x refl)

-- with this many slots set to 0
abbrev with_bank : List ℕ → Core
with_bank bank = at three_code (rows_third Live) (record unarmed { bank = slice_set (slice_set (slice_set bank 2 0) 3 0) 4 0 })

-- the doublewords after slot 4
rest : List ℕ
rest = replicate bank_five.0 0

bank_so : replicate bank_len 0 ≡ 0 ∷ 0 ∷ 0 ∷ 0 ∷ 0 ∷ rest
unfolding rest
bank_so = ap (λ n. replicate n 0) bank_five.1

armed_so : replay arming (at three_code (rows_third Live) unarmed) ≡ with_bank (replicate bank_len 0)
armed_so =
    let with_first = record unarmed { bank = slice_set unarmed.bank 2 0 } in
    let with_second = record unarmed { bank = slice_set (slice_set unarmed.bank 2 0) 3 0 } in
    ap (replay (Arm second ∷ Arm third ∷ [])) (arms_so three_code (rows_third Live) unarmed 2 0x11010)
    ∙ (ap (replay (Arm third ∷ [])) (arms_so three_code (rows_third Live) with_first 3 0x11024) ∙ arms_so three_code (rows_third Live) with_second 4 0x11038)

abbrev begun : Core
begun = at three_code (rows_third Live) (hart rest 0x10000 0 0 false 0 0 0)

begins : with_bank (0 ∷ 0 ∷ 0 ∷ 0 ∷ 0 ∷ rest) ≡ begun
unfolding with_reg
begins = refl

arming_legal : Legal arming (at three_code (rows_third Live) unarmed)
arming_legal =
    let armed_first = armed_hart (at three_code (rows_third Live) unarmed) first unarmed in
    let armed_second = armed_hart (at three_code (rows_third Live) armed_first) second armed_first in (
      arms three_code (rows_third Live) unarmed 2 0x11010 0x0340006f 0xfe9ff06f 0xfddff06f refl (inr (inl refl)) three,
      (
        arms three_code (rows_third Live) armed_first 3 0x11024 0x0340006f 0xfe9ff06f 0xfddff06f refl (inr (inr (inl refl))) three,
        (arms three_code (rows_third Live) armed_second 4 0x11038 0x0340006f 0xfe9ff06f 0xfddff06f refl (inr (inr (inr (inl refl)))) three, tt),
      ),
    )

counts : Legal (linking ++ adding ++ arming) (loop_core 1000)
counts =
    legal-append linking (adding ++ arming) (loop_core 1000) (linking_legal 1000)
    (legal-append adding arming (linked 1000) adding_legal (subst (Legal arming) (sym added) arming_legal))

counted_so : counted ≡ begun
counted_so =
    replay-append linking (adding ++ arming) (loop_core 1000) ∙ replay-append adding arming (linked 1000) ∙ ap (replay arming) added
    ∙ armed_so ∙ ap with_bank bank_so ∙ begins

-- ---- two mini blocks are unlinked

abbrev rows_passed : Status → Status → List Row
rows_passed one two = base_row ∷ row 0x11010 one ∷ row 0x11024 two ∷ row 0x11038 Live ∷ []

module _ (x : Hart) where
  holder_of_second : before (at three_code (rows_passed Live Live) x) 0x11024 ≡ Some (row 0x11038 Live)
  unfolding decode_of
  holder_of_second = rw three.base.1.0 (rw three.on_2.1.1.1.1.0 (rw three.on_3.1.1.1.1.0 (rw three.on_4.1.1.1.1.0 refl)))

  passes_second : after_event (at three_code (rows_passed Live Live) x) (UnlinkMini 0x10000 0x11024) ≡ at past_second (rows_passed Live Retired) x
  unfolding decode_of
  passes_second =
      ap (λ o. mini_unlinked o (Some (row 0x11024 Live)) 0x11024 (at three_code (rows_passed Live Live) x)) holder_of_second
      ∙ ap (λ o. at (insert three_code 0x11048 (tool (jump_word 0x11048 (target_at o 0x11034)))) (rows_passed Live Retired) x) three.on_3.1.1.1.1.0

  holder_of_first : before (at past_second (rows_passed Live Retired) x) 0x11010 ≡ Some (row 0x11038 Live)
  unfolding decode_of
  holder_of_first = let s = three_past_second in rw s.base.1.0 (rw s.on_2.1.1.1.1.0 (rw s.on_4.1.1.1.1.0 refl))

  passes_first : after_event (at past_second (rows_passed Live Retired) x) (UnlinkMini 0x10000 0x11010) ≡ at past_both (rows_passed Retired Retired) x
  unfolding decode_of
  passes_first =
      ap (λ o. mini_unlinked o (Some (row 0x11010 Live)) 0x11010 (at past_second (rows_passed Live Retired) x)) holder_of_first
      ∙ ap (λ o. at (insert past_second 0x11048 (tool (jump_word 0x11048 (target_at o 0x11020)))) (rows_passed Retired Retired) x) three_past_second.on_2.1.1.1.1.0

  passes_both : replay passing_by (at three_code (rows_passed Live Live) x) ≡ at past_both (rows_passed Retired Retired) x
  passes_both = ap (λ c. after_event c (UnlinkMini 0x10000 0x11010)) passes_second ∙ passes_first

  has_mini : (code : Code) (rows : List Row) (mini : ℕ) → In (row mini Live) rows → HasMini (at code rows x) 0x10000 mini Live
  has_mini code rows mini i = record { row = row mini Live; listed = i; mini = refl; point = refl; at = refl; is = refl }

  passing_legal : Legal passing_by (at three_code (rows_passed Live Live) x)
  passing_legal = (
    has_mini three_code (rows_passed Live Live) 0x11024 (inr (inr (inl refl))),
    (subst (λ c. May c (UnlinkMini 0x10000 0x11010)) (sym passes_second) (has_mini past_second (rows_passed Live Retired) 0x11010 (inr (inl refl))), tt),
  )

-- a hart that is outside lets everything be freed
frees : (code : Code) (rows : List Row) (x : Hart) → x.inside ≡ false → May (at code rows x) (Free 0x10000)
frees code rows x o r i e (zero, y, h, inside, holds) = let s : x ≡ y = cc in true≢false (sym inside ∙ ap (λ (u : Hart). u.inside) (sym s) ∙ o)
frees code rows x o r i e (suc n, y, h, inside, holds) = absurd cc

-- ---- the fourth's mini block

abbrev rows_freed : Status → List Row
rows_freed status = base_row ∷ row 0x11038 Live ∷ row 0x11010 status ∷ []

abbrev fourth_written : Code
fourth_written = put_words 0x11010 (mini_on 2 0x11010 0x11038).words past_both

renews : (x : Hart) → x.inside ≡ false → Legal renewing (at past_both (rows_passed Retired Retired) x)
unfolding body_of decode_of
renews x o =
    let head : get fourth_written 0x11004 ≡ Some (tool 0x0340006f) = simp gets in
    let last : get fourth_written 0x11020 ≡ Some (tool 0x0180006f) = simp gets in (
      frees past_both (rows_passed Retired Retired) x o,
      (
        may_write past_both (base_row ∷ row 0x11038 Live ∷ []) x 2 0x11010 0x11038 (omega arith) (omega arith) refl refl (omega arith) (omega arith) (inl (omega arith), (inr (omega arith), tt)),
        (
          links_mini fourth_written x (rows_freed Written) base_row 0x11010 0x11038 (inr (inr (inl refl))) refl (ap (λ o. target_at o 0x11004) head) (ap (λ o. target_at o 0x11020) last),
          (arms fourth_code (rows_freed Live) x 2 0x11010 0x00c0006f 0x0180006f 0xfc1ff06f o (inr (inr (inl refl))) three_fourth, tt),
        ),
      ),
    )

renewed_so : (x : Hart) → replay renewing (at past_both (rows_passed Retired Retired) x) ≡ at fourth_code (rows_freed Live) (record x { bank = slice_set x.bank 2 0 })
unfolding body_of
renewed_so x = arms_so fourth_code (rows_freed Live) x 2 0x11010

-- ---- the laws

abbrev went : Hart
went = hart rest 0x10000 0 1 false 1 1 1

at_second_so : at_second ≡ at three_code (rows_third Live) (hart rest 0x11024 1 0 true 0 0 1)
at_second_so = ap (replay (turns 8)) counted_so ∙ (comes_to_second three_code (rows_third Live) rest 0xfe9ff06f three).state

passed_so : passed_by ≡ at past_both (rows_passed Retired Retired) (hart rest 0x11024 1 0 true 0 0 1)
passed_so = ap (replay passing_by) at_second_so ∙ passes_both (hart rest 0x11024 1 0 true 0 0 1)

going_on : Run (turns 12) (at past_both (rows_passed Retired Retired) (hart rest 0x11024 1 0 true 0 0 1)) (at past_both (rows_passed Retired Retired) went) (0 ∷ [])
going_on = goes_on past_both (rows_passed Retired Retired) rest entering 0x0340006f 0xfc1ff06f three_past_both

gone_so : gone_on ≡ at past_both (rows_passed Retired Retired) went
gone_so = ap (replay (turns 12)) passed_so ∙ going_on.state

renewed_is : renewed ≡ at fourth_code (rows_freed Live) (hart rest 0x10000 0 1 false 0 1 1)
renewed_is = ap (replay renewing) gone_so ∙ renewed_so went

rounds : Run (turns 45) (at fourth_code (rows_freed Live) (hart rest 0x10000 0 1 false 0 1 1)) (at fourth_code (rows_freed Live) (hart rest 0x10000 0 4 false 3 1 4)) (0 ∷ 0 ∷ 0 ∷ [])
rounds = three_rounds fourth_code (rows_freed Live) rest three_fourth

ended_so : ended ≡ at fourth_code (rows_freed Live) (hart rest 0x10000 0 4 false 3 1 4)
ended_so = ap (replay (turns 45)) renewed_is ∙ rounds.state

-- a hart inside a block of the point holds them all
held_at : (code : Code) (rows : List Row) (x : Hart) (r : Row) → In r rows → r.point ≡ 0x10000 → x.inside ≡ true → IsTrue (holds r x.pc) → May (at code rows x) (Free 0x10000) → ⊥
held_at code rows x r i e inside h may = may r i e (0, x, refl, inside, h)

pub minis_unlinked : MinisUnlinked
minis_unlinked = record {
  counts = counts;
  comes = subst (Legal (turns 8)) (sym counted_so) (comes_to_second three_code (rows_third Live) rest 0xfe9ff06f three).legal;
  stands = ap (λ (c : Core). map (λ x. x.pc) c.harts) at_second_so;
  unlinks = subst (Legal passing_by) (sym at_second_so) (passing_legal (hart rest 0x11024 1 0 true 0 0 1));
  held = λ may. held_at past_both (rows_passed Retired Retired) (hart rest 0x11024 1 0 true 0 0 1) (row 0x11024 Retired) (inr (inr (inl refl))) refl refl refl (subst (λ c. May c (Free 0x10000)) passed_so may);
  settles = ap settling passed_so ∙ ap (λ es. es ++ []) (leaving_second past_both (rows_passed Retired Retired) rest entering 0x0340006f 0xfc1ff06f three_past_both);
  goes_on = subst (Legal (turns 12)) (sym passed_so) going_on.legal;
  tick = ap (owns (turns 12)) passed_so ∙ going_on.owned_by;
  passed = ap (readings first (0 ∷ [])) gone_so;
  renews = subst (Legal renewing) (sym gone_so) (renews went refl);
  rounds = subst (Legal (turns 45)) (sym renewed_is) rounds.legal;
  three = ap (owns (turns 45)) renewed_is ∙ rounds.owned_by;
  ticks = ap (λ (c : Core). map (λ x. x.ticks) c.harts) ended_so;
  quiet = subst IsQuiet (sym ended_so) (quiet_at fourth_code (rows_freed Live) (hart rest 0x10000 0 4 false 3 1 4) refl);
  third_reads = ap (readings third (0 ∷ [])) ended_so;
  fourth_reads = ap (readings fourth (0 ∷ [])) ended_so;
}

-- ---- the point is unlinked

abbrev rows_left : List Row
rows_left = record base_row { status = Retired } ∷ row 0x11010 Retired ∷ row 0x11024 Retired ∷ row 0x11038 Retired ∷ []

at_third_so : at_third ≡ at three_code (rows_third Live) (hart rest 0x11038 0 0 true 0 0 0)
at_third_so = ap (replay (turns 3)) counted_so ∙ (comes_to_third three_code (rows_third Live) rest 0xfe9ff06f 0xfddff06f three).state

left_so : left ≡ at left_code rows_left (hart rest 0x11038 0 0 true 0 0 0)
left_so = ap (replay (UnlinkPoint 0x10000 ∷ [])) at_third_so

going_out : Run (turns 17) (at left_code rows_left (hart rest 0x11038 0 0 true 0 0 0)) (at left_code rows_left went) (0 ∷ [])
going_out = goes_out left_code rows_left rest (own 0x6f) 0x0340006f three_left

out_so : gone_out ≡ at left_code rows_left went
out_so = ap (replay (turns 17)) left_so ∙ going_out.state

pub point_unlinked : PointUnlinked
point_unlinked =
    let round = goes_round left_code rows_left rest three_left.point in
    record {
      comes = subst (Legal (turns 3)) (sym counted_so) (comes_to_third three_code (rows_third Live) rest 0xfe9ff06f 0xfddff06f three).legal;
      stands = ap (λ (c : Core). map (λ x. x.pc) c.harts) at_third_so;
      unlinks = subst (Legal (UnlinkPoint 0x10000 ∷ [])) (sym at_third_so) (record { jump = 0x0000106f; stands = three.point }, tt);
      retired = ap (λ (c : Core). map (λ r. r.status) c.rows) left_so;
      held = λ may. held_at left_code rows_left (hart rest 0x11038 0 0 true 0 0 0) (row 0x11038 Retired) (inr (inr (inr (inl refl)))) refl refl refl (subst (λ c. May c (Free 0x10000)) left_so may);
      settles = ap settling left_so ∙ ap (λ es. es ++ []) (leaving_third left_code rows_left rest (own 0x6f) 0x0340006f three_left);
      goes_out = subst (Legal (turns 17)) (sym left_so) going_out.legal;
      tick = ap (owns (turns 17)) left_so ∙ going_out.owned_by;
      frees = subst (λ c. May c (Free 0x10000)) (sym out_so) (frees left_code rows_left went refl);
      word = ap (λ (c : Core). get c.code 0x10000) out_so ∙ three_left.point;
      goes_round = subst (Legal (turns 1)) (sym out_so) round.legal;
      next = ap (owns (turns 1)) out_so ∙ round.owned_by;
    }
