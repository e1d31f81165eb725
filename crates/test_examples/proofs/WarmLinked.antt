-- The blocks of the timer may be written and linked, and the words that stand then.
use Rattle.std.proofs.Common.{◌≡◌, ℕ, zero, suc, ◌+◌, ◌≤◌, List, [], ◌∷◌, ◌++◌, Some, refl, sym, ap, ◌∙◌, subst, arith, ⊎_elim, inl, inr}
use Rattle.std.specs.FinMap.{get, gets, insert}
use Rattle.std.specs.List.{IsDistinct}
use Rattle.std.specs.Prelude.{true, false, length, slice_get, unwrap_or, ◌⊎◌}
use Rattle.rv_word.specs.Table.{decode_of}
use Rattle.tramp_spec.specs.Banks.{bank_len, first_slot}
use Rattle.tramp_spec.specs.Codes.{Code}
use Rattle.tramp_spec.specs.Marks.{own, enter, tool}
use Rattle.tramp_spec.specs.MovedWords.{moved_of}
use Rattle.tramp_spec.specs.Slots.{VariableSlot, width, ArePlaces, places_of}
use Rattle.tramp_spec.specs.Statements.{body_of}
use Rattle.tramp_spec.specs.declared.mark.MarkedWord.{MarkedWord}
use Rattle.prim_code.specs.Fitting.{IsMeasurable}
use Rattle.prim_code.proofs.Whole.{statements_work}
use Rattle.machine.specs.Cores.{Core, Row, Status, Written, Live}
use Rattle.machine.specs.Effects.{after_event}
use Rattle.machine.specs.Events.{Write, LinkMini, Apart, target_at, MayWrite, MayLinkMini, MayLinkPoint}
use Rattle.machine.specs.Instruments.{body_in, words_at}
use Rattle.machine.specs.Laws.{IsProgram}
use Rattle.machine.specs.Replays.{replay, Legal}
use Rattle.test_examples.specs.WarmTimer.{procedure, two_harts, stop_if_off, procedure_time, timer, timer_base, timer_mini, linking_timer}
use Rattle.test_examples.proofs.ThreeLinked.{bank_five}
use Rattle.machine.proofs.Lists.{AreWordsAt, put_words_stand, stands_other, stands_at}

pub program : IsProgram procedure
unfolding decode_of
program = record {
  image = record {
    few = omega arith;
    mapped = (record { positive = omega arith; filled = omega arith; low = omega arith; high = omega arith }, tt);
    apart = (tt, tt);
    small = omega arith;
    positive = omega arith;
    short = omega arith;
    start = refl;
    whole = refl;
    inside = refl;
    entry = refl;
    symbols = omega arith;
  };
  narrow = (omega arith, (omega arith, tt));
  unscratched = refl;
}

pub measurable : IsMeasurable procedure_time
unfolding IsDistinct
measurable = record {
  narrow = (omega arith, (omega arith, tt));
  apart = (tt, tt);
  few = (omega arith, tt);
  fitting = ((record { short = omega arith; conds = ((refl, omega arith), tt); act = refl }, tt), tt);
  opens_few = (omega arith, tt);
  opens_fitting = ((record { short = omega arith; conds = tt; act = refl }, (record { short = omega arith; conds = ((refl, omega arith), tt); act = refl }, tt)), tt);
}

pub places : ArePlaces (places_of timer)
places = record { within = within; apart = apart }
  where
    within : (n : ℕ) (p : VariableSlot) → slice_get (places_of timer) n ≡ Some p → (first_slot ≤ p.slot) × (p.slot + width p ≤ bank_len)
    within zero p e =
        let s : record { slot = 2; timer = true } ≡ p = cc in
        let room = bank_five.1 in
        subst (λ (q : VariableSlot). (first_slot ≤ q.slot) × (q.slot + width q ≤ bank_len)) s (omega arith, omega arith)
    within (suc zero) p e =
        let s : record { slot = 4; timer = false } ≡ p = cc in
        let room = bank_five.1 in
        subst (λ (q : VariableSlot). (first_slot ≤ q.slot) × (q.slot + width q ≤ bank_len)) s (omega arith, omega arith)
    within (suc (suc n)) p e = absurd cc

    apart : (n m : ℕ) (p q : VariableSlot) → slice_get (places_of timer) n ≡ Some p → slice_get (places_of timer) m ≡ Some q → (n ≡ m → ⊥) → (p.slot + width p ≤ q.slot) ⊎ (q.slot + width q ≤ p.slot)
    apart zero zero p q en em ne = absurd (ne refl)
    apart zero (suc zero) p q en em ne =
        let s : record { slot = 2; timer = true } ≡ p = cc in
        let t : record { slot = 4; timer = false } ≡ q = cc in
        inl (subst (λ (x : VariableSlot). x.slot + width x ≤ q.slot) s (subst (λ (y : VariableSlot). 4 ≤ y.slot) t (omega arith)))
    apart zero (suc (suc m)) p q en em ne = absurd cc
    apart (suc zero) zero p q en em ne =
        let s : record { slot = 4; timer = false } ≡ p = cc in
        let t : record { slot = 2; timer = true } ≡ q = cc in
        inr (subst (λ (x : VariableSlot). x.slot + width x ≤ p.slot) t (subst (λ (y : VariableSlot). 4 ≤ y.slot) s (omega arith)))
    apart (suc zero) (suc zero) p q en em ne = absurd (ne refl)
    apart (suc zero) (suc (suc m)) p q en em ne = absurd cc
    apart (suc (suc n)) m p q en em ne = absurd cc

-- ---- the blocks may be written and linked

abbrev pub base_row : Status → Row
base_row status = record { point = 0x10004; at = 0x11000; len = 4; base = true; status = status }

abbrev pub mini_row : Status → Row
mini_row status = record { point = 0x10004; at = 0x11010; len = 18; base = false; status = status }

writes_base : MayWrite two_harts timer_base
unfolding moved_of decode_of
writes_base = record {
  shape = (record { aligned = refl; word = 0x6f; here = refl; moved = own 0xff9fe06f ∷ []; movable = refl; reached = refl; is = refl }, λ r h. absurd h);
  low = omega arith;
  high = omega arith;
  apart = λ r h. absurd h;
}

writes_mini : MayWrite (after_event two_harts (Write timer_base)) timer_mini
unfolding body_of
writes_mini = record {
  shape = (0x11008, record { aligned = refl; body = body_of timer.slots stop_if_off; harmless = (statements_work timer.slots timer.vars stop_if_off refl places (measurable.fitting).0).harmless; reached = refl; is = refl });
  low = omega arith;
  high = omega arith;
  apart = λ r h. ⊎_elim (λ (e : r ≡ base_row Written). subst (λ (u : Row). Apart u.at u.len 0x11010 18) (sym e) (inl (omega arith))) (λ n. absurd n) h;
}

-- both written
abbrev written : Core
written = after_event (after_event two_harts (Write timer_base)) (Write timer_mini)

links_mini : MayLinkMini written 0x10004 0x11010
unfolding body_of decode_of
links_mini =
    let head : get written.code 0x11004 ≡ Some (tool 0x0040006f) = simp gets in
    let next : get written.code 0x11054 ≡ Some (tool 0xfb5ff06f) = simp gets in
    record {
      base = base_row Written;
      current = refl;
      mini = record { row = mini_row Written; listed = inr (inl refl); mini = refl; point = refl; at = refl; is = refl };
      next = ap (λ o. target_at o 0x11054) next ∙ sym (ap (λ o. target_at o 0x11004) head);
    }

links_point : MayLinkPoint (after_event written (LinkMini 0x10004 0x11010)) 0x10004
unfolding body_of decode_of
links_point = record {
  base = base_row Written;
  current = refl;
  word = 0x6f;
  program = refl;
  stands = simp gets;
}

-- the blocks are linked
abbrev pub linked : Core
linked = replay linking_timer two_harts

pub linking_legal : Legal linking_timer two_harts
linking_legal = (writes_base, (writes_mini, (links_mini, (links_point, tt))))

-- ---- the words that stand

-- the words of the mini block that test the condition
abbrev pub test_words : List MarkedWord
test_words = tool 0x00000fb7 ∷ tool 0x020fb283 ∷ tool 0x00000fb7 ∷ tool 0x000f8f9b ∷ tool 0x03f29a63 ∷ []

pub record Stand (code : Code) : Type 0 where
  pub entered : get code 0x10004 ≡ Some (enter 0x7fd0006f)
  pub base : AreWordsAt code 0x11000 (tool 0x00503423 ∷ tool 0x00c0006f ∷ tool 0x00803283 ∷ own 0xff9fe06f ∷ [])
  pub test : AreWordsAt code 0x11010 test_words
  pub last : get code 0x11054 ≡ Some (tool 0xfb5ff06f)

abbrev chained : Code
chained = insert written.code 0x11004 (tool 0x00c0006f)

abbrev pub linked_code : Code
linked_code = insert chained 0x10004 (enter 0x7fd0006f)

pub mini_stands : AreWordsAt linked_code 0x11010 timer_mini.words
unfolding body_of
mini_stands =
    stands_other chained 0x10004 (enter 0x7fd0006f) 0x11010 timer_mini.words (inl (omega arith))
    (stands_other written.code 0x11004 (tool 0x00c0006f) 0x11010 timer_mini.words (inl (omega arith)) (put_words_stand 0x11010 timer_mini.words (after_event two_harts (Write timer_base)).code))

pub stand : Stand linked_code
unfolding body_of decode_of
stand =
    let m = mini_stands in
    record {
      entered = simp gets;
      base = (simp gets, (simp gets, (simp gets, (simp gets, tt))));
      test = (m.0, (m.1.0, (m.1.1.0, (m.1.1.1.0, (m.1.1.1.1.0, tt)))));
      last = stands_at linked_code 0x11010 timer_mini.words 17 (tool 0xfb5ff06f) m refl;
    }

words_stand : (code : Code) (at : ℕ) (body : List MarkedWord) (last : MarkedWord) → AreWordsAt code at (body ++ last ∷ []) → words_at (length body) code at ≡ body
words_stand code at [] last s = refl
words_stand code at (w ∷ ws) last s =
    ap (λ o. unwrap_or o (tool 0) ∷ words_at (length ws) code (at + 4)) s.0 ∙ ap (λ l. w ∷ l) (words_stand code (at + 4) ws last s.1)

pub body_stands : body_in linked_code (mini_row Live) ≡ body_of timer.slots stop_if_off
unfolding body_of
body_stands = words_stand linked_code 0x11010 (body_of timer.slots stop_if_off) (tool 0xfb5ff06f) mini_stands
