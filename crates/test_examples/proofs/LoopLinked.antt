-- The blocks of the loop's counter may be written and linked, and the words that stand then.
use Rattle.std.proofs.Common.{◌≡◌, ℕ, zero, suc, ◌+◌, ◌≤◌, [], ◌∷◌, Some, refl, sym, ap, ◌∙◌, subst, arith, ⊎_elim, inl, inr}
use Rattle.std.specs.FinMap.{get, gets}
use Rattle.std.specs.List.{IsDistinct}
use Rattle.std.specs.Prelude.{true, false, slice_get, ◌⊎◌}
use Rattle.rv_word.specs.Table.{decode_of}
use Rattle.tramp_spec.specs.Banks.{bank_len, first_slot}
use Rattle.tramp_spec.specs.Codes.{Code}
use Rattle.tramp_spec.specs.Marks.{own, enter, tool}
use Rattle.tramp_spec.specs.MovedWords.{moved_of}
use Rattle.tramp_spec.specs.Slots.{VariableSlot, width, ArePlaces, places_of}
use Rattle.tramp_spec.specs.Statements.{body_of}
use Rattle.prim_code.proofs.Whole.{statements_work}
use Rattle.machine.specs.Cores.{Core, Row, Written, Live}
use Rattle.machine.specs.Effects.{after_event}
use Rattle.machine.specs.Events.{Write, LinkMini, Apart, target_at, MayWrite, MayLinkMini, MayLinkPoint}
use Rattle.machine.specs.Laws.{IsProgram}
use Rattle.test_examples.specs.LoopCounted.{loop, loop_core, count_up, rounds, counter, loop_base, loop_mini, linking}
use Rattle.prim_code.specs.Fitting.{IsMeasurable}
use Rattle.machine.specs.Replays.{replay, Legal}

pub program : IsProgram loop
unfolding decode_of
program = record {
  image = record {
    few = omega arith;
    mapped = (record { positive = omega arith; filled = omega arith; low = omega arith; high = omega arith }, tt);
    apart = (tt, tt);
    small = omega arith;
    positive = omega arith;
    short = omega arith;
    start = refl;
    whole = refl;
    inside = refl;
    entry = refl;
    symbols = omega arith;
  };
  narrow = (omega arith, tt);
  unscratched = refl;
}

pub measurable : IsMeasurable rounds
unfolding IsDistinct
measurable = record {
  narrow = (omega arith, tt);
  apart = (tt, tt);
  few = (omega arith, tt);
  fitting = ((record { short = omega arith; conds = tt; act = refl }, tt), tt);
  opens_few = tt;
  opens_fitting = tt;
}

-- the bank's length is that of four doublewords and some more
pub bank_is : (m : ℕ) × (bank_len ≡ suc (suc (suc (suc m))))
unfolding bank_len
bank_is = (4092, refl)

pub places : ArePlaces (places_of counter)
places = record { within = within; apart = apart }
  where
    within : (n : ℕ) (p : VariableSlot) → slice_get (places_of counter) n ≡ Some p → (first_slot ≤ p.slot) × (p.slot + width p ≤ bank_len)
    within zero p e =
        let s : record { slot = 2; timer = false } ≡ p = cc in
        let room = bank_is.1 in
        subst (λ (q : VariableSlot). (first_slot ≤ q.slot) × (q.slot + width q ≤ bank_len)) s (omega arith, omega arith)
    within (suc n) p e = absurd cc

    apart : (n m : ℕ) (p q : VariableSlot) → slice_get (places_of counter) n ≡ Some p → slice_get (places_of counter) m ≡ Some q → (n ≡ m → ⊥) → (p.slot + width p ≤ q.slot) ⊎ (q.slot + width q ≤ p.slot)
    apart zero zero p q en em ne = absurd (ne refl)
    apart zero (suc m) p q en em ne = absurd cc
    apart (suc n) m p q en em ne = absurd cc

-- ---- the blocks may be written and linked

abbrev pub base_row : Row
base_row = record { point = 0x10000; at = 0x11000; len = 4; base = true; status = Live }

abbrev pub mini_row : Row
mini_row = record { point = 0x10000; at = 0x11010; len = 5; base = false; status = Live }

writes_base : (budget : ℕ) → MayWrite (loop_core budget) loop_base
unfolding moved_of decode_of
writes_base budget = record {
  shape = (record { aligned = refl; word = 0x6f; here = refl; moved = own 0xff5fe06f ∷ []; movable = refl; reached = refl; is = refl }, λ r h. absurd h);
  low = omega arith;
  high = omega arith;
  apart = λ r h. absurd h;
}

writes_mini : (budget : ℕ) → MayWrite (after_event (loop_core budget) (Write loop_base)) loop_mini
unfolding body_of
writes_mini budget = record {
  shape = (0x11008, record { aligned = refl; body = body_of (2 ∷ []) count_up; harmless = (statements_work (2 ∷ []) counter.vars count_up refl places (measurable.fitting).0).harmless; reached = refl; is = refl });
  low = omega arith;
  high = omega arith;
  apart = λ r h. ⊎_elim (λ (e : r ≡ record { point = 0x10000; at = 0x11000; len = 4; base = true; status = Written }). subst (λ (u : Row). Apart u.at u.len 0x11010 5) (sym e) (inl (omega arith))) (λ n. absurd n) h;
}

-- both written
abbrev written : ℕ → Core
written budget = after_event (after_event (loop_core budget) (Write loop_base)) (Write loop_mini)

links_mini : (budget : ℕ) → MayLinkMini (written budget) 0x10000 0x11010
unfolding body_of decode_of
links_mini budget =
    let head : get (written budget).code 0x11004 ≡ Some (tool 0x0040006f) = simp gets in
    let next : get (written budget).code 0x11020 ≡ Some (tool 0xfe9ff06f) = simp gets in
    record {
      base = record { point = 0x10000; at = 0x11000; len = 4; base = true; status = Written };
      current = refl;
      mini = record { row = record { point = 0x10000; at = 0x11010; len = 5; base = false; status = Written }; listed = inr (inl refl); mini = refl; point = refl; at = refl; is = refl };
      next = ap (λ o. target_at o 0x11020) next ∙ sym (ap (λ o. target_at o 0x11004) head);
    }

abbrev chained : ℕ → Core
chained budget = after_event (written budget) (LinkMini 0x10000 0x11010)

links_point : (budget : ℕ) → MayLinkPoint (chained budget) 0x10000
unfolding body_of decode_of
links_point budget = record {
  base = record { point = 0x10000; at = 0x11000; len = 4; base = true; status = Written };
  current = refl;
  word = 0x6f;
  program = refl;
  stands = simp gets;
}

-- the blocks are linked
abbrev pub linked : ℕ → Core
linked budget = replay linking (loop_core budget)

pub linking_legal : (budget : ℕ) → Legal linking (loop_core budget)
linking_legal budget = (writes_base budget, (writes_mini budget, (links_mini budget, (links_point budget, tt))))

-- ---- the words that stand

pub record Stand (code : Code) : Type 0 where
  pub entered : get code 0x10000 ≡ Some (enter 0x0000106f)
  pub save : get code 0x11000 ≡ Some (tool 0x00503423)
  pub head : get code 0x11004 ≡ Some (tool 0x00c0006f)
  pub restore : get code 0x11008 ≡ Some (tool 0x00803283)
  pub moved : get code 0x1100c ≡ Some (own 0xff5fe06f)
  pub high : get code 0x11010 ≡ Some (tool 0x00000fb7)
  pub load : get code 0x11014 ≡ Some (tool 0x010fb283)
  pub add : get code 0x11018 ≡ Some (tool 0x00128293)
  pub keep : get code 0x1101c ≡ Some (tool 0x005fb823)
  pub last : get code 0x11020 ≡ Some (tool 0xfe9ff06f)

-- the words of the linked loop
abbrev pub linked_code : Code
linked_code = (linked 0).code

pub stand : Stand linked_code
unfolding body_of decode_of
stand =
    record {
      entered = simp gets;
      save = simp gets;
      head = simp gets;
      restore = simp gets;
      moved = simp gets;
      high = simp gets;
      load = simp gets;
      add = simp gets;
      keep = simp gets;
      last = simp gets;
    }
