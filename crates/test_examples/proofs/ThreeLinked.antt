-- The blocks of the three counters may be written and linked, and the words that stand then.
use Rattle.std.proofs.Common.{◌≡◌, ℕ, zero, suc, ◌+◌, ◌%◌, ◌≤◌, ◌<◌, List, [], ◌∷◌, ◌++◌, Some, refl, sym, ap, ◌∙◌, subst, arith, inl, inr}
use Rattle.std.specs.FinMap.{get, gets, insert}
use Rattle.std.specs.Prelude.{true, false, ◌⊎◌, slice_get}
use Rattle.rv_mem.specs.Start.{program_of}
use Rattle.rv_exec.specs.Start.{start, start_hart}
use Rattle.rv_word.specs.Table.{decode_of}
use Rattle.prim_code.proofs.Whole.{statements_work}
use Rattle.tramp_spec.specs.Banks.{bank_len, first_slot}
use Rattle.tramp_spec.specs.Bodies.{Harmless}
use Rattle.tramp_spec.specs.Codes.{Code, put_words}
use Rattle.tramp_spec.specs.Harts.{Hart}
use Rattle.tramp_spec.specs.Slots.{VariableSlot, width, ArePlaces, places_of}
use Rattle.tramp_spec.specs.Jumps.{reaches}
use Rattle.tramp_spec.specs.Marks.{own, enter, tool}
use Rattle.tramp_spec.specs.Statements.{body_of}
use Rattle.tramp_spec.specs.declared.mark.MarkedWord.{MarkedWord}
use Rattle.machine.specs.Cores.{Core, Row, In, first_hart, Status, Written, Live}
use Rattle.machine.specs.Events.{Apart, MayWrite, MayLinkMini, current_base, next_of, target_at}
use Rattle.machine.specs.Replays.{replay, Legal}
use Rattle.test_examples.specs.LoopCounted.{loop, loop_core, count_up, rounds, linking}
use Rattle.test_examples.specs.ThreeCounters.{adding, counter_on, mini_on}
use Rattle.machine.proofs.Lists.{AreWordsAt}
use Rattle.test_examples.proofs.LoopLinked.{measurable, linked, linked_code}
use Rattle.test_examples.proofs.Traces.{one}

-- a mini block's words, of which these depend on its slot and its next
abbrev pub mini_of : ℕ → ℕ → ℕ → List MarkedWord
mini_of load keep last = tool 0x00000fb7 ∷ tool load ∷ tool 0x00128293 ∷ tool keep ∷ tool last ∷ []

-- the jump that enters at the point
abbrev pub entering : MarkedWord
entering = enter 0x0000106f

-- the point's word, and those that lead from block to block, differ from time to time
pub record Three (code : Code) (at_point : MarkedWord) (head first third : ℕ) : Type 0 where
  pub point : get code 0x10000 ≡ Some at_point
  pub base : AreWordsAt code 0x11000 (tool 0x00503423 ∷ tool head ∷ tool 0x00803283 ∷ own 0xff5fe06f ∷ [])
  pub on_2 : AreWordsAt code 0x11010 (mini_of 0x010fb283 0x005fb823 first)
  pub on_3 : AreWordsAt code 0x11024 (mini_of 0x018fb283 0x005fbc23 0xfddff06f)
  pub on_4 : AreWordsAt code 0x11038 (mini_of 0x020fb283 0x025fb023 third)

abbrev pub three_code : Code
three_code = (replay (linking ++ adding) (loop_core 1000)).code

pub three : Three three_code entering 0x0340006f 0xfe9ff06f 0xfddff06f
unfolding body_of decode_of
three = record {
  point = simp gets;
  base = (simp gets, (simp gets, (simp gets, (simp gets, tt))));
  on_2 = (simp gets, (simp gets, (simp gets, (simp gets, (simp gets, tt)))));
  on_3 = (simp gets, (simp gets, (simp gets, (simp gets, (simp gets, tt)))));
  on_4 = (simp gets, (simp gets, (simp gets, (simp gets, (simp gets, tt)))));
}

-- ---- the blocks

abbrev pub row : ℕ → Status → Row
row at status = record { point = 0x10000; at = at; len = 5; base = false; status = status }

abbrev pub base_row : Row
base_row = record { point = 0x10000; at = 0x11000; len = 4; base = true; status = Live }

-- the third mini block leads past the second, and then past the first
abbrev pub past_second : Code
past_second = insert three_code 0x11048 (tool 0xfc9ff06f)

abbrev pub past_both : Code
past_both = insert past_second 0x11048 (tool 0xfc1ff06f)

pub three_past_second : Three past_second entering 0x0340006f 0xfe9ff06f 0xfc9ff06f
unfolding body_of decode_of
three_past_second = record {
  point = simp gets;
  base = (simp gets, (simp gets, (simp gets, (simp gets, tt))));
  on_2 = (simp gets, (simp gets, (simp gets, (simp gets, (simp gets, tt)))));
  on_3 = (simp gets, (simp gets, (simp gets, (simp gets, (simp gets, tt)))));
  on_4 = (simp gets, (simp gets, (simp gets, (simp gets, (simp gets, tt)))));
}

pub three_past_both : Three past_both entering 0x0340006f 0xfe9ff06f 0xfc1ff06f
unfolding body_of decode_of
three_past_both = record {
  point = simp gets;
  base = (simp gets, (simp gets, (simp gets, (simp gets, tt))));
  on_2 = (simp gets, (simp gets, (simp gets, (simp gets, (simp gets, tt)))));
  on_3 = (simp gets, (simp gets, (simp gets, (simp gets, (simp gets, tt)))));
  on_4 = (simp gets, (simp gets, (simp gets, (simp gets, (simp gets, tt)))));
}

-- the program's word stands at the point again
abbrev pub left_code : Code
left_code = insert three_code 0x10000 (own 0x6f)

pub three_left : Three left_code (own 0x6f) 0x0340006f 0xfe9ff06f 0xfddff06f
unfolding body_of decode_of
three_left = record {
  point = simp gets;
  base = (simp gets, (simp gets, (simp gets, (simp gets, tt))));
  on_2 = (simp gets, (simp gets, (simp gets, (simp gets, (simp gets, tt)))));
  on_3 = (simp gets, (simp gets, (simp gets, (simp gets, (simp gets, tt)))));
  on_4 = (simp gets, (simp gets, (simp gets, (simp gets, (simp gets, tt)))));
}

-- the fourth's mini block stands where the first's was, and the base leads to it
abbrev pub fourth_code : Code
fourth_code = insert (put_words 0x11010 (mini_on 2 0x11010 0x11038).words past_both) 0x11004 (tool 0x00c0006f)

pub three_fourth : Three fourth_code entering 0x00c0006f 0x0180006f 0xfc1ff06f
unfolding body_of decode_of
three_fourth = record {
  point = simp gets;
  base = (simp gets, (simp gets, (simp gets, (simp gets, tt))));
  on_2 = (simp gets, (simp gets, (simp gets, (simp gets, (simp gets, tt)))));
  on_3 = (simp gets, (simp gets, (simp gets, (simp gets, (simp gets, tt)))));
  on_4 = (simp gets, (simp gets, (simp gets, (simp gets, (simp gets, tt)))));
}

-- ---- events

abbrev pub at : Code → List Row → Hart → Core
at code rows x = one (program_of loop) 1000 code rows (record { hart = x; prog = (start loop 1).prog })

-- the bank's length is that of five doublewords and some more
pub bank_five : (m : ℕ) × (bank_len ≡ suc (suc (suc (suc (suc m)))))
unfolding bank_len
bank_five = (4091, refl)

-- a counter's code is harmless on a slot
places : (slot mini : ℕ) → 2 ≤ slot → slot < 5 → ArePlaces (places_of (counter_on slot mini))
places slot mini low high = record { within = within; apart = apart }
  where
    within : (n : ℕ) (p : VariableSlot) → slice_get (places_of (counter_on slot mini)) n ≡ Some p → (first_slot ≤ p.slot) × (p.slot + width p ≤ bank_len)
    within zero p e =
        let s : record { slot = slot; timer = false } ≡ p = cc in
        let room = bank_five.1 in
        subst (λ (q : VariableSlot). (first_slot ≤ q.slot) × (q.slot + width q ≤ bank_len)) s (low, omega arith)
    within (suc n) p e = absurd cc

    apart : (n m : ℕ) (p q : VariableSlot) → slice_get (places_of (counter_on slot mini)) n ≡ Some p → slice_get (places_of (counter_on slot mini)) m ≡ Some q → (n ≡ m → ⊥) → (p.slot + width p ≤ q.slot) ⊎ (q.slot + width q ≤ p.slot)
    apart zero zero p q en em ne = absurd (ne refl)
    apart zero (suc m) p q en em ne = absurd cc
    apart (suc n) m p q en em ne = absurd cc

pub harmless : (slot : ℕ) → 2 ≤ slot → slot < 5 → Harmless (body_of (slot ∷ []) count_up)
harmless slot low high = (statements_work (slot ∷ []) rounds.vars count_up refl (places slot 0 low high) (measurable.fitting).0).harmless

-- a block apart from each of these rows
abbrev AreApart : List Row → ℕ → Type 0
AreApart [] mini = Unit {0}
AreApart (r ∷ rs) mini = Apart r.at r.len mini 5 × AreApart rs mini

apart_from : (rows : List Row) (mini : ℕ) → AreApart rows mini → (r : Row) → In r rows → Apart r.at r.len mini 5
apart_from [] mini a r h = absurd h
apart_from (x ∷ rows) mini a r (inl e) = subst (λ (u : Row). Apart u.at u.len mini 5) (sym e) a.0
apart_from (x ∷ rows) mini a r (inr h) = apart_from rows mini a.1 r h

pub may_write : (code : Code) (rows : List Row) (x : Hart) (slot mini next : ℕ) → 2 ≤ slot → slot < 5 → mini % 4 ≡ 0 → reaches (mini + 16) next ≡ true → 0x11000 ≤ mini → mini + 20 ≤ 0x71000 → AreApart rows mini
    → MayWrite (at code rows x) (mini_on slot mini next)
unfolding body_of
may_write code rows x slot mini next low high aligned reached above below apart = record {
  shape = (next, record { aligned = aligned; body = body_of (slot ∷ []) count_up; harmless = harmless slot low high; reached = reached; is = refl });
  low = above;
  high = below;
  apart = apart_from rows mini apart;
}

pub links_mini : (code : Code) (x : Hart) (rows : List Row) (base : Row) (mini next : ℕ) (i : In (row mini Written) rows) → current_base rows 0x10000 ≡ Some base → next_of code base ≡ next → next_of code (row mini Written) ≡ next → MayLinkMini (at code rows x) 0x10000 mini
links_mini code x rows base mini next i current head last = record {
  base = base;
  current = current;
  mini = record { row = row mini Written; listed = i; mini = refl; point = refl; at = refl; is = refl };
  next = last ∙ sym head;
}

-- ---- the second and the third are added

-- the hart before its first turn
abbrev pub unarmed : Hart
unarmed = first_hart (start_hart loop 1 0)

abbrev rows_first : List Row
rows_first = base_row ∷ row 0x11010 Live ∷ []

abbrev rows_second : Status → List Row
rows_second status = base_row ∷ row 0x11010 Live ∷ row 0x11024 status ∷ []

abbrev pub rows_third : Status → List Row
rows_third status = base_row ∷ row 0x11010 Live ∷ row 0x11024 Live ∷ row 0x11038 status ∷ []

abbrev second_written : Code
second_written = put_words 0x11024 (mini_on 3 0x11024 0x11010).words linked_code

abbrev second_linked : Code
second_linked = insert second_written 0x11004 (tool 0x0200006f)

abbrev third_written : Code
third_written = put_words 0x11038 (mini_on 4 0x11038 0x11024).words second_linked

pub adding_legal : Legal adding (linked 1000)
unfolding body_of decode_of
adding_legal =
    let head : get second_written 0x11004 ≡ Some (tool 0x00c0006f) = simp gets in
    let last : get second_written 0x11034 ≡ Some (tool 0xfddff06f) = simp gets in
    let next_head : get third_written 0x11004 ≡ Some (tool 0x0200006f) = simp gets in
    let next_last : get third_written 0x11048 ≡ Some (tool 0xfddff06f) = simp gets in (
      may_write linked_code rows_first unarmed 3 0x11024 0x11010 (omega arith) (omega arith) refl refl (omega arith) (omega arith) (inl (omega arith), (inl (omega arith), tt)),
      (
        links_mini second_written unarmed (rows_second Written) base_row 0x11024 0x11010 (inr (inr (inl refl))) refl (ap (λ o. target_at o 0x11004) head) (ap (λ o. target_at o 0x11034) last),
        (
          may_write second_linked (rows_second Live) unarmed 4 0x11038 0x11024 (omega arith) (omega arith) refl refl (omega arith) (omega arith) (inl (omega arith), (inl (omega arith), (inl (omega arith), tt))),
          (
            links_mini third_written unarmed (rows_third Written) base_row 0x11038 0x11024 (inr (inr (inr (inl refl)))) refl (ap (λ o. target_at o 0x11004) next_head) (ap (λ o. target_at o 0x11048) next_last),
            tt,
          ),
        ),
      ),
    )

pub added : replay adding (linked 1000) ≡ at three_code (rows_third Live) unarmed
unfolding body_of
added = refl
