-- A hart that is inside, and settles.
use Rattle.std.proofs.Common.{◌≡◌, ℕ, zero, suc, List, [], ◌∷◌, ◌++◌, Some, None, refl, sym, ap, ◌∙◌, subst, arith, ⊎_elim, inl, inr}
use Rattle.std.specs.FinMap.{get, gets}
use Rattle.std.specs.Prelude.{Bool, true, false, replicate, map}
use Rattle.pn_types.specs.declared.placed.PlacedSite.{PlacedSite}
use Rattle.rv_word.specs.Exec.{action, perform}
use Rattle.rv_word.specs.Registers.{reg, with_reg}
use Rattle.rv_word.specs.Table.{decode_of}
use Rattle.rv_exec.specs.Start.{start, start_regs, start_hart}
use Rattle.tramp_spec.specs.Banks.{bank_len}
use Rattle.tramp_spec.specs.Codes.{Code}
use Rattle.tramp_spec.specs.Harts.{Hart, Solo}
use Rattle.tramp_spec.specs.Marks.{own, enter, tool, leave}
use Rattle.tramp_spec.specs.MovedWords.{moved_of}
use Rattle.tramp_spec.specs.Statements.{body_of}
use Rattle.tramp_spec.specs.Steps.{perform_on}
use Rattle.machine.specs.Cores.{Core, Row, Written, Live, In, first_hart, start_core}
use Rattle.machine.specs.Effects.{after_event}
use Rattle.machine.specs.Events.{Write, LinkMini, MayWrite, MayLinkMini, MayLinkPoint, MayArm, IsLinked, IsQuiet, Apart, target_at}
use Rattle.test_examples.specs.FirstTurns.{three_words, first_base, first_mini, turns}
use Rattle.test_examples.specs.HartInside.{three_image, first_counter, first_linked, inside, settled, HartInside}
use Rattle.machine.specs.Laws.{IsProgram}
use Rattle.test_examples.specs.LoopCounted.{count_up}
use Rattle.machine.specs.Readings.{readings}
use Rattle.machine.specs.Replays.{replay, Legal}
use Rattle.machine.specs.States.{settling}
use Rattle.std.proofs.lemmas.Bool.{true≢false}
use Rattle.machine.proofs.Lists.{AreWordsAt}
use Rattle.test_examples.proofs.ThreeLinked.{harmless, bank_five}
use Rattle.test_examples.proofs.Traces.{Trace, placed, AllStand, one, Run, follows, leaving_so}

program : IsProgram three_image
unfolding decode_of
program = record {
  image = record {
    few = omega arith;
    mapped = (record { positive = omega arith; filled = omega arith; low = omega arith; high = omega arith }, tt);
    apart = (tt, tt);
    small = omega arith;
    positive = omega arith;
    short = omega arith;
    start = refl;
    whole = refl;
    inside = refl;
    entry = refl;
    symbols = omega arith;
  };
  narrow = (omega arith, (omega arith, (omega arith, tt)));
  unscratched = refl;
}

abbrev start_at : Core
start_at = start_core three_image 1 1000

writes_base : MayWrite start_at first_base
unfolding moved_of decode_of
writes_base = record {
  shape = (record { aligned = refl; word = 0x00150513; here = refl; moved = own 0x00150513 ∷ leave 0xff5fe06f ∷ []; movable = refl; reached = refl; is = refl }, λ r h. absurd h);
  low = omega arith;
  high = omega arith;
  apart = λ r h. absurd h;
}

writes_mini : MayWrite (after_event start_at (Write first_base)) first_mini
unfolding body_of
writes_mini = record {
  shape = (0x11008, record { aligned = refl; body = body_of (2 ∷ []) count_up; harmless = harmless 2 (omega arith) (omega arith); reached = refl; is = refl });
  low = omega arith;
  high = omega arith;
  apart = λ r h. ⊎_elim (λ (e : r ≡ record { point = 0x10000; at = 0x11000; len = 5; base = true; status = Written }). subst (λ (u : Row). Apart u.at u.len 0x11014 5) (sym e) (inl (omega arith))) (λ n. absurd n) h;
}

abbrev written : Core
written = after_event (after_event start_at (Write first_base)) (Write first_mini)

links_mini : MayLinkMini written 0x10000 0x11014
unfolding body_of decode_of
links_mini =
    let head : get written.code 0x11004 ≡ Some (tool 0x0040006f) = simp gets in
    let next : get written.code 0x11024 ≡ Some (tool 0xfe5ff06f) = simp gets in
    record {
      base = record { point = 0x10000; at = 0x11000; len = 5; base = true; status = Written };
      current = refl;
      mini = record { row = record { point = 0x10000; at = 0x11014; len = 5; base = false; status = Written }; listed = inr (inl refl); mini = refl; point = refl; at = refl; is = refl };
      next = ap (λ o. target_at o 0x11024) next ∙ sym (ap (λ o. target_at o 0x11004) head);
    }

links_point : MayLinkPoint (after_event written (LinkMini 0x10000 0x11014)) 0x10000
unfolding body_of decode_of
links_point = record {
  base = record { point = 0x10000; at = 0x11000; len = 5; base = true; status = Written };
  current = refl;
  word = 0x00150513;
  program = refl;
  stands = simp gets;
}

-- ---- the words that stand

record Stand (code : Code) : Type 0 where
  entered : get code 0x10000 ≡ Some (enter 0x0000106f)
  base : AreWordsAt code 0x11000 (tool 0x00503423 ∷ tool 0x0100006f ∷ tool 0x00803283 ∷ own 0x00150513 ∷ leave 0xff5fe06f ∷ [])
  mini : AreWordsAt code 0x11014 (tool 0x00000fb7 ∷ tool 0x010fb283 ∷ tool 0x00128293 ∷ tool 0x005fb823 ∷ tool 0xfe5ff06f ∷ [])

abbrev first_code : Code
first_code = first_linked.code

stand : Stand first_code
unfolding body_of decode_of
stand = record {
  entered = simp gets;
  base = (simp gets, (simp gets, (simp gets, (simp gets, (simp gets, tt)))));
  mini = (simp gets, (simp gets, (simp gets, (simp gets, (simp gets, tt)))));
}

-- ---- the turns

abbrev rows : List Row
rows =
    record { point = 0x10000; at = 0x11000; len = 5; base = true; status = Live }
    ∷ record { point = 0x10000; at = 0x11014; len = 5; base = false; status = Live } ∷ []

-- the hart by its pc, x5, a0, ticks, inside, and doubleword 2 of its bank
abbrev hart : List ℕ → ℕ → ℕ → ℕ → ℕ → Bool → ℕ → Hart
hart rest pc t0 a0 ticks inside slot = record { pc = pc; regs = with_reg (with_reg (start_regs 0 1) 5 t0) 10 a0; ticks = ticks; stop = None; inside = inside; bank = 0 ∷ 0 ∷ slot ∷ rest }

abbrev solo : Hart → Solo
solo x = record { hart = x; prog = (start three_image 1).prog }

abbrev at : Code → Hart → Core
at code x = one three_words 1000 code rows (solo x)

abbrev entering : Trace
entering = placed 0x10000 (enter 0x0000106f ∷ []) (placed 0x11000 (tool 0x00503423 ∷ tool 0x0100006f ∷ []) (placed 0x11014 (tool 0x00000fb7 ∷ tool 0x010fb283 ∷ []) []))

abbrev leaving_words : Trace
leaving_words = placed 0x1101c (tool 0x00128293 ∷ tool 0x005fb823 ∷ tool 0xfe5ff06f ∷ []) (placed 0x11008 (tool 0x00803283 ∷ own 0x00150513 ∷ leave 0xff5fe06f ∷ []) [])

module _ (code : Code) (s : Stand code) (rest : List ℕ) where
  enters : Run (turns 5) (at code (hart rest 0x10000 0 0 0 false 0)) (at code (hart rest 0x1101c 0 0 0 true 0)) []
  unfolding decode_of action perform perform_on reg with_reg bank_len
  enters = follows three_words 1000 code rows entering (solo (hart rest 0x10000 0 0 0 false 0)) refl (s.entered, (s.base.0, (s.base.1.0, (s.mini.0, (s.mini.1.0, tt)))))

  leaving_stand : AllStand code leaving_words
  leaving_stand = (s.mini.1.1.0, (s.mini.1.1.1.0, (s.mini.1.1.1.1.0, s.base.1.1)))

  leaves_it : Run (turns 6) (at code (hart rest 0x1101c 0 0 0 true 0)) (at code (hart rest 0x10004 0 1 1 false 1)) (0 ∷ [])
  unfolding decode_of action perform perform_on reg with_reg bank_len
  leaves_it = follows three_words 1000 code rows leaving_words (solo (hart rest 0x1101c 0 0 0 true 0)) refl leaving_stand

  settles_it : settling (at code (hart rest 0x1101c 0 0 0 true 0)) ≡ turns 6
  unfolding decode_of action perform perform_on reg with_reg bank_len
  settles_it = ap (λ es. es ++ []) (leaving_so three_words 1000 code rows leaving_words (solo (hart rest 0x1101c 0 0 0 true 0)) 4 refl leaving_stand refl)

-- ---- the law

-- the doublewords after slot 2
rest : List ℕ
rest = 0 ∷ 0 ∷ replicate bank_five.0 0

bank_so : replicate bank_len 0 ≡ 0 ∷ 0 ∷ 0 ∷ rest
unfolding rest
bank_so = ap (λ n. replicate n 0) bank_five.1

abbrev with_bank : List ℕ → Core
with_bank bank = at first_code (record (first_hart (start_hart three_image 1 0)) { bank = bank })

linked_so : first_linked ≡ with_bank (replicate bank_len 0)
unfolding body_of
linked_so = refl

begins : with_bank (0 ∷ 0 ∷ 0 ∷ rest) ≡ at first_code (hart rest 0x10000 0 0 0 false 0)
unfolding with_reg
begins = refl

begins_so : first_linked ≡ at first_code (hart rest 0x10000 0 0 0 false 0)
begins_so = linked_so ∙ ap with_bank bank_so ∙ begins

inside_so : inside ≡ at first_code (hart rest 0x1101c 0 0 0 true 0)
inside_so = ap (replay (turns 5)) begins_so ∙ (enters first_code stand rest).state

settled_so : settled ≡ at first_code (hart rest 0x10004 0 1 1 false 1)
settled_so = ap (replay (turns 6)) inside_so ∙ (leaves_it first_code stand rest).state

noisy : IsQuiet inside → ⊥
noisy q = true≢false (subst IsQuiet inside_so q 0 (hart rest 0x1101c 0 0 0 true 0) refl)

quiet : IsQuiet (at first_code (hart rest 0x10004 0 1 1 false 1))
quiet zero x e = let s : hart rest 0x10004 0 1 1 false 1 ≡ x = cc in ap (λ (u : Hart). u.inside) (sym s)
quiet (suc h) x e = absurd cc

arms_it : MayArm (at first_code (hart rest 0x10004 0 1 1 false 1)) first_counter
arms_it = record { quiet = quiet; linked = sites }
  where
    here : IsLinked (at first_code (hart rest 0x10004 0 1 1 false 1)) (record { at = 0x10000; mini = 0x11014 })
    here = (
      record { row = record { point = 0x10000; at = 0x11014; len = 5; base = false; status = Live }; listed = inr (inl refl); mini = refl; point = refl; at = refl; is = refl },
      record { jump = 0x0000106f; stands = stand.entered },
    )

    sites : (z : PlacedSite) → In z first_counter.sites → IsLinked (at first_code (hart rest 0x10004 0 1 1 false 1)) z
    sites z (inl e) = subst (IsLinked (at first_code (hart rest 0x10004 0 1 1 false 1))) (sym e) here
    sites z (inr h) = absurd h

pub hart_inside : HartInside
hart_inside = record {
  program = program;
  links = (writes_base, (writes_mini, (links_mini, (links_point, tt))));
  enters = subst (Legal (turns 5)) (sym begins_so) (enters first_code stand rest).legal;
  unarmed = λ may. noisy may.quiet;
  unread = noisy;
  settles = ap settling inside_so ∙ settles_it first_code stand rest;
  goes_on = subst (Legal (turns 6)) (sym inside_so) (leaves_it first_code stand rest).legal;
  ticks = ap (λ (c : Core). map (λ x. x.ticks) c.harts) settled_so;
  arms = subst (λ c. MayArm c first_counter) (sym settled_so) arms_it;
  samples = subst IsQuiet (sym settled_so) quiet;
  reads = ap (readings first_counter (0 ∷ [])) settled_so;
}
