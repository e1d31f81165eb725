-- How a session begins is tied to how it came about.
use Rattle.std.proofs.Common.{◌≡◌, ℕ, zero, suc, List, [], ◌∷◌, Some, refl, sym, ap, ◌∙◌, subst, length, map, arith}
use Rattle.std.specs.Prelude.{◌+◌, replicate, slice_get}
use Rattle.std.specs.List.{range_with_len}
use Rattle.tramp_spec.specs.Harts.{Hart}
use Rattle.fold_hist.specs.declared.bin.Bin.{Bin}
use Rattle.std.proofs.lemmas.List.{length-map, take_all}
use Rattle.machine.specs.Cores.{Core, first_hart}
use Rattle.machine.specs.Events.{IsQuiet}
use Rattle.machine.specs.Laws.{IsProgram}
use Rattle.machine.proofs.Arming.{get_map}
use Rattle.rv_exec.specs.Start.{start}
use Rattle.instrument.specs.Scenes.{Hands}
use Rattle.instrumented.specs.Instrumented.{Instrumented, after_act, repeated}
use Rattle.instrumented.proofs.Harts.{hands_same}
use Rattle.session_spec.specs.declared.data.MetricFocusPair.{MetricFocusPair}
use Rattle.session_spec.specs.Inputs.{Inputs, first_wishes}
use Rattle.session_spec.specs.States.{SessionState, first_kept}
use Rattle.session_spec.specs.Opening.{wished, with_agenda}
use Rattle.session_spec.specs.Due.{all_armed, arm_all, with_arms}
use Rattle.session_spec.specs.Tests.{with_tests}
use Rattle.session_spec.specs.Work.{first_state}
use Rattle.session_spec.specs.Ties.{IsTied}
use Rattle.session_spec.specs.Plans.{ArePlansGood}
use Rattle.session_spec.specs.Readings.{lasts_armed, lasts_with}
use Rattle.session_spec.specs.Reads.{AreFromLast, IsSoundState, marks_of, ticks_by}
use Rattle.session_spec.proofs.Armings.{arms_tied}
use Rattle.session_spec.proofs.Lasting.{armed_last, hands_back, led_of}
use Rattle.session_spec.proofs.Testing.{tests_moved, tests_once}
use Rattle.session_spec.proofs.Ticking.{ticks_tied}
use Rattle.session_spec.proofs.Tied.{hands_tied}
use Rattle.session_spec.proofs.Wishing.{IsAtOnce, Moves, all_moved, all_once, on, once_on}

-- ---- before any wish

pub first_tied : (i : Inputs) → IsProgram i.image → IsTied i (first_kept i).machine [] [] []
first_tied i p = record { program = p; acts = []; plans = []; leads = record { can = tt; scene = refl }; owned = refl; shown = tt; apart = tt }

pub first_quiet : (i : Inputs) → IsQuiet (first_kept i).machine.core
first_quiet i h x e = let k = get_map first_hart (start i.image i.settings.harts).harts h x e in ap (λ (y : Hart). y.inside) k.2

-- ---- entries of the agenda leave every hart where it is

pub all_quiet : (n : ℕ) (m : Instrumented) → IsQuiet m.core → IsQuiet (repeated n Hands m).core
all_quiet zero m q = q
all_quiet (suc n) m q = all_quiet n (after_act Hands m) (λ h x e. q h x (subst (λ hs. slice_get hs h ≡ Some x) (hands_same m) e))

-- ---- the first admission

-- after the wishes at tick 0, and the first nodes of the search
abbrev pub picked : Inputs → SessionState
picked i = with_tests i (wished i)

picked_once : (i : Inputs) → IsAtOnce (first_kept i) (picked i)
unfolding wished
picked_once i = once_on (first_kept i) (wished i) (picked i) (all_once i (first_wishes i) (first_kept i)) (tests_once i (wished i))

pub picked_moved : (i : Inputs) → IsProgram i.image → ArePlansGood i → Moves i [] [] (first_kept i) (picked i)
unfolding wished
picked_moved i p good =
    let w = all_moved i good [] (first_wishes i) [] (first_kept i) (first_tied i p) in
    on i [] [] (first_kept i) (wished i) (picked i) w (tests_moved i good [] (lasts_with (wished i).shown []) (wished i) w.tied)

-- ---- the opening

-- none has a sample
none_recorded : (ss : List MetricFocusPair) → length (map {B = List Bin} (λ s. []) ss) ≡ length ss
none_recorded ss = length-map ss (λ s. [])

-- nor has a hart a tick
no_ticks : (a n : ℕ) → map (ticks_by []) (range_with_len a n) ≡ replicate n 0
no_ticks a zero = refl
no_ticks a (suc n) = ap (λ (l : List ℕ). 0 ∷ l) (no_ticks (a + 1) n)

pub first_marks : (i : Inputs) → marks_of i (first_state i) ≡ replicate i.settings.harts 0
first_marks i = ap (λ own. map (ticks_by own) (range_with_len 0 i.settings.harts)) (take_all (first_state i).kept.last [] (omega arith)) ∙ no_ticks 0 i.settings.harts

-- what was read last at the opening, of a number of instruments
abbrev pub opened_lasts : Inputs → List ℕ
opened_lasts i = lasts_armed i (with_agenda (picked i)).machine (with_agenda (picked i)).shown (lasts_with (picked i).shown [])

pub opens : (i : Inputs) → IsProgram i.image → ArePlansGood i → IsSoundState i (first_state i) (opened_lasts i)
unfolding with_agenda with_arms
opens i p good =
    let k = picked i in
    let v = picked_moved i p good in
    let once = picked_once i in
    let n = length k.machine.placer.book.agenda in
    let m = repeated n Hands k.machine in
    let lasts = lasts_with k.shown [] in
    let h = hands_tied n i k.machine [] k.shown lasts v.tied in
    let quiet = all_quiet n k.machine (subst (λ (c : Core). IsQuiet c) (sym v.core) (first_quiet i)) in
    let a = arms_tied i m [] k.shown lasts quiet h in
    let tied = subst (λ (time : ℕ). IsTied i (arm_all m k.shown) [] (all_armed time m k.shown) (lasts_armed i m k.shown lasts)) (sym once.time) a.tied in
    let from : AreFromLast m.placer k.time k.shown = λ x j e. absurd (v.back x j (hands_back n i k.machine [] (led_of i k.machine [] k.shown lasts v.tied) x e)).0 in
    let armed = armed_last i m [] k.time k.shown (led_of i m [] k.shown lasts h) quiet h.apart from in
    let now : k.last ≡ k.time = once.last ∙ sym once.time in
    record {
      tied = tied;
      time = once.time;
      many = none_recorded (all_armed k.time m k.shown);
      ticks = ticks_tied i (arm_all m k.shown) [] (all_armed k.time m k.shown) (lasts_armed i m k.shown lasts) tied;
      last = omega arith;
      from = λ x j e. armed x j e ∙ sym now;
    }
