-- When no quantum of a hart can follow.
use Rattle.std.proofs.Common.{◌≡◌, ℕ, zero, suc, ◌+◌, ◌<◌, ◌≤◌, ◌^◌, List, [], ◌∷◌, refl, ap, sym, ◌∙◌, subst, arith, length, inl, inr}
use Rattle.std.specs.Prelude.{Bool, Option, None, Some, IfSome, true, false, cond, drop, map, take}
use Rattle.fold_hist.specs.Bins.{Histogram}
use Rattle.std.specs.List.{AllByRecursion}
use Rattle.std.proofs.lemmas.Bool.{true≢false}
use Rattle.std.proofs.lemmas.List.FromFn.{length-map-range_with_len}
use Rattle.pn_types.specs.declared.limits.TheConstants.{MAX_HARTS, MAX_QUANTA, MAX_QUANTUM, MAX_WORKERS}
use Rattle.pn_types.specs.declared.image.Image.{Image}
use Rattle.pn_types.specs.declared.quantum.Quantum.{Quantum}
use Rattle.rv_mem.specs.Start.{program_of}
use Rattle.rv_exec.specs.Start.{harts_from}
use Rattle.machine.specs.Cores.{Core, first_hart, start_core}
use Rattle.machine.specs.Quanta.{KeepsBudget, ticks_in}
use Rattle.machine.proofs.Quanta.{time_goes_on}
use Rattle.machine.specs.Replays.{owns}
use Rattle.machine.specs.States.{quantum_turns}
use Rattle.machine.specs.Turns.{is_runnable}
use Rattle.mdl_check.specs.declared.checked.CheckedWish.{CheckedWish}
use Rattle.session_spec.specs.States.{SessionState, State}
use Rattle.session_spec.specs.Inputs.{Inputs}
use Rattle.session_spec.specs.Admission.{with_admission}
use Rattle.session_spec.proofs.Going.{program_is}
use Rattle.session_spec.specs.Work.{Halted, IsAllowed, final_state, after_quanta}
use Rattle.session_spec.specs.Reads.{ticks_by}
use Rattle.session_spec.proofs.Runs.{is_run}
use Rattle.session_pairs.specs.declared.pair.SampledPair.{SampledPair}
use Rattle.session.specs.Kept.{IsTableAfter, IsSoundPair}
use Rattle.session_pairs.specs.SampledPairs.{HasFew, HasHarts}
use Rattle.session.proofs.SoundPairs.{more_sound}
use Rattle.session.specs.Sessions.{state_at}
use Rattle.session.specs.NodeCandidates.{HasCost}
use Rattle.session.specs.Tables.{CanSample, IsAfterAdmission, StateTable, kept_of, lasts_in}

-- a session that wasn't closed
pub going_state : (i : Inputs) (quanta : List Quantum) (over : Bool) → over ≡ false → state_at i quanta over ≡ after_quanta i quanta
going_state i quanta over e = ap (λ b. cond b (final_state i (after_quanta i quanta)) (after_quanta i quanta)) e

pub core_is : (i : Inputs) (quanta : List Quantum) (over : Bool) (later : List CheckedWish) (t : StateTable) → IsTableAfter i quanta over later t → t.machine.state.core ≡ (state_at i quanta over).kept.machine.core
core_is i quanta over later t k = ap (λ (x : SessionState). x.machine.core) k.state.kept

pub open_is : (i : Inputs) (quanta : List Quantum) (over : Bool) (later : List CheckedWish) (t : StateTable) (h : ℕ) → IsTableAfter i quanta over later t → is_runnable t.machine.state.core h ≡ true → is_runnable (state_at i quanta over).kept.machine.core h ≡ true
open_is i quanta over later t h k e = ap (λ c. is_runnable c h) (sym (core_is i quanta over later t k)) ∙ e

pub stuck : (i : Inputs) (quanta : List Quantum) (over : Bool) (later : List CheckedWish) (t : StateTable) (h : ℕ) → IsTableAfter i quanta over later t → over ≡ false → is_runnable t.machine.state.core h ≡ false → Halted i quanta h
unfolding Halted
stuck i quanta over later t h k going e = inl (ap (λ (x : State). is_runnable x.kept.machine.core h) (sym (going_state i quanta over going)) ∙ (ap (λ c. is_runnable c h) (sym (core_is i quanta over later t k)) ∙ e))

pub full : (i : Inputs) (quanta : List Quantum) (over : Bool) (h : ℕ) → MAX_QUANTA ≤ length quanta → Halted i quanta h
unfolding Halted
full i quanta over h l = inr l

pub not_halted : (i : Inputs) (quanta : List Quantum) (over : Bool) (h : ℕ) → over ≡ false → is_runnable (state_at i quanta over).kept.machine.core h ≡ true → length quanta < MAX_QUANTA → Halted i quanta h → ⊥
unfolding Halted
not_halted i quanta over h going e l (inl stops) = true≢false (sym e ∙ (ap (λ (x : State). is_runnable x.kept.machine.core h) (going_state i quanta over going) ∙ stops))
not_halted i quanta over h going e l (inr many) = absurd (omega arith)

-- no hart has more ticks than the budget
pub budget_kept : (i : Inputs) (quanta : List Quantum) (over : Bool) (later : List CheckedWish) (t : StateTable) → IsTableAfter i quanta over later t → KeepsBudget t.machine.state.core
budget_kept i quanta over later t k =
    subst (λ (c : Core). KeepsBudget c) (sym (core_is i quanta over later t k)) (is_run i (state_at i quanta over) (lasts_in t.pairs) k.state.sound).budget

-- ---- what a call asks of a stored that is kept

pub program_kept : (i : Inputs) (quanta : List Quantum) (over : Bool) (later : List CheckedWish) (t : StateTable) → IsTableAfter i quanta over later t → t.machine.state.core.program ≡ program_of i.image
program_kept i quanta over later t k =
    let tied = k.state.sound.tied in
    ap (λ (c : Core). c.program) (core_is i quanta over later t k) ∙ program_is i (state_at i quanta over).kept.machine (state_at i quanta over).owns (state_at i quanta over).kept.shown (lasts_in t.pairs) tied

pub fit_harts : (i : Inputs) (n m : ℕ) (pairs : List SampledPair) → i.settings.harts ≡ m → AllByRecursion (IsSoundPair i n) pairs → AllByRecursion (HasHarts m) pairs
fit_harts i n m [] e a = tt
fit_harts i n m (k ∷ pairs) e a = (subst (λ h. k.first + k.count ≤ h) e (a.0).within, fit_harts i n m pairs e a.1)

fit_few : (i : Inputs) (n : ℕ) (pairs : List SampledPair) → n < 2 ^ 32 → AllByRecursion (IsSoundPair i n) pairs → AllByRecursion HasFew pairs
fit_few i n [] l a = tt
fit_few i n (k ∷ pairs) l a = (by k.hist (a.0).few, fit_few i n pairs l a.1)
  where
    by : (o : Option Histogram) → IfSome o (λ h. h.count ≤ n) → IfSome o (λ h. h.count < 2 ^ 32)
    by None few = tt
    by (Some h) few = omega arith

-- a pair costs what its tests cost
pub costs : (i : Inputs) (n : ℕ) (pairs : List SampledPair) → AllByRecursion (IsSoundPair i n) pairs → AllByRecursion (HasCost i) pairs
costs i n [] a = tt
costs i n (k ∷ pairs) a = ((a.0).cost, costs i n pairs a.1)

-- ---- what a sample asks

first_ticks : (more h n : ℕ) (image : Image) → ticks_in (map first_hart (harts_from more h image n)) ≡ 0
first_ticks zero h n image = refl
first_ticks (suc more) h n image = let rest = first_ticks more (h + 1) n image in omega arith

module _ (i : Inputs) (quanta : List Quantum) (over : Bool) (later : List CheckedWish) (t : StateTable) (k : IsTableAfter i quanta over later t) where
  marks_many : length t.marks ≡ i.settings.harts
  marks_many =
      let state = state_at i quanta over in
      ap (λ (l : List ℕ). length l) k.state.marks
      ∙ length-map-range_with_len (ticks_by (take state.kept.last state.owns)) 0 i.settings.harts

  ticks_are : ticks_in t.machine.state.core.harts ≡ t.time
  ticks_are =
      let first = start_core i.image i.settings.harts i.settings.budget in
      let ran = is_run i (state_at i quanta over) (lasts_in t.pairs) k.state.sound in
      let none : ticks_in first.harts ≡ 0 = first_ticks i.settings.harts 0 i.settings.harts i.image in
      let on = time_goes_on ran.events first in
      let core = ap (λ (c : Core). ticks_in c.harts) (core_is i quanta over later t k ∙ ran.core) in
      let own = ap (λ (l : List ℕ). length l) ran.owns in
      let time = ran.time in
      let same = ap (λ (x : SessionState). x.time) k.state.kept in
      omega arith

  pub can_sample : t.samples ≤ MAX_QUANTA → length quanta ≤ MAX_QUANTA → CanSample t
  can_sample samples few =
      let same = k.harts in
      let many = k.many in
      let wishes = k.given.few_wishes in
      let most = k.given.settings.harts.1 in
      let ticks = ticks_are in
      record {
        places = k.places ∙ sym same;
        marks = marks_many ∙ sym same;
        harts = fit_harts i t.samples (length t.machine.state.core.harts) t.pairs (sym same) k.pairs;
        few = fit_few i t.samples t.pairs (omega arith) k.pairs;
        number = omega arith;
        samples = omega arith;
        most = omega arith;
        ticks = omega arith;
        live = k.live;
      }

-- after an admission
module _ (i : Inputs) (quanta : List Quantum) (over : Bool) (later : List CheckedWish) (t admitted : StateTable) (looked : ℕ) (k : IsTableAfter i quanta over later t) (few : length quanta < MAX_QUANTA) (a : IsAfterAdmission i later t admitted looked) where
  pub can_sample_now : over ≡ false → CanSample admitted
  can_sample_now going =
      let most_quanta : length quanta ≤ MAX_QUANTA = omega (arith, few) in
      let samples = k.fewer going in
      let c = can_sample i quanta over later t k (omega arith) most_quanta in
      let same : length admitted.machine.state.core.harts ≡ length t.machine.state.core.harts = ap (λ (x : Core). length x.harts) (a.stays).core in
      let sound = subst (λ m. AllByRecursion (IsSoundPair i m) admitted.pairs) (sym (ap (λ (x : StateTable). x.samples) (a.stays).same)) (more_sound i t.samples t.pairs admitted.pairs k.pairs a.pairs) in
      let same_samples = ap (λ (x : StateTable). x.samples) (a.stays).same in
      let same_time = ap (λ (x : StateTable). x.time) (a.stays).same in
      let same_ticks = ap (λ (x : Core). ticks_in x.harts) (a.stays).core in
      let many = k.many in
      let more = a.few in
      let looked_few = a.looked in
      let wishes = k.given.few_wishes in
      let ticks = c.ticks in
      let old_samples = c.samples in
      record {
        places = ap (λ (x : StateTable). x.places) (a.stays).same ∙ (c.places ∙ sym same);
        marks = ap (λ (x : StateTable). length x.marks) (a.stays).same ∙ (c.marks ∙ sym same);
        harts = fit_harts i admitted.samples (length admitted.machine.state.core.harts) admitted.pairs (sym (same ∙ k.harts)) sound;
        few = fit_few i admitted.samples admitted.pairs (omega arith) sound;
        number = omega arith;
        samples = omega arith;
        most = subst (λ n. n ≤ MAX_HARTS) (sym same) c.most;
        ticks = omega arith;
        live = a.live;
      }

  -- the entry is allowed
  pub allowed_now : (q : Quantum) → q.worker < MAX_WORKERS → q.hart < i.settings.harts → 1 ≤ q.turns → q.turns ≤ MAX_QUANTUM → is_runnable (state_at i quanta over).kept.machine.core q.hart ≡ true
      → q.owns ≡ length (owns (quantum_turns q.turns q.hart admitted.machine.state.core) admitted.machine.state.core) → IsAllowed i (state_at i quanta over).kept q
  allowed_now q worker hart some most runs own =
      let kept : kept_of later t ≡ (state_at i quanta over).kept = k.state.kept in
      let core : admitted.machine.state.core ≡ (with_admission i (state_at i quanta over).kept).machine.core = ap (λ (x : SessionState). x.machine.core) a.kept ∙ ap (λ x. (with_admission i x).machine.core) kept in
      record {
        worker = worker;
        hart = hart;
        some = some;
        few = most;
        runnable = runs;
        owns = ap (λ n. record q { owns = n }) (own ∙ ap (λ c. length (owns (quantum_turns q.turns q.hart c) c)) core);
      }

drop_none : (m : ℕ) → drop {A = CheckedWish} m [] ≡ []
drop_none zero = refl
drop_none (suc m) = refl

pub drop_sum : (n k : ℕ) (ws : List CheckedWish) → drop (k + n) ws ≡ drop n (drop k ws)
drop_sum n zero ws = let e : 0 + n ≡ n = omega arith in ap (λ m. drop m ws) e
drop_sum n (suc k) [] = drop_none (suc k + n) ∙ sym (drop_none n)
drop_sum n (suc k) (w ∷ ws) = let e : suc k + n ≡ suc (k + n) = omega arith in ap (λ m. drop m (w ∷ ws)) e ∙ drop_sum n k ws
