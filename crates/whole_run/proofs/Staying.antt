-- After a quantum at whose end no work was done the other harts can go on as before it.
use Rattle.std.proofs.Common.{◌≡◌, ◌∙◌, ℕ, zero, suc, List, [], ◌∷◌, Option, Some, None, refl, ap, ap₂}
use Rattle.std.specs.Prelude.{Bool, true, false, cond, slice_get}
use Rattle.std.proofs.lemmas.Bool.{true≢false}
use Rattle.tramp_spec.specs.Harts.{Hart}
use Rattle.machine.specs.Cores.{Core}
use Rattle.machine.specs.Events.{Event, Turn}
use Rattle.machine.specs.Replays.{replay}
use Rattle.machine.specs.States.{quantum_turns}
use Rattle.machine.specs.Turns.{is_runnable, may_turn, turn, turn_alone, turn_by}
use Rattle.machine.proofs.Lists.{get_set_other}
use Rattle.machine.proofs.Steps.{fixed}
use Rattle.instrument.specs.Books.{freed_point}
use Rattle.instrument.specs.Handing.{event_of, is_barred}
use Rattle.instrument.specs.Placements.{after_first, front}
use Rattle.instrument.specs.Scenes.{Admits, Drops, Hands, Happens, frees, hands, hands_by}
use Rattle.instrument.specs.declared.entry.Entry.{Entry}
use Rattle.instrumented.specs.Instrumented.{Instrumented, after_act, in_scene, repeated, scene_of, after_turns}
use Rattle.instrumented.proofs.Acts.{done_is}
use Rattle.instrumented.proofs.Harts.{hands_same}
use Rattle.session_spec.specs.Inputs.{Inputs}
use Rattle.session_spec.specs.Searches.{rules_of}
use Rattle.session_spec.specs.States.{SessionState, State}
use Rattle.session_spec.specs.Admission.{with_admission}
use Rattle.session_spec.specs.Turns.{handed_at_once, with_entries, with_hart}
use Rattle.session_spec.specs.Due.{with_next}
use Rattle.session_spec.specs.Work.{is_due, state_admitted, state_done, state_handed, state_quiet, state_turned, state_worked, after_quantum}
use Rattle.session_spec.proofs.AdmittingSteps.{Keeps, admission_kept}

-- ---- an admission leaves the machine as it is

module _ (i : Inputs) (c : Core) where
  abbrev Has : SessionState → Type 0
  Has k = k.machine.core ≡ c

  has_keeps : Keeps i Has
  has_keeps = record {
    beside = λ k j b e. ap (λ (m : Instrumented). m.core) b.machine ∙ e;
    drops = λ k n e. ap (λ (d : Instrumented). d.core) (done_is (Drops n) k.machine) ∙ e;
    wished = λ k plan w placer is a e. ap (λ (d : Instrumented). d.core) (done_is (Admits plan None) k.machine) ∙ e;
    barred = λ k n node cause s w by e. e;
    tested = λ k n node plan placer s w p m a e. ap (λ (d : Instrumented). d.core) (done_is (Admits plan (Some (rules_of i).decl.cost)) k.machine) ∙ e;
  }

admission_same : (i : Inputs) (k : SessionState) → (with_admission i k).machine.core ≡ k.machine.core
admission_same i k = admission_kept i (Has i k.machine.core) (has_keeps i k.machine.core) k refl

-- ---- an entry of the agenda leaves the harts and the budget as they are

hands_budget : (m : Instrumented) → (after_act Hands m).core.budget ≡ m.core.budget
hands_budget m = ap (λ (d : Instrumented). d.core.budget) (done_is Hands m) ∙ by (front m.placer)
  where
    freed : (b : Bool) (p : ℕ) → (in_scene (frees b p (after_first m.placer) (scene_of m)).scene).core.budget ≡ m.core.budget
    freed true p = refl
    freed false p = refl

    by_point : (o : Option ℕ) (e : Entry) → (in_scene (hands_by o e (scene_of m)).scene).core.budget ≡ m.core.budget
    by_point None e = (fixed m.core (event_of m.core e)).1
    by_point (Some p) e = freed (is_barred m.core p) p

    by : (o : Option Entry) → (in_scene (hands o (scene_of m)).scene).core.budget ≡ m.core.budget
    by None = refl
    by (Some e) = by_point (freed_point e) e

module _ (j : ℕ) where
  entries_same : (n : ℕ) (m : Instrumented) → is_runnable (repeated n Hands m).core j ≡ is_runnable m.core j
  entries_same zero m = refl
  entries_same (suc n) m = entries_same n (after_act Hands m) ∙ ap₂ (λ (xs : List Hart) (b : ℕ). may_turn (slice_get xs j) b) (hands_same m) (hands_budget m)

  -- ---- turns are another hart's

  turn_same : (o : Option Hart) (c : Core) (h : ℕ) → (j ≡ h → ⊥) → is_runnable (turn_by o c h) j ≡ is_runnable c j
  turn_same None c h other = refl
  turn_same (Some x) c h other = ap (λ o. may_turn o c.budget) (get_set_other c.harts h j (turn_alone c h x).hart other)

  turns_same : (n h : ℕ) (c : Core) → (j ≡ h → ⊥) → is_runnable (replay (quantum_turns n h c) c) j ≡ is_runnable c j
  turns_same zero h c other = refl
  turns_same (suc n) h c other = by (is_runnable c h) (turns_same n h (turn c h) other)
    where
      by : (b : Bool) → is_runnable (replay (quantum_turns n h (turn c h)) (turn c h)) j ≡ is_runnable (turn c h) j
          → is_runnable (replay (cond b (Turn h ∷ quantum_turns n h (turn c h)) []) c) j ≡ is_runnable c j
      by true rest = rest ∙ turn_same (slice_get c.harts h) c h other
      by false rest = refl

  taken_core : (turns : List Event) (m : Instrumented) → (after_turns turns m).core ≡ replay turns m.core
  taken_core [] m = refl
  taken_core (e ∷ turns) m = taken_core turns (after_act (Happens e) m) ∙ ap (λ (d : Instrumented). replay turns d.core) (done_is (Happens e) m)

  -- ---- a quantum

  hart_same : (n h : ℕ) (k : SessionState) → (j ≡ h → ⊥) → is_runnable (with_hart h n k).machine.core j ≡ is_runnable k.machine.core j
  unfolding with_hart
  hart_same n h k other = let turns = quantum_turns n h k.machine.core in ap (λ c. is_runnable c j) (taken_core turns k.machine) ∙ turns_same n h k.machine.core other

  handed_same : (k : SessionState) → is_runnable (with_entries k).machine.core j ≡ is_runnable k.machine.core j
  unfolding with_entries
  handed_same k = entries_same handed_at_once k.machine

-- due work leaves it told
no_work : (i : Inputs) (s : State) → (state_worked i s).kept.worked ≡ false → state_worked i s ≡ s
unfolding with_next
no_work i s idle = by (is_due s.kept) idle
  where
    by : (b : Bool) → (cond b (state_done i (state_quiet s)) s).kept.worked ≡ false → cond b (state_done i (state_quiet s)) s ≡ s
    by true idle = absurd (true≢false idle)
    by false idle = refl

-- Where no work was done at the end of a quantum, each other hart can take one exactly where it could before.
pub others_stay : (i : Inputs) (h n j : ℕ) (s : State) → (j ≡ h → ⊥) → (after_quantum i h n s).kept.worked ≡ false → is_runnable (after_quantum i h n s).kept.machine.core j ≡ is_runnable s.kept.machine.core j
unfolding after_quantum
others_stay i h n j s other idle =
    let admitted = state_admitted i s in
    let turned = state_turned h n admitted in
    ap (λ (x : State). is_runnable x.kept.machine.core j) (no_work i (state_handed turned) idle)
    ∙ (handed_same j turned.kept ∙ (hart_same j n h admitted.kept other ∙ ap (λ c. is_runnable c j) (admission_same i s.kept)))
