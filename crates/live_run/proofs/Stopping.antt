-- A hart that isn't runnable stays not runnable, whatever becomes of the machine.
use Rattle.std.proofs.Common.{◌≡◌, ℕ, zero, suc, ◌+◌, List, [], ◌∷◌, Option, Some, None, refl, sym, ap, ◌∙◌, subst, length}
use Rattle.std.specs.Prelude.{Bool, true, false, cond, map, slice_get}
use Rattle.std.proofs.lemmas.Bool.{true≢false}
use Rattle.std.specs.Option.{option_map}
use Rattle.pn_types.specs.declared.placed.Placed.{Placed}
use Rattle.rv_word.specs.Plain.{program_word}
use Rattle.tramp_spec.specs.Harts.{Hart}
use Rattle.machine.specs.Cores.{Core, Row}
use Rattle.machine.specs.Effects.{after_event, armed_hart, mini_linked, mini_unlinked, point_linked, point_unlinked}
use Rattle.machine.specs.Events as events
use Rattle.machine.specs.Events.{Event, Turn, before, current_base, row_at}
use Rattle.machine.specs.Leaving.{is_out}
use Rattle.machine.specs.Replays.{replay}
use Rattle.machine.specs.States.{leaving, quantum_turns, settling, settling_from, words_in}
use Rattle.machine.specs.Turns.{is_runnable, may_turn, turn, turn_alone, turn_by}
use Rattle.machine.proofs.Lists.{get_set_other}
use Rattle.machine.proofs.Replaying.{replay-append}
use Rattle.machine.proofs.Settled.{not_out_runs}
use Rattle.instrument.specs.Books.{freed_point}
use Rattle.instrument.specs.Handing.{event_of, is_barred}
use Rattle.instrument.specs.Placements.{Placements, after_first, free_behind, free_front, front, instrument_at}
use Rattle.instrument.specs.Scenes.{Act, Arms, Happens, Hands, Sweeps, arms, frees, hands, hands_by, sweeps}
use Rattle.instrument.specs.declared.entry.Entry.{Entry}
use Rattle.instrument.specs.declared.entry.Entry.TheVariants.{Free, LinkMini, LinkPoint, UnlinkMini, UnlinkPoint, WriteBase, WriteMini}
use Rattle.instrument.specs.declared.instrument.Instrument.{Instrument}
use Rattle.instrumented.specs.Instrumented.{Instrumented, after_act, in_scene, repeated, scene_of, after_turns}
use Rattle.instrumented.proofs.Acts.{done_is}

module _ (h : ℕ) where
  abbrev pub IsStopped : Core → Type 0
  IsStopped c = is_runnable c h ≡ false

  -- ---- turns

  turn_of_other : (o : Option Hart) (c : Core) (g : ℕ) → (h ≡ g → ⊥) → is_runnable (turn_by o c g) h ≡ is_runnable c h
  turn_of_other None c g other = refl
  turn_of_other (Some x) c g other = ap (λ o. may_turn o c.budget) (get_set_other c.harts g h (turn_alone c g x).hart other)

  -- a turn is another hart's
  turn_stops : (c : Core) (g : ℕ) → is_runnable c g ≡ true → IsStopped c → IsStopped (turn c g)
  turn_stops c g runs e = turn_of_other (slice_get c.harts g) c g (λ same. true≢false (sym runs ∙ (ap (is_runnable c) (sym same) ∙ e))) ∙ e

  quantum_stops : (n g : ℕ) (c : Core) → IsStopped c → IsStopped (replay (quantum_turns n g c) c)
  quantum_stops zero g c e = e
  quantum_stops (suc n) g c e = by (is_runnable c g) refl (quantum_stops n g (turn c g))
    where
      by : (b : Bool) → is_runnable c g ≡ b → (IsStopped (turn c g) → IsStopped (replay (quantum_turns n g (turn c g)) (turn c g)))
          → IsStopped (replay (cond b (Turn g ∷ quantum_turns n g (turn c g)) []) c)
      by true runs rest = rest (turn_stops c g runs e)
      by false runs rest = e

  leaving_stops : (n g : ℕ) (c : Core) → IsStopped c → IsStopped (replay (leaving n g c) c)
  leaving_stops zero g c e = e
  leaving_stops (suc n) g c e = by (is_out c g) refl (leaving_stops n g (turn c g))
    where
      by : (b : Bool) → is_out c g ≡ b → (IsStopped (turn c g) → IsStopped (replay (leaving n g (turn c g)) (turn c g)))
          → IsStopped (replay (cond b [] (Turn g ∷ leaving n g (turn c g))) c)
      by true out rest = e
      by false out rest = rest (turn_stops c g (not_out_runs c g out) e)

  settling_stops : (more g : ℕ) (c : Core) → IsStopped c → IsStopped (replay (settling_from more g c) c)
  settling_stops zero g c e = e
  settling_stops (suc more) g c e =
      let turns = leaving (words_in c.rows) g c in
      subst IsStopped (sym (replay-append turns (settling_from more (g + 1) (replay turns c)) c)) (settling_stops more (g + 1) (replay turns c) (leaving_stops (words_in c.rows) g c e))

  -- ---- the machine with its instruments

  taken_core : (turns : List Event) (m : Instrumented) → (after_turns turns m).core ≡ replay turns m.core
  taken_core [] m = refl
  taken_core (e ∷ turns) m = taken_core turns (after_act (Happens e) m) ∙ ap (λ (d : Instrumented). replay turns d.core) (done_is (Happens e) m)

  pub quantum_taken : (n g : ℕ) (m : Instrumented) → IsStopped m.core → IsStopped (after_turns (quantum_turns n g m.core) m).core
  quantum_taken n g m e = subst IsStopped (sym (taken_core (quantum_turns n g m.core) m)) (quantum_stops n g m.core e)

  pub settling_taken : (m : Instrumented) → IsStopped m.core → IsStopped (after_turns (settling m.core) m).core
  settling_taken m e = subst IsStopped (sym (taken_core (settling m.core) m)) (settling_stops (length m.core.harts) 0 m.core e)

  -- ---- what is no turn

  mini_linked_same : (o : Option Row) (m : ℕ) (c : Core) → is_runnable (mini_linked o m c) h ≡ is_runnable c h
  mini_linked_same None m c = refl
  mini_linked_same (Some r) m c = refl

  mini_unlinked_same : (o p : Option Row) (m : ℕ) (c : Core) → is_runnable (mini_unlinked o p m c) h ≡ is_runnable c h
  mini_unlinked_same None p m c = refl
  mini_unlinked_same (Some r) None m c = refl
  mini_unlinked_same (Some r) (Some q) m c = refl

  point_linked_same : (o : Option Row) (p : ℕ) (c : Core) → is_runnable (point_linked o p c) h ≡ is_runnable c h
  point_linked_same None p c = refl
  point_linked_same (Some r) p c = refl

  point_unlinked_same : (o : Option ℕ) (p : ℕ) (c : Core) → is_runnable (point_unlinked o p c) h ≡ is_runnable c h
  point_unlinked_same None p c = refl
  point_unlinked_same (Some w) p c = refl

  entry_same : (e : Entry) (c : Core) → is_runnable (after_event c (event_of c e)) h ≡ is_runnable c h
  entry_same (WriteBase b) c = refl
  entry_same (WriteMini b) c = refl
  entry_same (LinkMini p m) c = mini_linked_same (current_base c.rows p) m c
  entry_same (LinkPoint p m) c = point_linked_same (current_base c.rows p) p c
  entry_same (UnlinkMini p m) c = mini_unlinked_same (before c m) (row_at c.rows m) m c
  entry_same (UnlinkPoint p m) c = point_unlinked_same (program_word c.program p) p c
  entry_same (Free p) c = refl

  frees_same : (b : Bool) (p : ℕ) (q : Placements) (m : Instrumented) → is_runnable (in_scene (frees b p q (scene_of m)).scene).core h ≡ is_runnable m.core h
  frees_same true p q m = refl
  frees_same false p q m = refl

  hands_same : (m : Instrumented) → is_runnable (after_act Hands m).core h ≡ is_runnable m.core h
  hands_same m = ap (λ (d : Instrumented). is_runnable d.core h) (done_is Hands m) ∙ by (front m.placer)
    where
      by_point : (o : Option ℕ) (e : Entry) → is_runnable (in_scene (hands_by o e (scene_of m)).scene).core h ≡ is_runnable m.core h
      by_point None e = entry_same e m.core
      by_point (Some p) e = frees_same (is_barred m.core p) p (after_first m.placer) m

      by : (o : Option Entry) → is_runnable (in_scene (hands o (scene_of m)).scene).core h ≡ is_runnable m.core h
      by None = refl
      by (Some e) = by_point (freed_point e) e

  sweeps_same : (m : Instrumented) → is_runnable (after_act Sweeps m).core h ≡ is_runnable m.core h
  sweeps_same m = ap (λ (d : Instrumented). is_runnable d.core h) (done_is Sweeps m) ∙ by (free_front m.placer)
    where
      by : (o : Option ℕ) → is_runnable (in_scene (sweeps o (free_behind m.placer) (scene_of m)).scene).core h ≡ is_runnable m.core h
      by None = refl
      by (Some p) = frees_same false p (free_behind m.placer) m

  pub repeated_same : (n : ℕ) (a : Act) (m : Instrumented) → ((d : Instrumented) → is_runnable (after_act a d).core h ≡ is_runnable d.core h) → is_runnable (repeated n a m).core h ≡ is_runnable m.core h
  repeated_same zero a m same = refl
  repeated_same (suc n) a m same = repeated_same n a (after_act a m) same ∙ same m

  pub hands_all_same : (n : ℕ) (m : Instrumented) → is_runnable (repeated n Hands m).core h ≡ is_runnable m.core h
  hands_all_same n m = repeated_same n Hands m hands_same

  pub sweeps_all_same : (n : ℕ) (m : Instrumented) → is_runnable (repeated n Sweeps m).core h ≡ is_runnable m.core h
  sweeps_all_same n m = repeated_same n Sweeps m sweeps_same

  -- slots are set, and nothing else of a hart
  hart_armed : (c : Core) (i : Placed) (o : Option Hart) (budget : ℕ) → may_turn (option_map (armed_hart c i) o) budget ≡ may_turn o budget
  hart_armed c i None budget = refl
  hart_armed c i (Some x) budget = refl

  get_mapped : (f : Hart → Hart) (xs : List Hart) (n : ℕ) → slice_get (map f xs) n ≡ option_map f (slice_get xs n)
  get_mapped f [] n = refl
  get_mapped f (x ∷ xs) zero = refl
  get_mapped f (x ∷ xs) (suc n) = get_mapped f xs n

  arm_same : (i : Placed) (c : Core) → is_runnable (after_event c (events.Arm i)) h ≡ is_runnable c h
  arm_same i c = ap (λ o. may_turn o c.budget) (get_mapped (armed_hart c i) c.harts h) ∙ hart_armed c i (slice_get c.harts h) c.budget

  pub arms_same : (n : ℕ) (m : Instrumented) → is_runnable (after_act (Arms n) m).core h ≡ is_runnable m.core h
  arms_same n m = ap (λ (d : Instrumented). is_runnable d.core h) (done_is (Arms n) m) ∙ by (instrument_at m.placer n)
    where
      by : (o : Option Instrument) → is_runnable (in_scene (arms o (scene_of m)).scene).core h ≡ is_runnable m.core h
      by None = refl
      by (Some i) = arm_same i.placed m.core
