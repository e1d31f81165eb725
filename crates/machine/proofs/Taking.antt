-- Turns of the harts of a machine, and arming.
use Rattle.std.proofs.Common.{◌≡◌, ℕ, ◌+◌, ◌^◌, ◌<◌, ◌≤◌, List, length, get_or, Some, sym, ap, ◌∙◌, subst, arith}
use Rattle.std.specs.Prelude.{true, IsTrue, map, slice_get, slice_set}
use Rattle.std.specs.Option.{option_map}
use Rattle.std.proofs.lemmas.Option.{slice_get-get_or}
use Rattle.std.proofs.lemmas.List.{length-map}
use Rattle.pn_types.specs.declared.placed.Placed.{Placed}
use Rattle.pn_types.specs.declared.limits.TheConstants.{MAX_HARTS}
use Rattle.rv_word.specs.Exec.{Prog}
use Rattle.tramp_spec.specs.Codes.{fetched_at, is_tool_word}
use Rattle.tramp_spec.specs.Harts.{Hart, Solo, step_of, is_tick}
use Rattle.code_store.specs.Stores.{StoredCode}
use Rattle.machine.specs.Cores.{Row, Core}
use Rattle.machine.specs.Effects.{after_event, armed_in}
use Rattle.machine.specs.Events.{Arm, MayArm, Turn}
use Rattle.machine.specs.Performing.{home_in_store, solo_of}
use Rattle.machine.specs.Places.{program_pc}
use Rattle.machine.specs.Reached.{IsReached}
use Rattle.machine.specs.Turns.{is_runnable, ticks_by, put_back, turn_by}
use Rattle.machine.specs.Views.{AreMachineParts, core_of}
use Rattle.machine.proofs.Lists.{length_slice_set}
use Rattle.machine.proofs.HartPlaces.{stands, home_is, below_budget}
use Rattle.machine.proofs.Reaching.{reaches_more}

-- an element of a list of harts, as the code indexes it
pub element : (xs : List Hart) (h : ℕ) (x : Hart) → h < length xs → x ≡ get_or xs h x → slice_get xs h ≡ Some x
element xs h x l e = slice_get-get_or xs h x l ∙ ap (λ (y : Hart). Some y) (sym e)

module _ (harts : List Hart) (p : Prog) (s : StoredCode) (rows : List Row) (budget : ℕ) (sound : AreMachineParts harts p s rows budget) (h : ℕ) (x : Hart) (ex : slice_get harts h ≡ Some x) where
  abbrev core : Core
  core = core_of harts p s rows budget

  pub placed : x.inside ≡ true → is_tool_word s.program x.pc ≡ true
  placed i = (stands core sound.reached h x ex i).in_tool

  pub at_home : option_map (program_pc s.code rows) (slice_get harts h) ≡ Some (home_in_store s x.pc x.inside)
  at_home = ap (option_map (program_pc s.code rows)) ex ∙ ap (λ n. Some n) (sym (home_is core s.owners sound.reached sound.owners h x ex))

  pub countable : IsTrue (is_runnable core h) → is_tick (fetched_at s.program s.code x.pc x.inside) ≡ true → x.ticks + 1 < 2 ^ 64
  countable may tick = let b = below_budget core sound.reached h x ex may (ap (λ o. ticks_by o core) ex ∙ tick) in let high = sound.countable in omega arith

  module _ (may : IsTrue (is_runnable core h)) (z : Hart) (q : Prog) (turned : solo_of z q ≡ step_of (fetched_at s.program s.code x.pc x.inside) h (home_in_store s x.pc x.inside) (solo_of x p)) where
    pub turned_is : core_of (slice_set harts h z) q s rows budget ≡ after_event core (Turn h)
    turned_is =
        ap (λ (o : Solo). put_back core h o) (turned ∙ ap (λ home. step_of (fetched_at s.program s.code x.pc x.inside) h home (solo_of x p)) (home_is core s.owners sound.reached sound.owners h x ex))
        ∙ sym (ap (λ o. turn_by o core h) ex)

    pub turned_sound : length q.resv ≡ length p.resv → AreMachineParts (slice_set harts h z) q s rows budget
    turned_sound e =
        record {
          reached = subst IsReached (sym turned_is) (reaches_more core (Turn h) sound.reached may);
          owners = sound.owners;
          reservations = e ∙ (sound.reservations ∙ sym (length_slice_set harts h z));
          few = subst (λ n. n ≤ MAX_HARTS) (sym (length_slice_set harts h z)) sound.few;
          countable = sound.countable;
        }

-- arming keeps that the parts fit
pub armed_sound : (harts : List Hart) (p : Prog) (s : StoredCode) (rows : List Row) (budget : ℕ) (i : Placed) → AreMachineParts harts p s rows budget → MayArm (core_of harts p s rows budget) i → AreMachineParts (map (armed_in p.mem i) harts) p s rows budget
armed_sound harts p s rows budget i sound may =
    record {
      reached = reaches_more (core_of harts p s rows budget) (Arm i) sound.reached may;
      owners = sound.owners;
      reservations = sound.reservations ∙ sym (length-map harts (armed_in p.mem i));
      few = subst (λ n. n ≤ MAX_HARTS) (sym (length-map harts (armed_in p.mem i))) sound.few;
      countable = sound.countable;
    }
