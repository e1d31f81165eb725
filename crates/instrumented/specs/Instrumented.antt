-- A patched machine with the instruments in it, and what each act makes of it.
use Rattle.std.specs.Prelude.{ℕ, zero, suc, Bool, false, Option, Some, None, List, [], ◌∷◌, map}
use Rattle.std.specs.List.{list_all}
use Rattle.pn_types.specs.declared.image.Image.{Image}
use Rattle.pn_types.specs.declared.plan.Plan.{Plan}
use Rattle.machine.specs.Cores.{Core, start_core}
use Rattle.machine.specs.Events.{Event}
use Rattle.machine.specs.LinkedSites.{is_site_linked}
use Rattle.instrument.specs.Placements.{Placements, instrument_at, no_placements}
use Rattle.instrument.specs.Scenes.{Act, Happens, InstrumentScene, does}
use Rattle.instrument.specs.declared.instrument.Instrument.{Instrument}

-- the machine's state, and where its instruments are
pub record Instrumented : Type 0 where
  pub core : Core
  pub placer : Placements

-- An image that starts on a number of harts, with no instrument. `limit` instruments may be there at once.
abbrev pub first_instrumented : Image → ℕ → ℕ → ℕ → Instrumented
first_instrumented image harts budget limit = record { core = start_core image harts budget; placer = no_placements image limit }

-- ---- acts

-- the scene with these plans of the instruments that were admitted
abbrev pub scene_with : List Plan → Instrumented → InstrumentScene
scene_with plans m = record { core = m.core; placer = m.placer; plans = plans }

-- no act needs the plans that were admitted before
abbrev pub scene_of : Instrumented → InstrumentScene
scene_of m = scene_with [] m

abbrev pub in_scene : InstrumentScene → Instrumented
in_scene s = record { core = s.core; placer = s.placer }

-- The machine and its instruments after an act.
unfoldable pub after_act : Act → Instrumented → Instrumented
after_act a m = in_scene (does a (scene_of m)).scene

abbrev pub all_done : List Act → Instrumented → Instrumented
all_done [] m = m
all_done (a ∷ acts) m = all_done acts (after_act a m)

-- these turns of harts happen, one after another
abbrev pub after_turns : List Event → Instrumented → Instrumented
after_turns turns m = all_done (map Happens turns) m

-- the same act, a number of times
abbrev pub repeated : ℕ → Act → Instrumented → Instrumented
repeated zero a m = m
repeated (suc n) a m = repeated n a (after_act a m)

-- ---- sites

abbrev pub is_linked_now : Core → Option Instrument → Bool
is_linked_now c None = false
is_linked_now c (Some i) = list_all (is_site_linked c) i.placed.sites

-- All sites of the instrument of a number are linked.
abbrev pub is_linked : Instrumented → ℕ → Bool
is_linked m n = is_linked_now m.core (instrument_at m.placer n)
