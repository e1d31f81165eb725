-- Laws of the placer beside the machine, for the law functions of this crate.
use Rattle.std.specs.Prelude.{◌≡◌, ℕ, Some, List, [], ◌∷◌, slice_get}
use Rattle.pn_types.specs.declared.image.Image.{Image}
use Rattle.pn_types.specs.declared.placed.PlacedSite.{PlacedSite}
use Rattle.pn_types.specs.declared.plan.Plan.{Plan}
use Rattle.tramp_spec.specs.Slots.{places_of, ArePlaces, ShareNone}
use Rattle.machine.specs.Cores.{In, start_core}
use Rattle.machine.specs.Events.{Apart, AreLinked}
use Rattle.machine.specs.Instruments.{Carries, InForce}
use Rattle.machine.specs.Laws.{IsProgram}
use Rattle.machine.specs.Replays.{replay, Legal}
use Rattle.instrument.specs.Placements.{Placements}
use Rattle.instrument.specs.declared.instrument.Instrument.{Instrument}
use Rattle.instrument.specs.Scenes.{Act, first_scene, AllCanDo, events_of, scene_after}
use Rattle.instrument.specs.declared.entry.Entry.{Entry}
use Rattle.instrument.specs.declared.entry.Entry.TheVariants.{WriteBase, WriteMini, LinkMini, LinkPoint, UnlinkMini, UnlinkPoint, Free}
use Rattle.instrument.specs.declared.number.State.TheVariants.{Placing, Armed}
use Rattle.instrument.specs.declared.room.Room.{Room}

-- ---- what holds after all acts

-- no two rooms share a word, and each has words
abbrev pub AreApart : List Room → Type 0
AreApart [] = Unit {0}
AreApart (x ∷ rooms) = ((y : Room) → In y rooms → Apart x.at x.len y.at y.len) × AreApart rooms

-- no two instruments share a slot
pub record SlotsApart (p : Placements) : Type 0 where
  pub own : (i : Instrument) → In i p.instruments → ArePlaces (places_of i.placed)
  pub others : (i j : Instrument)
      → In i p.instruments → In j p.instruments → (i.no ≡ j.no → ⊥) → ShareNone (places_of i.placed) (places_of j.placed)

-- the entry isn't one of the placing of a site
abbrev pub IsNoPlacing : PlacedSite → Entry → Type 0
IsNoPlacing s (WriteBase b) = b.point ≡ s.at → ⊥
IsNoPlacing s (WriteMini b) = b.at ≡ s.mini → ⊥
IsNoPlacing s (LinkMini p m) = m ≡ s.mini → ⊥
IsNoPlacing s (LinkPoint p m) = p ≡ s.at → ⊥
IsNoPlacing s (UnlinkMini p m) = Unit {0}
IsNoPlacing s (UnlinkPoint p m) = Unit {0}
IsNoPlacing s (Free p) = Unit {0}

-- all entries of the placing of its sites were handed out
abbrev pub ArePlacingsDone : Placements → Instrument → Type 0
ArePlacingsDone p i = (s : PlacedSite) → In s i.placed.sites → (e : Entry) → In e p.book.agenda → IsNoPlacing s e

-- ---- laws: after all acts each of which could be done when its turn came

abbrev pub Always : (Image → ℕ → ℕ → ℕ → List Act → Type 0) → Type 0
Always Law = (image : Image) (harts budget limit : ℕ) (acts : List Act)
    → IsProgram image → AllCanDo acts (first_scene image harts budget limit) → Law image harts budget limit acts

-- each event that was done could happen when it came, and the machine is what the events make of it
pub record AreLegalActs (image : Image) (harts budget limit : ℕ) (acts : List Act) : Type 0 where
  pub legal : Legal (events_of acts (first_scene image harts budget limit)) (start_core image harts budget)
  pub core : (scene_after acts (first_scene image harts budget limit)).core
      ≡ replay (events_of acts (first_scene image harts budget limit)) (start_core image harts budget)

-- rooms, and the slots of the instruments that aren't gone, are apart
pub record IsApart (image : Image) (harts budget limit : ℕ) (acts : List Act) : Type 0 where
  pub rooms : AreApart (scene_after acts (first_scene image harts budget limit)).placer.book.rooms
  pub slots : SlotsApart (scene_after acts (first_scene image harts budget limit)).placer

-- an instrument that can be armed has all entries of its placing handed out
pub record IsPlacedWhenLinked (image : Image) (harts budget limit : ℕ) (acts : List Act) : Type 0 where
  pub placed : (i : Instrument) → In i (scene_after acts (first_scene image harts budget limit)).placer.instruments → i.state ≡ Placing
      → AreLinked (scene_after acts (first_scene image harts budget limit)).core i.placed.sites
      → ArePlacingsDone (scene_after acts (first_scene image harts budget limit)).placer i

-- an instrument that is armed is linked, carries its plan, and is in force since its arming
pub record StaysInForce (image : Image) (harts budget limit : ℕ) (acts : List Act) : Type 0 where
  pub linked : (i : Instrument) → In i (scene_after acts (first_scene image harts budget limit)).placer.instruments
      → i.state ≡ Armed → AreLinked (scene_after acts (first_scene image harts budget limit)).core i.placed.sites
  pub force : (i : Instrument) → In i (scene_after acts (first_scene image harts budget limit)).placer.instruments → i.state ≡ Armed
      → InForce i.placed (events_of acts (first_scene image harts budget limit)) (start_core image harts budget)
  pub carries : (i : Instrument) → In i (scene_after acts (first_scene image harts budget limit)).placer.instruments → i.state ≡ Armed
      → (plan : Plan) × (slice_get (scene_after acts (first_scene image harts budget limit)).plans i.no ≡ Some plan)
      × Carries (scene_after acts (first_scene image harts budget limit)).core i.placed plan
