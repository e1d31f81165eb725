-- An instrument is armed where all its sites are linked.
use Rattle.std.proofs.Common.{◌≡◌, ℕ, Option, Some, None, refl, sym, ap, ◌∙◌, subst, arith}
use Rattle.std.specs.Prelude.{Bool, true, false, IsTrue, ◌↔◌, ◌==◌}
use Rattle.std.specs.List.{list_all}
use Rattle.std.specs.Option.{option_map}
use Rattle.std.proofs.lemmas.Bool.{eqb-true}
use Rattle.pn_types.specs.declared.placed.Placed.{Placed}
use Rattle.machine.specs.Cores.{In}
use Rattle.machine.specs.Effects.{after_event}
use Rattle.machine.specs.Events as events
use Rattle.machine.specs.Events.{IsQuiet, MayArm}
use Rattle.machine.specs.LinkedSites.{is_site_linked}
use Rattle.machine.specs.States.{Machine, with_core}
use Rattle.machine.proofs.LinkedSites.{sites_linked}
use Rattle.machine.proofs.Lists.{find_gives}
use Rattle.instrument.specs.Laws.{ArePlacingsDone}
use Rattle.instrument.specs.Placements.{Placements, with_armed, instrument_at, state_in, state_of}
use Rattle.instrument.specs.Placers.{PlacerData}
use Rattle.instrument.specs.Scenes.{Arms, CanArm, arms}
use Rattle.instrument.specs.declared.instrument.Instrument.{Instrument}
use Rattle.instrument.specs.declared.number.State.TheVariants.{Placing}
use Rattle.instrument.proofs.Lawful.{placed_always}
use Rattle.instrumented.specs.Data.{AreReached, state_of as both}
use Rattle.instrumented.specs.Instrumented.{Instrumented, after_act, in_scene, is_linked, is_linked_now, scene_of}
use Rattle.instrumented.specs.Reached.{IsReachedByActs}
use Rattle.instrumented.proofs.Acts.{done_is}
use Rattle.instrumented.proofs.Kept.{Behind, behind}
use Rattle.instrumented.proofs.Turns.{machine_reached}
use Rattle.instrumented.specs.Doing.{writes_in}
use Rattle.instrument.specs.Needs.{sites_in}

-- the instrument of a number that is being placed
pub record At (p : Placements) (n : ℕ) : Type 0 where
  pub instrument : Instrument
  pub is : instrument_at p n ≡ Some instrument
  pub placing : instrument.state ≡ Placing

pub placing_at : (p : Placements) (n : ℕ) → state_of p n ≡ Placing → At p n
placing_at p n e = by (instrument_at p n) refl e
  where
    by : (o : Option Instrument) → instrument_at p n ≡ o → state_in o ≡ Placing → At p n
    by None q e = absurd cc
    by (Some i) q e = record { instrument = i; is = q; placing = e }

pub placed_is : (o : Option Instrument) (i : Instrument) (x : Placed) → o ≡ Some i → option_map (λ (i : Instrument). i.placed) o ≡ Some x → i.placed ≡ x
placed_is o i x e q = let z : Some i.placed ≡ Some x = sym (ap (option_map (λ (i : Instrument). i.placed)) e) ∙ q in cc

module _ (m : Instrumented) (r : IsReachedByActs m) (n : ℕ) (a : At m.placer n) where
  linked_is : is_linked m n ≡ list_all (is_site_linked m.core) (a.instrument).placed.sites
  linked_is = ap (is_linked_now m.core) a.is

  -- it may be armed exactly where it is linked
  pub arms_linked : (b : Bool) → IsQuiet m.core → (IsTrue b ↔ MayArm m.core (a.instrument).placed) → b ≡ is_linked m n
  arms_linked true quiet may = sym (linked_is ∙ (sites_linked m.core (machine_reached m r) (a.instrument).placed.sites).1 (may.0 refl).linked)
  arms_linked false quiet may = by (is_linked m n) refl
    where
      by : (l : Bool) → is_linked m n ≡ l → false ≡ l
      by false e = refl
      by true e =
          let k = (sites_linked m.core (machine_reached m r) (a.instrument).placed.sites).0 (sym linked_is ∙ e) in
          may.1 (record { quiet = quiet; linked = k })

  pub can_arm : IsQuiet m.core → is_linked m n ≡ true → CanArm n (scene_of m)
  can_arm quiet e = record {
    instrument = a.instrument;
    is = a.is;
    placing = a.placing;
    may = record { quiet = quiet; linked = (sites_linked m.core (machine_reached m r) (a.instrument).placed.sites).0 (sym linked_is ∙ e) };
  }

  listed : In a.instrument m.placer.instruments
  listed = (find_gives (λ (i : Instrument). i.no == n) m.placer.instruments a.instrument a.is).0

  number : (a.instrument).no ≡ n
  number = eqb-true (a.instrument).no n (find_gives (λ (i : Instrument). i.no == n) m.placer.instruments a.instrument a.is).1

  -- then all of its placing was handed out
  pub is_placed : MayArm m.core (a.instrument).placed → ArePlacingsDone m.placer a.instrument
  is_placed may =
      let w = placed_always r.image r.harts r.budget r.limit r.acts r.program r.leads.can in
      let at = r.leads.scene in
      subst (λ s. In a.instrument s.placer.instruments → ArePlacingsDone s.placer a.instrument) at
      (λ h. w.placed a.instrument h a.placing (subst (λ s. (z : _) → In z (a.instrument).placed.sites → events.IsLinked s.core z) (sym at) may.linked)) listed

  pub armed_is : after_act (Arms n) m ≡ record { core = after_event m.core (events.Arm (a.instrument).placed); placer = with_armed n m.placer }
  armed_is =
      done_is (Arms n) m ∙ (ap (λ o. in_scene (arms o (scene_of m)).scene) a.is
      ∙ ap (λ k. record { core = after_event m.core (events.Arm (a.instrument).placed); placer = with_armed k m.placer }) number)

-- what arming keeps
pub armed_kept : (m k : Machine) (p q : PlacerData) (n : ℕ) (a : At p.placements n) → AreReached m p → MayArm m.core (a.instrument).placed
    → k ≡ with_core m (after_event m.core (events.Arm (a.instrument).placed)) → q.placements ≡ with_armed n p.placements → q.ready ≡ p.ready → Behind (Arms n) m k p q
armed_kept m k p q n a s may is e ready =
    let few = ap sites_in ready in
    let w = ap (λ (x : Placements). writes_in x.book.agenda) e in
    let left = ap (λ (x : Machine). x.room) is in
    let room = s.room in
    behind (Arms n) m k p q s (record { instrument = a.instrument; is = a.is; placing = a.placing; may = may })
    (ap (λ (x : Machine). record { core = x.core; placer = q.placements }) is
    ∙ (ap (λ (x : Placements). record { core = after_event m.core (events.Arm (a.instrument).placed); placer = x }) e
    ∙ sym (armed_is (both m p) s.reached n a))) (omega arith)
