-- What no entry of the agenda and no arming changes of the harts.
use Rattle.std.proofs.Common.{◌≡◌, ℕ, List, [], ◌∷◌, Option, Some, None, refl, ap, ◌∙◌}
use Rattle.std.specs.Prelude.{Bool, true, false, cond, find, map, ◌==◌}
use Rattle.std.proofs.lemmas.Bool.{cond-true}
use Rattle.rv_word.specs.Plain.{program_word}
use Rattle.pn_types.specs.declared.placed.Placed.{Placed}
use Rattle.tramp_spec.specs.Harts.{Hart}
use Rattle.machine.specs.Cores.{Core, Row}
use Rattle.machine.specs.Effects.{after_event, armed_hart, mini_linked, mini_unlinked, point_linked, point_unlinked}
use Rattle.machine.specs.Events as events
use Rattle.machine.specs.Events.{IsQuiet, before, current_base, row_at}
use Rattle.machine.proofs.Arming.{get_map}
use Rattle.machine.proofs.Lists.{find_gives}
use Rattle.instrument.specs.Books.{freed_point}
use Rattle.instrument.specs.Handing.{event_of, is_barred}
use Rattle.instrument.specs.Placements as placements
use Rattle.instrument.specs.Placements.{Placements, after_first, front, instrument_at, state_in, state_of, with_state}
use Rattle.instrument.specs.Scenes.{Hands, frees, hands, hands_by}
use Rattle.instrument.specs.declared.entry.Entry.{Entry}
use Rattle.instrument.specs.declared.entry.Entry.TheVariants.{WriteBase, WriteMini, LinkMini, LinkPoint, UnlinkMini, UnlinkPoint, Free}
use Rattle.instrument.specs.declared.event.Event.{Event}
use Rattle.instrument.specs.declared.event.Event.TheVariants as seen
use Rattle.instrument.specs.declared.instrument.Instrument.{Instrument}
use Rattle.instrument.specs.declared.number.State.TheVariants.{Armed}
use Rattle.instrumented.specs.Doing.{freed_core, handed_core}
use Rattle.instrumented.specs.Instrumented.{Instrumented, after_act, in_scene, scene_of}
use Rattle.instrumented.proofs.Acts.{done_is}

-- ---- entries of the agenda

mini_same : (o : Option Row) (m : ℕ) (c : Core) → (mini_linked o m c).harts ≡ c.harts
mini_same None m c = refl
mini_same (Some r) m c = refl

unlinked_same : (o p : Option Row) (m : ℕ) (c : Core) → (mini_unlinked o p m c).harts ≡ c.harts
unlinked_same None p m c = refl
unlinked_same (Some r) None m c = refl
unlinked_same (Some r) (Some q) m c = refl

point_same : (o : Option Row) (p : ℕ) (c : Core) → (point_linked o p c).harts ≡ c.harts
point_same None p c = refl
point_same (Some r) p c = refl

own_same : (o : Option ℕ) (p : ℕ) (c : Core) → (point_unlinked o p c).harts ≡ c.harts
own_same None p c = refl
own_same (Some w) p c = refl

entry_same : (e : Entry) (c : Core) → (after_event c (event_of c e)).harts ≡ c.harts
entry_same (WriteBase b) c = refl
entry_same (WriteMini b) c = refl
entry_same (LinkMini p m) c = mini_same (current_base c.rows p) m c
entry_same (LinkPoint p m) c = point_same (current_base c.rows p) p c
entry_same (UnlinkMini p m) c = unlinked_same (before c m) (row_at c.rows m) m c
entry_same (UnlinkPoint p m) c = own_same (program_word c.program p) p c
entry_same (Free p) c = refl

pub hands_same : (m : Instrumented) → (after_act Hands m).core.harts ≡ m.core.harts
hands_same m = ap (λ (d : Instrumented). d.core.harts) (done_is Hands m) ∙ by (front m.placer)
  where
    by_point : (o : Option ℕ) (e : Entry) → (in_scene (hands_by o e (scene_of m)).scene).core.harts ≡ m.core.harts
    by_point None e = entry_same e m.core
    by_point (Some p) e = free (is_barred m.core p)
      where
        free : (b : Bool) → (in_scene (frees b p (after_first m.placer) (scene_of m)).scene).core.harts ≡ m.core.harts
        free true = refl
        free false = refl

    by : (o : Option Entry) → (in_scene (hands o (scene_of m)).scene).core.harts ≡ m.core.harts
    by None = refl
    by (Some e) = by_point (freed_point e) e

freed_same : (b : Bool) (p : ℕ) (c : Core) → (freed_core b p c).harts ≡ c.harts
freed_same true p c = refl
freed_same false p c = refl

pub handed_same : (e : Event) (c : Core) → (handed_core c e).harts ≡ c.harts
handed_same (seen.WriteBase b) c = refl
handed_same (seen.WriteMini b) c = refl
handed_same (seen.LinkMini p m) c = mini_same (current_base c.rows p) m c
handed_same (seen.LinkPoint p) c = point_same (current_base c.rows p) p c
handed_same (seen.UnlinkMini p m) c = unlinked_same (before c m) (row_at c.rows m) m c
handed_same (seen.UnlinkPoint p) c = own_same (program_word c.program p) p c
handed_same (seen.Free p) c = freed_same (is_barred c p) p c

-- ---- an arming

pub quiet_armed : (i : Placed) (c : Core) → IsQuiet c → IsQuiet (after_event c (events.Arm i))
quiet_armed i c q h y e = let k = get_map (armed_hart c i) c.harts h y e in ap (λ (z : Hart). z.inside) k.2 ∙ q h k.0 k.1

found_armed : (n : ℕ) (is : List Instrument) (i : Instrument) → find (λ (x : Instrument). x.no == n) is ≡ Some i → find (λ (x : Instrument). x.no == n) (map (with_state n Armed) is) ≡ Some (with_state n Armed i)
found_armed n [] i e = absurd cc
found_armed n (x ∷ xs) i e = by (x.no == n) e (found_armed n xs i)
  where
    by : (b : Bool) → cond b (Some x) (find (λ (y : Instrument). y.no == n) xs) ≡ Some i
        → (find (λ (y : Instrument). y.no == n) xs ≡ Some i → find (λ (y : Instrument). y.no == n) (map (with_state n Armed) xs) ≡ Some (with_state n Armed i))
        → cond b (Some (with_state n Armed x)) (find (λ (y : Instrument). y.no == n) (map (with_state n Armed) xs)) ≡ Some (with_state n Armed i)
    by true e ih = let same : x ≡ i = cc in ap (λ (y : Instrument). Some (with_state n Armed y)) same
    by false e ih = ih e

pub state_armed : (p : Placements) (n : ℕ) (i : Instrument) → instrument_at p n ≡ Some i → state_of (placements.with_armed n p) n ≡ Armed
state_armed p n i e = ap state_in (found_armed n p.instruments i e) ∙ cond-true (i.no == n) Armed i.state (find_gives (λ (x : Instrument). x.no == n) p.instruments i e).1
