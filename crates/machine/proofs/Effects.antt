-- What events leave and what they set.
use Rattle.std.proofs.Common.{◌≡◌, ℕ, List, [], ◌∷◌, Option, Some, None, refl, ap, ◌∙◌}
use Rattle.std.specs.Prelude.{slice_get, ◌==◌}
use Rattle.std.specs.FinMap.{get}
use Rattle.std.proofs.lemmas.Bool.{cond-true, cond-false, eq-eqb, ne_eqb}
use Rattle.rv_word.specs.Plain as plain
use Rattle.tramp_spec.specs.Codes.{Code}
use Rattle.tramp_spec.specs.Harts.{Hart}
use Rattle.tramp_spec.specs.Marks.{tool}
use Rattle.tramp_spec.proofs.Hops.{Hops, target_is}
use Rattle.machine.specs.Cores.{Core, Row, Status}
use Rattle.machine.specs.Effects as effects
use Rattle.machine.specs.Effects.{after_event, at_set, mini_linked, point_linked, point_unlinked}
use Rattle.machine.specs.Events as events
use Rattle.machine.specs.Events.{Event, Turn, Write, LinkMini, UnlinkMini, LinkPoint, UnlinkPoint, Free, Arm, Sample, current_base, link_at, next_of, target_at}
use Rattle.machine.specs.Replays.{replay}
use Rattle.machine.specs.Turns.{turn_by}

-- ---- program and budget stay

abbrev pub Fixed : Core → Core → Type 0
Fixed c d = (d.program ≡ c.program) × (d.budget ≡ c.budget)

fixed_turn : (o : Option Hart) (c : Core) (h : ℕ) → Fixed c (turn_by o c h)
fixed_turn None c h = (refl, refl)
fixed_turn (Some x) c h = (refl, refl)

fixed_link : (o : Option Row) (m : ℕ) (c : Core) → Fixed c (mini_linked o m c)
fixed_link None m c = (refl, refl)
fixed_link (Some b) m c = (refl, refl)

fixed_unlink : (o u : Option Row) (m : ℕ) (c : Core) → Fixed c (effects.mini_unlinked o u m c)
fixed_unlink None u m c = (refl, refl)
fixed_unlink (Some q) None m c = (refl, refl)
fixed_unlink (Some q) (Some r) m c = (refl, refl)

fixed_enter : (o : Option Row) (p : ℕ) (c : Core) → Fixed c (point_linked o p c)
fixed_enter None p c = (refl, refl)
fixed_enter (Some b) p c = (refl, refl)

fixed_own : (o : Option ℕ) (p : ℕ) (c : Core) → Fixed c (point_unlinked o p c)
fixed_own None p c = (refl, refl)
fixed_own (Some w) p c = (refl, refl)

pub fixed : (c : Core) (e : Event) → Fixed c (after_event c e)
fixed c (Turn h) = fixed_turn (slice_get c.harts h) c h
fixed c (Write b) = (refl, refl)
fixed c (LinkMini p m) = fixed_link (current_base c.rows p) m c
fixed c (UnlinkMini p m) = fixed_unlink (events.before c m) (events.row_at c.rows m) m c
fixed c (LinkPoint p) = fixed_enter (current_base c.rows p) p c
fixed c (UnlinkPoint p) = fixed_own (plain.program_word c.program p) p c
fixed c (Free p) = (refl, refl)
fixed c (Arm i) = (refl, refl)
fixed c (Sample i) = (refl, refl)

pub program_stays : (es : List Event) (c : Core) → (replay es c).program ≡ c.program
program_stays [] c = refl
program_stays (e ∷ es) c = program_stays es (after_event c e) ∙ (fixed c e).0

-- ---- a status is set

pub at_hit : (m : ℕ) (s : Status) (r : Row) → r.at ≡ m → at_set m s r ≡ s
at_hit m s r e = cond-true (r.at == m) s r.status (eq-eqb r.at m e)

pub at_miss : (m : ℕ) (s : Status) (r : Row) → (r.at ≡ m → ⊥) → at_set m s r ≡ r.status
at_miss m s r e = cond-false (r.at == m) s r.status (ne_eqb r.at m e)

-- ---- the word that leads on

pub link_is : (code : Code) (row : Row) (a n w : ℕ) → link_at row ≡ a → Hops a n w → get code a ≡ Some (tool w) → next_of code row ≡ n
link_is code row a n w e h s =
    ap (λ z. target_at (get code z) z) e ∙ (ap (λ o. target_at o a) s ∙ jump_to_next)
  where
    jump_to_next : target_at (Some (tool w)) a ≡ n
    jump_to_next = rw (target_is a n w h) refl
