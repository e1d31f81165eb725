-- What the calls keep: acts lead to what is left, and there is room for all blocks that are to be written.
use Rattle.std.proofs.Common.{◌≡◌, ℕ, ◌+◌, ◌-◌, ◌*◌, ◌≤◌, List, [], length, Option, Some, None, refl, sym, ap, ap₂, ◌∙◌, subst, arith}
use Rattle.std.specs.Prelude.{Bool, true, false, cond, IsTrue, ◌⊎◌, ◌↔◌}
use Rattle.std.proofs.lemmas.Bool.{true≢false}
use Rattle.std.proofs.lemmas.List.{length-map}
use Rattle.prim_code.specs.Counts.{site_words}
use Rattle.pn_types.specs.declared.plan.Plan.{Plan}
use Rattle.machine.specs.Cores.{In, Core}
use Rattle.machine.specs.Effects.{after_event}
use Rattle.machine.specs.Events as events
use Rattle.machine.specs.Events.{Event, IsQuiet, May}
use Rattle.machine.specs.Replays.{Legal, replay}
use Rattle.machine.specs.States.{Machine, with_core}
use Rattle.instrument.specs.Handing.{is_barred}
use Rattle.instrument.specs.Needs.{Need, need_of, sites_in, without}
use Rattle.instrument.specs.Placements as placements
use Rattle.instrument.specs.Placements.{Placements, admission, or_same}
use Rattle.instrument.specs.Placers.{PlacerData}
use Rattle.instrument.specs.Scenes.{Act, Admits, Drops, Hands, Sweeps, CanDo, IsPlanFor}
use Rattle.instrument.specs.declared.event.Event.{Event as Seen}
use Rattle.instrument.specs.declared.event.Event.TheVariants as seen
use Rattle.instrument.specs.declared.number.State.TheVariants.{Placing, Armed}
use Rattle.instrument.proofs.Going.{quiet}
use Rattle.instrument.proofs.Ready.{one_less}
use Rattle.instrumented.specs.Data.{AreReached, data_of, state_of, InstrumentedData}
use Rattle.instrumented.specs.Doing.{freed_core, freed_placements, handed_core, handed_placements, machine_event, writes, writes_in}
use Rattle.instrumented.specs.Instrumented.{Instrumented, after_act, scene_of, after_turns}
use Rattle.instrumented.specs.Reached.{IsReachedByActs}
use Rattle.instrumented.proofs.Acts.{done_is, reached_on}
use Rattle.instrumented.proofs.Handed.{First, few_writes, freed_is, is_free, none_done, none_swept, performed, swept}
use Rattle.instrumented.proofs.Turns.{AllTurns, are_taken}
use Rattle.instrumented.proofs.Writes.{admitted_more, back_same, drop_same, taken_same}

-- a machine and a placer after an act
pub record Behind (a : Act) (m n : Machine) (p q : PlacerData) : Type 0 where
  pub state : state_of n q ≡ after_act a (state_of m p)
  pub sound : AreReached n q

pub behind : (a : Act) (m n : Machine) (p q : PlacerData) → AreReached m p → CanDo a (scene_of (state_of m p)) → state_of n q ≡ after_act a (state_of m p)
    → writes_in q.placements.book.agenda + 2 * sites_in q.ready ≤ n.room → Behind a m n p q
behind a m n p q s c e room = record { state = e; sound = record { reached = subst IsReachedByActs (sym e) (reached_on (state_of m p) a s.reached c); room = room } }

abbrev pair : Core → Placements → Instrumented
pair c p = record { core = c; placer = p }

-- ---- an instrument is dropped

pub dropped_kept : (m : Machine) (p q : PlacerData) (n : ℕ) → AreReached m p → (placements.state_of p.placements n ≡ Placing) ⊎ (placements.state_of p.placements n ≡ Armed)
    → q.placements ≡ placements.dropped n p.placements → q.ready ≡ p.ready → Behind (Drops n) m m p q
dropped_kept m p q n s c e r =
    let w = ap (λ (x : Placements). writes_in x.book.agenda) e ∙ drop_same n p.placements in
    let k = ap sites_in r in
    let room = s.room in
    behind (Drops n) m m p q s c (ap (pair m.core) e ∙ sym (done_is (Drops n) (state_of m p))) (omega arith)

-- ---- turns

pub turns_kept : (turns : List Event) (m n : Machine) (p : PlacerData) → AreReached m p → AllTurns turns → Legal turns m.core → n ≡ with_core m (replay turns m.core)
    → (state_of n p ≡ after_turns turns (state_of m p)) × AreReached n p
turns_kept turns m n p s a l e =
    let t = are_taken turns (state_of m p) a l s.reached in
    let is : state_of n p ≡ after_turns turns (state_of m p) = ap (λ x. state_of x p) e ∙ sym t.is in
    let r = ap (λ (x : Machine). x.room) e in
    let room = s.room in
    (is, record { reached = subst IsReachedByActs (sym is) t.reached; room = omega arith })

-- ---- an entry is handed out

pub none_kept : (m : Machine) (p q : PlacerData) → AreReached m p → p.placements.book.agenda ≡ [] → q.placements ≡ placements.after_first p.placements → q.ready ≡ p.ready → Behind Hands m m p q
none_kept m p q s none e r =
    let k = ap sites_in r in
    let room = s.room in
    let same : q.placements ≡ p.placements = e ∙ empty p.placements none in
    let w = ap (λ (x : Placements). writes_in x.book.agenda) same in
    behind Hands m m p q s tt (ap (pair m.core) same ∙ sym (none_done (state_of m p) none)) (omega arith)
  where
    empty : (x : Placements) → x.book.agenda ≡ [] → placements.after_first x ≡ x
    empty x n = ap (λ (a : List _). record x { book = placements.book_after a x.book }) n

pub performed_kept : (m n : Machine) (p q : PlacerData) (event : Seen) → AreReached m p → First p.placements.book.agenda event → is_free event ≡ false
    → q.placements ≡ placements.after_first p.placements → q.ready ≡ p.ready → n ≡ record { core = after_event m.core (machine_event m.core event); room = m.room - writes event } → Behind Hands m n p q
performed_kept m n p q event s f free e r is =
    let k = ap sites_in r in
    let room = s.room in
    let few = few_writes (state_of m p) event f in
    let w = ap (λ (x : Placements). writes_in x.book.agenda) e in
    let left = ap (λ (x : Machine). x.room) is in
    behind Hands m n p q s tt (ap (λ (x : Machine). pair x.core q.placements) is ∙ (ap (pair (after_event m.core (machine_event m.core event))) e ∙ sym (performed (state_of m p) event f free))) (omega arith)

pub room_for : (m : Machine) (p : PlacerData) (event : Seen) → AreReached m p → First p.placements.book.agenda event → writes event ≤ m.room
room_for m p event s f = let few = few_writes (state_of m p) event f in let room = s.room in omega arith

pub freed_kept : (m n : Machine) (p q r : PlacerData) (point : ℕ) → AreReached m p → First p.placements.book.agenda (seen.Free point)
    → q.placements ≡ placements.after_first p.placements → q.ready ≡ p.ready → r.ready ≡ q.ready
    → n ≡ with_core m (freed_core (is_barred m.core point) point m.core) → r.placements ≡ freed_placements (is_barred m.core point) point q.placements → Behind Hands m n p r
freed_kept m n p q r point s f e k l is e2 =
    let same : r.placements ≡ freed_placements (is_barred m.core point) point (placements.after_first p.placements) = e2 ∙ ap (freed_placements (is_barred m.core point) point) e in
    let few = few_writes (state_of m p) (seen.Free point) f in
    let w = ap (λ (x : Placements). writes_in x.book.agenda) same ∙ agenda_same (is_barred m.core point) (placements.after_first p.placements) in
    let ready = ap sites_in (l ∙ k) in
    let room = s.room in
    let left = ap (λ (x : Machine). x.room) is in
    behind Hands m n p r s tt (ap (λ (x : Machine). pair x.core r.placements) is ∙ (ap (pair (freed_core (is_barred m.core point) point m.core)) same ∙ sym (freed_is (state_of m p) point f))) (omega arith)
  where
    agenda_same : (b : Bool) (x : Placements) → writes_in (freed_placements b point x).book.agenda ≡ writes_in x.book.agenda
    agenda_same true x = back_same x.book.agenda point
    agenda_same false x = refl

-- whatever is handed out
pub handed_kept : (m n : Machine) (p q r : PlacerData) (event : Seen) → AreReached m p → First p.placements.book.agenda event
    → q.placements ≡ placements.after_first p.placements → q.ready ≡ p.ready → r.ready ≡ q.ready
    → n ≡ record { core = handed_core m.core event; room = m.room - writes event } → r.placements ≡ handed_placements m.core event q.placements → Behind Hands m n p r
handed_kept m n p q r (seen.WriteBase b) s f e k l is at = performed_kept m n p r (seen.WriteBase b) s f refl (at ∙ e) (l ∙ k) is
handed_kept m n p q r (seen.WriteMini b) s f e k l is at = performed_kept m n p r (seen.WriteMini b) s f refl (at ∙ e) (l ∙ k) is
handed_kept m n p q r (seen.LinkMini x y) s f e k l is at = performed_kept m n p r (seen.LinkMini x y) s f refl (at ∙ e) (l ∙ k) is
handed_kept m n p q r (seen.LinkPoint x) s f e k l is at = performed_kept m n p r (seen.LinkPoint x) s f refl (at ∙ e) (l ∙ k) is
handed_kept m n p q r (seen.UnlinkMini x y) s f e k l is at = performed_kept m n p r (seen.UnlinkMini x y) s f refl (at ∙ e) (l ∙ k) is
handed_kept m n p q r (seen.UnlinkPoint x) s f e k l is at = performed_kept m n p r (seen.UnlinkPoint x) s f refl (at ∙ e) (l ∙ k) is
handed_kept m n p q r (seen.Free x) s f e k l is at =
    let same : m.room - 0 ≡ m.room = omega arith in
    freed_kept m n p q r x s f e k l (is ∙ ap (λ (room : ℕ). record { core = freed_core (is_barred m.core x) x m.core; room = room }) same) at

-- ---- sweeping

pub swept_kept : (m n : Machine) (p q r : PlacerData) (point : ℕ) → AreReached m p → IsQuiet m.core → Some point ≡ placements.free_front p.placements
    → q.placements ≡ placements.free_behind p.placements → q.ready ≡ p.ready → r.placements ≡ placements.freed point q.placements → r.ready ≡ q.ready
    → n ≡ with_core m (after_event m.core (events.Free point)) → Behind Sweeps m n p r
swept_kept m n p q r point s still front e k e2 l is =
    let same : r.placements ≡ placements.freed point (placements.free_behind p.placements) = e2 ∙ ap (placements.freed point) e in
    let w = ap (λ (x : Placements). writes_in x.book.agenda) same ∙ taken_same p.placements in
    let ready = ap sites_in (l ∙ k) in
    let room = s.room in
    let left = ap (λ (x : Machine). x.room) is in
    behind Sweeps m n p r s still (ap (λ (x : Machine). pair x.core r.placements) is ∙ (ap (pair (after_event m.core (events.Free point))) same ∙ sym (swept (state_of m p) point front))) (omega arith)

pub none_swept_kept : (m : Machine) (p q : PlacerData) → AreReached m p → IsQuiet m.core → None ≡ placements.free_front p.placements → q.placements ≡ placements.free_behind p.placements → q.ready ≡ p.ready → Behind Sweeps m m p q
none_swept_kept m p q s still front e k =
    let w = ap (λ (x : Placements). writes_in x.book.agenda) e ∙ taken_same p.placements in
    let ready = ap sites_in k in
    let room = s.room in
    behind Sweeps m m p q s still (ap (pair m.core) e ∙ sym (none_swept (state_of m p) front)) (omega arith)

-- ---- a plan is admitted, or refused

pub admitted_kept : (m : Machine) (p q : PlacerData) (plan : Plan) (cost : Option ℕ) → AreReached m p → IsPlanFor m.core.program plan → In (need_of plan) p.ready
    → q.placements ≡ or_same p.placements (admission p.placements plan cost) → q.ready ≡ without (need_of plan) p.ready → Behind (Admits plan cost) m m p q
admitted_kept m p q plan cost s for ready e k =
    let more = admitted_more p.placements plan cost in
    let w = ap (λ (x : Placements). writes_in x.book.agenda) e in
    let less = (one_less (need_of plan) p.ready ready).0 in
    let left = ap sites_in k in
    let len : length (need_of plan).words ≡ length plan.sites = length-map plan.sites site_words in
    let room = s.room in
    behind (Admits plan cost) m m p q s for (ap (pair m.core) e ∙ sym (done_is (Admits plan cost) (state_of m p))) (omega arith)

-- ---- as the calls say it

abbrev with_ready : Instrumented → List Need → InstrumentedData
with_ready state ready = record { state = state; ready = ready }

pub returned : (a : Act) (m n : Machine) (p q : PlacerData) (d : InstrumentedData) → data_of m p ≡ d → Behind a m n p q → q.ready ≡ p.ready → data_of n q ≡ record d { state = after_act a d.state }
returned a m n p q d v b r = ap₂ with_ready b.state r ∙ ap (λ (x : InstrumentedData). record x { state = after_act a x.state }) v

-- what `free` makes where no hart is inside
pub freed_by : (m n : Machine) (point : ℕ) (b : Bool) → IsQuiet m.core → (IsTrue b ↔ May m.core (events.Free point)) → n ≡ cond b (with_core m (after_event m.core (events.Free point))) m → n ≡ with_core m (after_event m.core (events.Free point))
freed_by m n point true q may is = is
freed_by m n point false q may is = absurd (true≢false (sym (may.1 (quiet m.core point q))))
