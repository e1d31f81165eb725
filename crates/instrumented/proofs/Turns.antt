-- Turns of harts, one after another, are acts.
use Rattle.std.proofs.Common.{◌≡◌, ℕ, zero, suc, ◌+◌, List, [], ◌∷◌, ◌++◌, refl, sym, ap, ◌∙◌, subst, length, arith}
use Rattle.std.specs.Prelude.{Bool, true, false, cond}
use Rattle.machine.specs.Cores.{Core, start_core}
use Rattle.machine.specs.Effects.{after_event}
use Rattle.machine.specs.Events.{Event, Turn}
use Rattle.machine.specs.Leaving.{is_out}
use Rattle.machine.specs.Replays.{Legal, replay}
use Rattle.machine.specs.States.{leaving, quantum_turns, settling, settling_from, words_in}
use Rattle.machine.specs.Turns.{is_runnable, turn}
use Rattle.machine.proofs.Quanta.{quanta_are_legal}
use Rattle.machine.specs.Reached as reached
use Rattle.machine.proofs.Settled.{reaches_all, settles_from}
use Rattle.instrument.specs.Scenes.{Happens, IsTurnOrSample, events_of, first_scene}
use Rattle.instrumented.specs.Instrumented.{Instrumented, after_act, after_turns}
use Rattle.instrumented.specs.Reached.{IsReachedByActs}
use Rattle.instrumented.proofs.Acts.{done_is, reached_on, whole_of}

abbrev pub AllTurns : List Event → Type 0
AllTurns [] = Unit {0}
AllTurns (e ∷ es) = IsTurnOrSample e × AllTurns es

turns_append : (xs ys : List Event) → AllTurns xs → AllTurns ys → AllTurns (xs ++ ys)
turns_append [] ys a b = b
turns_append (x ∷ xs) ys a b = (a.0, turns_append xs ys a.1 b)

pub quantum_all : (n h : ℕ) (c : Core) → AllTurns (quantum_turns n h c)
quantum_all zero h c = tt
quantum_all (suc n) h c = by (is_runnable c h) (quantum_all n h (turn c h))
  where
    by : (b : Bool) → AllTurns (quantum_turns n h (turn c h)) → AllTurns (cond b (Turn h ∷ quantum_turns n h (turn c h)) [])
    by true ih = (tt, ih)
    by false ih = tt

leaving_all : (n h : ℕ) (c : Core) → AllTurns (leaving n h c)
leaving_all zero h c = tt
leaving_all (suc n) h c = by (is_out c h) (leaving_all n h (turn c h))
  where
    by : (b : Bool) → AllTurns (leaving n h (turn c h)) → AllTurns (cond b [] (Turn h ∷ leaving n h (turn c h)))
    by true ih = tt
    by false ih = (tt, ih)

from_all : (more h : ℕ) (c : Core) → AllTurns (settling_from more h c)
from_all zero h c = tt
from_all (suc more) h c =
    turns_append (leaving (words_in c.rows) h c) _ (leaving_all (words_in c.rows) h c) (from_all more (h + 1) (replay (leaving (words_in c.rows) h c) c))

pub settling_all : (c : Core) → AllTurns (settling c)
settling_all c = from_all (length c.harts) 0 c

-- what turns make
pub record AreTaken (turns : List Event) (m : Instrumented) : Type 0 where
  pub is : after_turns turns m ≡ record { core = replay turns m.core; placer = m.placer }
  pub reached : IsReachedByActs (after_turns turns m)

pub are_taken : (turns : List Event) (m : Instrumented) → AllTurns turns → Legal turns m.core → IsReachedByActs m → AreTaken turns m
are_taken [] m a l r = record { is = refl; reached = r }
are_taken (e ∷ turns) m a l r =
    let is : after_act (Happens e) m ≡ record { core = after_event m.core e; placer = m.placer } = done_is (Happens e) m in
    let first : Instrumented = record { core = after_event m.core e; placer = m.placer } in
    let rest = are_taken turns first a.1 l.1 (subst IsReachedByActs is (reached_on m (Happens e) r (a.0, l.0))) in
    record { is = ap (after_turns turns) is ∙ rest.is; reached = subst (λ x. IsReachedByActs (after_turns turns x)) (sym is) rest.reached }

-- the machine of what is reached is reached
pub machine_reached : (m : Instrumented) → IsReachedByActs m → reached.IsReached m.core
machine_reached m r =
    let w = whole_of r.image r.harts r.budget r.limit r.acts m r.plans r.program r.leads in
    let first : reached.IsReached (start_core r.image r.harts r.budget) = record { image = r.image; many = r.harts; events = []; program = r.program; legal = tt; is = refl } in
    subst reached.IsReached (sym w.core) (reaches_all (events_of r.acts (first_scene r.image r.harts r.budget r.limit)) (start_core r.image r.harts r.budget) first w.legal)

pub settling_legal : (m : Instrumented) → IsReachedByActs m → Legal (settling m.core) m.core
settling_legal m r = (settles_from (length (m.core).harts) 0 m.core (machine_reached m r) (λ j l. absurd (omega arith))).legal

pub quantum_legal : (n h : ℕ) (m : Instrumented) → Legal (quantum_turns n h m.core) m.core
quantum_legal n h m = (quanta_are_legal n h m.core).legal
