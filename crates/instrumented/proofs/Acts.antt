-- Lists of acts go on, and what acts make doesn't depend on the plans that were admitted before.
use Rattle.std.proofs.Common.{◌≡◌, ℕ, List, [], ◌∷◌, ◌++◌, Option, Some, None, refl, sym, ap, ◌∙◌, subst, append_assoc}
use Rattle.std.specs.Prelude.{Bool, true, false}
use Rattle.pn_types.specs.declared.image.Image.{Image}
use Rattle.pn_types.specs.declared.plan.Plan.{Plan}
use Rattle.machine.specs.Cores.{Core, start_core}
use Rattle.machine.specs.Laws.{IsProgram}
use Rattle.machine.specs.Replays.{Legal}
use Rattle.machine.proofs.Replaying.{legal-parts}
use Rattle.instrument.specs.Books.{freed_point}
use Rattle.instrument.specs.Handing.{is_barred}
use Rattle.instrument.specs.Placements.{Placements, after_first, free_behind, free_front, front, instrument_at}
use Rattle.instrument.specs.Scenes.{Act, Happens, Admits, Arms, Drops, Hands, Sweeps, InstrumentScene, Told, CanDo, AllCanDo, arms, does, events_of, first_scene, frees, hands, hands_by, scene_after, sweeps}
use Rattle.instrument.specs.declared.entry.Entry.{Entry}
use Rattle.instrument.specs.declared.instrument.Instrument.{Instrument}
use Rattle.instrument.proofs.Lawful.{always}
use Rattle.instrument.proofs.Wholes.{Whole}
use Rattle.instrumented.specs.Instrumented.{Instrumented, after_act, in_scene, scene_of, scene_with}
use Rattle.instrumented.specs.Reached.{IsReachedByActs, Leads}

-- ---- lists of acts

pub scene_append : (xs ys : List Act) (s : InstrumentScene) → scene_after (xs ++ ys) s ≡ scene_after ys (scene_after xs s)
scene_append [] ys s = refl
scene_append (x ∷ xs) ys s = scene_append xs ys (does x s).scene

pub events_append : (xs ys : List Act) (s : InstrumentScene) → events_of (xs ++ ys) s ≡ events_of xs s ++ events_of ys (scene_after xs s)
events_append [] ys s = refl
events_append (x ∷ xs) ys s =
    ap (λ es. (does x s).events ++ es) (events_append xs ys (does x s).scene)
    ∙ sym (append_assoc (does x s).events (events_of xs (does x s).scene) (events_of ys (scene_after xs (does x s).scene)))

pub can_append : (xs ys : List Act) (s : InstrumentScene) → AllCanDo xs s → AllCanDo ys (scene_after xs s) → AllCanDo (xs ++ ys) s
can_append [] ys s a b = b
can_append (x ∷ xs) ys s a b = (a.0, can_append xs ys (does x s).scene a.1 b)

pub can_first : (xs ys : List Act) (s : InstrumentScene) → AllCanDo (xs ++ ys) s → AllCanDo xs s
can_first [] ys s a = tt
can_first (x ∷ xs) ys s a = (a.0, can_first xs ys (does x s).scene a.1)

pub can_rest : (xs ys : List Act) (s : InstrumentScene) → AllCanDo (xs ++ ys) s → AllCanDo ys (scene_after xs s)
can_rest [] ys s a = a
can_rest (x ∷ xs) ys s a = can_rest xs ys (does x s).scene a.1

-- ---- the plans that were admitted before are nothing to an act

-- what acts make in the same scene but for the plans
pub record IsBeside (t u : Told) : Type 0 where
  pub events : t.events ≡ u.events
  pub state : in_scene t.scene ≡ in_scene u.scene

module _ (core : Core) (placer : Placements) (ps qs : List Plan) where
  abbrev one : InstrumentScene
  one = record { core = core; placer = placer; plans = ps }

  abbrev other : InstrumentScene
  other = record { core = core; placer = placer; plans = qs }

  arms_beside : (o : Option Instrument) → IsBeside (arms o one) (arms o other)
  arms_beside None = record { events = refl; state = refl }
  arms_beside (Some i) = record { events = refl; state = refl }

  frees_beside : (b : Bool) (p : ℕ) (q : Placements) → IsBeside (frees b p q one) (frees b p q other)
  frees_beside false p q = record { events = refl; state = refl }
  frees_beside true p q = record { events = refl; state = refl }

  by_beside : (o : Option ℕ) (e : Entry) → IsBeside (hands_by o e one) (hands_by o e other)
  by_beside None e = record { events = refl; state = refl }
  by_beside (Some p) e = frees_beside (is_barred core p) p (after_first placer)

  hands_beside : (o : Option Entry) → IsBeside (hands o one) (hands o other)
  hands_beside None = record { events = refl; state = refl }
  hands_beside (Some e) = by_beside (freed_point e) e

  sweeps_beside : (o : Option ℕ) → IsBeside (sweeps o (free_behind placer) one) (sweeps o (free_behind placer) other)
  sweeps_beside None = record { events = refl; state = refl }
  sweeps_beside (Some p) = frees_beside false p (free_behind placer)

  pub beside : (a : Act) → IsBeside (does a one) (does a other)
  beside (Happens e) = record { events = refl; state = refl }
  beside (Admits plan cost) = record { events = refl; state = refl }
  beside (Arms n) = arms_beside (instrument_at placer n)
  beside (Drops n) = record { events = refl; state = refl }
  beside Hands = hands_beside (front placer)
  beside Sweeps = sweeps_beside (free_front placer)

  pub can_beside : (a : Act) → CanDo a one → CanDo a other
  can_beside (Happens e) c = c
  can_beside (Admits plan cost) c = c
  can_beside (Arms n) c = record { instrument = c.instrument; is = c.is; placing = c.placing; may = c.may }
  can_beside (Drops n) c = c
  can_beside Hands c = c
  can_beside Sweeps c = c

-- ---- acts lead on

pub done_is : (a : Act) (m : Instrumented) → after_act a m ≡ in_scene (does a (scene_of m)).scene
unfolding after_act
done_is a m = refl

abbrev pub plans_behind : Act → Instrumented → List Plan → List Plan
plans_behind a m plans = (does a (scene_with plans m)).scene.plans

pub leads_on : (image : Image) (harts budget limit : ℕ) (acts : List Act) (m : Instrumented) (plans : List Plan) (a : Act)
    → Leads image harts budget limit acts m plans → CanDo a (scene_of m) → Leads image harts budget limit (acts ++ a ∷ []) (after_act a m) (plans_behind a m plans)
leads_on image harts budget limit acts m plans a l c =
    let first = first_scene image harts budget limit in
    let can : CanDo a (scene_with plans m) = can_beside m.core m.placer [] plans a c in
    let is : in_scene (does a (scene_with plans m)).scene ≡ after_act a m = (beside m.core m.placer plans [] a).state ∙ sym (done_is a m) in
    record {
      can = can_append acts (a ∷ []) first l.can (subst (CanDo a) (sym l.scene) can, tt);
      scene = scene_append acts (a ∷ []) first ∙ (ap (λ s. (does a s).scene) l.scene ∙ ap (scene_with (plans_behind a m plans)) is);
    }

pub reached_on : (m : Instrumented) (a : Act) → IsReachedByActs m → CanDo a (scene_of m) → IsReachedByActs (after_act a m)
reached_on m a r c = record {
  image = r.image;
  harts = r.harts;
  budget = r.budget;
  limit = r.limit;
  program = r.program;
  acts = r.acts ++ a ∷ [];
  plans = plans_behind a m r.plans;
  leads = leads_on r.image r.harts r.budget r.limit r.acts m r.plans a r.leads c;
}

-- ---- what holds of what is reached

-- what is kept of every scene
pub whole_of : (image : Image) (harts budget limit : ℕ) (acts : List Act) (m : Instrumented) (plans : List Plan) → IsProgram image → Leads image harts budget limit acts m plans
    → Whole (start_core image harts budget) (scene_with plans m) (events_of acts (first_scene image harts budget limit))
whole_of image harts budget limit acts m plans p l =
    subst (λ s. Whole (start_core image harts budget) s (events_of acts (first_scene image harts budget limit))) l.scene (always image harts budget limit acts p l.can)

-- the events of an act may happen when they come
pub legal_next : (m : Instrumented) (a : Act) → IsReachedByActs m → CanDo a (scene_of m) → Legal (does a (scene_of m)).events m.core
legal_next m a r c =
    let first = first_scene r.image r.harts r.budget r.limit in
    let start = start_core r.image r.harts r.budget in
    let es = events_of r.acts first in
    let new = (does a (scene_with r.plans m)).events in
    let l = leads_on r.image r.harts r.budget r.limit r.acts m r.plans a r.leads c in
    let was = whole_of r.image r.harts r.budget r.limit r.acts m r.plans r.program r.leads in
    let w = whole_of r.image r.harts r.budget r.limit (r.acts ++ a ∷ []) (after_act a m) (plans_behind a m r.plans) r.program l in
    let both : events_of (r.acts ++ a ∷ []) first ≡ es ++ (new ++ []) = events_append r.acts (a ∷ []) first ∙ ap (λ s. es ++ ((does a s).events ++ [])) r.leads.scene in
    let all : Legal (es ++ (new ++ [])) start = subst (λ u. Legal u start) both w.legal in
    let parts = legal-parts es (new ++ []) start all in
    let at : Legal (new ++ []) m.core = subst (Legal (new ++ [])) (sym was.core) parts.1 in
    subst (λ u. Legal u m.core) (beside m.core m.placer r.plans [] a).events (legal-parts new [] m.core at).0
