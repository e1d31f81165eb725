-- What a session does keeps what is known of how its state came about: acts without armings.
use Rattle.std.proofs.Common.{◌≡◌, ℕ, zero, suc, List, [], ◌∷◌, ◌++◌, Option, Some, None, refl, sym, ap, ◌∙◌, subst, append_assoc}
use Rattle.std.specs.Prelude.{Bool, true, false}
use Rattle.machine.specs.Cores.{In, Core, start_core}
use Rattle.machine.specs.Effects.{after_event, owned}
use Rattle.machine.specs.Events.{Event, IsQuiet}
use Rattle.machine.specs.Replays.{Legal, owns, replay}
use Rattle.machine.proofs.Replaying.{owns-append}
use Rattle.instrument.specs.Books.{freed_point}
use Rattle.instrument.specs.Handing.{event_of, is_barred}
use Rattle.instrument.specs.Placements.{Placements, after_first, free_behind, free_front, front, instrument_at}
use Rattle.instrument.specs.Scenes.{Act, Happens, Admits, Arms, Drops, Hands, Sweeps, CanDo, InstrumentScene, Told, arms, does, events_of, first_scene, frees, hands, hands_by, sweeps}
use Rattle.instrument.specs.declared.entry.Entry.{Entry}
use Rattle.instrument.specs.declared.entry.Entry.TheVariants.{WriteBase, WriteMini, LinkMini, LinkPoint, UnlinkMini, UnlinkPoint, Free}
use Rattle.instrument.specs.declared.instrument.Instrument.{Instrument}
use Rattle.instrument.proofs.Folds.{append_nil}
use Rattle.instrumented.specs.Instrumented.{Instrumented, after_act, in_scene, repeated, scene_of, scene_with, after_turns}
use Rattle.instrumented.specs.Readings.{owns_at}
use Rattle.instrumented.proofs.Acts.{beside, done_is, events_append, leads_on, plans_behind, whole_of}
use Rattle.instrumented.proofs.Turns.{AllTurns}
use Rattle.session_spec.specs.declared.data.MetricFocusPair.{MetricFocusPair}
use Rattle.session_spec.specs.Inputs.{Inputs}
use Rattle.session_spec.specs.Ties.{IsTied, opening_of}
use Rattle.session_spec.proofs.Backwards.{IsNoArmingOf}
use Rattle.session_spec.proofs.Shows.{all_on}

-- ---- one act

-- the harts whose ticks an act has
abbrev pub own_of : Act → Instrumented → List ℕ
own_of a m = owns (does a (scene_of m)).events m.core

module _ (i : Inputs) (m : Instrumented) (own : List ℕ) (ss : List MetricFocusPair) (lasts : List ℕ) (t : IsTied i m own ss lasts) where
  abbrev opened : InstrumentScene
  opened = first_scene i.image i.settings.harts i.settings.budget i.settings.instruments

  abbrev begun : Core
  begun = start_core i.image i.settings.harts i.settings.budget

  -- the program's own run goes on by its ticks
  pub owns_on : (a : Act) → owns_at (opening_of i) (t.acts ++ a ∷ []) ≡ own ++ own_of a m
  owns_on a =
      let es = events_of t.acts opened in
      let new = (does a (scene_with t.plans m)).events in
      let core : m.core ≡ replay es begun = (whole_of i.image i.settings.harts i.settings.budget i.settings.instruments t.acts m t.plans t.program t.leads).core in
      let both : events_of (t.acts ++ a ∷ []) opened ≡ es ++ new = events_append t.acts (a ∷ []) opened ∙ (ap (λ s. es ++ ((does a s).events ++ [])) t.leads.scene ∙ ap (λ l. es ++ l) (append_nil new)) in
      ap (λ l. owns l begun) both ∙ (owns-append es new begun
      ∙ (ap (λ c. owns es begun ++ owns new c) (sym core)
      ∙ (ap (λ l. owns es begun ++ owns l m.core) (beside m.core m.placer t.plans [] a).events
      ∙ ap (λ l. l ++ own_of a m) (sym t.owned))))

  pub tied_on : (a : Act) → CanDo a (scene_of m) → ((s : MetricFocusPair) → In s ss → IsNoArmingOf s.instrument.n a) → IsTied i (after_act a m) (own ++ own_of a m) ss lasts
  tied_on a c n = record {
    program = t.program;
    acts = t.acts ++ a ∷ [];
    plans = plans_behind a m t.plans;
    leads = leads_on i.image i.settings.harts i.settings.budget i.settings.instruments t.acts m t.plans a t.leads c;
    owned = sym (owns_on a);
    shown = all_on i t.acts a ss lasts n t.shown;
    apart = t.apart;
  }

-- ---- acts without ticks

no_own : (e : Entry) (c : Core) → owns (event_of c e ∷ []) c ≡ []
no_own (WriteBase b) c = refl
no_own (WriteMini b) c = refl
no_own (LinkMini p m) c = refl
no_own (LinkPoint p m) c = refl
no_own (UnlinkMini p m) c = refl
no_own (UnlinkPoint p m) c = refl
no_own (Free p) c = refl

abbrev IsIdle : Told → Core → Type 0
IsIdle t c = owns t.events c ≡ []

module _ (s : InstrumentScene) where
  frees_idle : (b : Bool) (p : ℕ) (q : Placements) → IsIdle (frees b p q s) s.core
  frees_idle true p q = refl
  frees_idle false p q = refl

  by_idle : (o : Option ℕ) (e : Entry) → IsIdle (hands_by o e s) s.core
  by_idle None e = no_own e s.core
  by_idle (Some p) e = frees_idle (is_barred s.core p) p (after_first s.placer)

  hands_idle : (o : Option Entry) → IsIdle (hands o s) s.core
  hands_idle None = refl
  hands_idle (Some e) = by_idle (freed_point e) e

  sweeps_idle : (o : Option ℕ) → IsIdle (sweeps o (free_behind s.placer) s) s.core
  sweeps_idle None = refl
  sweeps_idle (Some p) = refl

  arms_idle : (o : Option Instrument) → IsIdle (arms o s) s.core
  arms_idle None = refl
  arms_idle (Some i) = refl

-- none but turns have ticks
abbrev pub IsNoTurn : Act → Type 0
IsNoTurn (Happens e) = ⊥
IsNoTurn (Admits plan cost) = Unit {0}
IsNoTurn (Arms n) = Unit {0}
IsNoTurn (Drops n) = Unit {0}
IsNoTurn Hands = Unit {0}
IsNoTurn Sweeps = Unit {0}

idle : (a : Act) (s : InstrumentScene) → IsNoTurn a → IsIdle (does a s) s.core
idle (Happens e) s n = absurd n
idle (Admits plan cost) s n = refl
idle (Arms k) s n = arms_idle s (instrument_at s.placer k)
idle (Drops k) s n = refl
idle Hands s n = hands_idle s (front s.placer)
idle Sweeps s n = sweeps_idle s (free_front s.placer)

-- the run doesn't go on by them
pub same_own : (i : Inputs) (m : Instrumented) (own : List ℕ) (ss : List MetricFocusPair) (lasts : List ℕ) (t : IsTied i m own ss lasts) (a : Act) → IsNoTurn a → own ≡ owns_at (opening_of i) (t.acts ++ a ∷ [])
same_own i m own ss lasts t a n = sym (owns_on i m own ss lasts t a ∙ (ap (λ l. own ++ l) (idle a (scene_of m) n) ∙ append_nil own))

pub idle_on : (i : Inputs) (m : Instrumented) (own : List ℕ) (ss : List MetricFocusPair) (lasts : List ℕ) (a : Act) → IsNoTurn a → CanDo a (scene_of m) → ((s : MetricFocusPair) → In s ss → IsNoArmingOf s.instrument.n a)
    → IsTied i m own ss lasts → IsTied i (after_act a m) own ss lasts
idle_on i m own ss lasts a n c other t = record {
  program = t.program;
  acts = t.acts ++ a ∷ [];
  plans = plans_behind a m t.plans;
  leads = leads_on i.image i.settings.harts i.settings.budget i.settings.instruments t.acts m t.plans a t.leads c;
  owned = same_own i m own ss lasts t a n;
  shown = all_on i t.acts a ss lasts other t.shown;
  apart = t.apart;
}

-- ---- the agenda

pub hands_tied : (n : ℕ) (i : Inputs) (m : Instrumented) (own : List ℕ) (ss : List MetricFocusPair) (lasts : List ℕ) → IsTied i m own ss lasts → IsTied i (repeated n Hands m) own ss lasts
hands_tied zero i m own ss lasts t = t
hands_tied (suc n) i m own ss lasts t = hands_tied n i (after_act Hands m) own ss lasts (idle_on i m own ss lasts Hands tt tt (λ s h. tt) t)

pub swept_quiet : (m : Instrumented) → IsQuiet m.core → IsQuiet (after_act Sweeps m).core
swept_quiet m q = subst (λ (d : Instrumented). IsQuiet d.core) (sym (done_is Sweeps m)) (by (free_front m.placer))
  where
    by : (o : Option ℕ) → IsQuiet (in_scene (sweeps o (free_behind m.placer) (scene_of m)).scene).core
    by None = q
    by (Some p) = q

-- Frees where no hart is inside, and none is inside then
pub record AreSwept (n : ℕ) (i : Inputs) (m : Instrumented) (own : List ℕ) (ss : List MetricFocusPair) (lasts : List ℕ) : Type 0 where
  pub tied : IsTied i (repeated n Sweeps m) own ss lasts
  pub quiet : IsQuiet (repeated n Sweeps m).core

pub sweeps_tied : (n : ℕ) (i : Inputs) (m : Instrumented) (own : List ℕ) (ss : List MetricFocusPair) (lasts : List ℕ) → IsQuiet m.core → IsTied i m own ss lasts → AreSwept n i m own ss lasts
sweeps_tied zero i m own ss lasts q t = record { tied = t; quiet = q }
sweeps_tied (suc n) i m own ss lasts q t =
    let k = sweeps_tied n i (after_act Sweeps m) own ss lasts (swept_quiet m q) (idle_on i m own ss lasts Sweeps tt q (λ s h. tt) t) in
    record { tied = k.tied; quiet = k.quiet }

-- ---- turns

pub turns_tied : (turns : List Event) (i : Inputs) (m : Instrumented) (own : List ℕ) (ss : List MetricFocusPair) (lasts : List ℕ) → AllTurns turns → Legal turns m.core → IsTied i m own ss lasts → IsTied i (after_turns turns m) (own ++ owns turns m.core) ss lasts
turns_tied [] i m own ss lasts a l t = subst (λ o. IsTied i m o ss lasts) (sym (append_nil own)) t
turns_tied (e ∷ turns) i m own ss lasts a l t =
    let is : after_act (Happens e) m ≡ record { core = after_event m.core e; placer = m.placer } = done_is (Happens e) m in
    let first = tied_on i m own ss lasts t (Happens e) (a.0, l.0) (λ s h. tt) in
    let rest = turns_tied turns i (after_act (Happens e) m) (own ++ own_of (Happens e) m) ss lasts a.1 (subst (λ (d : Instrumented). Legal turns d.core) (sym is) l.1) first in
    let same : (own ++ own_of (Happens e) m) ++ owns turns (after_act (Happens e) m).core ≡ own ++ owns (e ∷ turns) m.core =
    ap (λ (d : Instrumented). (own ++ own_of (Happens e) m) ++ owns turns d.core) is
    ∙ (append_assoc own (owned m.core e ++ []) (owns turns (after_event m.core e)) ∙ ap (λ l. own ++ (l ++ owns turns (after_event m.core e))) (append_nil (owned m.core e))) in
    subst (λ o. IsTied i (after_turns turns (after_act (Happens e) m)) o ss lasts) same rest
