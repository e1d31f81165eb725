-- What acts make of the states of instruments.
use Rattle.std.proofs.Common.{◌≡◌, ℕ, zero, suc, List, [], ◌∷◌, Option, Some, None, refl, sym, ap, ◌∙◌, subst}
use Rattle.std.specs.Prelude.{Bool, true, false}
use Rattle.machine.specs.Events.{Event}
use Rattle.instrument.specs.Books.{freed_point}
use Rattle.instrument.specs.Handing.{is_barred}
use Rattle.instrument.specs.Numbers.{Admit, Drop, Next, NextFree, PutBack, Freed, called}
use Rattle.instrument.specs.Placements.{Placements, with_armed, after_first, free_behind, free_front, freed, front, is_leaving, put_back, state_of}
use Rattle.instrument.specs.Scenes.{Act, Happens, Admits, Arms, Drops, Hands, Sweeps, InstrumentScene, arms, does, frees, hands, hands_by, sweeps}
use Rattle.instrument.specs.declared.entry.Entry.{Entry}
use Rattle.instrument.specs.declared.number.State.TheVariants.{Placing}
use Rattle.instrumented.specs.Instrumented.{Instrumented, after_act, repeated, scene_of, after_turns}
use Rattle.session_spec.specs.Rosters.{AreNumbered}
use Rattle.session_spec.proofs.Standing.{IsArming, Since, arming, listed_at, since_call, since_none, since_on}

-- the act arms no instrument
abbrev pub IsNoArming : Act → Type 0
IsNoArming (Arms n) = ⊥
IsNoArming (Happens e) = Unit {0}
IsNoArming (Admits plan cost) = Unit {0}
IsNoArming (Drops n) = Unit {0}
IsNoArming Hands = Unit {0}
IsNoArming Sweeps = Unit {0}

module _ (s : InstrumentScene) (r : AreNumbered s.placer) where
  since_next : Since s.placer (after_first s.placer)
  since_next = since_call Next tt s.placer r

  frees_since : (b : Bool) (point : ℕ) (q : Placements) → Since s.placer q → Since s.placer (frees b point q s).scene.placer
  frees_since false point q a = since_on s.placer q (freed point q) a (since_call (Freed point) tt q a.roster)
  frees_since true point q a = since_on s.placer q (put_back point q) a (since_call (PutBack point) tt q a.roster)

  by_since : (o : Option ℕ) (e : Entry) → Since s.placer (hands_by o e s).scene.placer
  by_since None e = since_next
  by_since (Some point) e = frees_since (is_barred s.core point) point (after_first s.placer) since_next

  hands_since : (o : Option Entry) → Since s.placer (hands o s).scene.placer
  hands_since None = since_none s.placer r
  hands_since (Some e) = by_since (freed_point e) e

  sweeps_since : (o : Option ℕ) → Since s.placer (sweeps o (free_behind s.placer) s).scene.placer
  sweeps_since None = since_call NextFree tt s.placer r
  sweeps_since (Some point) = frees_since false point (free_behind s.placer) (since_call NextFree tt s.placer r)

  pub act_since : (a : Act) → IsNoArming a → Since s.placer (does a s).scene.placer
  act_since (Arms n) o = absurd o
  act_since (Happens e) o = since_none s.placer r
  act_since (Admits plan cost) o = since_call (Admit plan cost) tt s.placer r
  act_since (Drops n) o = since_call (Drop n) tt s.placer r
  act_since Hands o = hands_since (front s.placer)
  act_since Sweeps o = sweeps_since (free_front s.placer)

-- ---- on a machine with its instruments

pub done_since : (a : Act) → IsNoArming a → (m : Instrumented) → AreNumbered m.placer → Since m.placer (after_act a m).placer
unfolding after_act
done_since a o m r = act_since (scene_of m) r a o

pub repeated_since : (n : ℕ) (a : Act) → IsNoArming a → (m : Instrumented) → AreNumbered m.placer → Since m.placer (repeated n a m).placer
repeated_since zero a o m r = since_none m.placer r
repeated_since (suc n) a o m r =
    let d = done_since a o m r in
    since_on m.placer (after_act a m).placer (repeated n a (after_act a m)).placer d (repeated_since n a o (after_act a m) d.roster)

-- turns don't touch the instruments
happened_placer : (e : Event) (m : Instrumented) → (after_act (Happens e) m).placer ≡ m.placer
unfolding after_act
happened_placer e m = refl

pub taken_placer : (turns : List Event) (m : Instrumented) → (after_turns turns m).placer ≡ m.placer
taken_placer [] m = refl
taken_placer (e ∷ turns) m = taken_placer turns (after_act (Happens e) m) ∙ happened_placer e m

-- what an admission makes
pub admitted_placer : (plan : _) (cost : Option ℕ) (m : Instrumented) → (after_act (Admits plan cost) m).placer ≡ called (Admit plan cost) m.placer
unfolding after_act
admitted_placer plan cost m = refl

pub dropped_placer : (n : ℕ) (m : Instrumented) → (after_act (Drops n) m).placer ≡ called (Drop n) m.placer
unfolding after_act
dropped_placer n m = refl

-- an instrument that is being placed is armed
pub arms_placer : (n : ℕ) (m : Instrumented) → AreNumbered m.placer → state_of m.placer n ≡ Placing → IsArming n m.placer (after_act (Arms n) m).placer
unfolding after_act
arms_placer n m r e =
    let l = listed_at m.placer n (ap is_leaving e) in
    subst (IsArming n m.placer)
    (sym (ap (λ o. (arms o (scene_of m)).scene.placer) l.is ∙ ap (λ k. with_armed k m.placer) l.no))
    (arming n m.placer r)
