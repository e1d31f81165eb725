-- An instrument that is armed isn't armed again.
use Rattle.std.proofs.Common.{◌≡◌, ℕ, List, [], ◌∷◌, ◌++◌, Option, Some, None, refl, sym, ap, ◌∙◌, subst}
use Rattle.std.specs.Prelude.{Bool, true, false}
use Rattle.pn_types.specs.declared.placed.Placed.{Placed}
use Rattle.machine.specs.Cores.{Core}
use Rattle.machine.specs.Events as events
use Rattle.machine.specs.Events.{Event}
use Rattle.machine.specs.Instruments.{AllLet, Lets}
use Rattle.instrument.specs.Books.{freed_point}
use Rattle.instrument.specs.Handing.{event_of, is_barred}
use Rattle.instrument.specs.Placements.{Placements, after_first, free_behind, free_front, front, instrument_at}
use Rattle.instrument.specs.Scenes.{Act, Happens, Admits, Arms, Drops, Hands, Sweeps, CanArm, CanDo, IsTurnOrSample, InstrumentScene, arms, does, frees, hands, hands_by, sweeps}
use Rattle.instrument.specs.declared.entry.Entry.{Entry}
use Rattle.instrument.specs.declared.entry.Entry.TheVariants.{WriteBase, WriteMini, LinkMini, LinkPoint, UnlinkMini, UnlinkPoint, Free}
use Rattle.instrument.specs.declared.instrument.Instrument.{Instrument}

-- ---- partings of a list at an event

-- no event of the list arms the instrument
abbrev pub NoArm : Placed → List Event → Type 0
NoArm i [] = Unit {0}
NoArm i (e ∷ es) = (e ≡ events.Arm i → ⊥) × NoArm i es

pub no_arm_append : (i : Placed) (xs ys : List Event) → NoArm i xs → NoArm i ys → NoArm i (xs ++ ys)
no_arm_append i [] ys a b = b
no_arm_append i (x ∷ xs) ys a b = (a.0, no_arm_append i xs ys a.1 b)

not_in : (i : Placed) (xs ys : List Event) → NoArm i (xs ++ events.Arm i ∷ ys) → ⊥
not_in i [] ys a = a.0 refl
not_in i (x ∷ xs) ys a = not_in i xs ys a.1

pub let_in : (i : Placed) (xs ys : List Event) → AllLet i (xs ++ events.Arm i ∷ ys) → Lets i (events.Arm i)
let_in i [] ys a = a.0
let_in i (x ∷ xs) ys a = let_in i xs ys a.1

-- two partings of a list at the arming, after which it isn't armed again
pub record Same (before since eb es : List Event) : Type 0 where
  pub fronts : before ≡ eb
  pub backs : since ≡ es

pub same_parts : (i : Placed) (before since eb es : List Event) → before ++ events.Arm i ∷ since ≡ eb ++ events.Arm i ∷ es
    → ((xs ys : List Event) → since ≡ xs ++ events.Arm i ∷ ys → ⊥) → NoArm i es → Same before since eb es
same_parts i [] since [] es e f g = record { fronts = refl; backs = cc }
same_parts i [] since (y ∷ eb) es e f g = let z : since ≡ eb ++ events.Arm i ∷ es = cc in absurd (f eb es z)
same_parts i (x ∷ before) since [] es e f g = let z : es ≡ before ++ events.Arm i ∷ since = cc in absurd (not_in i before since (subst (NoArm i) z g))
same_parts i (x ∷ before) since (y ∷ eb) es e f g =
    let z : before ++ events.Arm i ∷ since ≡ eb ++ events.Arm i ∷ es = cc in
    let h : x ≡ y = cc in
    let s = same_parts i before since eb es z f g in
    record { fronts = ap (λ l. x ∷ l) s.fronts ∙ ap (λ v. v ∷ eb) h; backs = s.backs }

-- ---- an instrument that is armed isn't armed again

turns_no_arm : (i : Placed) (e : Event) → IsTurnOrSample e → NoArm i (e ∷ [])
turns_no_arm i (events.Turn h) t = ((λ q. absurd cc), tt)
turns_no_arm i (events.Sample j) t = ((λ q. absurd cc), tt)
turns_no_arm i (events.Arm j) t = absurd t
turns_no_arm i (events.Write b) t = absurd t
turns_no_arm i (events.LinkMini p m) t = absurd t
turns_no_arm i (events.UnlinkMini p m) t = absurd t
turns_no_arm i (events.LinkPoint p) t = absurd t
turns_no_arm i (events.UnlinkPoint p) t = absurd t
turns_no_arm i (events.Free p) t = absurd t

frees_no_arm : (i : Placed) (b : Bool) (p : ℕ) (q : Placements) (s : InstrumentScene) → NoArm i (frees b p q s).events
frees_no_arm i true p q s = tt
frees_no_arm i false p q s = ((λ e. absurd cc), tt)

entry_no_arm : (i : Placed) (c : Core) (e : Entry) → event_of c e ≡ events.Arm i → ⊥
entry_no_arm i c (WriteBase b) q = absurd cc
entry_no_arm i c (WriteMini b) q = absurd cc
entry_no_arm i c (LinkMini p m) q = absurd cc
entry_no_arm i c (LinkPoint p m) q = absurd cc
entry_no_arm i c (UnlinkMini p m) q = absurd cc
entry_no_arm i c (UnlinkPoint p m) q = absurd cc
entry_no_arm i c (Free p) q = absurd cc

by_no_arm : (i : Placed) (s : InstrumentScene) (o : Option ℕ) (e : Entry) → NoArm i (hands_by o e s).events
by_no_arm i s None e = (entry_no_arm i s.core e, tt)
by_no_arm i s (Some p) e = frees_no_arm i (is_barred s.core p) p (after_first s.placer) s

hands_no_arm : (i : Placed) (s : InstrumentScene) (o : Option Entry) → NoArm i (hands o s).events
hands_no_arm i s None = tt
hands_no_arm i s (Some e) = by_no_arm i s (freed_point e) e

sweeps_no_arm : (i : Placed) (s : InstrumentScene) (o : Option ℕ) → NoArm i (sweeps o (free_behind s.placer) s).events
sweeps_no_arm i s None = tt
sweeps_no_arm i s (Some p) = frees_no_arm i false p (free_behind s.placer) s

arms_no_arm : (i : Placed) (s : InstrumentScene) (j : Instrument) → (j.placed ≡ i → ⊥) → (o : Option Instrument) → o ≡ Some j → NoArm i (arms o s).events
arms_no_arm i s j n None e = absurd cc
arms_no_arm i s j n (Some k) e = ((λ q. let p : k.placed ≡ i = cc in let z : k ≡ j = cc in n (ap (λ (x : Instrument). x.placed) (sym z) ∙ p)), tt)

-- no instrument that can be armed acts where `i` does
abbrev pub ArmsOther : Placed → InstrumentScene → Type 0
ArmsOther i s = (n : ℕ) (c : CanArm n s) → (c.instrument).placed ≡ i → ⊥

pub act_no_arm : (i : Placed) (s : InstrumentScene) (a : Act) → CanDo a s → ArmsOther i s → NoArm i (does a s).events
act_no_arm i s (Happens e) c f = turns_no_arm i e c.0
act_no_arm i s (Admits plan cost) c f = tt
act_no_arm i s (Arms n) c f = arms_no_arm i s c.instrument (f n c) (instrument_at s.placer n) c.is
act_no_arm i s (Drops n) c f = tt
act_no_arm i s Hands c f = hands_no_arm i s (front s.placer)
act_no_arm i s Sweeps c f = sweeps_no_arm i s (free_front s.placer)
