-- Where an instrument acts, and its plan, stay.
use Rattle.std.proofs.Common.{◌≡◌, ℕ, zero, suc, ◌<◌, ◌≤◌, List, [], ◌∷◌, ◌++◌, Option, Some, None, Ok, Err, refl, sym, ap, ◌∙◌, subst, arith, ⊎_elim}
use Rattle.std.specs.Prelude.{map, Bool, true, false, cond, Result, slice_get, ◌==◌}
use Rattle.pn_types.specs.declared.plan.Plan.{Plan}
use Rattle.machine.specs.Cores.{In}
use Rattle.machine.proofs.Lists.{in_map, in_filter}
use Rattle.instrument.specs.Books.{freed_point}
use Rattle.instrument.specs.Handing.{is_barred}
use Rattle.instrument.specs.Placements.{Placements, admission, after_first, free_behind, free_front, front, instrument_at, with_state}
use Rattle.instrument.specs.Scenes.{Act, Happens, Admits, Arms, Drops, Hands, Sweeps, InstrumentScene, Told, admits, arms, does, frees, hands, hands_by, scene_after, sweeps}
use Rattle.instrument.specs.declared.entry.Entry.{Entry}
use Rattle.instrument.specs.declared.instrument.Instrument.{Instrument}
use Rattle.instrument.specs.declared.number.Refused.{Refused}
use Rattle.instrument.specs.declared.number.State.{State}
use Rattle.instrument.specs.declared.number.State.TheVariants.{Placing, Armed, Leaving}
use Rattle.instrument.proofs.Folds.{in_append}
use Rattle.instrument.proofs.Numbers as numbers

-- an instrument of one list stands in another, acting at the same places; it is being placed only where it was
pub record IsOf (is : List Instrument) (j : Instrument) : Type 0 where
  pub i : Instrument
  pub listed : In i is
  pub no : i.no ≡ j.no
  pub placed : i.placed ≡ j.placed
  pub placing : j.state ≡ Placing → i.state ≡ Placing

-- Those that are listed later, but for new ones, were listed before and act where they did; plans stay.
pub record Stay (s t : InstrumentScene) : Type 0 where
  pub count : s.placer.count ≤ t.placer.count
  pub listed : (j : Instrument) → In j t.placer.instruments → j.no < s.placer.count → IsOf s.placer.instruments j
  pub plans : (n : ℕ) (plan : Plan) → slice_get s.plans n ≡ Some plan → slice_get t.plans n ≡ Some plan

-- the same list with other states, or some of it
state_of_mapped : (m : ℕ) (q : State) (is : List Instrument) (j : Instrument) → (q ≡ Placing → ⊥) → In j (map (with_state m q) is) → IsOf is j
state_of_mapped m q is j n h =
    let k = in_map (with_state m q) is j h in
    record {
      i = k.0;
      listed = k.1;
      no = ap (λ (i : Instrument). i.no) (sym k.2);
      placed = ap (λ (i : Instrument). i.placed) (sym k.2);
      placing = λ e. by k.0 ((k.0).no == m) (sym (ap (λ (i : Instrument). i.state) k.2) ∙ e);
    }
  where
    by : (i : Instrument) (b : Bool) → cond b q i.state ≡ Placing → i.state ≡ Placing
    by i true e = absurd (n e)
    by i false e = e

in_itself : (is : List Instrument) (j : Instrument) → In j is → IsOf is j
in_itself is j h = record { i = j; listed = h; no = refl; placed = refl; placing = λ e. e }

slice_front : (xs ys : List Plan) (n : ℕ) (p : Plan) → slice_get xs n ≡ Some p → slice_get (xs ++ ys) n ≡ Some p
slice_front [] ys n p e = absurd cc
slice_front (x ∷ xs) ys zero p e = e
slice_front (x ∷ xs) ys (suc n) p e = slice_front xs ys n p e

-- ---- each act

still : (s : InstrumentScene) (t : Told) → t.scene.placer.count ≡ s.placer.count → t.scene.plans ≡ s.plans → ((j : Instrument) → In j t.scene.placer.instruments → IsOf s.placer.instruments j) → Stay s t.scene
still s t count plans f = record { count = omega arith; listed = λ j h l. f j h; plans = λ n p e. subst (λ ps. slice_get ps n ≡ Some p) (sym plans) e }

admits_stay : (s : InstrumentScene) (plan : Plan) (cost : Option ℕ) (r : Result Placements Refused) → admission s.placer plan cost ≡ r → Stay s (admits plan r s).scene
admits_stay s plan cost (Err x) e = record { count = omega arith; listed = λ j h l. in_itself s.placer.instruments j h; plans = λ n p i. i }
admits_stay s plan cost (Ok q) e =
    let t = (numbers.admits s.placer plan cost q e).0 in
    let number = t.no in
    let more = t.count in
    record {
      count = omega arith;
      listed = λ j h l. ⊎_elim
          (λ k. in_itself s.placer.instruments j k)
          (λ k. ⊎_elim (λ (z : j ≡ t.i). let y = ap (λ (i : Instrument). i.no) z in absurd (omega arith)) (λ z. absurd z) k)
          (in_append s.placer.instruments (t.i ∷ []) j (subst (In j) t.instruments h));
      plans = λ n p i. slice_front s.plans (plan ∷ []) n p i;
    }

arms_stay : (s : InstrumentScene) (o : Option Instrument) → Stay s (arms o s).scene
arms_stay s None = still s (arms None s) refl refl (λ j h. in_itself s.placer.instruments j h)
arms_stay s (Some i) = still s (arms (Some i) s) refl refl (λ j h. state_of_mapped i.no Armed s.placer.instruments j (λ e. absurd cc) h)

drops_stay : (s : InstrumentScene) (n : ℕ) → Stay s (does (Drops n) s).scene
drops_stay s n = still s (does (Drops n) s) refl refl (λ j h. state_of_mapped n Leaving s.placer.instruments j (λ e. absurd cc) (in_filter _ (map (with_state n Leaving) s.placer.instruments) j h).0)

frees_stay : (s : InstrumentScene) (b : Bool) (p : ℕ) (q : Placements) → q.count ≡ s.placer.count → q.instruments ≡ s.placer.instruments → Stay s (frees b p q s).scene
frees_stay s true p q c is = still s (frees true p q s) c refl (λ j h. in_itself s.placer.instruments j (subst (In j) is h))
frees_stay s false p q c is = still s (frees false p q s) c refl (λ j h. in_itself s.placer.instruments j (subst (In j) is (in_filter _ q.instruments j h).0))

by_stay : (s : InstrumentScene) (o : Option ℕ) (e : Entry) → Stay s (hands_by o e s).scene
by_stay s None e = still s (hands_by None e s) refl refl (λ j h. in_itself s.placer.instruments j h)
by_stay s (Some p) e = frees_stay s (is_barred s.core p) p (after_first s.placer) refl refl

hands_stay : (s : InstrumentScene) (o : Option Entry) → Stay s (hands o s).scene
hands_stay s None = still s (hands None s) refl refl (λ j h. in_itself s.placer.instruments j h)
hands_stay s (Some e) = by_stay s (freed_point e) e

sweeps_stay : (s : InstrumentScene) (o : Option ℕ) → Stay s (sweeps o (free_behind s.placer) s).scene
sweeps_stay s None = still s (sweeps None (free_behind s.placer) s) refl refl (λ j h. in_itself s.placer.instruments j h)
sweeps_stay s (Some p) = frees_stay s false p (free_behind s.placer) refl refl

pub act_stay : (a : Act) (s : InstrumentScene) → Stay s (does a s).scene
act_stay (Happens e) s = still s (does (Happens e) s) refl refl (λ j h. in_itself s.placer.instruments j h)
act_stay (Admits plan cost) s = admits_stay s plan cost (admission s.placer plan cost) refl
act_stay (Arms n) s = arms_stay s (instrument_at s.placer n)
act_stay (Drops n) s = drops_stay s n
act_stay Hands s = hands_stay s (front s.placer)
act_stay Sweeps s = sweeps_stay s (free_front s.placer)

-- ---- all acts

stay_on : (s t u : InstrumentScene) → Stay s t → Stay t u → Stay s u
stay_on s t u a b =
    let x = a.count in
    let y = b.count in
    record {
      count = omega arith;
      listed = λ j h l.
          let k = b.listed j h (omega arith) in
          let same = k.no in
          let z = a.listed k.i k.listed (omega arith) in
          record { i = z.i; listed = z.listed; no = z.no ∙ k.no; placed = z.placed ∙ k.placed; placing = λ e. z.placing (k.placing e) };
      plans = λ n p e. b.plans n p (a.plans n p e);
    }

pub acts_stay : (acts : List Act) (s : InstrumentScene) → Stay s (scene_after acts s)
acts_stay [] s = record { count = omega arith; listed = λ j h l. in_itself s.placer.instruments j h; plans = λ n p e. e }
acts_stay (a ∷ acts) s = stay_on s (does a s).scene (scene_after acts (does a s).scene) (act_stay a s) (acts_stay acts (does a s).scene)
