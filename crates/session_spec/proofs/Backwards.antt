-- An instrument that is armed after an act was armed before it, unless the act armed it.
use Rattle.std.proofs.Common.{◌≡◌, ℕ, List, [], ◌∷◌, Option, Some, None, Ok, Err, refl, sym, ap, ◌∙◌, subst, ⊎_elim}
use Rattle.std.specs.Prelude.{map, Bool, true, false, cond, Result, ◌==◌}
use Rattle.std.proofs.lemmas.Bool.{eqb-true}
use Rattle.pn_types.specs.declared.plan.Plan.{Plan}
use Rattle.machine.specs.Cores.{In}
use Rattle.machine.proofs.Lists.{find_gives, in_map, in_filter}
use Rattle.instrument.specs.Books.{freed_point}
use Rattle.instrument.specs.Handing.{is_barred}
use Rattle.instrument.specs.Placements.{Placements, admission, after_first, free_behind, free_front, front, instrument_at, with_state}
use Rattle.instrument.specs.Scenes.{Act, Happens, Admits, Arms, Drops, Hands, Sweeps, InstrumentScene, admits, arms, does, frees, hands, hands_by, sweeps}
use Rattle.instrument.specs.declared.entry.Entry.{Entry}
use Rattle.instrument.specs.declared.instrument.Instrument.{Instrument}
use Rattle.instrument.specs.declared.number.Refused.{Refused}
use Rattle.instrument.specs.declared.number.State.{State}
use Rattle.instrument.specs.declared.number.State.TheVariants.{Placing, Armed, Leaving}
use Rattle.instrument.proofs.Folds.{in_append}
use Rattle.instrument.proofs.Numbers as numbers

-- the act doesn't arm the instrument of this number
abbrev pub IsNoArmingOf : ℕ → Act → Type 0
IsNoArmingOf n (Happens e) = Unit {0}
IsNoArmingOf n (Admits plan cost) = Unit {0}
IsNoArmingOf n (Arms k) = n ≡ k → ⊥
IsNoArmingOf n (Drops k) = Unit {0}
IsNoArmingOf n Hands = Unit {0}
IsNoArmingOf n Sweeps = Unit {0}

-- an armed instrument of this number is listed
pub record HasArmed (is : List Instrument) (n : ℕ) : Type 0 where
  pub i : Instrument
  pub listed : In i is
  pub no : i.no ≡ n
  pub armed : i.state ≡ Armed

itself : (is : List Instrument) (j : Instrument) → In j is → j.state ≡ Armed → HasArmed is j.no
itself is j h a = record { i = j; listed = h; no = refl; armed = a }

mapped : (m : ℕ) (q : State) (is : List Instrument) (j : Instrument) → (j.no ≡ m → q ≡ Armed → ⊥) → In j (map (with_state m q) is) → j.state ≡ Armed → HasArmed is j.no
mapped m q is j n h a =
    let k = in_map (with_state m q) is j h in
    record {
      i = k.0;
      listed = k.1;
      no = ap (λ (i : Instrument). i.no) (sym k.2);
      armed = by k.0 ((k.0).no == m) refl k.2;
    }
  where
    by : (i : Instrument) (b : Bool) → (i.no == m) ≡ b → j ≡ with_state m q i → i.state ≡ Armed
    by i true e k =
        let same : j.no ≡ m = ap (λ (i : Instrument). i.no) k ∙ eqb-true i.no m e in
        absurd (n same (sym (ap (λ b. cond b q i.state) e) ∙ (sym (ap (λ (i : Instrument). i.state) k) ∙ a)))
    by i false e k = sym (ap (λ b. cond b q i.state) e) ∙ (sym (ap (λ (i : Instrument). i.state) k) ∙ a)

module _ (s : InstrumentScene) (j : Instrument) (a : j.state ≡ Armed) where
  admits_back : (plan : Plan) (cost : Option ℕ) (r : Result Placements Refused) → admission s.placer plan cost ≡ r → In j (admits plan r s).scene.placer.instruments → HasArmed s.placer.instruments j.no
  admits_back plan cost (Err x) e h = itself s.placer.instruments j h a
  admits_back plan cost (Ok q) e h =
      let t = (numbers.admits s.placer plan cost q e).0 in
      ⊎_elim
      (λ k. itself s.placer.instruments j k a)
      (λ k. ⊎_elim (λ (z : j ≡ t.i). absurd (let no : Placing ≡ Armed = sym t.state ∙ (sym (ap (λ (i : Instrument). i.state) z) ∙ a) in cc)) (λ z. absurd z) k)
      (in_append s.placer.instruments (t.i ∷ []) j (subst (In j) t.instruments h))

  arms_back : (n : ℕ) (o : Option Instrument) → instrument_at s.placer n ≡ o → (j.no ≡ n → ⊥) → In j (arms o s).scene.placer.instruments → HasArmed s.placer.instruments j.no
  arms_back n None e other h = itself s.placer.instruments j h a
  arms_back n (Some i) e other h =
      let no = eqb-true i.no n (find_gives (λ (x : Instrument). x.no == n) s.placer.instruments i e).1 in
      mapped i.no Armed s.placer.instruments j (λ (m : j.no ≡ i.no) q. other (m ∙ no)) h a

  frees_back : (b : Bool) (p : ℕ) (q : Placements) → q.instruments ≡ s.placer.instruments → In j (frees b p q s).scene.placer.instruments → HasArmed s.placer.instruments j.no
  frees_back true p q is h = itself s.placer.instruments j (subst (In j) is h) a
  frees_back false p q is h = itself s.placer.instruments j (subst (In j) is (in_filter _ q.instruments j h).0) a

  by_back : (o : Option ℕ) (e : Entry) → In j (hands_by o e s).scene.placer.instruments → HasArmed s.placer.instruments j.no
  by_back None e h = itself s.placer.instruments j h a
  by_back (Some p) e h = frees_back (is_barred s.core p) p (after_first s.placer) refl h

  hands_back : (o : Option Entry) → In j (hands o s).scene.placer.instruments → HasArmed s.placer.instruments j.no
  hands_back None h = itself s.placer.instruments j h a
  hands_back (Some e) h = by_back (freed_point e) e h

  sweeps_back : (o : Option ℕ) → In j (sweeps o (free_behind s.placer) s).scene.placer.instruments → HasArmed s.placer.instruments j.no
  sweeps_back None h = itself s.placer.instruments j h a
  sweeps_back (Some p) h = frees_back false p (free_behind s.placer) refl h

  pub armed_before : (x : Act) → IsNoArmingOf j.no x → In j (does x s).scene.placer.instruments → HasArmed s.placer.instruments j.no
  armed_before (Happens e) n h = itself s.placer.instruments j h a
  armed_before (Admits plan cost) n h = admits_back plan cost (admission s.placer plan cost) refl h
  armed_before (Arms k) n h = arms_back k (instrument_at s.placer k) refl n h
  armed_before (Drops k) n h = mapped k Leaving s.placer.instruments j (λ e q. absurd cc) (in_filter _ (map (with_state k Leaving) s.placer.instruments) j h).0 a
  armed_before Hands n h = hands_back (front s.placer) h
  armed_before Sweeps n h = sweeps_back (free_front s.placer) h
