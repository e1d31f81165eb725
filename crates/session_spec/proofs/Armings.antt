-- The armings of a due work keep what is known of how a session's state came about.
use Rattle.std.proofs.Common.{◌≡◌, ℕ, List, [], ◌∷◌, ◌++◌, Some, refl, sym, ap, ◌∙◌, subst, length, inl, inr}
use Rattle.std.specs.Prelude.{Bool, true, false, cond, ◌==◌}
use Rattle.std.proofs.lemmas.Bool.{true≢false, and_parts, eq-eqb, eqb-true}
use Rattle.machine.specs.Cores.{In}
use Rattle.machine.specs.Effects.{armed_hart}
use Rattle.machine.specs.Events.{IsQuiet}
use Rattle.machine.specs.Readings.{readings}
use Rattle.machine.proofs.Arming.{get_map}
use Rattle.machine.proofs.Lists.{find_finds, find_gives}
use Rattle.tramp_spec.specs.Harts.{Hart}
use Rattle.instrument.specs.Scenes.{Act, Arms, CanArm, InstrumentScene}
use Rattle.instrument.specs.Placements.{instrument_at, state_of}
use Rattle.instrument.specs.declared.instrument.Instrument.{Instrument}
use Rattle.instrument.specs.declared.number.State.{State}
use Rattle.instrument.specs.declared.number.State.TheVariants.{Armed, Placing, Leaving, Gone}
use Rattle.instrument.proofs.Folds.{append_nil}
use Rattle.instrumented.specs.Instrumented.{Instrumented, after_act, is_linked, scene_of}
use Rattle.instrumented.specs.Reached.{IsReachedByActs}
use Rattle.instrumented.specs.Readings.{Opening, scene_at, time_at}
use Rattle.instrumented.proofs.Acts.{leads_on, plans_behind, whole_of}
use Rattle.instrumented.proofs.Linked.{At, armed_is, can_arm, placing_at}
use Rattle.session_spec.specs.declared.data.MetricFocusPair.{MetricFocusPair}
use Rattle.session_spec.specs.Inputs.{Inputs, harts_of_focus}
use Rattle.session_spec.specs.Due.{all_armed, arm_all, is_placing, is_ready, machine_armed}
use Rattle.session_spec.specs.Readings.{lasts_armed, read_now, reading_by}
use Rattle.session_spec.specs.Ties.{AreApart, AreShown, IsOther, IsShown, IsTied, opening_of}
use Rattle.session_spec.proofs.Shows.{all_on, listed_on, number_on, shown_on}
use Rattle.session_spec.proofs.Tied.{same_own}

placing_is : (q : State) → is_placing q ≡ true → q ≡ Placing
placing_is Placing e = refl
placing_is Armed e = absurd (true≢false (sym e))
placing_is Leaving e = absurd (true≢false (sym e))
placing_is Gone e = absurd (true≢false (sym e))

-- acts lead to the machine, whatever is shown
abbrev pub IsLed : Inputs → Instrumented → List ℕ → Type 0
IsLed i m own = IsTied i m own [] []

pub led_reached : (i : Inputs) (m : Instrumented) (own : List ℕ) → IsLed i m own → IsReachedByActs m
led_reached i m own b = record {
  image = i.image;
  harts = i.settings.harts;
  budget = i.settings.budget;
  limit = i.settings.instruments;
  program = b.program;
  acts = b.acts;
  plans = b.plans;
  leads = b.leads;
}

-- an instrument is found by its number
pub at_is : (i : Inputs) (m : Instrumented) (own : List ℕ) → IsLed i m own → (n : ℕ) (x : Instrument) → In x m.placer.instruments → x.no ≡ n → instrument_at m.placer n ≡ Some x
at_is i m own b n x h e =
    let z = find_finds (λ (y : Instrument). y.no == n) m.placer.instruments x h (eq-eqb x.no n e) in
    let g = find_gives (λ (y : Instrument). y.no == n) m.placer.instruments z.0 z.1 in
    let w = whole_of i.image i.settings.harts i.settings.budget i.settings.instruments b.acts m b.plans b.program b.leads in
    z.1 ∙ ap (λ (y : Instrument). Some y) (w.orderly.single z.0 x g.0 h (eqb-true (z.0).no n g.1 ∙ sym e))

-- ---- one arming

module _ (i : Inputs) (m : Instrumented) (own : List ℕ) (b : IsLed i m own) (quiet : IsQuiet m.core) (s : MetricFocusPair) (ready : is_ready m s ≡ true) where
  abbrev n : ℕ
  n = s.instrument.n

  abbrev o : Opening
  o = opening_of i

  parts : (is_placing (state_of m.placer n) ≡ true) × (is_linked m n ≡ true)
  parts = and_parts (is_placing (state_of m.placer n)) (is_linked m n) ready

  at : At m.placer n
  at = placing_at m.placer n (placing_is (state_of m.placer n) parts.0)

  pub can : CanArm n (scene_of m)
  can = can_arm m (led_reached i m own b) n at quiet parts.1

  pub armed_quiet : IsQuiet (after_act (Arms n) m).core
  armed_quiet = subst (λ (d : Instrumented). IsQuiet d.core) (sym (armed_is m (led_reached i m own b) n at)) (λ h y e.
      let k = get_map (armed_hart m.core (at.instrument).placed) m.core.harts h y e in
      ap (λ (z : Hart). z.inside) k.2 ∙ quiet h k.0 k.1)

  abbrev acts : List Act
  acts = b.acts ++ Arms n ∷ []

  -- acts lead on
  abbrev pub led : IsLed i (after_act (Arms n) m) own
  led = record {
    program = b.program;
    acts = acts;
    plans = plans_behind (Arms n) m b.plans;
    leads = leads_on i.image i.settings.harts i.settings.budget i.settings.instruments b.acts m b.plans (Arms n) b.leads can;
    owned = same_own i m own [] [] b (Arms n) tt;
    shown = tt;
    apart = tt;
  }

  abbrev pub now : MetricFocusPair
  now = record s { armed = Some (length own); from = length own }

  -- and it was read now
  pub read_first : (last : ℕ) → IsShown i b.acts s last → IsShown i acts now (read_now i (after_act (Arms n) m) s)
  read_first last k =
      let core : (scene_at o acts).core ≡ (after_act (Arms n) m).core = ap (λ (z : InstrumentScene). z.core) (led.leads).scene in
      let none : acts ≡ acts ++ [] = sym (append_nil acts) in
      record {
        plan = k.plan;
        planned = k.planned;
        good = k.good;
        listed = listed_on i b.acts (Arms n) s last k;
        number = number_on i b.acts (Arms n) s last k;
        armed = λ x h e q. refl;
        read = λ h. record {
          course = record { before = b.acts; first = []; rest = [] };
          all = none ∙ sym (append_nil (acts ++ []));
          armed = ap (λ (l : List ℕ). Some (length l)) b.owned;
          from = ap (λ (l : List ℕ). length l) (led.owned) ∙ ap (time_at o) none;
          quiet = subst (λ l. IsQuiet (scene_at o l).core) none (subst IsQuiet (sym core) armed_quiet);
          reading = λ x h e.
              let is = at_is i (after_act (Arms n) m) own led n x (subst (λ (z : InstrumentScene). In x z.placer.instruments) (led.leads).scene h) e in
              ap (λ y. reading_by y (harts_of_focus i s.focus) (after_act (Arms n) m).core) is
              ∙ ap (readings x.placed (harts_of_focus i s.focus)) (sym core ∙ ap (λ l. (scene_at o l).core) none);
        };
      }

-- ---- all of them

pub record AllArmed (i : Inputs) (m : Instrumented) (own : List ℕ) (ss : List MetricFocusPair) (lasts : List ℕ) (b : IsLed i m own) : Type 0 where
  pub led : IsLed i (arm_all m ss) own
  pub quiet : IsQuiet (arm_all m ss).core
  pub shown : AreShown i led.acts (all_armed (length own) m ss) (lasts_armed i m ss lasts)
  -- what is known of others goes on
  pub carry : (s : MetricFocusPair) (last : ℕ) → IsOther s ss → IsShown i b.acts s last → IsShown i led.acts s last

abbrev pub machine_by : Bool → Instrumented → MetricFocusPair → Instrumented
machine_by r m s = cond r (after_act (Arms s.instrument.n) m) m

-- the same by whether the first of them is ready
record ArmedBy (r : Bool) (i : Inputs) (m : Instrumented) (own : List ℕ) (s : MetricFocusPair) (last : ℕ) (ss : List MetricFocusPair) (lasts : List ℕ) (b : IsLed i m own) : Type 0 where
  led : IsLed i (arm_all (machine_by r m s) ss) own
  quiet : IsQuiet (arm_all (machine_by r m s) ss).core
  shown : AreShown i led.acts (cond r (record s { armed = Some (length own); from = length own }) s ∷ all_armed (length own) (machine_by r m s) ss)
      (cond r (read_now i (machine_by r m s) s) last ∷ lasts_armed i (machine_by r m s) ss lasts)
  carry : (x : MetricFocusPair) (read : ℕ) → IsOther x (s ∷ ss) → IsShown i b.acts x read → IsShown i led.acts x read

pub all_arm : (i : Inputs) (m : Instrumented) (own : List ℕ) (ss : List MetricFocusPair) (lasts : List ℕ) (b : IsLed i m own) → IsQuiet m.core → AreShown i b.acts ss lasts → AreApart ss → AllArmed i m own ss lasts b
all_arm i m own [] [] b q k a = record { led = b; quiet = q; shown = tt; carry = λ s last n x. x }
all_arm i m own [] (last ∷ lasts) b q k a = absurd k
all_arm i m own (s ∷ ss) [] b q k a = absurd k
all_arm i m own (s ∷ ss) (last ∷ lasts) b q k a =
    let x = by (is_ready m s) refl (λ d c e l. all_arm i d own ss lasts c e l a.1) in
    record { led = x.led; quiet = x.quiet; shown = x.shown; carry = x.carry }
  where
    by : (r : Bool) → is_ready m s ≡ r → ((d : Instrumented) (c : IsLed i d own) → IsQuiet d.core → AreShown i c.acts ss lasts → AllArmed i d own ss lasts c) → ArmedBy r i m own s last ss lasts b
    by false e ih =
        let r = ih m b q k.1 in
        record { led = r.led; quiet = r.quiet; shown = (r.carry s last a.0 k.0, r.shown); carry = λ x read other l. r.carry x read (λ t h. other t (inr h)) l }
    by true e ih =
        let c = led i m own b q s e in
        let r = ih (after_act (Arms s.instrument.n) m) c (armed_quiet i m own b q s e) (all_on i b.acts (Arms s.instrument.n) ss lasts (λ t h. a.0 t h) k.1) in
        record {
          led = r.led;
          quiet = r.quiet;
          shown = (r.carry (now i m own b q s e) (read_now i (after_act (Arms s.instrument.n) m) s) a.0 (read_first i m own b q s e last k.0), r.shown);
          carry = λ x read other l. r.carry x read (λ t h. other t (inr h)) (shown_on i b.acts (Arms s.instrument.n) x read (λ z. other s (inl refl) (sym z)) l);
        }

-- arming changes no number
armed_number : (r : Bool) (time : ℕ) (s : MetricFocusPair) → (cond r (record s { armed = Some time; from = time }) s).instrument.n ≡ s.instrument.n
armed_number true time s = refl
armed_number false time s = refl

-- one after the armings has the number of one before them
record Renumbered (x : MetricFocusPair) (ss : List MetricFocusPair) : Type 0 where
  s : MetricFocusPair
  listed : In s ss
  same : x.instrument.n ≡ s.instrument.n

renumbered : (time : ℕ) (m : Instrumented) (ss : List MetricFocusPair) (x : MetricFocusPair) → In x (all_armed time m ss) → Renumbered x ss
renumbered time m [] x h = absurd h
renumbered time m (s ∷ ss) x (inl e) = record { s = s; listed = inl refl; same = ap (λ (u : MetricFocusPair). u.instrument.n) e ∙ armed_number (is_ready m s) time s }
renumbered time m (s ∷ ss) x (inr h) = let r = renumbered time (machine_armed m s) ss x h in record { s = r.s; listed = inr r.listed; same = r.same }

armed_apart : (time : ℕ) (m : Instrumented) (ss : List MetricFocusPair) → AreApart ss → AreApart (all_armed time m ss)
armed_apart time m [] a = tt
armed_apart time m (s ∷ ss) a =
    ((λ x h e. let r = renumbered time (machine_armed m s) ss x h in a.0 r.s r.listed (sym r.same ∙ (e ∙ armed_number (is_ready m s) time s))), armed_apart time (machine_armed m s) ss a.1)

-- after the armings of a due work
pub record AreTied (i : Inputs) (m : Instrumented) (own : List ℕ) (ss : List MetricFocusPair) (lasts : List ℕ) : Type 0 where
  pub tied : IsTied i (arm_all m ss) own (all_armed (length own) m ss) (lasts_armed i m ss lasts)
  pub quiet : IsQuiet (arm_all m ss).core

pub arms_tied : (i : Inputs) (m : Instrumented) (own : List ℕ) (ss : List MetricFocusPair) (lasts : List ℕ) → IsQuiet m.core → IsTied i m own ss lasts → AreTied i m own ss lasts
arms_tied i m own ss lasts q t =
    let b : IsLed i m own = record { program = t.program; acts = t.acts; plans = t.plans; leads = t.leads; owned = t.owned; shown = tt; apart = tt } in
    let r = all_arm i m own ss lasts b q t.shown t.apart in
    record {
      tied = record { program = (r.led).program; acts = (r.led).acts; plans = (r.led).plans; leads = (r.led).leads; owned = (r.led).owned; shown = r.shown; apart = armed_apart (length own) m ss t.apart };
      quiet = r.quiet;
    }
