-- What is armed was armed before, and was sampled last with all others.
use Rattle.std.proofs.Common.{◌≡◌, ℕ, zero, suc, List, [], ◌∷◌, Some, refl, sym, ap, ◌∙◌, subst, inl, inr}
use Rattle.std.specs.Prelude.{Bool, true, false, cond, map, ◌==◌}
use Rattle.std.proofs.lemmas.Bool.{eqb-true}
use Rattle.machine.specs.Cores.{In}
use Rattle.machine.specs.Events.{Event, IsQuiet}
use Rattle.machine.proofs.Lists.{find_gives, in_map}
use Rattle.instrument.specs.Placements.{Placements, state_in}
use Rattle.instrument.specs.Scenes.{Act, Arms, Hands, Happens, Sweeps}
use Rattle.instrument.specs.declared.instrument.Instrument.{Instrument}
use Rattle.instrumented.specs.Instrumented.{Instrumented, after_act, repeated, scene_of, after_turns}
use Rattle.instrumented.proofs.Acts.{done_is}
use Rattle.session_spec.specs.declared.data.MetricFocusPair.{MetricFocusPair}
use Rattle.session_spec.specs.Inputs.{Inputs}
use Rattle.session_spec.specs.Due.{all_armed, arm_all, is_armed, is_armed_state, is_ready, sampled_to}
use Rattle.session_spec.specs.Ties.{AreApart, IsTied}
use Rattle.session_spec.specs.Reads.{AreFromLast}
use Rattle.session_spec.proofs.Armings.{IsLed, armed_quiet, at_is, led, machine_by}
use Rattle.session_spec.proofs.Backwards.{IsNoArmingOf, armed_before}
use Rattle.session_spec.proofs.Samples.{found}
use Rattle.session_spec.proofs.Tied.{idle_on, swept_quiet}

-- acts lead to the machine of what is tied
pub led_of : (i : Inputs) (m : Instrumented) (own : List ℕ) (ss : List MetricFocusPair) (lasts : List ℕ) → IsTied i m own ss lasts → IsLed i m own
led_of i m own ss lasts t = record { program = t.program; acts = t.acts; plans = t.plans; leads = t.leads; owned = t.owned; shown = tt; apart = tt }

-- ---- acts

-- after an act that doesn't arm it
pub armed_back : (i : Inputs) (m : Instrumented) (own : List ℕ) → IsLed i m own → (a : Act) (s : MetricFocusPair) → IsNoArmingOf s.instrument.n a
    → is_armed (after_act a m).placer s ≡ true → is_armed m.placer s ≡ true
armed_back i m own b a s n e =
    let f = found (after_act a m).placer s e in
    let g = find_gives (λ (x : Instrument). x.no == s.instrument.n) (after_act a m).placer.instruments f.x f.is in
    let no : (f.x).no ≡ s.instrument.n = eqb-true (f.x).no s.instrument.n g.1 in
    let w = armed_before (scene_of m) f.x f.armed a (subst (λ k. IsNoArmingOf k a) (sym no) n) (subst (λ (d : Instrumented). In f.x d.placer.instruments) (done_is a m) g.0) in
    ap (λ o. is_armed_state (state_in o)) (at_is i m own b s.instrument.n w.i w.listed (w.no ∙ no)) ∙ ap is_armed_state w.armed

-- turns are nothing to instruments
pub turns_same : (turns : List Event) (m : Instrumented) → (after_turns turns m).placer ≡ m.placer
turns_same [] m = refl
turns_same (e ∷ turns) m = turns_same turns (after_act (Happens e) m) ∙ ap (λ (d : Instrumented). d.placer) (done_is (Happens e) m)

pub hands_back : (n : ℕ) (i : Inputs) (m : Instrumented) (own : List ℕ) → IsLed i m own → (s : MetricFocusPair) → is_armed (repeated n Hands m).placer s ≡ true → is_armed m.placer s ≡ true
hands_back zero i m own b s e = e
hands_back (suc n) i m own b s e = armed_back i m own b Hands s tt (hands_back n i (after_act Hands m) own (idle_on i m own [] [] Hands tt tt (λ t h. absurd h) b) s e)

pub sweeps_back : (n : ℕ) (i : Inputs) (m : Instrumented) (own : List ℕ) → IsQuiet m.core → IsLed i m own → (s : MetricFocusPair)
    → is_armed (repeated n Sweeps m).placer s ≡ true → is_armed m.placer s ≡ true
sweeps_back zero i m own q b s e = e
sweeps_back (suc n) i m own q b s e =
    armed_back i m own b Sweeps s tt (sweeps_back n i (after_act Sweeps m) own (swept_quiet m q) (idle_on i m own [] [] Sweeps tt q (λ t h. absurd h) b) s e)

-- ---- samples

pub sampled_last : (p : Placements) (time : ℕ) (ss : List MetricFocusPair) → AreFromLast p time (map (sampled_to p time) ss)
sampled_last p time ss x h e =
    let w = in_map (sampled_to p time) ss x h in
    by w.0 (is_armed p w.0) refl w.2
  where
    by : (s : MetricFocusPair) (b : Bool) → is_armed p s ≡ b → x ≡ cond b (record s { from = time }) s → x.from ≡ time
    by s true a is = ap (λ (u : MetricFocusPair). u.from) is
    by s false a is = absurd (let no : true ≡ false = sym e ∙ (ap (is_armed p) is ∙ a) in cc)

-- ---- armings

-- those of others
arms_back : (i : Inputs) (m : Instrumented) (own : List ℕ) (ss : List MetricFocusPair) → IsLed i m own → IsQuiet m.core → (s : MetricFocusPair)
    → ((t : MetricFocusPair) → In t ss → t.instrument.n ≡ s.instrument.n → ⊥)
    → is_armed (arm_all m ss).placer s ≡ true → is_armed m.placer s ≡ true
arms_back i m own [] b q s other e = e
arms_back i m own (t ∷ ss) b q s other e = by (is_ready m t) refl e (λ d c k l. arms_back i d own ss c k s (λ u h. other u (inr h)) l)
  where
    by : (r : Bool) → is_ready m t ≡ r → is_armed (arm_all (cond r (after_act (Arms t.instrument.n) m) m) ss).placer s ≡ true
        → ((d : Instrumented) → IsLed i d own → IsQuiet d.core → is_armed (arm_all d ss).placer s ≡ true → is_armed d.placer s ≡ true) → is_armed m.placer s ≡ true
    by false r l ih = ih m b q l
    by true r l ih = armed_back i m own b (Arms t.instrument.n) s (λ k. other t (inl refl) (sym k)) (ih (after_act (Arms t.instrument.n) m) (led i m own b q t r) (armed_quiet i m own b q t r) l)

-- What is armed after armings was armed by them, or before, when all were sampled.
pub armed_last : (i : Inputs) (m : Instrumented) (own : List ℕ) (time : ℕ) (ss : List MetricFocusPair) → IsLed i m own → IsQuiet m.core → AreApart ss
    → AreFromLast m.placer time ss → AreFromLast (arm_all m ss).placer time (all_armed time m ss)
armed_last i m own time [] b q a f x h e = absurd h
armed_last i m own time (s ∷ ss) b q a f x h e = by (is_ready m s) refl h e (λ d c k l. armed_last i d own time ss c k a.1 l x)
  where
    by : (r : Bool) → is_ready m s ≡ r → In x (cond r (record s { armed = Some time; from = time }) s ∷ all_armed time (machine_by r m s) ss)
        → is_armed (arm_all (machine_by r m s) ss).placer x ≡ true
        → ((d : Instrumented) → IsLed i d own → IsQuiet d.core → AreFromLast d.placer time ss → In x (all_armed time d ss) → is_armed (arm_all d ss).placer x ≡ true → x.from ≡ time) → x.from ≡ time
    by true r (inl is) l ih = ap (λ (u : MetricFocusPair). u.from) is
    by true r (inr k) l ih =
        ih (after_act (Arms s.instrument.n) m) (led i m own b q s r) (armed_quiet i m own b q s r)
        (λ u j o. f u (inr j) (armed_back i m own b (Arms s.instrument.n) u (λ z. a.0 u j z) o)) k l
    by false r (inl is) l ih =
        ap (λ (u : MetricFocusPair). u.from) is ∙ f s (inl refl) (arms_back i m own ss b q s (λ t j z. a.0 t j z) (subst (λ (u : MetricFocusPair). is_armed (arm_all m ss).placer u ≡ true) is l))
    by false r (inr k) l ih = ih m b q (λ u j o. f u (inr j) o) k l
