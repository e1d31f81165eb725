-- What is known of shown instruments goes on after each act.
use Rattle.std.proofs.Common.{◌≡◌, ℕ, ◌<◌, List, [], ◌∷◌, ◌++◌, Some, refl, sym, ap, ◌∙◌, subst, arith, append_assoc, inl, inr}
use Rattle.std.specs.Prelude.{slice_get}
use Rattle.machine.specs.Cores.{In}
use Rattle.machine.specs.Readings.{readings}
use Rattle.instrument.specs.Scenes.{Act, InstrumentScene, does}
use Rattle.instrumented.specs.Readings.{Opening, scene_at, to_earlier}
use Rattle.instrumented.proofs.Acts.{scene_append}
use Rattle.instrumented.proofs.Stays.{act_stay}
use Rattle.instrument.specs.Scenes.{first_scene}
use Rattle.session_spec.specs.declared.data.MetricFocusPair.{MetricFocusPair}
use Rattle.session_spec.specs.Inputs.{Inputs, harts_of_focus}
use Rattle.session_spec.specs.Ties.{AreShown, IsRead, IsShown, opening_of}
use Rattle.session_spec.proofs.Backwards.{IsNoArmingOf, armed_before}

pub scene_on : (o : Opening) (acts : List Act) (a : Act) → scene_at o (acts ++ a ∷ []) ≡ (does a (scene_at o acts)).scene
scene_on o acts a = scene_append acts (a ∷ []) (first_scene o.image o.harts o.budget o.limit)

read_on : (o : Opening) (acts : List Act) (a : Act) (harts : List ℕ) (s : MetricFocusPair) (last : ℕ) → s.instrument.n < (scene_at o acts).placer.count → IsRead o acts harts s last → IsRead o (acts ++ a ∷ []) harts s last
read_on o acts a harts s last low r =
    let stay = act_stay a (scene_at o acts) in
    record {
      course = record r.course { rest = (r.course).rest ++ a ∷ [] };
      all = ap (λ l. l ++ a ∷ []) r.all ∙ append_assoc (to_earlier s.instrument.n r.course) (r.course).rest (a ∷ []);
      armed = r.armed;
      from = r.from;
      quiet = r.quiet;
      reading = λ x h e.
          let k = stay.listed x (subst (λ (t : InstrumentScene). In x t.placer.instruments) (scene_on o acts a) h) (subst (λ n. n < (scene_at o acts).placer.count) (sym e) low) in
          r.reading k.i k.listed (k.no ∙ e) ∙ ap (λ p. readings p harts (scene_at o (to_earlier s.instrument.n r.course)).core) k.placed;
    }

-- plans and numbers stay
pub listed_on : (i : Inputs) (acts : List Act) (a : Act) (s : MetricFocusPair) (last : ℕ) (k : IsShown i acts s last) → slice_get (scene_at (opening_of i) (acts ++ a ∷ [])).plans s.instrument.n ≡ Some k.plan
listed_on i acts a s last k =
    let o = opening_of i in
    subst (λ (t : InstrumentScene). slice_get t.plans s.instrument.n ≡ Some k.plan) (sym (scene_on o acts a)) ((act_stay a (scene_at o acts)).plans s.instrument.n k.plan k.listed)

pub number_on : (i : Inputs) (acts : List Act) (a : Act) (s : MetricFocusPair) (last : ℕ) → IsShown i acts s last → s.instrument.n < (scene_at (opening_of i) (acts ++ a ∷ [])).placer.count
number_on i acts a s last k =
    let o = opening_of i in
    subst (λ (t : InstrumentScene). s.instrument.n < t.placer.count) (sym (scene_on o acts a)) (let more = (act_stay a (scene_at o acts)).count in let low = k.number in omega arith)

-- one more act, which doesn't arm the instrument
pub shown_on : (i : Inputs) (acts : List Act) (a : Act) (s : MetricFocusPair) (last : ℕ) → IsNoArmingOf s.instrument.n a → IsShown i acts s last → IsShown i (acts ++ a ∷ []) s last
shown_on i acts a s last other k =
    let o = opening_of i in
    let on = scene_on o acts a in
    record {
      plan = k.plan;
      planned = k.planned;
      good = k.good;
      listed = listed_on i acts a s last k;
      number = number_on i acts a s last k;
      armed = λ x h e a_is.
          let w = armed_before (scene_at o acts) x a_is a (subst (λ n. IsNoArmingOf n a) (sym e) other) (subst (λ (t : InstrumentScene). In x t.placer.instruments) on h) in
          k.armed w.i w.listed (w.no ∙ e) w.armed;
      read = λ h. read_on o acts a (harts_of_focus i s.focus) s last k.number (k.read h);
    }

pub all_on : (i : Inputs) (acts : List Act) (a : Act) (ss : List MetricFocusPair) (lasts : List ℕ) → ((s : MetricFocusPair) → In s ss → IsNoArmingOf s.instrument.n a) → AreShown i acts ss lasts → AreShown i (acts ++ a ∷ []) ss lasts
all_on i acts a [] [] n k = tt
all_on i acts a [] (last ∷ lasts) n k = k
all_on i acts a (s ∷ ss) [] n k = k
all_on i acts a (s ∷ ss) (last ∷ lasts) n k = (shown_on i acts a s last (n s (inl refl)) k.0, all_on i acts a ss lasts (λ t h. n t (inr h)) k.1)
