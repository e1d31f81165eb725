-- What is read of shown instruments is what their plans measure.
use Rattle.std.proofs.Common.{◌≡◌, ℕ, ◌≤◌, List, [], ◌∷◌, ◌++◌, Option, Some, None, Ok, refl, sym, ap, ap₂, ◌∙◌, subst, length, append_assoc}
use Rattle.std.specs.Prelude.{Bool, true, false, cond, IsSome, is_none, map, unwrap_or, slice_get, ◌==◌, ◌&&◌}
use Rattle.std.proofs.lemmas.Bool.{true≢false, eqb-true}
use Rattle.fold_hist.specs.declared.bin.Bin.{Bin}
use Rattle.pn_types.specs.declared.limits.TheConstants.{MAX_BUDGET}
use Rattle.machine.specs.Cores.{In}
use Rattle.machine.specs.Events.{IsQuiet}
use Rattle.machine.specs.Measures.{difference}
use Rattle.machine.specs.Readings.{readings}
use Rattle.machine.proofs.Lists.{find_gives, in_map}
use Rattle.instrument.specs.Placements.{Placements, instrument_at, state_in}
use Rattle.instrument.specs.Scenes.{InstrumentScene, AllCanDo, first_scene}
use Rattle.instrument.specs.declared.instrument.Instrument.{Instrument}
use Rattle.instrument.specs.declared.number.State.{State}
use Rattle.instrument.specs.declared.number.State.TheVariants.{Armed, Placing, Leaving, Gone}
use Rattle.instrument.proofs.Folds.{append_nil}
use Rattle.instrumented.specs.Instrumented.{Instrumented}
use Rattle.instrumented.specs.Readings.{Course, CanBeRead, Opening, owns_at, scene_at, time_at, to_arming, to_earlier, to_later}
use Rattle.instrumented.proofs.Acts.{whole_of}
use Rattle.instrumented.proofs.Reading.{reads_measure}
use Rattle.session_spec.specs.declared.data.LatestSample.{LatestSample}
use Rattle.session_spec.specs.declared.data.MetricFocusPair.{MetricFocusPair}
use Rattle.session_spec.specs.Inputs.{Inputs, harts_of_focus}
use Rattle.session_spec.specs.Due.{is_armed, is_armed_state, latest_from, measure_by, measured, place_behind, recorded_with, sample_of, sampled_to}
use Rattle.session_spec.specs.Readings.{lasts_now, read_now, reading_by, recorded_read, sum_read}
use Rattle.session_spec.specs.Ties.{AreApart, AreShown, IsOther, IsRead, IsShown, IsTied, opening_of}
use Rattle.session_spec.specs.Reads.{latest_read}

-- the instrument of a shown pair, which is armed
pub record Found (p : Placements) (s : MetricFocusPair) : Type 0 where
  pub x : Instrument
  pub is : instrument_at p s.instrument.n ≡ Some x
  pub armed : x.state ≡ Armed

pub found : (p : Placements) (s : MetricFocusPair) → is_armed p s ≡ true → Found p s
found p s e = by (instrument_at p s.instrument.n) refl e
  where
    armed_is : (q : State) → is_armed_state q ≡ true → q ≡ Armed
    armed_is Armed e = refl
    armed_is Placing e = absurd (true≢false (sym e))
    armed_is Leaving e = absurd (true≢false (sym e))
    armed_is Gone e = absurd (true≢false (sym e))

    by : (o : Option Instrument) → instrument_at p s.instrument.n ≡ o → is_armed_state (state_in o) ≡ true → Found p s
    by None q e = absurd (true≢false (sym e))
    by (Some x) q e = record { x = x; is = q; armed = armed_is x.state e }

module _ (i : Inputs) (m : Instrumented) (own : List ℕ) (ss : List MetricFocusPair) (lasts : List ℕ) (t : IsTied i m own ss lasts) (quiet : IsQuiet m.core) where
  abbrev o : Opening
  o = opening_of i

  module _ (s : MetricFocusPair) (f : Found m.placer s) where
    abbrev n : ℕ
    n = s.instrument.n

    listed : In f.x m.placer.instruments
    listed = (find_gives (λ (x : Instrument). x.no == n) m.placer.instruments f.x f.is).0

    number : (f.x).no ≡ n
    number = eqb-true (f.x).no n (find_gives (λ (x : Instrument). x.no == n) m.placer.instruments f.x f.is).1

    -- no other has its number
    pub only : (y : Instrument) → In y (scene_at o t.acts).placer.instruments → y.no ≡ n → y ≡ f.x
    only y h e =
        let w = whole_of i.image i.settings.harts i.settings.budget i.settings.instruments t.acts m t.plans t.program t.leads in
        w.orderly.single y f.x (subst (λ (z : InstrumentScene). In y z.placer.instruments) (t.leads).scene h) listed (e ∙ sym number)

    readings_now : read_now i m s ≡ readings (f.x).placed (harts_of_focus i s.focus) m.core
    readings_now = ap (λ x. reading_by x (harts_of_focus i s.focus) m.core) f.is

    core_now : (scene_at o t.acts).core ≡ m.core
    core_now = ap (λ (z : InstrumentScene). z.core) (t.leads).scene

    module _ (last : ℕ) (k : IsShown i t.acts s last) where
      some : IsSome s.armed
      some = k.armed f.x (subst (λ (z : InstrumentScene). In f.x z.placer.instruments) (sym (t.leads).scene) listed) number f.armed

      abbrev r : IsRead o t.acts (harts_of_focus i s.focus) s last
      r = k.read some

      abbrev course : Course
      course = r.course

      readable : CanBeRead o n k.plan course
      readable = record {
        can = subst (λ acts. AllCanDo acts (first_scene o.image o.harts o.budget o.limit)) r.all (t.leads).can;
        instrument = f.x;
        listed = subst (λ acts. In f.x (scene_at o acts).placer.instruments) r.all (subst (λ (z : InstrumentScene). In f.x z.placer.instruments) (sym (t.leads).scene) listed);
        number = number;
        armed = f.armed;
        planned = subst (λ acts. slice_get (scene_at o acts).plans n ≡ Some k.plan) r.all k.listed;
        earlier = r.quiet;
        later = subst (λ acts. IsQuiet (scene_at o acts).core) r.all (subst IsQuiet (sym core_now) quiet);
      }

      last_is : last ≡ readings (f.x).placed (harts_of_focus i s.focus) (scene_at o (to_earlier n course)).core
      last_is = r.reading f.x (subst (λ (z : InstrumentScene). In f.x z.placer.instruments) (sym (t.leads).scene) listed) number

      measured_is : measured i own s (length own) ≡ measure_by (Ok k.plan) i (harts_of_focus i s.focus) (time_at o course.before) (time_at o (to_earlier n course)) (time_at o (to_later n course)) (owns_at o (to_later n course))
      unfolding measured
      measured_is =
          ap (λ p. measure_by p i (harts_of_focus i s.focus) (unwrap_or s.armed 0) s.from (length own) own) k.planned
          ∙ (ap (λ a. measure_by (Ok k.plan) i (harts_of_focus i s.focus) (unwrap_or a 0) s.from (length own) own) r.armed
          ∙ (ap (λ b. measure_by (Ok k.plan) i (harts_of_focus i s.focus) (time_at o course.before) b (length own) own) r.from
          ∙ ap (λ (l : List ℕ). measure_by (Ok k.plan) i (harts_of_focus i s.focus) (time_at o course.before) (time_at o (to_earlier n course)) (length l) l) (t.owned ∙ ap (owns_at o) r.all)))

      -- the difference of the readings is the sample
      pub sum_is : i.settings.budget ≤ MAX_BUDGET → sum_read i m s last ≡ measured i own s (length own)
      unfolding readable
      sum_is low =
          let law = reads_measure o n k.plan (harts_of_focus i s.focus) course t.program low (k.good).measurable (k.good).vars readable in
          ap₂ difference last_is (readings_now ∙ ap (readings (f.x).placed (harts_of_focus i s.focus)) (sym core_now ∙ ap (λ acts. (scene_at o acts).core) r.all))
          ∙ (law ∙ sym measured_is)

      -- it was read now
      pub read_again : IsShown i t.acts (record s { from = length own }) (read_now i m s)
      read_again = record {
        plan = k.plan;
        planned = k.planned;
        good = k.good;
        listed = k.listed;
        number = k.number;
        armed = k.armed;
        read = λ h. record {
          course = record { before = course.before; first = course.first ++ course.rest; rest = [] };
          all = all_is;
          armed = r.armed;
          from = ap (λ (l : List ℕ). length l) t.owned ∙ ap (time_at o) earlier_is;
          quiet = subst (λ acts. IsQuiet (scene_at o acts).core) earlier_is (subst IsQuiet (sym core_now) quiet);
          reading = λ y h e.
              readings_now ∙ (ap (λ (x : Instrument). readings x.placed (harts_of_focus i s.focus) m.core) (sym (only y h e))
              ∙ ap (readings y.placed (harts_of_focus i s.focus)) (sym core_now ∙ ap (λ acts. (scene_at o acts).core) earlier_is));
        };
      }
        where
          earlier_is : t.acts ≡ to_arming n course ++ (course.first ++ course.rest)
          earlier_is = r.all ∙ append_assoc (to_arming n course) course.first course.rest

          all_is : t.acts ≡ (to_arming n course ++ (course.first ++ course.rest)) ++ []
          all_is = earlier_is ∙ sym (append_nil (to_arming n course ++ (course.first ++ course.rest)))

-- ---- all of them

module _ (i : Inputs) (m : Instrumented) (own : List ℕ) (all : List MetricFocusPair) (every : List ℕ) (t : IsTied i m own all every) (quiet : IsQuiet m.core) where
  -- the samples are differences of readings
  pub sample_is : (low : i.settings.budget ≤ MAX_BUDGET) (s : MetricFocusPair) (last : ℕ) → IsShown i t.acts s last → is_armed m.placer s ≡ true → sum_read i m s last ≡ measured i own s (length own)
  sample_is low s last k e = sum_is i m own all every t quiet s (found m.placer s e) last k low

  one_bin : (low : i.settings.budget ≤ MAX_BUDGET) (s : MetricFocusPair) (last : ℕ) (r : List Bin) → IsShown i t.acts s last → (b : Bool) → is_armed m.placer s ≡ b
      → cond b (r ++ record { from = s.from; to = length own; sum = sum_read i m s last } ∷ []) r ≡ cond b (r ++ sample_of i own (length own) s ∷ []) r
  one_bin low s last r k true e = ap (λ sum. r ++ record { from = s.from; to = length own; sum = sum } ∷ []) (sample_is low s last k e)
  one_bin low s last r k false e = refl

  pub recorded_is : (low : i.settings.budget ≤ MAX_BUDGET) (ss : List MetricFocusPair) (lasts : List ℕ) (rs : List (List Bin)) → AreShown i t.acts ss lasts
      → recorded_read i m (length own) ss lasts rs ≡ recorded_with i m.placer own (length own) ss rs
  recorded_is low [] [] rs k = refl
  recorded_is low [] (last ∷ lasts) rs k = absurd k
  recorded_is low (s ∷ ss) [] rs k = absurd k
  recorded_is low (s ∷ ss) (last ∷ lasts) [] k = refl
  recorded_is low (s ∷ ss) (last ∷ lasts) (r ∷ rs) k = ap₂ (λ (x : List Bin) (xs : List (List Bin)). x ∷ xs) (one_bin low s last r k.0 (is_armed m.placer s) refl) (recorded_is low ss lasts rs k.1)

  abbrev latest_of : ℕ → MetricFocusPair → ℕ → List LatestSample
  latest_of place s sum = record { shown = place; from = s.from; to = length own; sum = sum } ∷ []

  one_latest : (low : i.settings.budget ≤ MAX_BUDGET) (place : ℕ) (s : MetricFocusPair) (last : ℕ) → IsShown i t.acts s last → (a b : Bool) → is_armed m.placer s ≡ b
      → cond {A = List LatestSample} (a && b) (latest_of place s (sum_read i m s last)) [] ≡ cond {A = List LatestSample} (a && b) (latest_of place s (measured i own s (length own))) []
  one_latest low place s last k true true e = ap (latest_of place s) (sample_is low s last k e)
  one_latest low place s last k true false e = refl
  one_latest low place s last k false b e = refl

  pub latest_is : (low : i.settings.budget ≤ MAX_BUDGET) (place : ℕ) (ss : List MetricFocusPair) (lasts : List ℕ) → AreShown i t.acts ss lasts
      → latest_read place i m (length own) ss lasts ≡ latest_from place i m.placer own (length own) ss
  latest_is low place [] [] k = refl
  latest_is low place [] (last ∷ lasts) k = absurd k
  latest_is low place (s ∷ ss) [] k = absurd k
  latest_is low place (s ∷ ss) (last ∷ lasts) k =
      ap₂ (λ (x xs : List LatestSample). x ++ xs) (one_latest low place s last k.0 (is_none s.node) (is_armed m.placer s) refl) (latest_is low (place_behind s.node place) ss lasts k.1)

  -- all that are armed were read now
  one_now : (s : MetricFocusPair) (last : ℕ) → IsShown i t.acts s last → (b : Bool) → is_armed m.placer s ≡ b → IsShown i t.acts (cond b (record s { from = length own }) s) (cond b (read_now i m s) last)
  one_now s last k true e = read_again i m own all every t quiet s (found m.placer s e) last k
  one_now s last k false e = k

  all_now : (ss : List MetricFocusPair) (lasts : List ℕ) → AreShown i t.acts ss lasts → AreShown i t.acts (map (sampled_to m.placer (length own)) ss) (lasts_now i m ss lasts)
  all_now [] [] k = tt
  all_now [] (last ∷ lasts) k = absurd k
  all_now (s ∷ ss) [] k = absurd k
  all_now (s ∷ ss) (last ∷ lasts) k = (one_now s last k.0 (is_armed m.placer s) refl, all_now ss lasts k.1)

  -- a sample changes no number
  same_number : (b : Bool) (s : MetricFocusPair) → (cond b (record s { from = length own }) s).instrument.n ≡ s.instrument.n
  same_number true s = refl
  same_number false s = refl

  other_now : (s : MetricFocusPair) (ss : List MetricFocusPair) → IsOther s ss → IsOther (sampled_to m.placer (length own) s) (map (sampled_to m.placer (length own)) ss)
  other_now s ss k x h e =
      let w = in_map (sampled_to m.placer (length own)) ss x h in
      k w.0 w.1 (sym (same_number (is_armed m.placer w.0) w.0) ∙ (ap (λ (u : MetricFocusPair). u.instrument.n) (sym w.2) ∙ (e ∙ same_number (is_armed m.placer s) s)))

  apart_now : (ss : List MetricFocusPair) → AreApart ss → AreApart (map (sampled_to m.placer (length own)) ss)
  apart_now [] k = tt
  apart_now (s ∷ ss) k = (other_now s ss k.0, apart_now ss k.1)

  pub samples_tied : IsTied i m own (map (sampled_to m.placer (length own)) all) (lasts_now i m all every)
  samples_tied = record {
    program = t.program;
    acts = t.acts;
    plans = t.plans;
    leads = t.leads;
    owned = t.owned;
    shown = all_now all every t.shown;
    apart = apart_now all t.apart;
  }
