-- An admission or a drop keeps what is known of how a session's state came about.
use Rattle.std.proofs.Common.{◌≡◌, ℕ, suc, ◌+◌, ◌-◌, ◌<◌, ◌≤◌, List, [], ◌∷◌, ◌++◌, Option, Some, None, Ok, refl, sym, ap, ◌∙◌, subst, arith, length, inl, inr, append_assoc, ⊎_elim}
use Rattle.std.specs.Prelude.{true, ◌⊎◌, ◌==◌, replicate, slice_get}
use Rattle.std.proofs.lemmas.Bool.{eqb-true}
use Rattle.std.proofs.lemmas.List.{length-append, length-replicate, replicate-append-replicate}
use Rattle.pn_types.specs.declared.focus.Focus.{Focus}
use Rattle.pn_types.specs.declared.plan.Plan.{Plan}
use Rattle.rv_mem.specs.Start.{program_of}
use Rattle.machine.specs.Cores.{In, Core, start_core}
use Rattle.machine.specs.Effects.{after_event}
use Rattle.machine.specs.Events.{Event}
use Rattle.machine.specs.Replays.{replay}
use Rattle.machine.proofs.Lists.{find_gives, get_append, in_snoc}
use Rattle.machine.proofs.Steps.{fixed}
use Rattle.instrument.specs.Placements.{Placements, admission, state_of}
use Rattle.instrument.specs.Scenes.{Act, Admits, Drops, IsPlanFor, InstrumentScene, admits, does, events_of, first_scene}
use Rattle.instrument.specs.declared.instrument.Instrument.{Instrument}
use Rattle.instrument.specs.declared.number.State.TheVariants.{Armed, Placing}
use Rattle.instrument.proofs.Folds.{append_nil}
use Rattle.instrument.proofs.Numbers as numbers
use Rattle.instrumented.specs.Instrumented.{Instrumented, after_act, scene_with}
use Rattle.instrumented.specs.Readings.{scene_at}
use Rattle.instrumented.proofs.Acts.{done_is, leads_on, plans_behind, whole_of}
use Rattle.session_spec.specs.declared.data.MetricFocusPair.{MetricFocusPair}
use Rattle.session_spec.specs.Inputs.{Inputs, planned}
use Rattle.session_spec.specs.Due.{is_armed}
use Rattle.session_spec.specs.Plans.{IsGood}
use Rattle.session_spec.specs.Ties.{AreApart, AreShown, IsOther, IsShown, IsTied, opening_of}
use Rattle.session_spec.specs.Readings.{lasts_with}
use Rattle.session_spec.proofs.Backwards.{armed_before}
use Rattle.session_spec.proofs.Lasting.{armed_back, led_of}
use Rattle.session_spec.proofs.Samples.{found}
use Rattle.session_spec.proofs.Shows.{all_on, scene_on}
use Rattle.session_spec.proofs.Tied.{idle_on, same_own}

-- ---- lists

same_length : (i : Inputs) (acts : List Act) (ss : List MetricFocusPair) (lasts : List ℕ) → AreShown i acts ss lasts → length ss ≡ length lasts
same_length i acts [] [] k = refl
same_length i acts [] (last ∷ lasts) k = absurd k
same_length i acts (s ∷ ss) [] k = absurd k
same_length i acts (s ∷ ss) (last ∷ lasts) k = ap suc (same_length i acts ss lasts k.1)

pub none_shown : (i : Inputs) (acts : List Act) (ss : List MetricFocusPair) (lasts : List ℕ) → AreShown i acts ss lasts → lasts_with ss lasts ≡ lasts
none_shown i acts ss lasts k =
    let e = same_length i acts ss lasts k in
    let z : length ss - length lasts ≡ 0 = omega arith in
    ap (λ n. lasts ++ replicate n 0) z ∙ append_nil lasts

one_shown : (i : Inputs) (acts : List Act) (ss : List MetricFocusPair) (s : MetricFocusPair) (lasts : List ℕ) → AreShown i acts ss lasts → lasts_with (ss ++ s ∷ []) lasts ≡ lasts ++ 0 ∷ []
one_shown i acts ss s lasts k =
    let e = same_length i acts ss lasts k in
    let l = length-append ss (s ∷ []) in
    let one : length (s ∷ []) ≡ 1 = refl in
    let z : length (ss ++ s ∷ []) - length lasts ≡ 1 = omega arith in
    ap (λ n. lasts ++ replicate n 0) z

snoc_shown : (i : Inputs) (acts : List Act) (ss : List MetricFocusPair) (lasts : List ℕ) (s : MetricFocusPair) → AreShown i acts ss lasts → IsShown i acts s 0
    → AreShown i acts (ss ++ s ∷ []) (lasts ++ 0 ∷ [])
snoc_shown i acts [] [] s k one = (one, tt)
snoc_shown i acts [] (last ∷ lasts) s k one = absurd k
snoc_shown i acts (x ∷ ss) [] s k one = absurd k
snoc_shown i acts (x ∷ ss) (last ∷ lasts) s k one = (k.0, snoc_shown i acts ss lasts s k.1 one)

snoc_apart : (ss : List MetricFocusPair) (s : MetricFocusPair) → AreApart ss → IsOther s ss → AreApart (ss ++ s ∷ [])
snoc_apart [] s a o = ((λ t h. absurd h), tt)
snoc_apart (x ∷ ss) s a o =
    ((λ t h e. ⊎_elim (λ k. a.0 t k e) (λ (k : t ≡ s). o x (inl refl) (sym e ∙ ap (λ (u : MetricFocusPair). u.instrument.n) k)) (in_snoc ss s t h)), snoc_apart ss s a.1 (λ t h. o t (inr h)))

below : (i : Inputs) (acts : List Act) (ss : List MetricFocusPair) (lasts : List ℕ) → AreShown i acts ss lasts → (s : MetricFocusPair) → In s ss
    → s.instrument.n < (scene_at (opening_of i) acts).placer.count
below i acts [] lasts k s h = absurd h
below i acts (x ∷ ss) [] k s h = absurd k
below i acts (x ∷ ss) (last ∷ lasts) k s (inl e) = subst (λ (u : MetricFocusPair). u.instrument.n < (scene_at (opening_of i) acts).placer.count) (sym e) (k.0).number
below i acts (x ∷ ss) (last ∷ lasts) k s (inr h) = below i acts ss lasts k.1 s h

twice : (n p : List MetricFocusPair) (lasts : List ℕ) → length lasts ≤ length n → length n ≤ length p → lasts_with p (lasts_with n lasts) ≡ lasts_with p lasts
twice n p lasts l k =
    let a = length-append lasts (replicate (length n - length lasts) 0) in
    let b : length (replicate {A = ℕ} (length n - length lasts) 0) ≡ length n - length lasts = length-replicate (length n - length lasts) 0 in
    let c : length p - length (lasts ++ replicate (length n - length lasts) 0) ≡ length p - length n = omega arith in
    let d : length n - length lasts + (length p - length n) ≡ length p - length lasts = omega arith in
    let first : List ℕ = replicate (length n - length lasts) 0 in
    append_assoc lasts first (replicate (length p - length (lasts ++ first)) 0)
    ∙ ap (λ (l : List ℕ). lasts ++ l) (ap (λ (q : ℕ). first ++ replicate q 0) c ∙ (replicate-append-replicate (length n - length lasts) (length p - length n) 0 ∙ ap (λ q. replicate q 0) d))

-- as many as are shown
pub many_lasts : (i : Inputs) (m : Instrumented) (own : List ℕ) (ss : List MetricFocusPair) (lasts : List ℕ) → IsTied i m own ss lasts → length ss ≡ length lasts
many_lasts i m own ss lasts t = same_length i t.acts ss lasts t.shown

-- none is shown no longer
pub more_shown : (i : Inputs) (m : Instrumented) (own : List ℕ) (ss : List MetricFocusPair) (lasts : List ℕ) → IsTied i m own ss (lasts_with ss lasts) → length lasts ≤ length ss
more_shown i m own ss lasts t =
    let a = length-append lasts (replicate (length ss - length lasts) 0) in
    let k = many_lasts i m own ss (lasts_with ss lasts) t in
    omega arith

-- ---- the program

replay_fixed : (es : List Event) (c : Core) → (replay es c).program ≡ c.program
replay_fixed [] c = refl
replay_fixed (e ∷ es) c = replay_fixed es (after_event c e) ∙ (fixed c e).0

pub program_is : (i : Inputs) (m : Instrumented) (own : List ℕ) (ss : List MetricFocusPair) (lasts : List ℕ) → IsTied i m own ss lasts → m.core.program ≡ program_of i.image
program_is i m own ss lasts t =
    let w = whole_of i.image i.settings.harts i.settings.budget i.settings.instruments t.acts m t.plans t.program t.leads in
    ap (λ (c : Core). c.program) w.core ∙ replay_fixed (events_of t.acts (first_scene i.image i.settings.harts i.settings.budget i.settings.instruments)) (start_core i.image i.settings.harts i.settings.budget)

-- ---- steps

-- From what is shown on a machine to what is shown on it then: it is tied, no hart was touched, and what is armed was before.
pub record IsMoved (i : Inputs) (own lasts : List ℕ) (m : Instrumented) (ss : List MetricFocusPair) (d : Instrumented) (ts : List MetricFocusPair) : Type 0 where
  pub tied : IsTied i d own ts (lasts_with ts lasts)
  pub core : d.core ≡ m.core
  pub back : (s : MetricFocusPair) → In s ts → is_armed d.placer s ≡ true → In s ss × (is_armed m.placer s ≡ true)

-- one step and another
pub moved_on : (i : Inputs) (own lasts : List ℕ) (m d e : Instrumented) (ss ts us : List MetricFocusPair) → IsMoved i own lasts m ss d ts
    → IsMoved i own (lasts_with ts lasts) d ts e us → IsMoved i own lasts m ss e us
moved_on i own lasts m d e ss ts us a b =
    let l1 = more_shown i d own ts lasts a.tied in
    let same = many_lasts i d own ts (lasts_with ts lasts) a.tied in
    let l2 = more_shown i e own us (lasts_with ts lasts) b.tied in
    record {
      tied = subst (IsTied i e own us) (twice ts us lasts l1 (omega arith)) b.tied;
      core = b.core ∙ a.core;
      back = λ s h k. let z = b.back s h k in a.back s z.0 z.1;
    }

module _ (i : Inputs) (m : Instrumented) (own : List ℕ) (ss : List MetricFocusPair) (lasts : List ℕ) (t : IsTied i m own ss lasts) where
  -- nothing changed
  pub same_moved : IsMoved i own lasts m ss m ss
  same_moved = record { tied = subst (IsTied i m own ss) (sym (none_shown i t.acts ss lasts t.shown)) t; core = refl; back = λ s h k. (h, k) }

  -- an instrument is dropped
  pub drops_moved : (n : ℕ) → (state_of m.placer n ≡ Placing) ⊎ (state_of m.placer n ≡ Armed) → IsMoved i own lasts m ss (after_act (Drops n) m) ss
  drops_moved n stands =
      let d = idle_on i m own ss lasts (Drops n) tt stands (λ u h. tt) t in
      record {
        tied = subst (IsTied i (after_act (Drops n) m) own ss) (sym (none_shown i t.acts ss lasts t.shown)) d;
        core = ap (λ (x : Instrumented). x.core) (done_is (Drops n) m);
        back = λ s h k. (h, armed_back i m own (led_of i m own ss lasts t) (Drops n) s tt k);
      }

  -- a plan is admitted, whose instrument shows it from now on
  module _ (plan : Plan) (cost node : Option ℕ) (metric : ℕ) (focus : Focus) (is_planned : planned i metric focus ≡ Ok plan) (good : IsGood i plan) (q : Placements) (ok : admission m.placer plan cost ≡ Ok q) where
    abbrev a : Act
    a = Admits plan cost

    abbrev acts : List Act
    acts = t.acts ++ a ∷ []

    abbrev new : MetricFocusPair
    new = record { instrument = record { n = m.placer.count }; node = node; metric = metric; focus = focus; armed = None; from = 0 }

    -- the scene after it
    scene_is : scene_at (opening_of i) acts ≡ record { core = m.core; placer = q; plans = t.plans ++ plan ∷ [] }
    scene_is = scene_on (opening_of i) t.acts a ∙ (ap (λ z. (does a z).scene) (t.leads).scene ∙ ap (λ r. (admits plan r (scene_with t.plans m)).scene) ok)

    more : q.count ≡ m.placer.count + 1
    more = (numbers.admits m.placer plan cost q ok).0.count

    -- no instrument had its number
    unnumbered : (x : Instrument) → In x m.placer.instruments → x.no ≡ m.placer.count → ⊥
    unnumbered x h e =
        let w = whole_of i.image i.settings.harts i.settings.budget i.settings.instruments t.acts m t.plans t.program t.leads in
        let low = w.orderly.below x h in
        omega arith

    first : IsShown i acts new 0
    first =
        let w = whole_of i.image i.settings.harts i.settings.budget i.settings.instruments t.acts m t.plans t.program t.leads in
        record {
          plan = plan;
          planned = is_planned;
          good = good;
          listed = subst (λ (z : InstrumentScene). slice_get z.plans m.placer.count ≡ Some plan) (sym scene_is) (subst (λ n. slice_get (t.plans ++ plan ∷ []) n ≡ Some plan) w.orderly.many (get_append t.plans plan));
          number = subst (λ (z : InstrumentScene). m.placer.count < z.placer.count) (sym scene_is) (let up = more in omega arith);
          armed = λ x h e q_is.
              let at = subst (λ (z : InstrumentScene). In x z.placer.instruments) (scene_on (opening_of i) t.acts a) h in
              let before = armed_before (scene_at (opening_of i) t.acts) x q_is a tt at in
              absurd (unnumbered before.i (subst (λ (z : InstrumentScene). In before.i z.placer.instruments) (t.leads).scene before.listed) (before.no ∙ e));
          read = λ h. absurd cc;
        }

    others : IsOther new ss
    others u h e =
        let low = below i t.acts ss lasts t.shown u h in
        let count = ap (λ (z : InstrumentScene). z.placer.count) (t.leads).scene in
        omega arith

    -- it isn't armed
    unarmed : is_armed m.placer new ≡ true → ⊥
    unarmed e =
        let f = found m.placer new e in
        let g = find_gives (λ (x : Instrument). x.no == m.placer.count) m.placer.instruments f.x f.is in
        unnumbered f.x g.0 (eqb-true (f.x).no m.placer.count g.1)

    pub admits_moved : IsMoved i own lasts m ss (after_act a m) (ss ++ new ∷ [])
    admits_moved =
        let can : IsPlanFor m.core.program plan = subst (λ p. IsPlanFor p plan) (sym (program_is i m own ss lasts t)) good.for in
        let shown = snoc_shown i acts ss lasts new (all_on i t.acts a ss lasts (λ u h. tt) t.shown) first in
        record {
          tied = record {
            program = t.program;
            acts = acts;
            plans = plans_behind a m t.plans;
            leads = leads_on i.image i.settings.harts i.settings.budget i.settings.instruments t.acts m t.plans a t.leads can;
            owned = same_own i m own ss lasts t a tt;
            shown = subst (AreShown i acts (ss ++ new ∷ [])) (sym (one_shown i t.acts ss new lasts t.shown)) shown;
            apart = snoc_apart ss new t.apart others;
          };
          core = ap (λ (x : Instrumented). x.core) (done_is a m);
          back = λ s h k.
              let was = armed_back i m own (led_of i m own ss lasts t) a s tt k in
              ⊎_elim (λ (z : In s ss). (z, was)) (λ (z : s ≡ new). absurd (unarmed (subst (λ (u : MetricFocusPair). is_armed m.placer u ≡ true) z was))) (in_snoc ss new s h);
        }
