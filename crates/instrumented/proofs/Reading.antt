-- What is read of an instrument between two moments is what its plan measures.
use Rattle.std.proofs.Common.{◌≡◌, ℕ, ◌+◌, ◌<◌, ◌≤◌, List, [], ◌∷◌, ◌++◌, length, Some, refl, sym, ap, ◌∙◌, subst, arith, ⊎_elim, append_assoc}
use Rattle.std.specs.Prelude.{Bool, true, false, slice_get, ◌==◌}
use Rattle.std.proofs.lemmas.Bool.{true≢false, cases_Bool, cond-true, eq-eqb, eqb-true}
use Rattle.pn_types.specs.declared.limits.TheConstants.{MAX_BUDGET}
use Rattle.pn_types.specs.declared.placed.Placed.{Placed}
use Rattle.pn_types.specs.declared.placed.PlacedSite.{PlacedSite}
use Rattle.pn_types.specs.declared.plan.Plan.{Plan}
use Rattle.pn_types.specs.declared.plan.Site.{Site}
use Rattle.pn_types.specs.declared.plan.Var.{Var}
use Rattle.prim_code.specs.Fitting.{IsMeasurable}
use Rattle.rv_mem.specs.Start.{program_of}
use Rattle.rv_exec.specs.Start.{start}
use Rattle.tramp_spec.specs.Slots.{places, places_of, IsSlotOf, ShareNone, width}
use Rattle.machine.specs.Cores.{In, Core, start_core}
use Rattle.machine.specs.Effects.{after_event}
use Rattle.machine.specs.Events as events
use Rattle.machine.specs.Events.{Event, IsQuiet}
use Rattle.machine.specs.Instruments.{AllLet, Carries, CarriesSites, InForce, IsSpared}
use Rattle.machine.specs.Laws.{IsProgram}
use Rattle.machine.specs.Measures.{difference, measure}
use Rattle.machine.specs.Readings.{IsSampled, readings}
use Rattle.machine.specs.Replays.{owns, replay}
use Rattle.machine.proofs.Lists.{map_in}
use Rattle.machine.proofs.Readings.{readings_measure}
use Rattle.instrument.specs.Placements.{with_state}
use Rattle.instrument.specs.Scenes.{Act, Arms, AllCanDo, CanArm, InstrumentScene, arms, does, events_of, first_scene, scene_after}
use Rattle.instrument.specs.declared.instrument.Instrument.{Instrument}
use Rattle.instrument.specs.declared.number.State.TheVariants.{Placing, Armed}
use Rattle.instrument.proofs.Armings.{found_at}
use Rattle.instrument.proofs.Lawful.{always, force_always, legal_always}
use Rattle.instrumented.specs.Readings.{Course, CanBeRead, Opening, ReadsMeasure, owns_at, scene_at, time_at, to_arming, to_earlier, to_later}
use Rattle.instrument.proofs.Folds.{append_nil}
use Rattle.instrument.proofs.Wholes.{Whole}
use Rattle.instrumented.proofs.Acts.{can_first, can_rest, events_append, scene_append}
use Rattle.instrumented.proofs.Stays.{Stay, acts_stay}
use Rattle.instrumented.proofs.ArmedOnce.{NoArm, no_arm_append, let_in, same_parts, ArmsOther, act_no_arm}

-- ---- an instrument shares slots with itself

first_place : (slots : List ℕ) (vars : List Var) → length slots ≡ length vars → 0 < length vars → (q : ℕ) × IsSlotOf (places slots vars) q
first_place [] [] e l = absurd (omega arith)
first_place [] (v ∷ vars) e l = absurd (omega arith)
first_place (s ∷ slots) [] e l = absurd (omega arith)
first_place (s ∷ slots) (v ∷ vars) e l = (s, (0, record { slot = s; timer = v.timer }, refl, omega arith, wide v.timer))
  where
    wide : (b : Bool) → s < s + width (record { slot = s; timer = b })
    wide true = omega arith
    wide false = omega arith

shares : (i : Placed) → length i.slots ≡ length i.vars → 0 < length i.vars → ShareNone (places_of i) (places_of i) → ⊥
shares i many some none = let q = first_place i.slots i.vars many some in none q.0 q.1 q.1

-- ---- the course of an instrument

module _ (o : Opening) (n : ℕ) (plan : Plan) (c : Course) (p : IsProgram o.image) (r : CanBeRead o n plan c) (some : 0 < length plan.vars) where
  abbrev opened : InstrumentScene
  opened = first_scene o.image o.harts o.budget o.limit

  abbrev begun : Core
  begun = start_core o.image o.harts o.budget

  whole : (acts : List Act) → AllCanDo acts opened → Whole begun (scene_at o acts) (events_of acts opened)
  whole acts can = always o.image o.harts o.budget o.limit acts p can

  can_earlier : AllCanDo (to_earlier n c) opened
  can_earlier = can_first (to_earlier n c) c.rest opened r.can

  can_arming : AllCanDo (to_arming n c) opened
  can_arming = can_first (to_arming n c) c.first opened can_earlier

  can_before : AllCanDo c.before opened
  can_before = can_first c.before (Arms n ∷ []) opened can_arming

  can_arm : CanArm n (scene_at o c.before)
  can_arm = (can_rest c.before (Arms n ∷ []) opened can_arming).0

  -- the instrument when it is armed
  abbrev i : Instrument
  i = can_arm.instrument

  abbrev now : Instrument
  now = with_state i.no Armed i

  found : In i (scene_at o c.before).placer.instruments × (i.no ≡ n)
  found = found_at (scene_at o c.before).placer.instruments n i can_arm.is

  arming_is : scene_at o (to_arming n c) ≡ (arms (Some i) (scene_at o c.before)).scene
  arming_is = scene_append c.before (Arms n ∷ []) opened ∙ ap (λ x. (arms x (scene_at o c.before)).scene) can_arm.is

  now_armed : now.state ≡ Armed
  now_armed = cond-true (i.no == i.no) Armed i.state (eq-eqb i.no i.no refl)

  now_listed : In now (scene_at o (to_arming n c)).placer.instruments
  now_listed = subst (λ (s : InstrumentScene). In now s.placer.instruments) (sym arming_is) (map_in (with_state i.no Armed) (scene_at o c.before).placer.instruments i found.0)

  low : n < (scene_at o (to_arming n c)).placer.count
  low =
      let l = ((whole (to_arming n c) can_arming).orderly).below now now_listed in
      let e = found.1 in
      omega arith

  -- the instrument at the end
  abbrev last : Instrument
  last = r.instrument

  abbrev carried : (q : Plan) × (slice_get (scene_at o (to_later n c)).plans last.no ≡ Some q) × Carries (scene_at o (to_later n c)).core last.placed q
  carried = (force_always o.image o.harts o.budget o.limit (to_later n c) p r.can).carries last r.listed r.armed

  plan_is : carried.0 ≡ plan
  plan_is = let e : Some carried.0 ≡ Some plan = sym carried.1 ∙ (ap (slice_get (scene_at o (to_later n c)).plans) r.number ∙ r.planned) in cc

  used : 0 < length (last.placed).vars
  used = let e = ap length ((carried.2).vars ∙ ap (λ (q : Plan). q.vars) plan_is) in omega arith

  -- ---- it isn't armed again

  other : (acts todo : List Act) → AllCanDo ((to_arming n c ++ acts) ++ todo) opened → In last (scene_after todo (scene_at o (to_arming n c ++ acts))).placer.instruments → ArmsOther last.placed (scene_at o (to_arming n c ++ acts))
  other acts todo can h m k e =
      let s = scene_at o (to_arming n c ++ acts) in
      let can_s = can_first (to_arming n c ++ acts) todo opened can in
      let w = (whole (to_arming n c ++ acts) can_s).orderly in
      let since : Stay (scene_at o (to_arming n c)) s = subst (Stay (scene_at o (to_arming n c))) (sym (scene_append (to_arming n c) acts opened)) (acts_stay acts (scene_at o (to_arming n c))) in
      let l = low in
      let count = since.count in
      let num = r.number in
      let j = (acts_stay todo s).listed last h (omega arith) in
      let f = found_at s.placer.instruments m k.instrument k.is in
      ⊎_elim
      (λ (q : ((k.instrument).no == (j.i).no) ≡ true).
      let same : k.instrument ≡ j.i = w.single k.instrument j.i f.0 j.listed (eqb-true _ _ q) in
      let jn = j.no in
      let b = since.listed j.i j.listed (omega arith) in
      let first : b.i ≡ now = ((whole (to_arming n c) can_arming).orderly).single b.i now b.listed now_listed (b.no ∙ (j.no ∙ (r.number ∙ sym found.1))) in
      let z : Armed ≡ Placing = sym now_armed ∙ (ap (λ (x : Instrument). x.state) (sym first) ∙ b.placing (ap (λ (x : Instrument). x.state) (sym same) ∙ k.placing)) in
      absurd cc)
      (λ q.
      shares last.placed (carried.2).many used
      (subst (λ x. ShareNone (places_of x) (places_of last.placed)) e
      (subst (λ x. ShareNone (places_of (k.instrument).placed) (places_of x)) j.placed
      (w.slots k.instrument j.i f.0 j.listed (λ t. true≢false (sym (eq-eqb _ _ t) ∙ q))))))
      (cases_Bool ((k.instrument).no == (j.i).no))

  no_arms : (acts todo : List Act) → AllCanDo ((to_arming n c ++ acts) ++ todo) opened → In last (scene_after todo (scene_at o (to_arming n c ++ acts))).placer.instruments → NoArm last.placed (events_of todo (scene_at o (to_arming n c ++ acts)))
  no_arms acts [] can h = tt
  no_arms acts (a ∷ todo) can h =
      let s = scene_at o (to_arming n c ++ acts) in
      let k = can_rest (to_arming n c ++ acts) (a ∷ todo) opened can in
      let e : (to_arming n c ++ acts) ++ a ∷ todo ≡ (to_arming n c ++ (acts ++ a ∷ [])) ++ todo =
      sym (append_assoc (to_arming n c ++ acts) (a ∷ []) todo) ∙ ap (λ l. l ++ todo) (append_assoc (to_arming n c) acts (a ∷ [])) in
      let q : scene_at o (to_arming n c ++ (acts ++ a ∷ [])) ≡ (does a s).scene =
      ap (λ l. scene_after l opened) (sym (append_assoc (to_arming n c) acts (a ∷ []))) ∙ scene_append (to_arming n c ++ acts) (a ∷ []) opened in
      let rest = no_arms (acts ++ a ∷ []) todo (subst (λ l. AllCanDo l opened) e can) (subst (λ t. In last (scene_after todo t).placer.instruments) (sym q) h) in
      no_arm_append last.placed (does a s).events (events_of todo (does a s).scene) (act_no_arm last.placed s a k.0 (other acts (a ∷ todo) can h))
      (subst (λ t. NoArm last.placed (events_of todo t)) q rest)

  -- ---- its arming, and what it carries there

  all_can : AllCanDo ((to_arming n c ++ []) ++ (c.first ++ c.rest)) opened
  all_can = subst (λ l. AllCanDo l opened) (append_assoc (to_arming n c) c.first c.rest ∙ ap (λ l. l ++ (c.first ++ c.rest)) (sym (append_nil (to_arming n c)))) r.can

  abbrev armed_at : InstrumentScene
  armed_at = scene_at o (to_arming n c)

  -- the events since
  abbrev firsts : List Event
  firsts = events_of c.first armed_at

  abbrev rests : List Event
  rests = events_of c.rest (scene_at o (to_earlier n c))

  since_is : events_of (c.first ++ c.rest) armed_at ≡ firsts ++ rests
  since_is = events_append c.first c.rest armed_at ∙ ap (λ s. firsts ++ events_of c.rest s) (sym (scene_append (to_arming n c) c.first opened))

  at_end : scene_at o (to_later n c) ≡ scene_after (c.first ++ c.rest) armed_at
  at_end = ap (λ l. scene_after l opened) (append_assoc (to_arming n c) c.first c.rest) ∙ scene_append (to_arming n c) (c.first ++ c.rest) opened

  not_again : NoArm last.placed (firsts ++ rests)
  not_again =
      let nil : to_arming n c ++ [] ≡ to_arming n c = append_nil (to_arming n c) in
      let h = subst (λ (s : InstrumentScene). In last s.placer.instruments) at_end r.listed in
      let h2 = subst (λ l. In last (scene_after (c.first ++ c.rest) (scene_at o l)).placer.instruments) (sym nil) h in
      subst (NoArm last.placed) since_is
      (subst (λ l. NoArm last.placed (events_of (c.first ++ c.rest) (scene_at o l))) nil (no_arms [] (c.first ++ c.rest) all_can h2))

  placed_is : i.placed ≡ last.placed
  placed_is =
      let w = (whole c.before can_before).orderly in
      let l = w.below i found.0 in
      let e = found.1 in
      let stay = acts_stay (Arms n ∷ (c.first ++ c.rest)) (scene_at o c.before) in
      let num = r.number in
      let end : scene_after (Arms n ∷ (c.first ++ c.rest)) (scene_at o c.before) ≡ scene_at o (to_later n c) =
      sym (scene_append (Arms n ∷ []) (c.first ++ c.rest) (scene_at o c.before)) ∙ (ap (scene_after (c.first ++ c.rest)) (sym (scene_append c.before (Arms n ∷ []) opened)) ∙ sym at_end) in
      let j = stay.listed last (subst (λ (s : InstrumentScene). In last s.placer.instruments) (sym end) r.listed) (omega arith) in
      ap (λ (x : Instrument). x.placed) (w.single i j.i found.0 j.listed (found.1 ∙ (sym r.number ∙ sym j.no))) ∙ j.placed

  arming_events : events_of (to_arming n c) opened ≡ events_of c.before opened ++ events.Arm last.placed ∷ []
  arming_events =
      events_append c.before (Arms n ∷ []) opened
      ∙ ap (λ x. events_of c.before opened ++ ((arms x (scene_at o c.before)).events ++ [])) can_arm.is
      ∙ ap (λ x. events_of c.before opened ++ events.Arm x ∷ []) placed_is

  earlier_events : events_of (to_earlier n c) opened ≡ events_of c.before opened ++ events.Arm last.placed ∷ firsts
  earlier_events = events_append (to_arming n c) c.first opened ∙ (ap (λ l. l ++ firsts) arming_events ∙ append_assoc (events_of c.before opened) (events.Arm last.placed ∷ []) firsts)

  later_events : events_of (to_later n c) opened ≡ events_of c.before opened ++ events.Arm last.placed ∷ (firsts ++ rests)
  later_events = events_append (to_earlier n c) c.rest opened ∙ (ap (λ l. l ++ rests) earlier_events ∙ append_assoc (events_of c.before opened) (events.Arm last.placed ∷ firsts) rests)

  -- it is in force since
  in_force : InForce last.placed (events_of (to_later n c) opened) begun
  in_force =
      let f = (force_always o.image o.harts o.budget o.limit (to_later n c) p r.can).force last r.listed r.armed in
      let s = same_parts last.placed f.before f.since (events_of c.before opened) (firsts ++ rests) (sym f.is ∙ later_events)
      (λ xs ys q. shares last.placed (carried.2).many used (let_in last.placed xs ys (subst (AllLet last.placed) q f.lets))) not_again in
      record { before = events_of c.before opened; since = firsts ++ rests; is = later_events; spared = subst (λ es. IsSpared (replay es begun) last.placed) s.fronts f.spared; lets = subst (AllLet last.placed) s.backs f.lets }

  -- arming leaves the blocks
  carries_before : (d : Core) (j : Placed) (slots : List ℕ) (sites : List PlacedSite) (qs : List Site) → CarriesSites (after_event d (events.Arm j)) slots sites qs → CarriesSites d slots sites qs
  carries_before d j slots [] [] k = tt
  carries_before d j slots (s ∷ ss) (q ∷ qs) k =
      (k.0, record { row = (k.1).row; listed = (k.1).listed; mini = (k.1).mini; point = (k.1).point; at = (k.1).at; is = (k.1).is }, carries_before d j slots ss qs k.2)
  carries_before d j slots [] (q ∷ qs) k = k
  carries_before d j slots (s ∷ ss) [] k = k

  before_core : (scene_at o c.before).core ≡ replay (events_of c.before opened) begun
  before_core = (legal_always o.image o.harts o.budget o.limit c.before p can_before).core

  carries : Carries (replay (events_of c.before opened) begun) last.placed plan
  carries =
      let d = (scene_at o c.before).core in
      let k = (force_always o.image o.harts o.budget o.limit (to_arming n c) p can_arming).carries now now_listed now_armed in
      let stay : Stay armed_at (scene_at o (to_later n c)) = subst (Stay armed_at) (sym at_end) (acts_stay (c.first ++ c.rest) armed_at) in
      let e : Some k.0 ≡ Some plan = sym (stay.plans i.no k.0 k.1) ∙ (ap (slice_get (scene_at o (to_later n c)).plans) found.1 ∙ r.planned) in
      let q : k.0 ≡ plan = cc in
      let a : Carries (after_event d (events.Arm i.placed)) i.placed plan = subst (Carries (after_event d (events.Arm i.placed)) i.placed) q (subst (λ (s : InstrumentScene). Carries s.core i.placed k.0) arming_is k.2) in
      let b : Carries d i.placed plan = record { vars = a.vars; many = a.many; places = a.places; sites = carries_before d i.placed (i.placed).slots (i.placed).sites plan.sites a.sites; opens = a.opens } in
      subst (λ x. Carries (replay (events_of c.before opened) begun) x plan) placed_is (subst (λ x. Carries x i.placed plan) before_core b)

  -- ---- what is read

  core_is : (acts : List Act) → AllCanDo acts opened → (scene_at o acts).core ≡ replay (events_of acts opened) begun
  core_is acts can = (legal_always o.image o.harts o.budget o.limit acts p can).core

  earlier_core : (scene_at o (to_earlier n c)).core ≡ replay (events_of c.before opened ++ events.Arm last.placed ∷ firsts) begun
  earlier_core = core_is (to_earlier n c) can_earlier ∙ ap (λ es. replay es begun) earlier_events

  sampled : IsSampled last.placed plan (events_of (to_later n c) opened) begun
  unfolding in_force
  sampled = record {
    force = in_force;
    carries = carries;
    first = firsts;
    rest = rests;
    parts = refl;
    earlier = subst IsQuiet earlier_core r.earlier;
    now = subst IsQuiet (core_is (to_later n c) r.can) r.later;
  }

  pub reads : (harts : List ℕ) → o.budget ≤ MAX_BUDGET → IsMeasurable plan
      → difference (readings last.placed harts (scene_at o (to_earlier n c)).core) (readings last.placed harts (scene_at o (to_later n c)).core)
      ≡ measure (program_of o.image) plan harts (time_at o c.before) (time_at o (to_earlier n c)) (time_at o (to_later n c)) (owns_at o (to_later n c)) (start o.image o.harts)
  unfolding sampled in_force
  reads harts low measurable =
      let law = readings_measure o.image o.harts o.budget last.placed plan harts (events_of (to_later n c) opened) p low measurable
      (legal_always o.image o.harts o.budget o.limit (to_later n c) p r.can).legal sampled in
      ap (λ d. difference (readings last.placed harts d) (readings last.placed harts (scene_at o (to_later n c)).core)) earlier_core
      ∙ (ap (λ d. difference (readings last.placed harts (replay (events_of c.before opened ++ events.Arm last.placed ∷ firsts) begun)) (readings last.placed harts d)) (core_is (to_later n c) r.can)
      ∙ (law ∙ ap (λ es. measure (program_of o.image) plan harts (time_at o c.before) (length (owns es begun)) (time_at o (to_later n c)) (owns_at o (to_later n c)) (start o.image o.harts)) (sym earlier_events)))

pub reads_measure : ReadsMeasure
reads_measure o n plan harts c p low measurable some r = reads o n plan c p r some harts low measurable
