-- What is kept where the machine does something by itself, and where an instrument is armed.
use Rattle.std.proofs.Common.{◌≡◌, ℕ, ◌<◌, List, [], ◌∷◌, ◌++◌, Some, refl, sym, ap, ◌∙◌, subst, ⊎_elim}
use Rattle.std.specs.Prelude.{map, find, cond, not, ◌==◌}
use Rattle.std.proofs.lemmas.Bool.{cases_eq, cond-true, cond-false, eq-eqb, ne_eqb, eqb-true}
use Rattle.pn_types.specs.declared.placed.Placed.{Placed}
use Rattle.pn_types.specs.declared.placed.PlacedSite.{PlacedSite}
use Rattle.pn_types.specs.declared.plan.Plan.{Plan}
use Rattle.pn_types.specs.declared.plan.Site.{Site}
use Rattle.machine.specs.Cores.{In, Core}
use Rattle.machine.specs.Effects.{after_event}
use Rattle.machine.specs.Events as events
use Rattle.machine.specs.Events.{Event, May, MayArm}
use Rattle.machine.specs.Instruments.{InForce}
use Rattle.machine.proofs.Lists.{in_map, map_in, find_gives}
use Rattle.instrument.specs.Placements.{is_leaving, with_state, with_armed}
use Rattle.instrument.specs.declared.instrument.Instrument.{Instrument}
use Rattle.instrument.specs.Placements as placements
use Rattle.tramp_spec.specs.Slots as slots
use Rattle.machine.specs.Instruments as instruments
use Rattle.instrument.specs.Scenes as scenes
use Rattle.instrument.specs.Scenes.{InstrumentScene, scene_told, arms, CanArm, IsTurnOrSample, Happens, Arms}
use Rattle.instrument.specs.declared.number.State as states
use Rattle.instrument.specs.declared.number.State.TheVariants.{Placing, Armed}
use Rattle.instrument.proofs.Steps.{State, Happened, LeavesBlocks}
use Rattle.instrument.proofs.Force.{linked_site, linked_still}
use Rattle.instrument.proofs.Lettings.{StepLets}
use Rattle.instrument.proofs.Wholes.{Carried, Orderly, SitesHold, at_of, AllLinked, Whole, is_spared}
use Rattle.instrument.proofs.Hands.{by_step}

leaves_blocks : (e : Event) → IsTurnOrSample e → LeavesBlocks e
leaves_blocks (events.Turn h) t = tt
leaves_blocks (events.Sample i) t = tt
leaves_blocks (events.Arm i) t = absurd t
leaves_blocks (events.Write b) t = absurd t
leaves_blocks (events.LinkMini p m) t = absurd t
leaves_blocks (events.UnlinkMini p m) t = absurd t
leaves_blocks (events.LinkPoint p) t = absurd t
leaves_blocks (events.UnlinkPoint p) t = absurd t
leaves_blocks (events.Free p) t = absurd t

lets_any : (i : Placed) (e : Event) → IsTurnOrSample e → StepLets i (Happened e)
lets_any i (events.Turn h) t = tt
lets_any i (events.Sample j) t = tt
lets_any i (events.Arm j) t = absurd t
lets_any i (events.Write b) t = absurd t
lets_any i (events.LinkMini p m) t = absurd t
lets_any i (events.UnlinkMini p m) t = absurd t
lets_any i (events.LinkPoint p) t = absurd t
lets_any i (events.UnlinkPoint p) t = absurd t
lets_any i (events.Free p) t = absurd t

pub happens_whole : (first : Core) (s : InstrumentScene) (es : List Event) (e : Event) → Whole first s es → IsTurnOrSample e → May s.core e → Whole first (scenes.does (Happens e) s).scene (es ++ (scenes.does (Happens e) s).events)
happens_whole first s es e w t may =
    by_step first s es w (Happened e) (scenes.does (Happens e) s) tt (leaves_blocks e t, may) (λ i h k. lets_any i.placed e t)
    (record { state = refl; events = refl; program = refl; count = refl; plans = refl; sub = λ i h. h; here = λ i h x hx b k. h })

-- ---- arming

-- an instrument with another state is carried as it was
pub carried_state : (st : State) (plans : List Plan) (n : ℕ) (q : states.State) (i : Instrument) → Carried st plans i → Carried st plans (with_state n q i)
carried_state st plans n q i c = record {
  plan = c.plan;
  is = c.is;
  vars = c.vars;
  many = c.many;
  places = c.places;
  stmts = c.stmts;
  sites = same i.placed.sites (c.plan).sites c.sites;
  opens = c.opens;
}
  where
    same : (ps : List PlacedSite) (qs : List Site) → SitesHold st i ps qs → SitesHold st (with_state n q i) ps qs
    same [] [] h = h
    same [] (q ∷ qs) h = h
    same (p ∷ ps) [] h = h
    same (p ∷ ps) (q ∷ qs) h = (h.0, h.1, same ps qs h.2)

pub found_at : (instruments : List Instrument) (n : ℕ) (i : Instrument) → find (λ i. i.no == n) instruments ≡ Some i → In i instruments × (i.no ≡ n)
found_at instruments n i e = let g = find_gives (λ (i : Instrument). i.no == n) instruments i e in (g.0, eqb-true i.no n g.1)

module _ (first : Core) (s : InstrumentScene) (es : List Event) (w : Whole first s es) (i : Instrument) (hi : In i s.placer.instruments) (placing : i.state ≡ Placing) (may : MayArm s.core i.placed) where
  abbrev behind : InstrumentScene
  behind = record { core = after_event s.core (events.Arm i.placed); placer = s.placer; plans = s.plans }

  abbrev more : List Event
  more = es ++ events.Arm i.placed ∷ []

  not_armed : (j : Instrument) → j.state ≡ Armed → i.no ≡ j.no → In j s.placer.instruments → ⊥
  not_armed j e n h = let q = ap (λ (u : Instrument). u.state) (w.orderly.single i j hi h n) in absurd cc

  w1 : Whole first (record { core = after_event s.core (events.Arm i.placed); placer = s.placer; plans = s.plans }) (es ++ events.Arm i.placed ∷ [])
  w1 =
      by_step first s es w (Happened (events.Arm i.placed)) (scene_told (events.Arm i.placed ∷ []) (after_event s.core (events.Arm i.placed)) s.placer s) tt (tt, may)
      (λ j h e. w.orderly.slots j i h hi (λ n. not_armed j e (sym n) h))
      (record { state = refl; events = refl; program = refl; count = refl; plans = refl; sub = λ j h. h; here = λ j h x hx b k. h })

  -- a state that changes is i's
  state_is : (j : Instrument) → In j s.placer.instruments → is_leaving (cond (j.no == i.no) Armed j.state) ≡ is_leaving j.state
  state_is j h = ⊎_elim
      (λ (n : j.no ≡ i.no).
      ap is_leaving (cond-true (j.no == i.no) Armed j.state (eq-eqb _ _ n)) ∙ sym (ap (λ (u : Instrument). is_leaving u.state) (w.orderly.single j i h hi n) ∙ ap is_leaving placing))
      (λ n. ap is_leaving (cond-false (j.no == i.no) Armed j.state (ne_eqb _ _ n))) (cases_eq j.no i.no)

  abbrev f : Instrument → Instrument
  f = with_state i.no Armed

  orderly : Orderly (at_of behind) (map (with_state i.no Armed) s.placer.instruments) s.plans s.placer.count
  orderly =
      let o = w1.orderly in
      record {
        many = o.many;
        below = λ j h. let k = in_map (with_state i.no Armed) s.placer.instruments j h in subst (λ (u : Instrument). u.no < s.placer.count) (sym k.2) (o.below k.0 k.1);
        single = λ j l hj hl e.
            let a = in_map (with_state i.no Armed) s.placer.instruments j hj in let b = in_map (with_state i.no Armed) s.placer.instruments l hl in
            a.2 ∙ (ap (with_state i.no Armed) (o.single a.0 b.0 a.1 b.1 (sym (ap (λ (u : Instrument). u.no) a.2) ∙ (e ∙ ap (λ (u : Instrument). u.no) b.2))) ∙ sym b.2);
        owners = λ x h b.
            let j = o.owners x h b in
            (with_state i.no Armed j.0, map_in (with_state i.no Armed) s.placer.instruments j.0 j.1, j.2, j.3 ∙ ap not (sym (state_is j.0 j.1)));
        roomed = λ j h x hx b e.
            let k = in_map (with_state i.no Armed) s.placer.instruments j h in
            let p = o.roomed k.0 k.1 x hx b (e ∙ ap (λ (u : Instrument). u.no) k.2) in
            (p.0, subst (λ (u : Instrument). In p.0 u.placed.sites) (sym k.2) p.1, p.2, p.3);
        sites = λ j h l.
            let k = in_map (with_state i.no Armed) s.placer.instruments j h in
            ap (λ (u : Instrument). u.placed.sites) k.2
            ∙ (o.sites k.0 k.1 (sym (state_is k.0 k.1) ∙ (sym (ap (λ (u : Instrument). is_leaving u.state) k.2) ∙ l)) ∙ ap (λ (u : Instrument). placements.sites_of u.no s.placer.book.rooms) (sym k.2));
        carried = λ j h.
            let k = in_map (with_state i.no Armed) s.placer.instruments j h in
            subst (Carried (at_of behind) s.plans) (sym k.2) (carried_state (at_of behind) s.plans i.no Armed k.0 (o.carried k.0 k.1));
        slots = λ j l hj hl n.
            let a = in_map (with_state i.no Armed) s.placer.instruments j hj in let b = in_map (with_state i.no Armed) s.placer.instruments l hl in
            subst (λ (u : Instrument). slots.ShareNone (slots.places_of u.placed) (slots.places_of l.placed)) (sym a.2)
            (subst (λ (u : Instrument). slots.ShareNone (slots.places_of (a.0).placed) (slots.places_of u.placed)) (sym b.2)
            (o.slots a.0 b.0 a.1 b.1 (λ e. n (ap (λ (u : Instrument). u.no) a.2 ∙ (e ∙ sym (ap (λ (u : Instrument). u.no) b.2))))));
      }

  -- what holds of i and of those that were armed holds of those that are armed
  each : (P : Instrument → Type 0) → P (with_state i.no Armed i) → ((j : Instrument) → In j s.placer.instruments → j.state ≡ Armed → P (with_state i.no Armed j))
      → (j : Instrument) → In j (map (with_state i.no Armed) s.placer.instruments) → j.state ≡ Armed → P j
  each P a b j h e =
      let k = in_map (with_state i.no Armed) s.placer.instruments j h in
      subst P (sym k.2) (⊎_elim
      (λ (n : (k.0).no ≡ i.no). subst (λ (u : Instrument). P (with_state i.no Armed u)) (sym (w.orderly.single k.0 i k.1 hi n)) a)
      (λ n. b k.0 k.1 (sym (cond-false ((k.0).no == i.no) Armed (k.0).state (ne_eqb _ _ n)) ∙ (sym (ap (λ (u : Instrument). u.state) k.2) ∙ e)))
      (cases_eq (k.0).no i.no))

  linked_i : AllLinked s.core i.placed.sites
  linked_i p h = let z = may.linked p h in linked_site s.core w.kept.reached p.at p.mini z.0 z.1

  pub arm_whole : Whole first (record { core = after_event s.core (events.Arm i.placed); placer = with_armed i.no s.placer; plans = s.plans }) (es ++ events.Arm i.placed ∷ [])
  arm_whole = record {
    kept = w1.kept;
    neat = w1.neat;
    program = w1.program;
    orderly = orderly;
    linked = each (λ j. AllLinked (after_event s.core (events.Arm i.placed)) j.placed.sites) (λ p h. linked_still s.core (after_event s.core (events.Arm i.placed)) p.at p.mini refl (linked_i p h)) (λ j h e. w1.linked j h e);
    legal = w1.legal;
    core = w1.core;
    force = each (λ j. InForce j.placed (es ++ events.Arm i.placed ∷ []) first)
        (record { before = es; since = []; is = refl; spared = subst (λ c. instruments.IsSpared c i.placed) w.core (is_spared (at_of s) s.placer.instruments s.plans s.placer.count w.orderly w.kept i hi); lets = tt })
        (λ j h e. w1.force j h e);
  }

pub arms_whole : (first : Core) (s : InstrumentScene) (es : List Event) (n : ℕ) → Whole first s es → CanArm n s → Whole first (scenes.does (Arms n) s).scene (es ++ (scenes.does (Arms n) s).events)
arms_whole first s es n w c =
    let g = found_at s.placer.instruments n c.instrument c.is in
    subst (λ o. Whole first (arms o s).scene (es ++ (arms o s).events)) (sym c.is) (arm_whole first s es w c.instrument g.0 c.placing c.may)
