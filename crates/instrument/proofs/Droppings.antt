-- What is kept where an instrument is dropped.
use Rattle.std.proofs.Common.{◌≡◌, ℕ, ◌<◌, List, [], ◌∷◌, ◌++◌, refl, sym, ap, ◌∙◌, subst, ⊎_elim}
use Rattle.std.specs.Prelude.{map, filter, find, Bool, true, false, cond, not, ◌||◌, ◌&&◌, ◌==◌, ◌⊎◌}
use Rattle.std.proofs.lemmas.Bool.{true≢false, cases_eq, cond-true, cond-false, eq-eqb, ne_eqb, and_from, not_from_false, false_from_ne_true}
use Rattle.std.specs.Prelude as option
use Rattle.pn_types.specs.declared.placed.PlacedSite.{PlacedSite}
use Rattle.pn_types.specs.declared.plan.Site.{Site}
use Rattle.tramp_spec.specs.Slots as slots
use Rattle.tramp_spec.specs.Statements.{body_of}
use Rattle.tramp_spec.specs.declared.mark.MarkedWord.{MarkedWord}
use Rattle.machine.specs.Cores.{In, Core}
use Rattle.machine.specs.Events.{Event}
use Rattle.machine.specs.Instruments.{InForce}
use Rattle.machine.specs.Replays.{Legal, replay}
use Rattle.machine.proofs.Lists.{in_map, map_in, in_filter}
use Rattle.instrument.specs.Books.{Book, is_held, is_mini_of, with_hold, without_site, mini_leaves, base_leaves, rooms_left}
use Rattle.instrument.specs.Placements as placements
use Rattle.instrument.specs.Placements.{is_leaving, is_site_of, is_here, with_state, without_sites}
use Rattle.instrument.specs.declared.instrument.Instrument.{Instrument}
use Rattle.instrument.specs.Scenes as scenes
use Rattle.instrument.specs.Scenes.{InstrumentScene, Drops}
use Rattle.instrument.specs.declared.number.State.TheVariants.{Armed, Leaving}
use Rattle.instrument.specs.declared.room.Room.{Room}
use Rattle.instrument.proofs.Folds.{append_nil}
use Rattle.instrument.proofs.Steps.{State, Step, Dropped, does, AllCan, all_events, all_steps}
use Rattle.instrument.proofs.Keeping.{Kept}
use Rattle.instrument.proofs.Going.{step_keeps, Went, all_keep}
use Rattle.instrument.proofs.Force.{LinkedSite}
use Rattle.instrument.proofs.Neats.{Neat, neat_step, Site as DropSite, differ_filter, site_of, drops_site, no_site_left}
use Rattle.instrument.proofs.Promises.{HoldsBody, step_holds}
use Rattle.instrument.proofs.Under.{Mated, mate_drops, sites_drops}
use Rattle.instrument.proofs.Wholes.{Carried, Orderly, SitesHold, Whole}
use Rattle.instrument.proofs.Hands.{left_here}
use Rattle.instrument.proofs.Armings.{carried_state}

abbrev pub droppings : List Room → List Step
droppings xs = map (λ x. Dropped x) xs

-- the steps are the definition's
steps_are : (xs : List Room) (c : Core) (b : Book) → all_steps (droppings xs) (record { core = c; book = b }) ≡ record { core = c; book = without_sites xs b }
steps_are [] c b = refl
steps_are (x ∷ xs) c b = steps_are xs c (without_site x b)

no_events : (xs : List Room) (st : State) → all_events (droppings xs) st ≡ []
no_events [] st = refl
no_events (x ∷ xs) st = no_events xs (does (Dropped x) st).state

neat_drops : (xs : List Room) (st : State) → Kept st → Neat st.book.rooms → AllCan (droppings xs) st → Neat (all_steps (droppings xs) st).book.rooms
neat_drops [] st k n c = n
neat_drops (x ∷ xs) st k n c = neat_drops xs (does (Dropped x) st).state (step_keeps (Dropped x) st k c.0).kept (neat_step (Dropped x) st k c.0 n) c.1

-- a room stays where sites are dropped
room_left : (o : option.Option Room) (q : ℕ) (xs : List Room) (m : ℕ) → (x : Room) × In x xs × (x.at ≡ m) → (x : Room) × In x (rooms_left o q xs) × (x.at ≡ m)
room_left (option.Some o) q xs m h = h
room_left option.None q xs m h = (with_hold (base_leaves q) h.0, map_in (with_hold (base_leaves q)) xs h.0 h.1, h.2)

room_stays : (y : Room) (st : State) (m : ℕ) → (x : Room) × In x st.book.rooms × (x.at ≡ m) → (x : Room) × In x (does (Dropped y) st).state.book.rooms × (x.at ≡ m)
room_stays y st m h =
    room_left (find (is_mini_of y.point) (map (with_hold (mini_leaves y.at)) st.book.rooms)) y.point (map (with_hold (mini_leaves y.at)) st.book.rooms) m
    (with_hold (mini_leaves y.at) h.0, map_in (with_hold (mini_leaves y.at)) st.book.rooms h.0 h.1, h.2)

holds_drops : (xs : List Room) (st : State) → Kept st → Neat st.book.rooms → AllCan (droppings xs) st → (m : ℕ) (body : List MarkedWord) → (x : Room) × In x st.book.rooms × (x.at ≡ m) → HoldsBody m body st → HoldsBody m body (all_steps (droppings xs) st)
holds_drops [] st k n c m body x h = h
holds_drops (y ∷ ys) st k n c m body x h =
    holds_drops ys (does (Dropped y) st).state (step_keeps (Dropped y) st k c.0).kept (neat_step (Dropped y) st k c.0 n) c.1 m body (room_stays y st m x)
    (step_holds (Dropped y) st k n c.0 m body x.0 x.1 x.2 h)

module _ (first : Core) (s : InstrumentScene) (es : List Event) (w : Whole first s es) (n : ℕ) where
  abbrev st : State
  st = record { core = s.core; book = s.placer.book }

  abbrev xs : List Room
  xs = filter (is_site_of n) s.placer.book.rooms

  abbrev after : State
  after = record { core = s.core; book = without_sites (filter (is_site_of n) s.placer.book.rooms) s.placer.book }

  is : all_steps (droppings xs) st ≡ after
  is = steps_are xs s.core s.placer.book

  can : AllCan (droppings xs) st
  can = drops_site n st w.neat

  went : Went (droppings xs) st
  went = all_keep (droppings xs) st w.kept can

  is_dropped : (x : Room) → In x xs → DropSite st x × (x.owner ≡ n)
  is_dropped x h = let z = in_filter (is_site_of n) s.placer.book.rooms x h in let q = site_of n x z.1 in ((z.0, q.0, q.2), q.1)

  mates : Mated n after.book.rooms s.placer.book.rooms
  mates = subst (λ (u : State). Mated n u.book.rooms s.placer.book.rooms) is (mate_drops n xs st w.kept w.neat (differ_filter (is_site_of n) s.placer.book.rooms w.neat) is_dropped)

  none : (x : Room) → In x after.book.rooms → is_site_of n x ≡ true → ⊥
  none x h e = no_site_left n st x (subst (λ (u : State). In x u.book.rooms) (sym is) h) e

  abbrev f : Instrument → Instrument
  f = with_state n Leaving

  abbrev left : List Instrument
  left = filter (is_here after.book.rooms) (map (with_state n Leaving) s.placer.instruments)

  was : (i : Instrument) → In i left → (j : Instrument) × In j s.placer.instruments × (i ≡ with_state n Leaving j)
  was i h = in_map (with_state n Leaving) s.placer.instruments i (in_filter (is_here after.book.rooms) (map (with_state n Leaving) s.placer.instruments) i h).0

  -- one that isn't leaving now is another, as it was
  stays : (j : Instrument) → is_leaving (with_state n Leaving j).state ≡ false → (j.no ≡ n → ⊥) × (with_state n Leaving j ≡ j)
  stays j e =
      let away : j.no ≡ n → ⊥ = λ k. true≢false (sym (ap is_leaving (cond-true (j.no == n) Leaving j.state (eq-eqb _ _ k))) ∙ e) in
      (away, ap (λ v. record j { state = v }) (cond-false (j.no == n) Leaving j.state (ne_eqb _ _ away)))

  sites_on : (j : Instrument) (ps : List PlacedSite) (qs : List Site) → SitesHold st j ps qs → SitesHold after j ps qs
  sites_on j [] [] h = tt
  sites_on j [] (q ∷ qs) h = h
  sites_on j (p ∷ ps) [] h = h
  sites_on j (p ∷ ps) (q ∷ qs) h = (
    h.0,
    (λ x hx b e at.
        let y = mates x hx b in
        let old = h.1 y.0 y.1 ((y.2).base ∙ b) ((y.2).owner ∙ e) ((y.2).at ∙ at) in
        subst (HoldsBody p.mini (body_of j.placed.slots q.stmts)) is (holds_drops xs st w.kept w.neat can p.mini (body_of j.placed.slots q.stmts) (y.0, y.1, (y.2).at ∙ at) old)),
    sites_on j ps qs h.2,
  )

  carried_on : (j : Instrument) → Carried st s.plans j → Carried after s.plans j
  carried_on j c = record { plan = c.plan; is = c.is; vars = c.vars; many = c.many; places = c.places; stmts = c.stmts; sites = sites_on j j.placed.sites (c.plan).sites c.sites; opens = c.opens }

  orderly : Orderly after left s.plans s.placer.count
  orderly =
      let o = w.orderly in
      record {
        many = o.many;
        below = λ i h. let k = was i h in subst (λ (u : Instrument). u.no < s.placer.count) (sym k.2) (o.below k.0 k.1);
        single = λ i j hi hj e.
            let a = was i hi in let b = was j hj in
            a.2 ∙ (ap (with_state n Leaving) (o.single a.0 b.0 a.1 b.1 (sym (ap (λ (u : Instrument). u.no) a.2) ∙ (e ∙ ap (λ (u : Instrument). u.no) b.2))) ∙ sym b.2);
        owners = λ x h b.
            let y = mates x h b in
            let j = o.owners y.0 y.1 ((y.2).base ∙ b) in
            let own : (j.0).no ≡ x.owner = j.2 ∙ (y.2).owner in (
              with_state n Leaving j.0,
              left_here after.book.rooms (map (with_state n Leaving) s.placer.instruments) (with_state n Leaving j.0) (map_in (with_state n Leaving) s.placer.instruments j.0 j.1) x h b (sym own),
              own,
              ⊎_elim
                  (λ (e : x.owner ≡ n). false_from_ne_true (is_held x.hold) (λ t. none x h (and_from _ _ (not_from_false _ b) (and_from _ _ (eq-eqb _ _ e) t)))
                  ∙ sym (ap (λ v. not (is_leaving v)) (cond-true ((j.0).no == n) Leaving (j.0).state (eq-eqb _ _ (own ∙ e)))))
                  (λ (e : x.owner ≡ n → ⊥). sym (y.3 e) ∙ (j.3 ∙ sym (ap (λ v. not (is_leaving v)) (cond-false ((j.0).no == n) Leaving (j.0).state (ne_eqb _ _ (λ q. e (sym own ∙ q)))))))
                  (cases_eq x.owner n),
            );
        roomed = λ i h x hx b e.
            let k = was i h in
            let y = mates x hx b in
            let p = o.roomed k.0 k.1 y.0 y.1 ((y.2).base ∙ b) ((y.2).owner ∙ (e ∙ ap (λ (u : Instrument). u.no) k.2)) in
            (p.0, subst (λ (u : Instrument). In p.0 u.placed.sites) (sym k.2) p.1, p.2 ∙ (y.2).point, p.3 ∙ (y.2).at);
        sites = λ i h l.
            let k = was i h in
            let z = stays k.0 (sym (ap (λ (u : Instrument). is_leaving u.state) k.2) ∙ l) in
            let old : is_leaving (k.0).state ≡ false = sym (ap (λ (u : Instrument). is_leaving u.state) (k.2 ∙ z.1)) ∙ l in
            ap (λ (u : Instrument). u.placed.sites) k.2
            ∙ (o.sites k.0 k.1 old ∙ (sym (sites_drops (k.0).no xs st) ∙ (ap (λ (u : State). placements.sites_of (k.0).no u.book.rooms) is ∙ ap (λ (u : Instrument). placements.sites_of u.no after.book.rooms) (sym k.2))));
        carried = λ i h. let k = was i h in subst (Carried after s.plans) (sym k.2) (carried_state after s.plans n Leaving k.0 (carried_on k.0 (o.carried k.0 k.1)));
        slots = λ i j hi hj d.
            let a = was i hi in let b = was j hj in
            subst (λ (u : Instrument). slots.ShareNone (slots.places_of u.placed) (slots.places_of j.placed)) (sym a.2)
            (subst (λ (u : Instrument). slots.ShareNone (slots.places_of (a.0).placed) (slots.places_of u.placed)) (sym b.2)
            (o.slots a.0 b.0 a.1 b.1 (λ e. d (ap (λ (u : Instrument). u.no) a.2 ∙ (e ∙ sym (ap (λ (u : Instrument). u.no) b.2))))));
      }

  -- one that is armed now was
  armed_was : (i : Instrument) → In i left → i.state ≡ Armed → (j : Instrument) × In j s.placer.instruments × (i ≡ j) × (j.state ≡ Armed) × (j.no ≡ n → ⊥)
  armed_was i h e =
      let k = was i h in
      let z = stays k.0 (sym (ap (λ (u : Instrument). is_leaving u.state) k.2) ∙ ap is_leaving e) in
      (k.0, k.1, k.2 ∙ z.1, sym (ap (λ (u : Instrument). u.state) (k.2 ∙ z.1)) ∙ e, z.0)

  pub drop_whole : Whole first (scenes.does (Drops n) s).scene (es ++ [])
  drop_whole =
      let nil = append_nil es in
      record {
        kept = subst Kept is went.kept;
        neat = subst (λ (u : State). Neat u.book.rooms) is (neat_drops xs st w.kept w.neat can);
        program = w.program;
        orderly = orderly;
        linked = λ i h e. let k = armed_was i h e in subst (λ (u : Instrument). (p : PlacedSite) → In p u.placed.sites → LinkedSite s.core p.at p.mini) (sym k.2) (w.linked k.0 k.1 k.3);
        legal = subst (λ l. Legal l first) (sym nil) w.legal;
        core = subst (λ l. s.core ≡ replay l first) (sym nil) w.core;
        force = λ i h e. let k = armed_was i h e in subst (λ l. InForce i.placed l first) (sym nil) (subst (λ (u : Instrument). InForce u.placed es first) (sym k.2) (w.force k.0 k.1 k.3));
      }
