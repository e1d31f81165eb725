-- What is kept where entries are handed out, and where the machine does something by itself.
use Rattle.std.proofs.Common.{◌≡◌, ℕ, List, [], ◌∷◌, ◌++◌, Option, Some, None, refl, sym, ap, ◌∙◌, subst, ⊎_elim}
use Rattle.std.specs.Prelude.{filter, Bool, true, false, not, ◌==◌}
use Rattle.std.proofs.lemmas.Bool.{true≢false, cases_Bool, and_parts, and_from, not_from_false, not_from_true, eq-eqb, eqb-true, or_right}
use Rattle.pn_types.specs.declared.plan.Plan.{Plan}
use Rattle.pn_types.specs.declared.placed.PlacedSite.{PlacedSite}
use Rattle.pn_types.specs.declared.plan.Site.{Site}
use Rattle.rv_word.specs.Plain.{Words}
use Rattle.tramp_spec.specs.Statements.{body_of}
use Rattle.tramp_spec.specs.declared.mark.MarkedWord.{MarkedWord}
use Rattle.machine.specs.Cores.{In, Core}
use Rattle.machine.specs.Events as events
use Rattle.machine.specs.Events.{Event}
use Rattle.machine.specs.Replays.{Legal, replay}
use Rattle.machine.proofs.Lists.{in_filter, filter_in}
use Rattle.machine.proofs.Replaying.{legal-append, replay-append}
use Rattle.instrument.specs.Books.{is_held, stays, FoundFree, first_free}
use Rattle.instrument.specs.Handing.{is_barred}
use Rattle.instrument.specs.Placements.{is_leaving, is_mini_room_of, is_here, sites_of, point_in, agenda_in}
use Rattle.instrument.specs.declared.instrument.Instrument.{Instrument}
use Rattle.instrument.specs.Scenes as scenes
use Rattle.instrument.specs.Scenes.{InstrumentScene, Told, frees, sweeps, Hands, Sweeps}
use Rattle.instrument.specs.declared.entry.Entry.{Entry}
use Rattle.instrument.specs.declared.entry.Entry.TheVariants.{WriteBase, WriteMini, LinkMini, LinkPoint, UnlinkMini, UnlinkPoint, Free}
use Rattle.instrument.specs.declared.number.State.TheVariants.{Armed}
use Rattle.instrument.specs.declared.room.Room.{Room}
use Rattle.instrument.proofs.Steps.{State, Out, Step, Happened, Admitted, Dropped, Handed, Swept, does, release, sweep, Can}
use Rattle.instrument.proofs.Keeping.{Kept}
use Rattle.instrument.proofs.Going.{any_in, handed, swept, step_keeps}
use Rattle.machine.specs.Instruments as lets
use Rattle.instrument.proofs.Force as force
use Rattle.instrument.proofs.Force.{LinkedSite, step_spares, Leaves}
use Rattle.instrument.proofs.Neats.{Neat, neat_step}
use Rattle.instrument.proofs.Promises.{HoldsBody, step_holds}
use Rattle.instrument.proofs.Under.{Under, under_all, under_done, sites_done}
use Rattle.instrument.proofs.Lettings.{all_lets, step_lets, step_program, StepLets}
use Rattle.instrument.proofs.Wholes.{SitesHold, Carried, Orderly, at_of, Whole, own_held, held_site, none_names, still_force}

-- ---- rooms and bodies

-- rooms stay or are given back, and bodies stay
pub record Moved (st new : State) : Type 0 where
  pub under : Under new.book.rooms st.book.rooms
  pub sites : (n : ℕ) → ((x : Room) → In x st.book.rooms → is_mini_room_of n x ≡ true → is_held x.hold ≡ true) → sites_of n new.book.rooms ≡ sites_of n st.book.rooms
  pub holds : (m : ℕ) (body : List MarkedWord) (x : Room) → In x st.book.rooms → x.at ≡ m → HoldsBody m body st → HoldsBody m body new

record MovedRooms (st : State) (o : Out) : Type 0 where
  under : Under o.state.book.rooms st.book.rooms
  sites : (n : ℕ) → ((x : Room) → In x st.book.rooms → is_mini_room_of n x ≡ true → is_held x.hold ≡ true) → sites_of n o.state.book.rooms ≡ sites_of n st.book.rooms

abbrev pub IsPlain : Step → Type 0
IsPlain (Happened e) = Unit {0}
IsPlain (Admitted owner k) = ⊥
IsPlain (Dropped x) = ⊥
IsPlain Handed = Unit {0}
IsPlain Swept = Unit {0}

rooms_moved : (a : Step) (st : State) → IsPlain a → Kept st → Can a st → MovedRooms st (does a st)
rooms_moved (Happened e) st p k c = record { under = under_all st.book.rooms; sites = λ n f. refl }
rooms_moved (Admitted owner b) st p k c = absurd p
rooms_moved (Dropped x) st p k c = absurd p
rooms_moved Handed st p k c =
    handed (MovedRooms st) st k (record { under = under_all st.book.rooms; sites = λ n f. refl }) (λ q es w sub. record { under = under_all st.book.rooms; sites = λ n f. refl })
    (λ w e es b f sub. record { under = under_done st w e es b; sites = λ n g. sites_done n e st.book.rooms g })
rooms_moved Swept st p k c =
    swept (MovedRooms st) st k c (record { under = under_all st.book.rooms; sites = λ n f. refl })
    (λ w e es b f sub. record { under = under_done st w e es b; sites = λ n g. sites_done n e st.book.rooms g })

pub step_moved : (a : Step) (st : State) → IsPlain a → Kept st → Neat st.book.rooms → Can a st → Moved st (does a st).state
step_moved a st p k n c =
    let r = rooms_moved a st p k c in
    record { under = r.under; sites = r.sites; holds = λ m body x h e. step_holds a st k n c m body x h e }

-- ---- instruments

pub mini_of : (n : ℕ) (x : Room) → is_mini_room_of n x ≡ true → (x.base ≡ false) × (x.owner ≡ n)
mini_of n x e =
    let p = and_parts (not x.base) (x.owner == n) e in
    (⊎_elim (λ (k : x.base ≡ true). absurd (true≢false (sym p.0 ∙ not_from_true _ k))) (λ k. k) (cases_Bool x.base), eqb-true x.owner n p.1)

sites_on : (st new : State) (m : Moved st new) (i : Instrument) (ps : List PlacedSite) (qs : List Site) → SitesHold st i ps qs → SitesHold new i ps qs
sites_on st new m i [] [] h = tt
sites_on st new m i [] (q ∷ qs) h = h
sites_on st new m i (p ∷ ps) [] h = h
sites_on st new m i (p ∷ ps) (q ∷ qs) h = (
  h.0,
  (λ x hx b e at.
      let y = m.under x hx in
      m.holds p.mini (body_of i.placed.slots q.stmts) y.0 y.1 ((y.2).at ∙ at) (h.1 y.0 y.1 ((y.2).base ∙ b) ((y.2).owner ∙ e) ((y.2).at ∙ at))),
  sites_on st new m i ps qs h.2,
)

pub carried_on : (st new : State) (m : Moved st new) (plans : List Plan) (i : Instrument) → Carried st plans i → Carried new plans i
carried_on st new m plans i c = record {
  plan = c.plan;
  is = c.is;
  vars = c.vars;
  many = c.many;
  places = c.places;
  stmts = c.stmts;
  sites = sites_on st new m i i.placed.sites (c.plan).sites c.sites;
  opens = c.opens;
}

pub orderly_on : (st new : State) (m : Moved st new) (instruments left : List Instrument) (plans : List Plan) (count : ℕ) → Orderly st instruments plans count
    → ((i : Instrument) → In i left → In i instruments)
    → ((i : Instrument) → In i instruments → (x : Room) → In x new.book.rooms → x.base ≡ false → x.owner ≡ i.no → In i left)
    → Orderly new left plans count
orderly_on st new m instruments left plans count o sub here = record {
  many = o.many;
  below = λ i h. o.below i (sub i h);
  single = λ i j hi hj e. o.single i j (sub i hi) (sub j hj) e;
  owners = λ x h b.
      let y = m.under x h in
      let j = o.owners y.0 y.1 ((y.2).base ∙ b) in
      (j.0, here j.0 j.1 x h b (sym (j.2 ∙ (y.2).owner)), j.2 ∙ (y.2).owner, sym y.3 ∙ j.3);
  roomed = λ i h x hx b e.
      let y = m.under x hx in
      let p = o.roomed i (sub i h) y.0 y.1 ((y.2).base ∙ b) ((y.2).owner ∙ e) in
      (p.0, p.1, p.2 ∙ (y.2).point, p.3 ∙ (y.2).at);
  sites = λ i h l. o.sites i (sub i h) l ∙ sym (m.sites i.no (λ x hx e. let z = mini_of i.no x e in ap is_held (own_held st instruments plans count o i (sub i h) l x hx z.0 z.1)));
  carried = λ i h. carried_on st new m plans i (o.carried i (sub i h));
  slots = λ i j hi hj n. o.slots i j (sub i hi) (sub j hj) n;
}

-- ---- an act of one step

-- what an act is by a step
pub record ByStep (s : InstrumentScene) (a : Step) (t : Told) : Type 0 where
  pub state : at_of t.scene ≡ (does a (at_of s)).state
  pub events : t.events ≡ (does a (at_of s)).events
  pub program : t.scene.placer.program ≡ s.placer.program
  pub count : t.scene.placer.count ≡ s.placer.count
  pub plans : t.scene.plans ≡ s.plans
  pub sub : (i : Instrument) → In i t.scene.placer.instruments → In i s.placer.instruments
  pub here : (i : Instrument) → In i s.placer.instruments → (x : Room) → In x t.scene.placer.book.rooms → x.base ≡ false → x.owner ≡ i.no → In i t.scene.placer.instruments

-- an event of the machine by itself lets every instrument that is armed be
abbrev pub AllStepLet : InstrumentScene → Step → Type 0
AllStepLet s a = (i : Instrument) → In i s.placer.instruments → i.state ≡ Armed → StepLets i.placed a

armed_stays : (i : Instrument) → i.state ≡ Armed → is_leaving i.state ≡ false
armed_stays i e = ap is_leaving e

leaves_any : (m : ℕ) (a : Step) → IsPlain a → Leaves m a
leaves_any m (Happened e) p = tt
leaves_any m (Admitted owner k) p = tt
leaves_any m (Dropped x) p = absurd p
leaves_any m Handed p = tt
leaves_any m Swept p = tt

pub by_step : (first : Core) (s : InstrumentScene) (es : List Event) (w : Whole first s es) (a : Step) (t : Told) → IsPlain a → Can a (at_of s) → AllStepLet s a → ByStep s a t → Whole first t.scene (es ++ t.events)
by_step first s es w a t p c l b =
    let st = at_of s in
    let g = step_keeps a (at_of s) w.kept c in
    let m : Moved (at_of s) (at_of t.scene) = subst (Moved (at_of s)) (sym b.state) (step_moved a (at_of s) p w.kept w.neat c) in
    let core : t.scene.core ≡ (does a (at_of s)).state.core = ap (λ (u : State). u.core) b.state in
    let ev : List Event = t.events in
    record {
      kept = subst Kept (sym b.state) g.kept;
      neat = subst (λ (u : State). Neat u.book.rooms) (sym b.state) (neat_step a (at_of s) w.kept c w.neat);
      program = b.program ∙ (w.program ∙ (sym (step_program a (at_of s) w.kept c) ∙ sym (ap (λ (u : Core). u.program) core)));
      orderly = subst (λ n. Orderly (at_of t.scene) t.scene.placer.instruments t.scene.plans n) (sym b.count)
          (subst (λ q. Orderly (at_of t.scene) t.scene.placer.instruments q s.placer.count) (sym b.plans)
          (orderly_on (at_of s) (at_of t.scene) m s.placer.instruments t.scene.placer.instruments s.plans s.placer.count w.orderly b.sub b.here));
      linked = λ i h e q hq. subst (λ u. LinkedSite u q.at q.mini) (sym core) (spares i h e q hq).linked;
      legal = legal-append es t.events first w.legal (subst (λ u. Legal t.events u) w.core (subst (λ u. Legal u s.core) (sym b.events) g.legal));
      core = core ∙ (g.core ∙ (ap (λ u. replay u s.core) (sym b.events) ∙ (ap (replay t.events) w.core ∙ sym (replay-append es t.events first))));
      force = λ i h e.
          still_force i.placed es t.events first (w.force i (b.sub i h) e)
          (subst (λ u. lets.AllLet i.placed u) (sym b.events) (all_lets i.placed (does a (at_of s)).events
          (step_lets i.placed a (at_of s) w.kept c (none_names (at_of s) s.placer.instruments s.plans s.placer.count w.orderly w.kept i (b.sub i h) (armed_stays i e) (w.linked i (b.sub i h) e)) (l i (b.sub i h) e))
          (λ q hq. (spares i h e q hq).events)));
    }
  where
    spares : (i : Instrument) → In i t.scene.placer.instruments → i.state ≡ Armed → (q : PlacedSite) → In q i.placed.sites → force.Sparing q.at q.mini (does a (at_of s))
    spares i h e q hq =
        step_spares q.at q.mini a (at_of s) w.kept c (w.linked i (b.sub i h) e q hq)
        (held_site (at_of s) s.placer.instruments s.plans s.placer.count w.orderly i (b.sub i h) (armed_stays i e) q hq) (leaves_any q.mini a p)

-- ---- handing out

the_scene : Core → Words → ℕ → List Room → List Entry → List Instrument → ℕ → List Plan → InstrumentScene
the_scene core program limit rooms agenda instruments count plans =
    record { core = core; placer = record { program = program; limit = limit; book = record { rooms = rooms; agenda = agenda }; instruments = instruments; count = count }; plans = plans }

pub left_here : (rooms : List Room) (instruments : List Instrument) (i : Instrument) → In i instruments → (x : Room) → In x rooms → x.base ≡ false → x.owner ≡ i.no → In i (filter (is_here rooms) instruments)
left_here rooms instruments i h x hx b e =
    filter_in (is_here rooms) instruments i h
    (or_right (not (is_leaving i.state)) _ (any_in (is_mini_room_of i.no) rooms x hx (and_from _ _ (not_from_false _ b) (eq-eqb _ _ e))))

module _ (core : Core) (program : Words) (limit : ℕ) (rooms : List Room) (instruments : List Instrument) (count : ℕ) (plans : List Plan) where
  abbrev at : List Entry → InstrumentScene
  at agenda = record { core = core; placer = record { program = program; limit = limit; book = record { rooms = rooms; agenda = agenda }; instruments = instruments; count = count }; plans = plans }

  hand_free : (b : Bool) (p : ℕ) (es : List Entry) → is_barred core p ≡ b
      → ((st : State) → release (is_barred core p) p es st ≡ release b p es st) → ByStep (at (Free p ∷ es)) Handed (frees b p (record { program = program; limit = limit; book = record { rooms = rooms; agenda = es }; instruments = instruments; count = count }) (at (Free p ∷ es)))
  hand_free false p es e f = record {
    state = sym (ap (λ (o : Out). o.state) (f (at_of (at (Free p ∷ es)))));
    events = sym (ap (λ (o : Out). o.events) (f (at_of (at (Free p ∷ es)))));
    program = refl;
    count = refl;
    plans = refl;
    sub = λ i h. (in_filter (is_here (filter (stays p) rooms)) instruments i h).0;
    here = λ i h x hx b k. left_here (filter (stays p) rooms) instruments i h x hx b k;
  }
  hand_free true p es e f = record {
    state = sym (ap (λ (o : Out). o.state) (f (at_of (at (Free p ∷ es)))));
    events = sym (ap (λ (o : Out). o.events) (f (at_of (at (Free p ∷ es)))));
    program = refl;
    count = refl;
    plans = refl;
    sub = λ i h. h;
    here = λ i h x hx b k. h;
  }

  hand_by : (agenda : List Entry) → ByStep (at agenda) Handed (scenes.does Hands (at agenda))
  hand_by [] = record { state = refl; events = refl; program = refl; count = refl; plans = refl; sub = λ i h. h; here = λ i h x hx b k. h }
  hand_by (Free p ∷ es) =
      subst (λ b. ByStep (at (Free p ∷ es)) Handed (frees b p (record { program = program; limit = limit; book = record { rooms = rooms; agenda = es }; instruments = instruments; count = count }) (at (Free p ∷ es)))) refl
      (hand_free (is_barred core p) p es refl (λ st. refl))
  hand_by (WriteBase d ∷ es) = record { state = refl; events = refl; program = refl; count = refl; plans = refl; sub = λ i h. h; here = λ i h x hx b k. h }
  hand_by (WriteMini d ∷ es) = record { state = refl; events = refl; program = refl; count = refl; plans = refl; sub = λ i h. h; here = λ i h x hx b k. h }
  hand_by (LinkMini p m ∷ es) = record { state = refl; events = refl; program = refl; count = refl; plans = refl; sub = λ i h. h; here = λ i h x hx b k. h }
  hand_by (LinkPoint p m ∷ es) = record { state = refl; events = refl; program = refl; count = refl; plans = refl; sub = λ i h. h; here = λ i h x hx b k. h }
  hand_by (UnlinkMini p m ∷ es) = record { state = refl; events = refl; program = refl; count = refl; plans = refl; sub = λ i h. h; here = λ i h x hx b k. h }
  hand_by (UnlinkPoint p m ∷ es) = record { state = refl; events = refl; program = refl; count = refl; plans = refl; sub = λ i h. h; here = λ i h x hx b k. h }

  sweep_free : (agenda : List Entry) (o : Option FoundFree) → first_free [] agenda ≡ o → ((st : State) → sweep (first_free [] agenda) st ≡ sweep o st)
      → ByStep (at agenda) Swept (sweeps (point_in o) (record { program = program; limit = limit; book = record { rooms = rooms; agenda = agenda_in o agenda }; instruments = instruments; count = count }) (at agenda))
  sweep_free agenda None e f = record {
    state = sym (ap (λ (u : Out). u.state) (f (at_of (at agenda))));
    events = sym (ap (λ (u : Out). u.events) (f (at_of (at agenda))));
    program = refl;
    count = refl;
    plans = refl;
    sub = λ i h. h;
    here = λ i h x hx b k. h;
  }
  sweep_free agenda (Some g) e f = record {
    state = sym (ap (λ (u : Out). u.state) (f (at_of (at agenda))));
    events = sym (ap (λ (u : Out). u.events) (f (at_of (at agenda))));
    program = refl;
    count = refl;
    plans = refl;
    sub = λ i h. (in_filter (is_here (filter (stays g.point) rooms)) instruments i h).0;
    here = λ i h x hx b k. left_here (filter (stays g.point) rooms) instruments i h x hx b k;
  }

pub hands_whole : (first : Core) (s : InstrumentScene) (es : List Event) → Whole first s es → Whole first (scenes.does Hands s).scene (es ++ (scenes.does Hands s).events)
hands_whole first s es w =
    by_step first s es w Handed (scenes.does Hands s) tt tt (λ i h e. tt)
    (hand_by s.core s.placer.program s.placer.limit s.placer.book.rooms s.placer.instruments s.placer.count s.plans s.placer.book.agenda)

pub sweeps_whole : (first : Core) (s : InstrumentScene) (es : List Event) → Whole first s es → events.IsQuiet s.core → Whole first (scenes.does Sweeps s).scene (es ++ (scenes.does Sweeps s).events)
sweeps_whole first s es w q =
    by_step first s es w Swept (scenes.does Sweeps s) tt q (λ i h e. tt)
    (sweep_free s.core s.placer.program s.placer.limit s.placer.book.rooms s.placer.instruments s.placer.count s.plans s.placer.book.agenda (first_free [] s.placer.book.agenda) refl (λ st. refl))
