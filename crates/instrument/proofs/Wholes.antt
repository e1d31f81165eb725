-- What is kept of the placer beside the machine.
use Rattle.std.proofs.Common.{◌≡◌, ℕ, ◌<◌, List, [], ◌∷◌, ◌++◌, length, Some, refl, sym, ap, ◌∙◌, subst, ⊎_elim, inl, inr}
use Rattle.std.specs.Prelude.{true, false, not, slice_get}
use Rattle.std.proofs.lemmas.Bool.{cases_eq}
use Rattle.pn_types.specs.declared.placed.Placed.{Placed}
use Rattle.pn_types.specs.declared.placed.PlacedSite.{PlacedSite}
use Rattle.pn_types.specs.declared.plan.Plan.{Plan}
use Rattle.pn_types.specs.declared.plan.Site.{Site}
use Rattle.prim_code.specs.Fitting.{AreStmtsOf}
use Rattle.prim_code.proofs.Whole.{statements_work}
use Rattle.tramp_spec.specs.Slots.{places, places_of, ArePlaces, ShareNone, IsSlotOf}
use Rattle.tramp_spec.specs.Statements.{body_of}
use Rattle.machine.specs.Cores.{In, Core}
use Rattle.machine.specs.Events.{Event}
use Rattle.machine.specs.Instruments.{Spares, IsSpared, InForce, AllLet}
use Rattle.machine.specs.Replays.{replay, Legal}
use Rattle.instrument.specs.Books.{is_held}
use Rattle.instrument.specs.Placements.{is_leaving, sites_of}
use Rattle.instrument.specs.declared.instrument.Instrument.{Instrument}
use Rattle.instrument.specs.Scenes.{InstrumentScene}
use Rattle.instrument.specs.declared.entry.Entry.{Entry}
use Rattle.instrument.specs.declared.entry.Entry.TheVariants.{WriteMini}
use Rattle.instrument.specs.declared.number.State.TheVariants.{Armed}
use Rattle.instrument.specs.declared.room.Hold.{Hold}
use Rattle.instrument.specs.declared.room.Hold.TheVariants.{Held, Leaving, Unlinked}
use Rattle.instrument.specs.declared.room.Room.{Room}
use Rattle.instrument.proofs.Folds.{append_assoc}
use Rattle.instrument.proofs.Steps.{State}
use Rattle.instrument.proofs.Keeping.{Kept}
use Rattle.instrument.proofs.Force.{LinkedSite, HeldSite}
use Rattle.instrument.proofs.Off.{IsOff, AllOff, off_now}
use Rattle.instrument.proofs.Neats.{Neat}
use Rattle.instrument.proofs.Promises.{HoldsBody, waiting_room, row_room}
use Rattle.instrument.proofs.Under.{site_room}
use Rattle.instrument.proofs.Lettings.{NoneNames, all_let_append}

-- the mini block of a site has the code of the plan's statements, as long as it has its room
abbrev pub SiteHolds : State → Instrument → PlacedSite → Site → Type 0
SiteHolds st i p q = (x : Room) → In x st.book.rooms → x.base ≡ false → x.owner ≡ i.no → x.at ≡ p.mini → HoldsBody p.mini (body_of i.placed.slots q.stmts) st

abbrev pub SitesHold : State → Instrument → List PlacedSite → List Site → Type 0
SitesHold st i [] [] = Unit {0}
SitesHold st i (p ∷ ps) (q ∷ qs) = (p.at ≡ q.at) × SiteHolds st i p q × SitesHold st i ps qs
SitesHold st i [] (q ∷ qs) = ⊥
SitesHold st i (p ∷ ps) [] = ⊥

pub record Carried (st : State) (plans : List Plan) (i : Instrument) : Type 0 where
  pub plan : Plan
  pub is : slice_get plans i.no ≡ Some plan
  pub vars : i.placed.vars ≡ plan.vars
  pub many : length i.placed.slots ≡ length i.placed.vars
  pub places : ArePlaces (places_of i.placed)
  pub stmts : (q : Site) → In q plan.sites → AreStmtsOf plan.vars q.stmts
  pub sites : SitesHold st i i.placed.sites plan.sites
  pub opens : i.placed.opens ≡ plan.opens

pub record Orderly (st : State) (instruments : List Instrument) (plans : List Plan) (count : ℕ) : Type 0 where
  pub many : length plans ≡ count
  pub below : (i : Instrument) → In i instruments → i.no < count
  pub single : (i j : Instrument) → In i instruments → In j instruments → i.no ≡ j.no → i ≡ j
  pub owners : (x : Room) → In x st.book.rooms → x.base ≡ false → (i : Instrument) × In i instruments × (i.no ≡ x.owner) × (is_held x.hold ≡ not (is_leaving i.state))
  pub roomed : (i : Instrument) → In i instruments → (x : Room) → In x st.book.rooms → x.base ≡ false → x.owner ≡ i.no → (p : PlacedSite) × In p i.placed.sites × (p.at ≡ x.point) × (p.mini ≡ x.at)
  pub sites : (i : Instrument) → In i instruments → is_leaving i.state ≡ false → i.placed.sites ≡ sites_of i.no st.book.rooms
  pub carried : (i : Instrument) → In i instruments → Carried st plans i
  pub slots : (i j : Instrument) → In i instruments → In j instruments → (i.no ≡ j.no → ⊥) → ShareNone (places_of i.placed) (places_of j.placed)

abbrev pub at_of : InstrumentScene → State
at_of s = record { core = s.core; book = s.placer.book }

abbrev pub AllLinked : Core → List PlacedSite → Type 0
AllLinked c sites = (p : PlacedSite) → In p sites → LinkedSite c p.at p.mini

pub record Whole (first : Core) (s : InstrumentScene) (es : List Event) : Type 0 where
  pub kept : Kept (at_of s)
  pub neat : Neat s.placer.book.rooms
  pub program : s.placer.program ≡ s.core.program
  pub orderly : Orderly (at_of s) s.placer.instruments s.plans s.placer.count
  pub linked : (i : Instrument) → In i s.placer.instruments → i.state ≡ Armed → AllLinked s.core i.placed.sites
  pub legal : Legal es first
  pub core : s.core ≡ replay es first
  pub force : (i : Instrument) → In i s.placer.instruments → i.state ≡ Armed → InForce i.placed es first

-- ---- what follows

held_is : (h : Hold) → is_held h ≡ true → h ≡ Held
held_is Held e = refl
held_is Leaving e = absurd cc
held_is Unlinked e = absurd cc

-- a site whose body a place holds
pub site_holds : (st : State) (i : Instrument) (ps : List PlacedSite) (qs : List Site) → SitesHold st i ps qs → (p : PlacedSite) → In p ps → (q : Site) × In q qs × (p.at ≡ q.at) × SiteHolds st i p q
site_holds st i [] [] h p k = absurd k
site_holds st i [] (q ∷ qs) h p k = absurd h
site_holds st i (x ∷ ps) [] h p k = absurd h
site_holds st i (x ∷ ps) (q ∷ qs) h p (inl e) = (q, inl refl, ap (λ (u : PlacedSite). u.at) e ∙ h.0, subst (λ (u : PlacedSite). SiteHolds st i u q) (sym e) h.1)
site_holds st i (x ∷ ps) (q ∷ qs) h p (inr k) = let o = site_holds st i ps qs h.2 p k in (o.0, inr o.1, o.2, o.3)

pub off_in : (p m : ℕ) (es : List Entry) → AllOff p m es → (e : Entry) → In e es → IsOff p m e
off_in p m [] a e h = absurd h
off_in p m (z ∷ zs) a e (inl i) = subst (IsOff p m) (sym i) a.0
off_in p m (z ∷ zs) a e (inr h) = off_in p m zs a.1 e h

module _ (st : State) (instruments : List Instrument) (plans : List Plan) (count : ℕ) (o : Orderly st instruments plans count) where
  -- the code of an instrument's statements names no slot of another
  spared_by : (i j : Instrument) → In i instruments → In j instruments → (i.no ≡ j.no → ⊥) → (q : Site) → (c : Carried st plans j) → In q (c.plan).sites → Spares i.placed (body_of j.placed.slots q.stmts)
  spared_by i j hi hj n q c hq slot own =
      let e : places j.placed.slots j.placed.vars ≡ places j.placed.slots (c.plan).vars = ap (λ v. places j.placed.slots v) c.vars in
      let w = statements_work j.placed.slots (c.plan).vars q.stmts (c.many ∙ ap length c.vars) (subst ArePlaces e c.places) (c.stmts q hq) in
      λ at ticks x s. w.others at ticks slot x s (λ z. o.slots i j hi hj n slot own (subst (λ ps. IsSlotOf ps slot) (sym e) z))

  -- each mini block's room has its instrument, and its body is that of one of the instrument's sites
  pub record BodyAt (x : Room) : Type 0 where
    pub j : Instrument
    pub is_in : In j instruments
    pub owner : j.no ≡ x.owner
    pub q : Site
    pub listed : In q ((o.carried j is_in).plan).sites
    pub holds : HoldsBody x.at (body_of j.placed.slots q.stmts) st

  body_at : (x : Room) → In x st.book.rooms → x.base ≡ false → BodyAt x
  body_at x h b =
      let j = o.owners x h b in
      let p = o.roomed j.0 j.1 x h b (sym j.2) in
      let c = o.carried j.0 j.1 in
      let z = site_holds st j.0 (j.0).placed.sites (c.plan).sites c.sites p.0 p.1 in
      record {
        j = j.0;
        is_in = j.1;
        owner = j.2;
        q = z.0;
        listed = z.1;
        holds = subst (λ m. HoldsBody m (body_of (j.0).placed.slots (z.0).stmts) st) p.3 (z.3 x h b (sym j.2) (sym p.3));
      }

  -- the room of a mini block of an instrument that isn't leaving is held
  pub own_held : (i : Instrument) → In i instruments → is_leaving i.state ≡ false → (x : Room) → In x st.book.rooms → x.base ≡ false → x.owner ≡ i.no → x.hold ≡ Held
  own_held i hi l x h b e =
      let j = o.owners x h b in
      let same : j.0 ≡ i = o.single j.0 i j.1 hi (j.2 ∙ e) in
      held_is x.hold (j.3 ∙ (ap (λ (u : Instrument). not (is_leaving u.state)) same ∙ ap not l))

  pub held_site : (i : Instrument) → In i instruments → is_leaving i.state ≡ false → (p : PlacedSite) → In p i.placed.sites → HeldSite st.book.rooms p.at p.mini
  held_site i hi l p hp =
      let x = site_room i.no st.book.rooms p (subst (λ w. In p w) (o.sites i hi l) hp) in
      record { x = x.0; is_in = x.1; mini = x.2; point = x.4; at = x.5; held = own_held i hi l x.0 x.1 x.2 x.3 }

  -- no mini block that is to be written names a slot of an instrument that is linked
  pub none_names : Kept st → (i : Instrument) → In i instruments → is_leaving i.state ≡ false → AllLinked st.core i.placed.sites → NoneNames i.placed st.book.agenda
  none_names k i hi l f b hb =
      let x = waiting_room st k b hb in
      let a = body_at x.0 x.1 x.3 in
      ⊎_elim
      (λ (e : i.no ≡ (a.j).no).
      let p = o.roomed i hi x.0 x.1 x.3 (sym a.owner ∙ sym e) in
      absurd (off_in (p.0).at (p.0).mini st.book.agenda (off_now (p.0).at (p.0).mini st k (f p.0 p.1) (held_site i hi l p.0 p.1)) (WriteMini b) hb (sym (p.3 ∙ x.2))))
      (λ (n : i.no ≡ (a.j).no → ⊥). subst (Spares i.placed) (sym ((a.holds).waiting b hb (sym x.2))) (spared_by i a.j hi a.is_in n a.q (o.carried a.j a.is_in) a.listed))
      (cases_eq i.no (a.j).no)

  -- no mini block that stands names one of its slots, but its own
  pub is_spared : Kept st → (i : Instrument) → In i instruments → IsSpared st.core i.placed
  is_spared k i hi r hr b =
      let x = row_room st k r hr in
      let xb : (x.0).base ≡ false = x.3 ∙ b in
      let a = body_at x.0 x.1 xb in
      ⊎_elim
      (λ (e : i.no ≡ (a.j).no).
      let p = o.roomed i hi x.0 x.1 xb (sym a.owner ∙ sym e) in inl (p.0, p.1, p.3 ∙ x.2))
      (λ (n : i.no ≡ (a.j).no → ⊥). inr (subst (Spares i.placed) (sym ((a.holds).written r hr b (sym x.2))) (spared_by i a.j hi a.is_in n a.q (o.carried a.j a.is_in) a.listed)))
      (cases_eq i.no (a.j).no)

-- what is in force stays in force, where the next events let it be
pub still_force : (i : Placed) (es more : List Event) (c : Core) → InForce i es c → AllLet i more → InForce i (es ++ more) c
still_force i es more c f l = record {
  before = f.before;
  since = f.since ++ more;
  is = ap (λ w. w ++ more) f.is ∙ append_assoc f.before _ more;
  spared = f.spared;
  lets = all_let_append i f.since more f.lets l;
}
