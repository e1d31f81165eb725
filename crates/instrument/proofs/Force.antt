-- A site that is linked stays linked until its dropping.
use Rattle.std.proofs.Common.{◌≡◌, ℕ, List, [], ◌∷◌, ◌++◌, Option, Some, None, refl, sym, ap, ◌∙◌, subst, ⊎_elim}
use Rattle.std.specs.Prelude.{map, filter, find, true, false, not, ◌&&◌, ◌==◌}
use Rattle.std.specs.FinMap.{get}
use Rattle.std.proofs.lemmas.Bool.{cases_Bool, cond-true, cond-false, ne_eqb, and_left, and_right, not_from_false, not_from_true}
use Rattle.rv_word.specs.Plain.{program_word}
use Rattle.tramp_spec.specs.Jumps.{jump_word}
use Rattle.tramp_spec.specs.Marks.{own, enter}
use Rattle.machine.specs.Cores.{In, Row, Live, Core, is_current}
use Rattle.machine.specs.Effects.{with_status, at_set, after_event}
use Rattle.machine.specs.Events as events
use Rattle.machine.specs.Events.{Event, May, HasMini, IsEntered}
use Rattle.tramp_spec.specs.declared.mark.MarkedWord.{MarkedWord}
use Rattle.machine.specs.Kept.{IsOpen}
use Rattle.machine.specs.Reached.{IsReached}
use Rattle.machine.proofs.KeptRows.{linkings_to, kept_there, was_linked, word_of_point}
use Rattle.machine.proofs.Lists.{same_some, map_in, in_filter, filter_in}
use Rattle.instrument.specs.Books.{is_held, is_unlinked, leaving, is_mini_of, with_hold, rooms_of, mini_leaves, base_leaves, rooms_left, unlinked_at, stays}
use Rattle.instrument.specs.Handing.{event_of}
use Rattle.instrument.specs.declared.entry.Entry.{Entry}
use Rattle.instrument.specs.declared.entry.Entry.TheVariants.{WriteBase, WriteMini, LinkMini, LinkPoint, UnlinkMini, UnlinkPoint, Free}
use Rattle.instrument.specs.declared.room.Hold.TheVariants.{Held, Unlinked}
use Rattle.instrument.specs.declared.room.Room.{Room}
use Rattle.instrument.proofs.Stages.{is_now, Fresh, Stage, stage, puts, pending, next, is_other_mini, is_other_base, rooms_done}
use Rattle.instrument.proofs.Folds.{append_left, apart_across}
use Rattle.instrument.proofs.Ties.{Tied}
use Rattle.instrument.proofs.Doings.{entry_done}
use Rattle.instrument.proofs.Booked.{Booked}
use Rattle.instrument.proofs.Steps.{State, Out, done, Step, Happened, Admitted, Dropped, Handed, Swept, does, LeavesBlocks, Can, AllCan, all_events, all_steps}
use Rattle.instrument.proofs.Keeping.{Kept, unheld_mini, unheld_point}
use Rattle.instrument.proofs.Going.{still, handed, swept, step_keeps}

-- the event unlinks neither the mini block at m nor the point p
abbrev pub Spared : ℕ → ℕ → Event → Type 0
Spared p m (events.UnlinkMini q k) = k ≡ m → ⊥
Spared p m (events.UnlinkPoint q) = q ≡ p → ⊥
Spared p m (events.Turn h) = Unit {0}
Spared p m (events.Write b) = Unit {0}
Spared p m (events.LinkMini q k) = Unit {0}
Spared p m (events.LinkPoint q) = Unit {0}
Spared p m (events.Free q) = Unit {0}
Spared p m (events.Arm i) = Unit {0}
Spared p m (events.Sample i) = Unit {0}

abbrev pub AllSpared : ℕ → ℕ → List Event → Type 0
AllSpared p m [] = Unit {0}
AllSpared p m (e ∷ es) = Spared p m e × AllSpared p m es

-- a site at p whose mini block at m is linked, and p too
pub record LinkedSite (c : Core) (p m : ℕ) : Type 0 where
  pub mini : HasMini c p m Live
  pub base : (b : Row) × In b c.rows × (b.base ≡ true) × (b.point ≡ p) × (b.status ≡ Live)

-- its room is held: its dropping hasn't begun
pub record HeldSite (rooms : List Room) (p m : ℕ) : Type 0 where
  pub x : Room
  pub is_in : In x rooms
  pub mini : x.base ≡ false
  pub point : x.point ≡ p
  pub at : x.at ≡ m
  pub held : x.hold ≡ Held

-- where the mini block is live and a jump stands at the point, a base block is live there
pub linked_site : (c : Core) (v : IsReached c) (p m : ℕ) → HasMini c p m Live → IsEntered c p → LinkedSite c p m
linked_site c v p m h e =
    let k = kept_there c v in
    let f = k.families h.row h.listed h.mini (was_linked h.row h.is) in
    let b = f.1 in
    let w = word_of_point (linkings_to c v) c k f.0 b.listed b.base in
    let at : (f.0).point ≡ p = sym b.point ∙ h.point in
    record {
      mini = h;
      base = ⊎_elim (λ (o : get c.code p ≡ Some (own w.0)). let z = ap (λ (u : MarkedWord). u.mark) (same_some (get c.code p) (own w.0) (enter e.jump) o e.stands) in absurd cc)
          (λ (o : (d : Row) × In d c.rows × (d.base ≡ true) × (d.point ≡ p) × (d.status ≡ Live) × IsOpen c.code d). (o.0, o.1, o.2, o.3, o.4))
          (k.text p w.0 (ap (program_word c.program) (sym at) ∙ w.1));
    }

-- and where both are live, the jump stands
pub entered : (c : Core) (fr : Fresh) (t : Tied c.code c.rows fr) (p m : ℕ) → LinkedSite c p m → IsEntered c p
entered c fr t p m l =
    let b = l.base in
    record { jump = jump_word p (b.0).at; stands = subst (λ q. get c.code q ≡ Some (enter (jump_word q (b.0).at))) b.3 (t.doors b.0 b.1 b.2 b.4) }

-- an entry passes a row by
abbrev pub Passes : Entry → Row → Type 0
Passes (WriteBase b) r = Unit {0}
Passes (WriteMini b) r = Unit {0}
Passes (LinkMini p m) r = Unit {0}
Passes (LinkPoint p at) r = Unit {0}
Passes (UnlinkMini p m) r = is_other_mini m r ≡ true
Passes (UnlinkPoint p at) r = is_other_base p r ≡ true
Passes (Free p) r = Unit {0}

pub live_stays : (q : ℕ) (r : Row) → r.status ≡ Live → with_status (at_set q Live) r ≡ r
live_stays q r e = ap (λ v. record r { status = v }) (⊎_elim (λ i. cond-true (r.at == q) Live r.status i ∙ sym e) (λ i. cond-false (r.at == q) Live r.status i) (cases_Bool (r.at == q)))

pub passed : (e : Entry) (k : Stage) (r : Row) → In r k.rows → r.status ≡ Live → Passes e r → In r (next k e).rows
passed (WriteBase b) k r h l q = append_left k.rows _ r h
passed (WriteMini b) k r h l q = append_left k.rows _ r h
passed (LinkMini p m) k r h l q = subst (λ u. In u (map (with_status (at_set m Live)) k.rows)) (live_stays m r l) (map_in (with_status (at_set m Live)) k.rows r h)
passed (LinkPoint p at) k r h l q = subst (λ u. In u (map (with_status (at_set at Live)) k.rows)) (live_stays at r l) (map_in (with_status (at_set at Live)) k.rows r h)
passed (UnlinkMini p m) k r h l q = filter_in (is_other_mini m) k.rows r h q
passed (UnlinkPoint p at) k r h l q = filter_in (is_other_base p) k.rows r h q
passed (Free p) k r h l q = h

-- what a step leaves of a site
pub record Sparing (p m : ℕ) (o : Out) : Type 0 where
  pub events : AllSpared p m o.events
  pub linked : LinkedSite o.state.core p m
  pub held : HeldSite o.state.book.rooms p m

held_on : (p m : ℕ) (f : Room → _) (rooms : List Room) (h : HeldSite rooms p m) → f h.x ≡ (h.x).hold → HeldSite (map (with_hold f) rooms) p m
held_on p m f rooms h e = record { x = with_hold f h.x; is_in = map_in (with_hold f) rooms h.x h.is_in; mini = h.mini; point = h.point; at = h.at; held = e ∙ h.held }

module _ (p m : ℕ) (c : Core) (v : IsReached c) (fr : Fresh) (t : Tied c.code c.rows fr) (rooms : List Room) (l : LinkedSite c p m) (h : HeldSite rooms p m) where
  live_now : (r : Row) → In r c.rows → r.status ≡ Live → In r (filter is_now c.rows)
  live_now r i e = filter_in is_now c.rows r i (ap is_current e)

  -- by the entry: it unlinks neither, and keeps the room
  by_entry : (e : Entry) (es : List Entry) → Booked c.program c.rows fr rooms (e ∷ es)
      → Spared p m (event_of c e) × ((r : Row) → In r c.rows → r.base ≡ false → r.at ≡ m → Passes e r) × ((b : Row) → In b c.rows → b.base ≡ true → b.point ≡ p → Passes e b) × HeldSite (rooms_done e rooms) p m
  by_entry (WriteBase d) es b = (tt, (λ r i x y. tt), (λ r i x y. tt), h)
  by_entry (WriteMini d) es b = (tt, (λ r i x y. tt), (λ r i x y. tt), h)
  by_entry (LinkMini q n) es b = (tt, (λ r i x y. tt), (λ r i x y. tt), h)
  by_entry (LinkPoint q at) es b = (tt, (λ r i x y. tt), (λ r i x y. tt), h)
  by_entry (Free q) es b = (
    tt,
    (λ r i x y. tt),
    (λ r i x y. tt),
    record {
      x = h.x;
      is_in = filter_in (stays q) rooms h.x h.is_in (not_from_false _ (and_right ((h.x).point == q) (is_unlinked (h.x).hold) (ap is_unlinked h.held)));
      mini = h.mini;
      point = h.point;
      at = h.at;
      held = h.held;
    },
  )
  by_entry (UnlinkMini q n) es b =
      let other : n ≡ m → ⊥ = λ i. unheld_mini c v fr rooms q n es b h.x h.is_in (ap is_held h.held) (h.at ∙ sym i) in (
        other,
        (λ r i x y. not_from_false _ (and_right (not r.base) (r.at == n) (ne_eqb _ _ (λ j. other (sym j ∙ y))))),
        (λ r i x y. not_from_false _ (and_left (not r.base) (r.at == n) (not_from_true _ x))),
        held_on p m (unlinked_at n) rooms h (cond-false ((h.x).at == n) Unlinked (h.x).hold (ne_eqb _ _ (λ j. other (sym j ∙ h.at)))),
      )
  by_entry (UnlinkPoint q at) es b =
      let r0 = l.mini in
      let other : q ≡ p → ⊥ = λ i. (b.sound.1).5 r0.row (live_now r0.row r0.listed r0.is) r0.mini (r0.point ∙ sym i) in
      let away : (h.x).at ≡ at → ⊥ = unheld_point c v fr rooms q at es b h.x h.is_in (ap is_held h.held) in (
        other,
        (λ r i x y. not_from_false _ (and_left r.base (r.point == q) x)),
        (λ r i x y. not_from_false _ (and_right r.base (r.point == q) (ne_eqb _ _ (λ j. other (sym j ∙ y))))),
        held_on p m (unlinked_at at) rooms h (cond-false ((h.x).at == at) Unlinked (h.x).hold (ne_eqb _ _ away)),
      )

  entry_spares : (e : Entry) (es : List Entry) → Booked c.program c.rows fr rooms (e ∷ es) → ((q : ℕ) → e ≡ Free q → May c (events.Free q)) → (st : State) → st.core ≡ c → st.book.rooms ≡ rooms → Sparing p m (done e es st)
  entry_spares e es b f st ec er =
      let g = b.sound in
      let r = entry_done c v fr t e g.0 g.1
      (λ o y ho hy. apart_across c.rows (puts e ++ pending es) b.apart o y ho (append_left (puts e) (pending es) y hy)) f in
      let q = by_entry e es b in
      let n = (r.1).now in
      let y = l.mini in
      let z = l.base in
      let yi = in_filter is_now (after_event c (event_of c e)).rows y.row (subst (λ w. In y.row w) (sym n) (passed e (stage (filter is_now c.rows) fr) y.row (live_now y.row y.listed y.is) y.is (q.1 y.row y.listed y.mini y.at))) in
      let zi = in_filter is_now (after_event c (event_of c e)).rows z.0 (subst (λ w. In z.0 w) (sym n) (passed e (stage (filter is_now c.rows) fr) z.0 (live_now z.0 z.1 z.4) z.4 (q.2 z.0 z.1 z.2 z.3))) in
      record {
        events = (subst (λ w. Spared p m (event_of w e)) (sym ec) q.0, tt);
        linked = subst (λ w. LinkedSite (after_event w (event_of w e)) p m) (sym ec) (record {
          mini = record { row = y.row; listed = yi.0; mini = y.mini; point = y.point; at = y.at; is = y.is };
          base = (z.0, zi.0, z.2, z.3, z.4);
        });
        held = subst (λ w. HeldSite (rooms_done e w) p m) (sym er) q.3;
      }

-- holds that a dropping elsewhere keeps
pub other_leaves : (x y : Room) → (x.at ≡ y.at → ⊥) → mini_leaves x.at y ≡ y.hold
other_leaves x y n = cond-false (not y.base && (y.at == x.at)) (leaving y.hold) y.hold (and_right (not y.base) (y.at == x.at) (ne_eqb _ _ (λ i. n (sym i))))

site_left : (p m q : ℕ) (o : Option Room) (xs : List Room) → HeldSite xs p m → HeldSite (rooms_left o q xs) p m
site_left p m q (Some o) xs h = h
site_left p m q None xs h = held_on p m (base_leaves q) xs h (cond-false ((h.x).base && ((h.x).point == q)) (leaving (h.x).hold) (h.x).hold (and_left _ _ h.mini))

-- the step isn't the dropping of the site
abbrev pub Leaves : ℕ → Step → Type 0
Leaves m (Happened e) = Unit {0}
Leaves m (Admitted owner k) = Unit {0}
Leaves m (Dropped x) = x.at ≡ m → ⊥
Leaves m Handed = Unit {0}
Leaves m Swept = Unit {0}

abbrev pub AllLeave : ℕ → List Step → Type 0
AllLeave m [] = Unit {0}
AllLeave m (a ∷ more) = Leaves m a × AllLeave m more

spares_still : (p m : ℕ) (e : Event) → LeavesBlocks e → Spared p m e
spares_still p m (events.Turn h) l = tt
spares_still p m (events.Arm i) l = tt
spares_still p m (events.Sample i) l = tt
spares_still p m (events.Write b) l = absurd l
spares_still p m (events.LinkMini q k) l = absurd l
spares_still p m (events.UnlinkMini q k) l = absurd l
spares_still p m (events.LinkPoint q) l = absurd l
spares_still p m (events.UnlinkPoint q) l = absurd l
spares_still p m (events.Free q) l = absurd l

pub linked_still : (c d : Core) (p m : ℕ) → d.rows ≡ c.rows → LinkedSite c p m → LinkedSite d p m
linked_still c d p m e l =
    let y = l.mini in
    record {
      mini = record { row = y.row; listed = subst (λ w. In y.row w) (sym e) y.listed; mini = y.mini; point = y.point; at = y.at; is = y.is };
      base = subst (λ w. (b : Row) × In b w × (b.base ≡ true) × (b.point ≡ p) × (b.status ≡ Live)) (sym e) l.base;
    }

pub step_spares : (p m : ℕ) (a : Step) (st : State) → Kept st → Can a st → LinkedSite st.core p m → HeldSite st.book.rooms p m → Leaves m a → Sparing p m (does a st)
step_spares p m (Happened e) st k can l h n = record { events = (spares_still p m e can.0, tt); linked = linked_still st.core (after_event st.core e) p m (still st.core e can.0).rows l; held = h }
step_spares p m (Admitted owner b) st k can l h n =
    record { events = tt; linked = l; held = record { x = h.x; is_in = append_left st.book.rooms (rooms_of b.base owner b.mini) h.x h.is_in; mini = h.mini; point = h.point; at = h.at; held = h.held } }
step_spares p m (Dropped x) st k can l h n =
    record {
      events = tt;
      linked = l;
      held = site_left p m x.point (find (is_mini_of x.point) (map (with_hold (mini_leaves x.at)) st.book.rooms)) (map (with_hold (mini_leaves x.at)) st.book.rooms)
          (held_on p m (mini_leaves x.at) st.book.rooms h (other_leaves x h.x (λ i. n (i ∙ h.at))));
    }
step_spares p m Handed st k can l h n =
    handed (Sparing p m) st k (record { events = tt; linked = l; held = h }) (λ q es w sub. record { events = tt; linked = l; held = h })
    (λ w e es b f sub. entry_spares p m st.core w.reached w.fr w.tied st.book.rooms l h e es b f st refl refl)
step_spares p m Swept st k can l h n =
    swept (Sparing p m) st k can (record { events = tt; linked = l; held = h })
    (λ w e es b f sub. entry_spares p m st.core w.reached w.fr w.tied st.book.rooms l h e es b f st refl refl)

spared_more : (p m : ℕ) (xs ys : List Event) → AllSpared p m xs → AllSpared p m ys → AllSpared p m (xs ++ ys)
spared_more p m [] ys a b = b
spared_more p m (x ∷ xs) ys a b = (a.0, spared_more p m xs ys a.1 b)

pub all_spare : (p m : ℕ) (steps : List Step) (st : State) → Kept st → AllCan steps st → LinkedSite st.core p m → HeldSite st.book.rooms p m → AllLeave m steps
    → AllSpared p m (all_events steps st) × LinkedSite (all_steps steps st).core p m × HeldSite (all_steps steps st).book.rooms p m
all_spare p m [] st k c l h n = (tt, l, h)
all_spare p m (a ∷ more) st k c l h n =
    let g = step_keeps a st k c.0 in
    let q = step_spares p m a st k c.0 l h n.0 in
    let r = all_spare p m more (does a st).state g.kept c.1 q.linked q.held n.1 in
    (spared_more p m (does a st).events (all_events more (does a st).state) q.events r.0, r.1, r.2)
