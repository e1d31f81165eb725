-- What is kept of the machine and the book, and that doing an entry keeps it.
use Rattle.std.proofs.Common.{◌≡◌, ℕ, List, [], ◌∷◌, ◌++◌, refl, sym, ap, ◌∙◌, subst, ⊎_elim, inl, inr}
use Rattle.std.specs.Prelude.{map, filter, Bool, true, false, ◌⊎◌, ◌&&◌, ◌==◌}
use Rattle.std.proofs.lemmas.Bool.{true≢false, cases_eq, cond-true, cond-false, eq-eqb, ne_eqb, and_parts, and_from, and_right, not_from_false, not_from_true, false_from_ne_true}
use Rattle.machine.specs.Cores.{In, Row, Status, Live, Core}
use Rattle.machine.specs.Effects.{with_status, at_set, after_event}
use Rattle.machine.specs.Events as events
use Rattle.machine.specs.Events.{May}
use Rattle.machine.specs.Reached.{IsReached}
use Rattle.machine.proofs.Effects.{fixed}
use Rattle.machine.proofs.Lists.{in_map, in_filter}
use Rattle.machine.proofs.Reaching.{reaches_more}
use Rattle.instrument.specs.Books.{is_held, is_unlinked, is_base_of, with_hold, unlinked_at, stays}
use Rattle.instrument.specs.Handing.{event_of}
use Rattle.instrument.specs.declared.entry.Entry.{Entry}
use Rattle.instrument.specs.declared.entry.Entry.TheVariants.{WriteBase, WriteMini, LinkMini, LinkPoint, UnlinkMini, UnlinkPoint, Free}
use Rattle.instrument.specs.declared.room.Hold.{Hold}
use Rattle.instrument.specs.declared.room.Hold.TheVariants.{Held, Leaving, Unlinked}
use Rattle.instrument.specs.declared.room.Room.{Room}
use Rattle.instrument.proofs.Stages.{block_row, is_now, Fresh, Idle, Ready, Stage, stage, puts, pending, next, Sound, ending, AllApart, is_other_mini, is_other_base, is_held_room, room_row, standing, rooms_done}
use Rattle.instrument.proofs.Folds.{in_append, append_left, apart_across, filter_filter, find_filter}
use Rattle.instrument.proofs.Claims.{Sized, sized_of}
use Rattle.instrument.proofs.Rows.{same_row, base_of, pending_at}
use Rattle.instrument.proofs.Ties.{Tied}
use Rattle.instrument.proofs.Doings.{entry_done}
use Rattle.instrument.proofs.Booked.{Based, Booked, standing_in, standing_same, based_hold}
use Rattle.instrument.proofs.Steps.{State, a_book, done}

pub record Kept (st : State) : Type 0 where
  pub reached : IsReached st.core
  pub fr : Fresh
  pub tied : Tied st.core.code st.core.rows fr
  pub book : Booked st.core.program st.core.rows fr st.book.rooms st.book.agenda

-- what stands at the end stands now or is to be written
pub record From (k : Stage) (es : List Entry) (r : Row) : Type 0 where
  pub o : Row
  pub is_in : In o k.rows ⊎ In o (pending es)
  pub at : o.at ≡ r.at
  pub base : o.base ≡ r.base
  pub point : o.point ≡ r.point

pub ending_from : (k : Stage) (es : List Entry) (r : Row) → In r (ending k es).rows → From k es r
ending_from k [] r h = record { o = r; is_in = inl h; at = refl; base = refl; point = refl }
ending_from k (e ∷ es) r h = by e (ending_from (next k e) es r h)
  where
    put : (x : Row) (f : Fresh) (y : List Row) → From (stage (k.rows ++ x ∷ []) f) es r → In x (y ++ pending es) → ((z : Row) → In z (pending es) → In z (y ++ pending es)) → (o : Row) × (In o k.rows ⊎ In o (y ++ pending es)) × (o.at ≡ r.at) × (o.base ≡ r.base) × (o.point ≡ r.point)
    put x f y w hx more = (w.o, ⊎_elim (λ (i : In w.o (k.rows ++ x ∷ [])). ⊎_elim (λ j. inl j) (λ j. ⊎_elim (λ (e : w.o ≡ x). inr (subst (λ u. In u (y ++ pending es)) (sym e) hx)) (λ z. absurd z) j) (in_append k.rows (x ∷ []) w.o i)) (λ i. inr (more w.o i)) w.is_in, w.at, w.base, w.point)

    joined : (f : Row → Status) (g : Fresh) → From (stage (map (with_status f) k.rows) g) es r → (o : Row) × (In o k.rows ⊎ In o (pending es)) × (o.at ≡ r.at) × (o.base ≡ r.base) × (o.point ≡ r.point)
    joined f g w = ⊎_elim
        (λ (i : In w.o (map (with_status f) k.rows)). let q = in_map (with_status f) k.rows w.o i in
        (q.0, inl q.1, sym (ap (λ (u : Row). u.at) q.2) ∙ w.at, sym (ap (λ (u : Row). u.base) q.2) ∙ w.base, sym (ap (λ (u : Row). u.point) q.2) ∙ w.point))
        (λ i. (w.o, inr i, w.at, w.base, w.point)) w.is_in

    less : (p : Row → Bool) (g : Fresh) → From (stage (filter p k.rows) g) es r → (o : Row) × (In o k.rows ⊎ In o (pending es)) × (o.at ≡ r.at) × (o.base ≡ r.base) × (o.point ≡ r.point)
    less p g w = (w.o, ⊎_elim (λ i. inl (in_filter p k.rows w.o i).0) (λ i. inr i) w.is_in, w.at, w.base, w.point)

    from : (e : Entry) → (o : Row) × (In o k.rows ⊎ In o (pending (e ∷ es))) × (o.at ≡ r.at) × (o.base ≡ r.base) × (o.point ≡ r.point) → From k (e ∷ es) r
    from e q = record { o = q.0; is_in = q.1; at = q.2; base = q.3; point = q.4 }

    by : (e : Entry) → From (next k e) es r → From k (e ∷ es) r
    by (WriteBase b) f = from (WriteBase b) (put (block_row b true) k.fresh (block_row b true ∷ []) f (inl refl) (λ z i. inr i))
    by (WriteMini b) f = from (WriteMini b) (put (block_row b false) (Ready b.point b.at) (block_row b false ∷ []) f (inl refl) (λ z i. inr i))
    by (LinkMini p m) f = from (LinkMini p m) (joined (at_set m Live) Idle f)
    by (LinkPoint p at) f = from (LinkPoint p at) (joined (at_set at Live) k.fresh f)
    by (UnlinkMini p m) f = from (UnlinkMini p m) (less (is_other_mini m) k.fresh f)
    by (UnlinkPoint p at) f = from (UnlinkPoint p at) (less (is_other_base p) k.fresh f)
    by (Free p) f = record { o = f.o; is_in = f.is_in; at = f.at; base = f.base; point = f.point }

pub held_kept : (h : Hold) → is_held h ≡ true → is_unlinked h ≡ false
held_kept Held e = refl
held_kept Leaving e = refl
held_kept Unlinked e = absurd (true≢false (sym e))

pub held_stays : (p : ℕ) (x : Room) → is_held x.hold ≡ true → stays p x ≡ true
held_stays p x e = not_from_false _ (and_right (x.point == p) (is_unlinked x.hold) (held_kept x.hold e))

pub hold_same : (rooms : List Room) (m : ℕ) → ((x : Room) → In x rooms → is_held x.hold ≡ true → x.at ≡ m → ⊥) → (x : Room) → In x rooms → is_held (unlinked_at m x) ≡ is_held x.hold
hold_same rooms m f x h = ⊎_elim
    (λ (i : x.at ≡ m). ap is_held (cond-true (x.at == m) Unlinked x.hold (eq-eqb _ _ i)) ∙ sym (false_from_ne_true (is_held x.hold) (λ k. f x h k i)))
    (λ i. ap is_held (cond-false (x.at == m) Unlinked x.hold (ne_eqb _ _ i))) (cases_eq x.at m)

module _ (c : Core) (v : IsReached c) (fr : Fresh) (rooms : List Room) where
  -- no room that is held is that of a block that is being unlinked
  unheld : (q : Row → Bool) (k : Stage) (es : List Entry) (a : Row) → In a c.rows → q a ≡ false → Sized es → AllApart (c.rows ++ pending es)
      → k.rows ≡ filter q (filter is_now c.rows) → (ending k es).rows ≡ standing rooms
      → (x : Room) → In x rooms → is_held x.hold ≡ true → x.at ≡ a.at → ⊥
  unheld q k es a ha off z ap' ek en x hx held e =
      let f = ending_from k es (room_row x) (subst (λ l. In (room_row x) l) (sym en) (standing_in rooms x hx held)) in
      ⊎_elim
      (λ (i : In f.o k.rows).
      let w = in_filter q (filter is_now c.rows) f.o (subst (λ l. In f.o l) ek i) in
      let o = in_filter is_now c.rows f.o w.0 in
      true≢false (sym w.1 ∙ (ap q (same_row c v f.o a o.0 ha (f.at ∙ e)) ∙ off)))
      (λ (i : In f.o (pending es)). pending_at c v es z ap' a f.o ha i (f.at ∙ e))
      f.is_in

  pub unheld_mini : (p m : ℕ) (es : List Entry) → Booked c.program c.rows fr rooms (UnlinkMini p m ∷ es) → (x : Room) → In x rooms → is_held x.hold ≡ true → x.at ≡ m → ⊥
  unheld_mini p m es b x hx held e =
      let k = b.sound.1 in
      unheld (is_other_mini m) (next (stage (filter is_now c.rows) fr) (UnlinkMini p m)) es k.1 (in_filter is_now c.rows k.1 k.2).0
      (not_from_true _ (and_from _ _ (not_from_false _ k.3) (eq-eqb _ _ k.5))) (sized_of c.program (next (stage (filter is_now c.rows) fr) (UnlinkMini p m)) es b.sound.2)
      b.apart refl (ap (λ (u : Stage). u.rows) b.ends) x hx held (e ∙ sym k.5)

  pub unheld_point : (p at : ℕ) (es : List Entry) → Booked c.program c.rows fr rooms (UnlinkPoint p at ∷ es) → (x : Room) → In x rooms → is_held x.hold ≡ true → x.at ≡ at → ⊥
  unheld_point p at es b x hx held e =
      let k = b.sound.1 in
      let o = base_of c v p k.1 k.2 in
      unheld (is_other_base p) (next (stage (filter is_now c.rows) fr) (UnlinkPoint p at)) es k.1 o.1
      (not_from_true _ (and_from _ _ o.2 (eq-eqb _ _ o.3))) (sized_of c.program (next (stage (filter is_now c.rows) fr) (UnlinkPoint p at)) es b.sound.2)
      b.apart refl (ap (λ (u : Stage). u.rows) b.ends) x hx held (e ∙ sym k.3)

  abbrev RoomsKept : Entry → Type 0
  RoomsKept e = (standing (rooms_done e rooms) ≡ standing rooms) × Based (rooms_done e rooms)

  unlinked_kept : (m : ℕ) → Based rooms → ((x : Room) → In x rooms → is_held x.hold ≡ true → x.at ≡ m → ⊥) → (standing (map (with_hold (unlinked_at m)) rooms) ≡ standing rooms) × Based (map (with_hold (unlinked_at m)) rooms)
  unlinked_kept m b f = (standing_same (unlinked_at m) rooms (hold_same rooms m f), based_hold (unlinked_at m) rooms (hold_same rooms m f) b)

  rooms_kept : (e : Entry) (es : List Entry) → Booked c.program c.rows fr rooms (e ∷ es) → RoomsKept e
  rooms_kept (WriteBase d) es b = (refl, b.based)
  rooms_kept (WriteMini d) es b = (refl, b.based)
  rooms_kept (LinkMini p m) es b = (refl, b.based)
  rooms_kept (LinkPoint p at) es b = (refl, b.based)
  rooms_kept (UnlinkMini p m) es b = unlinked_kept m b.based (unheld_mini p m es b)
  rooms_kept (UnlinkPoint p at) es b = unlinked_kept at b.based (unheld_point p at es b)
  rooms_kept (Free p) es b = (
    ap (map room_row) (filter_filter is_held_room (stays p) rooms (λ x e. held_stays p x e)),
    λ x h m e. let z = in_filter (stays p) rooms x h in let w = b.based x z.0 m e in
        (w.0, find_filter (is_base_of x.point) (stays p) rooms (λ y g. held_stays p y (and_parts (y.point == x.point) (is_held y.hold) (and_parts y.base ((y.point == x.point) && is_held y.hold) g).1).1) w.0 w.1),
  )

module _ (c : Core) (v : IsReached c) (fr : Fresh) (t : Tied c.code c.rows fr) (rooms : List Room) where
  -- the first entry of the agenda is done
  pub entry_kept : (e : Entry) (es : List Entry) → Booked c.program c.rows fr rooms (e ∷ es) → ((p : ℕ) → e ≡ Free p → May c (events.Free p))
      → May c (event_of c e) × Kept (done e es (record { core = c; book = a_book rooms (e ∷ es) })).state
  entry_kept e es b f =
      let g = b.sound in
      let r = entry_done c v fr t e g.0 g.1
      (λ o y ho hy. apart_across c.rows (puts e ++ pending es) b.apart o y ho (append_left (puts e) (pending es) y hy)) f in
      let q = rooms_kept c v fr rooms e es b in
      let l = r.1 in
      let same_stage : stage (filter is_now (after_event c (event_of c e)).rows) (next (stage (filter is_now c.rows) fr) e).fresh ≡ next (stage (filter is_now c.rows) fr) e = ap (λ w. stage w (next (stage (filter is_now c.rows) fr) e).fresh) l.now in
      let z = l.claims rooms es (sized_of c.program (next (stage (filter is_now c.rows) fr) e) es g.2) b.apart b.claims in (
        r.0,
        record {
          reached = reaches_more c (event_of c e) v r.0;
          fr = (next (stage (filter is_now c.rows) fr) e).fresh;
          tied = l.tied;
          book = record {
            sound = subst (λ x. Sound x (stage (filter is_now (after_event c (event_of c e)).rows) (next (stage (filter is_now c.rows) fr) e).fresh) es) (sym (fixed c (event_of c e)).0) (subst (λ k. Sound c.program k es) (sym same_stage) g.2);
            ends = ap (λ k. ending k es) same_stage ∙ (b.ends ∙ ap (λ w. stage w Idle) (sym q.0));
            apart = z.0;
            claims = z.1;
            based = q.1;
          };
        },
      )
