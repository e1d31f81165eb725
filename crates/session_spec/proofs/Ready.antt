-- Where nothing is left on the agenda, each instrument that is being placed is ready. So all of the opening are armed.
use Rattle.std.proofs.Common.{◌≡◌, ℕ, zero, suc, Bool, true, false, cond, Option, Some, None, List, [], ◌∷◌, length, refl, sym, ap, subst, ◌∙◌, arith, inl, inr, ◌⊎◌}
use Rattle.std.specs.Prelude.{◌&&◌, ◌==◌, filter, slice_get}
use Rattle.std.specs.List.{list_any}
use Rattle.std.proofs.lemmas.Bool.{true≢false, and_parts, cases_Bool, eqb-true}
use Rattle.std.proofs.lemmas.List.{nil_from_length}
use Rattle.pn_types.specs.declared.placed.PlacedSite.{PlacedSite}
use Rattle.tramp_spec.specs.Harts.{Hart}
use Rattle.machine.specs.Cores.{In, Core, Row, Live, start_core}
use Rattle.machine.specs.Events.{AreLinked, HasMini, IsLinked, IsQuiet}
use Rattle.machine.specs.Places.{holds}
use Rattle.machine.proofs.Inside.{any_true}
use Rattle.machine.proofs.LinkedSites.{sites_linked}
use Rattle.machine.proofs.Lists.{find_gives, in_filter}
use Rattle.instrument.specs.Books.{freed_point, is_base_of, is_held}
use Rattle.instrument.specs.Handing.{is_barred}
use Rattle.instrument.specs.Placements.{Placements, after_first, book_after, first_of, is_leaving, state_of}
use Rattle.instrument.specs.Scenes.{Arms, Hands, InstrumentScene, events_of, first_scene, frees, hands, hands_by}
use Rattle.instrument.specs.declared.entry.Entry.{Entry}
use Rattle.instrument.specs.declared.instrument.Instrument.{Instrument}
use Rattle.instrument.specs.declared.number.State.{State as Stage}
use Rattle.instrument.specs.declared.number.State.TheVariants.{Placing, Armed}
use Rattle.instrument.specs.declared.room.Room.{Room}
use Rattle.instrument.proofs.Booked.{standing_in}
use Rattle.instrument.proofs.Force.{LinkedSite, entered}
use Rattle.instrument.proofs.Stages.{ending, is_now, room_row, stage, standing}
use Rattle.instrument.proofs.Wholes.{Whole, at_of, held_site}
use Rattle.instrumented.specs.Instrumented.{Instrumented, after_act, in_scene, is_linked, is_linked_now, repeated, scene_of, scene_with}
use Rattle.instrumented.proofs.Acts.{done_is, whole_of}
use Rattle.instrumented.proofs.Harts.{hands_same}
use Rattle.instrumented.proofs.Linked.{armed_is, placing_at}
use Rattle.instrumented.proofs.Turns.{machine_reached}
use Rattle.session_spec.specs.declared.data.MetricFocusPair.{MetricFocusPair}
use Rattle.session_spec.specs.Inputs.{Inputs}
use Rattle.session_spec.specs.Due.{arm_all, is_placing, is_ready, machine_armed}
use Rattle.session_spec.proofs.Armings.{IsLed, armed_quiet, led, led_reached}
use Rattle.session_spec.specs.Rosters.{AreNumbered}
use Rattle.session_spec.proofs.Arming.{ready_arms, ready_placing}
use Rattle.session_spec.proofs.Seen.{AreApart, tags}
use Rattle.session_spec.proofs.Pairs.{arms_are}

-- ---- nothing is left on the agenda

module _ (i : Inputs) (m : Instrumented) (own : List ℕ) (b : IsLed i m own) (empty : m.placer.book.agenda ≡ []) where
  abbrev s : InstrumentScene
  s = scene_with b.plans m

  abbrev w : Whole (start_core i.image i.settings.harts i.settings.budget) s (events_of b.acts (first_scene i.image i.settings.harts i.settings.budget i.settings.instruments))
  w = whole_of i.image i.settings.harts i.settings.budget i.settings.instruments b.acts m b.plans b.program b.leads

  abbrev rooms : List Room
  rooms = m.placer.book.rooms

  -- what stands is what the rooms say
  rows_are : filter is_now m.core.rows ≡ standing rooms
  rows_are =
      let k = stage (filter is_now m.core.rows) w.kept.fr in
      ap (λ (z : _). z.rows) (sym (ap (λ (es : List Entry). ending k es) empty) ∙ w.kept.book.ends)

  stands : (x : Room) → In x rooms → is_held x.hold ≡ true → In (room_row x) m.core.rows
  stands x h e = (in_filter is_now m.core.rows (room_row x) (subst (In (room_row x)) (sym rows_are) (standing_in rooms x h e))).0

  site_is : (y : Instrument) → In y m.placer.instruments → is_leaving y.state ≡ false → (q : PlacedSite) → In q y.placed.sites → IsLinked m.core q
  site_is y hy l q hq =
      let h = held_site (at_of s) m.placer.instruments b.plans m.placer.count w.orderly y hy l q hq in
      let held : is_held (h.x).hold ≡ true = ap is_held h.held in
      let mini : HasMini m.core q.at q.mini Live = record { row = room_row h.x; listed = stands h.x h.is_in held; mini = h.mini; point = h.point; at = h.at; is = refl } in
      let base = w.kept.book.based h.x h.is_in h.mini held in
      let g = find_gives (is_base_of (h.x).point) rooms base.0 base.1 in
      let t = and_parts (base.0).base (((base.0).point == (h.x).point) && is_held (base.0).hold) g.1 in
      let u = and_parts ((base.0).point == (h.x).point) (is_held (base.0).hold) t.1 in
      let site : LinkedSite m.core q.at q.mini = record {
        mini = mini;
        base = (room_row base.0, stands base.0 g.0 u.1, t.0, eqb-true (base.0).point (h.x).point u.0 ∙ h.point, refl);
      } in
      (mini, entered m.core w.kept.fr w.kept.tied q.at q.mini site)

  -- one that is being placed is linked
  pub is_linked_then : (n : ℕ) → state_of m.placer n ≡ Placing → is_linked m n ≡ true
  is_linked_then n e =
      let a = placing_at m.placer n e in
      let y = a.instrument in
      let g = find_gives (λ (z : Instrument). z.no == n) m.placer.instruments y a.is in
      let all : AreLinked m.core y.placed.sites = site_is y g.0 (ap is_leaving a.placing) in
      ap (is_linked_now m.core) a.is ∙ (sites_linked m.core (machine_reached m (led_reached i m own b)) y.placed.sites).1 all

-- ---- armings

-- a machine to which acts led, in which no hart is inside and nothing is left on the agenda
pub record IsPlaced (i : Inputs) (m : Instrumented) (own : List ℕ) : Type 0 where
  pub led : IsLed i m own
  pub quiet : IsQuiet m.core
  pub empty : m.placer.book.agenda ≡ []

placing_true : (q : Stage) → q ≡ Placing → is_placing q ≡ true
placing_true q e = ap is_placing e

is_ready_then : (i : Inputs) (m : Instrumented) (own : List ℕ) → IsPlaced i m own → (x : MetricFocusPair) → state_of m.placer x.instrument.n ≡ Placing → is_ready m x ≡ true
is_ready_then i m own p x e =
    ap (λ (b : Bool). b && is_linked m x.instrument.n) (placing_true (state_of m.placer x.instrument.n) e) ∙ is_linked_then i m own p.led p.empty x.instrument.n e

armed_agenda : (i : Inputs) (m : Instrumented) (own : List ℕ) → IsLed i m own → (n : ℕ) → state_of m.placer n ≡ Placing → (after_act (Arms n) m).placer.book ≡ m.placer.book
armed_agenda i m own b n e = ap (λ (d : Instrumented). d.placer.book) (armed_is m (led_reached i m own b) n (placing_at m.placer n e))

placed_on : (i : Inputs) (m : Instrumented) (own : List ℕ) → IsPlaced i m own → (x : MetricFocusPair) → IsPlaced i (machine_armed m x) own
placed_on i m own p x = by (is_ready m x) refl
  where
    by : (b : Bool) → is_ready m x ≡ b → IsPlaced i (cond b (after_act (Arms x.instrument.n) m) m) own
    by true e = record {
      led = led i m own p.led p.quiet x e;
      quiet = armed_quiet i m own p.led p.quiet x e;
      empty = ap (λ (z : _). z.agenda) (armed_agenda i m own p.led x.instrument.n (ready_placing m x e)) ∙ p.empty;
    }
    by false e = p

module _ (i : Inputs) (own : List ℕ) where
  not_placing : (m : Instrumented) (x : MetricFocusPair) → AreNumbered m.placer → IsPlaced i m own → state_of (machine_armed m x).placer x.instrument.n ≡ Placing → ⊥
  not_placing m x r p = by (is_ready m x) refl
    where
      by : (b : Bool) → is_ready m x ≡ b → state_of (cond b (after_act (Arms x.instrument.n) m) m).placer x.instrument.n ≡ Placing → ⊥
      by true e f = let z : Armed ≡ Placing = sym ((ready_arms m x r e).itself (ready_placing m x e)) ∙ f in cc
      by false e f = true≢false (sym (is_ready_then i m own p x f) ∙ e)

  -- none is being placed after the armings
  pub none_placing : (t : ℕ) → t ≡ length own → (xs : List MetricFocusPair) (m : Instrumented) → AreNumbered m.placer → AreApart (tags xs) → IsPlaced i m own → (k : ℕ) (x : MetricFocusPair) → slice_get xs k ≡ Some x
      → state_of (arm_all m xs).placer x.instrument.n ≡ Placing → ⊥
  none_placing t timed [] m r a p k x e f = cc
  none_placing t timed (z ∷ xs) m r a p zero x e f =
      let same : z ≡ x = cc in
      let d = machine_armed m z in
      let one = arms_are i own t timed m (z ∷ []) r (tt, tt) in
      let all = arms_are i own t timed d xs one.roster a.1 in
      not_placing m z r p (sym (all.other z.instrument.n a.0) ∙ (ap (λ (v : MetricFocusPair). state_of (arm_all d xs).placer v.instrument.n) same ∙ f))
  none_placing t timed (z ∷ xs) m r a p (suc k) x e f =
      let one = arms_are i own t timed m (z ∷ []) r (tt, tt) in
      none_placing t timed xs (machine_armed m z) one.roster a.1 (placed_on i m own p z) k x e f

-- ---- the agenda is handed out

not_barred : (core : Core) (p : ℕ) → IsQuiet core → is_barred core p ≡ false
not_barred core p quiet = by (cases_Bool (is_barred core p))
  where
    by : (is_barred core p ≡ true) ⊎ (is_barred core p ≡ false) → is_barred core p ≡ false
    by (inr e) = e
    by (inl e) =
        let a = any_true (λ (r : Row). (r.point == p) && list_any (λ x. x.inside && holds r x.pc) core.harts) core.rows e in
        let r = a.1 in
        let b = any_true (λ (x : Hart). x.inside && holds r x.pc) core.harts (and_parts (r.point == p) (list_any (λ x. x.inside && holds r x.pc) core.harts) a.3).1 in
        absurd (true≢false (sym (and_parts (b.1).inside (holds r (b.1).pc) b.3).0 ∙ quiet b.0 b.1 b.2))

abbrev rest : List Entry → List Entry
rest [] = []
rest (e ∷ es) = es

module _ (m : Instrumented) (quiet : IsQuiet m.core) where
  abbrev p : Placements
  p = m.placer

  behind_is : (l : List Entry) → p.book.agenda ≡ l → (after_first p).book.agenda ≡ rest l
  behind_is [] e = ap (λ (es : List Entry). (book_after es p.book).agenda) e ∙ e
  behind_is (x ∷ es) e = ap (λ (es : List Entry). (book_after es p.book).agenda) e

  by_point : (l : List Entry) → p.book.agenda ≡ l → (o : Option ℕ) (e : Entry) → (in_scene (hands_by o e (scene_of m)).scene).placer.book.agenda ≡ rest l
  by_point l g None e = behind_is l g
  by_point l g (Some q) e =
      ap (λ (b : Bool). (in_scene (frees b q (after_first p) (scene_of m)).scene).placer.book.agenda) (not_barred m.core q quiet) ∙ behind_is l g

  by_entry : (l : List Entry) → p.book.agenda ≡ l → (in_scene (hands (first_of l) (scene_of m)).scene).placer.book.agenda ≡ rest l
  by_entry [] g = g
  by_entry (e ∷ es) g = by_point (e ∷ es) g (freed_point e) e

  handed : (after_act Hands m).placer.book.agenda ≡ rest p.book.agenda
  handed = ap (λ (d : Instrumented). d.placer.book.agenda) (done_is Hands m) ∙ by_entry p.book.agenda refl

rest_length : (l : List Entry) (n : ℕ) → length l ≡ suc n → length (rest l) ≡ n
rest_length [] n e = absurd (omega (arith, e))
rest_length (x ∷ l) n e = omega (arith, e)

pub all_handed : (n : ℕ) (m : Instrumented) → IsQuiet m.core → length m.placer.book.agenda ≡ n → (repeated n Hands m).placer.book.agenda ≡ []
all_handed zero m q e = nil_from_length m.placer.book.agenda e
all_handed (suc n) m q e =
    let d = after_act Hands m in
    let quiet : IsQuiet d.core = λ h x f. q h x (subst (λ hs. slice_get hs h ≡ Some x) (hands_same m) f) in
    all_handed n d quiet (ap (λ (es : List Entry). length es) (handed m q) ∙ rest_length m.placer.book.agenda n e)
