-- What is handed out of the agenda can be done, and what the calls make of it is the act.
use Rattle.std.proofs.Common.{◌≡◌, ℕ, ◌+◌, List, [], ◌∷◌, Option, Some, None, refl, sym, ap, ◌∙◌, subst, arith, ⊎_elim}
use Rattle.std.specs.Prelude.{Bool, true, false, cond, IsTrue, is_some, filter, ◌↔◌, ◌&&◌, ◌==◌, not}
use Rattle.std.specs.List.{list_any}
use Rattle.std.specs.Option.{option_map}
use Rattle.std.proofs.lemmas.Bool.{true≢false, cases_Bool, and_parts, eqb-true}
use Rattle.tramp_spec.specs.declared.block.Block.{Block}
use Rattle.machine.specs.Cores.{Core}
use Rattle.machine.specs.Effects.{after_event}
use Rattle.machine.specs.Events as events
use Rattle.machine.specs.Events.{May}
use Rattle.machine.specs.Places.{holds}
use Rattle.machine.specs.Replays.{Legal}
use Rattle.machine.specs.States.{Machine, with_core}
use Rattle.machine.proofs.Inside.{any_true}
use Rattle.machine.proofs.KeptRows.{tool_high}
use Rattle.instrument.specs.Books.{freed_point}
use Rattle.instrument.specs.Handing.{event_of, is_barred}
use Rattle.instrument.specs.Placements as placements
use Rattle.instrument.specs.Placements.{Placements, after_first, free_behind, free_front, put_back}
use Rattle.instrument.specs.Scenes.{Hands, Sweeps, frees, hands, hands_by, sweeps}
use Rattle.instrument.specs.Shown.{shown}
use Rattle.instrument.specs.declared.entry.Entry.{Entry}
use Rattle.instrument.specs.declared.entry.Entry.TheVariants.{WriteBase, WriteMini, LinkMini, LinkPoint, UnlinkMini, UnlinkPoint, Free}
use Rattle.instrument.specs.declared.event.Event.{Event}
use Rattle.instrument.specs.declared.event.Event.TheVariants as seen
use Rattle.instrument.proofs.Claims.{base_now}
use Rattle.instrument.proofs.Going.{get_in, unbarred}
use Rattle.instrument.proofs.Stages.{GoodMini, Ok, Sound, is_now, stage}
use Rattle.instrumented.specs.Doing.{CanWriteMini, IsDoable, freed_core, freed_placements, machine_event, writes, writes_in}
use Rattle.instrumented.specs.Instrumented.{Instrumented, after_act, in_scene, scene_of}
use Rattle.instrumented.specs.Reached.{IsReachedByActs}
use Rattle.instrumented.proofs.Acts.{done_is, legal_next, whole_of}

-- ---- what is handed out can be done

module _ (m : Instrumented) (r : IsReachedByActs m) where
  -- the first entry of the agenda, where it is no Free
  may_first : (e : Entry) (es : List Entry) → m.placer.book.agenda ≡ e ∷ es → freed_point e ≡ None → May m.core (event_of m.core e)
  may_first e es is none =
      let l = subst (λ (a : List Entry). Legal (hands (placements.first_of a) (scene_of m)).events m.core) is (legal_next m Hands r tt) in
      (subst (λ (o : Option ℕ). Legal (hands_by o e (scene_of m)).events m.core) none l).0

  doable_mini : (b : Block) (es : List Entry) → m.placer.book.agenda ≡ WriteMini b ∷ es → CanWriteMini m.core b
  doable_mini b es is =
      let w = whole_of r.image r.harts r.budget r.limit r.acts m r.plans r.program r.leads in
      let k = w.kept in
      let s : Sound m.core.program (stage (filter is_now m.core.rows) k.fr) (WriteMini b ∷ es) = subst (Sound m.core.program (stage (filter is_now m.core.rows) k.fr)) is (k.book).sound in
      let good : GoodMini m.core.program b = s.0 in
      let ok : Ok (stage (filter is_now m.core.rows) k.fr) (WriteMini b) = s.1 in
      let high = (good.place).high in
      let top = tool_high m.core k.reached in
      record {
        some = good.some;
        low = omega arith;
        base = ap is_some (sym (base_now b.point m.core.rows) ∙ ok.2);
        may = may_first (WriteMini b) es is refl;
      }

  doable : (e : Entry) (es : List Entry) → m.placer.book.agenda ≡ e ∷ es → IsDoable m.core (shown e)
  doable (WriteBase b) es is = may_first (WriteBase b) es is refl
  doable (WriteMini b) es is = doable_mini b es is
  doable (LinkMini p q) es is = may_first (LinkMini p q) es is refl
  doable (LinkPoint p q) es is = may_first (LinkPoint p q) es is refl
  doable (UnlinkMini p q) es is = may_first (UnlinkMini p q) es is refl
  doable (UnlinkPoint p q) es is = may_first (UnlinkPoint p q) es is refl
  doable (Free p) es is = tt

-- ---- what doing it makes

same_event : (c : Core) (e : Entry) → machine_event c (shown e) ≡ event_of c e
same_event c (WriteBase b) = refl
same_event c (WriteMini b) = refl
same_event c (LinkMini p m) = refl
same_event c (LinkPoint p m) = refl
same_event c (UnlinkMini p m) = refl
same_event c (UnlinkPoint p m) = refl
same_event c (Free p) = refl

abbrev pub is_free : Event → Bool
is_free (seen.Free p) = true
is_free (seen.WriteBase b) = false
is_free (seen.WriteMini b) = false
is_free (seen.LinkMini p m) = false
is_free (seen.LinkPoint p) = false
is_free (seen.UnlinkMini p m) = false
is_free (seen.UnlinkPoint p) = false

no_free : (e : Entry) → is_free (shown e) ≡ false → freed_point e ≡ None
no_free (WriteBase b) n = refl
no_free (WriteMini b) n = refl
no_free (LinkMini p m) n = refl
no_free (LinkPoint p m) n = refl
no_free (UnlinkMini p m) n = refl
no_free (UnlinkPoint p m) n = refl
no_free (Free p) n = absurd (true≢false n)

free_entry : (e : Entry) (p : ℕ) → shown e ≡ seen.Free p → e ≡ Free p
free_entry (Free q) p i = cc
free_entry (WriteBase b) p i = absurd cc
free_entry (WriteMini b) p i = absurd cc
free_entry (LinkMini q m) p i = absurd cc
free_entry (LinkPoint q m) p i = absurd cc
free_entry (UnlinkMini q m) p i = absurd cc
free_entry (UnlinkPoint q m) p i = absurd cc

-- what is first in the agenda
pub record First (agenda : List Entry) (event : Event) : Type 0 where
  pub entry : Entry
  pub rest : List Entry
  pub is : agenda ≡ entry ∷ rest
  pub shows : shown entry ≡ event

pub first_is : (agenda : List Entry) (event : Event) → Some event ≡ option_map shown (placements.first_of agenda) → First agenda event
first_is [] event i = absurd cc
first_is (e ∷ es) event i = record { entry = e; rest = es; is = refl; shows = cc }

-- the agenda is empty
pub none_is : (agenda : List Entry) → None ≡ option_map shown (placements.first_of agenda) → agenda ≡ []
none_is [] i = refl
none_is (e ∷ es) i = absurd cc

module _ (m : Instrumented) (event : Event) (f : First m.placer.book.agenda event) where
  made : after_act Hands m ≡ in_scene (hands_by (freed_point f.entry) f.entry (scene_of m)).scene
  made = done_is Hands m ∙ ap (λ (a : List Entry). in_scene (hands (placements.first_of a) (scene_of m)).scene) f.is

  -- an entry that is no Free
  pub performed : is_free event ≡ false → after_act Hands m ≡ record { core = after_event m.core (machine_event m.core event); placer = after_first m.placer }
  performed n =
      let free : freed_point f.entry ≡ None = no_free f.entry (ap is_free f.shows ∙ n) in
      made ∙ (ap (λ o. in_scene (hands_by o f.entry (scene_of m)).scene) free
      ∙ ap (λ (e : events.Event). to (after_event m.core e)) (sym (same_event m.core f.entry) ∙ ap (machine_event m.core) f.shows))
    where
      to : Core → Instrumented
      to c = record { core = c; placer = after_first m.placer }

  pub can_perform : IsReachedByActs m → IsDoable m.core event
  can_perform r = subst (IsDoable m.core) f.shows (doable m r f.entry f.rest f.is)

  pub few_writes : writes event + writes_in (after_first m.placer).book.agenda ≡ writes_in m.placer.book.agenda
  few_writes = by m.placer.book.agenda f.entry f.rest f.is f.shows
    where
      by : (agenda : List Entry) (e : Entry) (es : List Entry) → agenda ≡ e ∷ es → shown e ≡ event → writes event + writes_in (placements.book_after agenda (record { rooms = m.placer.book.rooms; agenda = agenda })).agenda ≡ writes_in agenda
      by [] e es i s = absurd cc
      by (x ∷ xs) e es i s = let y : x ≡ e = cc in ap (λ (v : Event). writes v + writes_in xs) (sym s ∙ ap shown (sym y))

-- ---- a Free

-- a hart bars a Free where it may not happen
pub barred : (c : Core) (p : ℕ) → is_barred c p ≡ true → May c (events.Free p) → ⊥
barred c p e may =
    let r = any_true (λ r. (r.point == p) && list_any (λ x. x.inside && holds r x.pc) c.harts) c.rows e in
    let a = and_parts ((r.1).point == p) (list_any (λ x. x.inside && holds r.1 x.pc) c.harts) r.3 in
    let x = any_true (λ x. x.inside && holds r.1 x.pc) c.harts a.1 in
    let b = and_parts (x.1).inside (holds r.1 (x.1).pc) x.3 in
    may r.1 (get_in c.rows r.0 r.1 r.2) (eqb-true (r.1).point p a.0) (x.0, x.1, x.2, b.0, b.1)

pub may_is : (c : Core) (p : ℕ) (b : Bool) → (IsTrue b ↔ May c (events.Free p)) → is_barred c p ≡ not b
may_is c p true i = ⊎_elim (λ t. absurd (barred c p t (i.0 refl))) (λ f. f) (cases_Bool (is_barred c p))
may_is c p false i = ⊎_elim (λ t. t) (λ f. absurd (true≢false (sym (i.1 (unbarred c p f))))) (cases_Bool (is_barred c p))

-- a Free that is handed out
module _ (m : Instrumented) (p : ℕ) (f : First m.placer.book.agenda (seen.Free p)) where
  freed_by : (b : Bool) → in_scene (frees b p (after_first m.placer) (scene_of m)).scene ≡ record { core = freed_core b p m.core; placer = freed_placements b p (after_first m.placer) }
  freed_by true = refl
  freed_by false = refl

  pub freed_is : after_act Hands m ≡ record { core = freed_core (is_barred m.core p) p m.core; placer = freed_placements (is_barred m.core p) p (after_first m.placer) }
  freed_is =
      made m (seen.Free p) f ∙ (ap (λ e. in_scene (hands_by (freed_point e) e (scene_of m)).scene) (free_entry f.entry p f.shows) ∙ freed_by (is_barred m.core p))

-- where the agenda is empty, nothing is done
pub none_done : (m : Instrumented) → m.placer.book.agenda ≡ [] → after_act Hands m ≡ m
none_done m e = done_is Hands m ∙ ap (λ (a : List Entry). in_scene (hands (placements.first_of a) (scene_of m)).scene) e

-- ---- sweeping

pub swept : (m : Instrumented) (p : ℕ) → Some p ≡ free_front m.placer → after_act Sweeps m ≡ record { core = after_event m.core (events.Free p); placer = placements.freed p (free_behind m.placer) }
swept m p e = done_is Sweeps m ∙ ap (λ o. in_scene (sweeps o (free_behind m.placer) (scene_of m)).scene) (sym e)

pub none_swept : (m : Instrumented) → None ≡ free_front m.placer → after_act Sweeps m ≡ record { core = m.core; placer = free_behind m.placer }
none_swept m e = done_is Sweeps m ∙ ap (λ o. in_scene (sweeps o (free_behind m.placer) (scene_of m)).scene) (sym e)

-- ---- what freeing makes, by its result

pub freed_core_by : (m n : Machine) (p : ℕ) (b : Bool) → (IsTrue b ↔ May m.core (events.Free p)) → n ≡ cond b (with_core m (after_event m.core (events.Free p))) m → n ≡ with_core m (freed_core (is_barred m.core p) p m.core)
freed_core_by m n p true i e = e ∙ ap (λ x. with_core m (freed_core x p m.core)) (sym (may_is m.core p true i))
freed_core_by m n p false i e = e ∙ ap (λ x. with_core m (freed_core x p m.core)) (sym (may_is m.core p false i))

pub freed_rooms_by : (c : Core) (p : ℕ) (q after_event : Placements) → (IsTrue true ↔ May c (events.Free p)) → after_event ≡ placements.freed p q → after_event ≡ freed_placements (is_barred c p) p q
freed_rooms_by c p q after_event i e = e ∙ ap (λ x. freed_placements x p q) (sym (may_is c p true i))

pub back_rooms_by : (c : Core) (p : ℕ) (q after_event : Placements) → (IsTrue false ↔ May c (events.Free p)) → after_event ≡ put_back p q → after_event ≡ freed_placements (is_barred c p) p q
back_rooms_by c p q after_event i e = e ∙ ap (λ x. freed_placements x p q) (sym (may_is c p false i))
