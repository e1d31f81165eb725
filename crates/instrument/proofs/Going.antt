-- Each step keeps what is kept of the machine and the book.
use Rattle.std.proofs.Common.{◌≡◌, ℕ, zero, suc, List, [], ◌∷◌, ◌++◌, Option, Some, None, refl, sym, ap, ◌∙◌, subst, ⊎_elim, inl, inr}
use Rattle.std.specs.Prelude.{Bool, true, false, cond, slice_get, ◌&&◌, ◌==◌}
use Rattle.std.specs.List.{list_any}
use Rattle.std.proofs.lemmas.Bool.{true≢false, eq-eqb, and_from, or_left, or_right}
use Rattle.rv_word.specs.Plain.{Words}
use Rattle.tramp_spec.specs.Harts.{Hart}
use Rattle.machine.specs.Cores.{In, Row, Core}
use Rattle.machine.specs.Effects.{after_event}
use Rattle.machine.specs.Events as events
use Rattle.machine.specs.Events.{Event, May, IsQuiet}
use Rattle.machine.specs.Places.{holds}
use Rattle.machine.specs.Replays.{Legal, replay}
use Rattle.machine.specs.Turns.{turn_by}
use Rattle.machine.proofs.Reaching.{reaches_more}
use Rattle.machine.proofs.Replaying.{legal-append, replay-append}
use Rattle.instrument.specs.Books.{is_held, FoundFree, unlinks, freed_point, or_later, first_free}
use Rattle.instrument.specs.Handing.{event_of, is_barred}
use Rattle.instrument.specs.declared.entry.Entry.{Entry}
use Rattle.instrument.specs.declared.entry.Entry.TheVariants.{WriteBase, WriteMini, LinkMini, LinkPoint, UnlinkMini, UnlinkPoint, Free}
use Rattle.instrument.specs.declared.room.Room.{Room}
use Rattle.instrument.proofs.Stages.{Fresh}
use Rattle.instrument.proofs.Folds.{append_assoc, in_append, append_left, append_right, append_nil}
use Rattle.instrument.proofs.Ties.{Tied}
use Rattle.instrument.proofs.Booked.{Booked, take_free, give_free}
use Rattle.instrument.proofs.Entering.{admitted, dropped}
use Rattle.instrument.proofs.Steps.{State, Out, out, a_book, done, release, hand_entry, hand, sweep, Step, Happened, Admitted, Dropped, Handed, Swept, does, LeavesBlocks, Can, AllCan, all_events, all_steps}
use Rattle.instrument.proofs.Keeping.{Kept, entry_kept}

-- ---- a Free in the due work

abbrev pub Split : FoundFree → List Entry → Type 0
Split f l = (xs ys : List Entry) × (l ≡ xs ++ Free f.point ∷ ys) × (f.rest ≡ xs ++ ys)

pub splits : (before es : List Entry) (f : FoundFree) → first_free before es ≡ Some f → Split f (before ++ es)
splits before [] f e = absurd cc
splits before (e ∷ es) f q = by e q (splits (before ++ e ∷ []) es f)
  where
    on : (e : Entry) → Split f ((before ++ e ∷ []) ++ es) → Split f (before ++ e ∷ es)
    on e r = (r.0, r.1, sym (append_assoc before (e ∷ []) es) ∙ r.2, r.3)

    free : (p : ℕ) (b : Bool) → cond b (first_free (before ++ Free p ∷ []) es) (Some (record { point = p; rest = before ++ es })) ≡ Some f → (first_free (before ++ Free p ∷ []) es ≡ Some f → Split f ((before ++ Free p ∷ []) ++ es)) → Split f (before ++ Free p ∷ es)
    free p false q ih =
        let i : record { point = p; rest = before ++ es } ≡ f = cc in
        (before, es, ap (λ (u : FoundFree). before ++ Free u.point ∷ es) i, sym (ap (λ (u : FoundFree). u.rest) i))
    free p true q ih = on (Free p) (ih q)

    by : (e : Entry) → or_later (freed_point e) before es (first_free (before ++ e ∷ []) es) ≡ Some f → (first_free (before ++ e ∷ []) es ≡ Some f → Split f ((before ++ e ∷ []) ++ es)) → Split f (before ++ e ∷ es)
    by (Free p) q ih = free p (list_any (unlinks p) before) q ih
    by (WriteBase b) q ih = on (WriteBase b) (ih q)
    by (WriteMini b) q ih = on (WriteMini b) (ih q)
    by (LinkMini p m) q ih = on (LinkMini p m) (ih q)
    by (LinkPoint p at) q ih = on (LinkPoint p at) (ih q)
    by (UnlinkMini p m) q ih = on (UnlinkMini p m) (ih q)
    by (UnlinkPoint p at) q ih = on (UnlinkPoint p at) (ih q)

-- ---- when a Free may be done

pub any_in : {A : Type 0} (p : A → Bool) (xs : List A) (x : A) → In x xs → p x ≡ true → list_any p xs ≡ true
any_in p [] x h e = absurd h
any_in p (y ∷ ys) x (inl i) e = or_left (p y) (list_any p ys) (ap p (sym i) ∙ e)
any_in p (y ∷ ys) x (inr h) e = or_right (p y) (list_any p ys) (any_in p ys x h e)

pub get_in : {A : Type 0} (xs : List A) (i : ℕ) (x : A) → slice_get xs i ≡ Some x → In x xs
get_in [] i x e = absurd cc
get_in (y ∷ ys) zero x e = let z : y ≡ x = cc in inl (sym z)
get_in (y ∷ ys) (suc i) x e = inr (get_in ys i x e)

pub unbarred : (c : Core) (p : ℕ) → is_barred c p ≡ false → May c (events.Free p)
unbarred c p e r h q i =
    true≢false
    (sym (any_in (λ r. (r.point == p) && list_any (λ x. x.inside && holds r x.pc) c.harts) c.rows r h
    (and_from (r.point == p) (list_any (λ x. x.inside && holds r x.pc) c.harts) (eq-eqb _ _ q)
    (any_in (λ x. x.inside && holds r x.pc) c.harts i.1 (get_in c.harts i.0 i.1 i.2) (and_from _ _ i.3 i.4)))) ∙ e)

pub quiet : (c : Core) (p : ℕ) → IsQuiet c → May c (events.Free p)
quiet c p k r h q i = true≢false (sym i.3 ∙ k i.0 i.1 i.2)

-- ---- an event that leaves the blocks

pub record Still (c d : Core) : Type 0 where
  pub program : d.program ≡ c.program
  pub code : d.code ≡ c.code
  pub rows : d.rows ≡ c.rows

still_turn : (o : Option Hart) (c : Core) (h : ℕ) → Still c (turn_by o c h)
still_turn None c h = record { program = refl; code = refl; rows = refl }
still_turn (Some x) c h = record { program = refl; code = refl; rows = refl }

pub still : (c : Core) (e : Event) → LeavesBlocks e → Still c (after_event c e)
still c (events.Turn h) l = still_turn (slice_get c.harts h) c h
still c (events.Arm i) l = record { program = refl; code = refl; rows = refl }
still c (events.Sample i) l = record { program = refl; code = refl; rows = refl }
still c (events.Write b) l = absurd l
still c (events.LinkMini p m) l = absurd l
still c (events.UnlinkMini p m) l = absurd l
still c (events.LinkPoint p) l = absurd l
still c (events.UnlinkPoint p) l = absurd l
still c (events.Free p) l = absurd l

-- ---- what a step owes

pub record Goes (st : State) (o : Out) : Type 0 where
  pub legal : Legal o.events st.core
  pub core : o.state.core ≡ replay o.events st.core
  pub kept : Kept o.state

goes_done : (st : State) (e : Entry) (es : List Entry) → May st.core (event_of st.core e) × Kept (done e es st).state → Goes st (done e es st)
goes_done st e es r = record { legal = (r.0, tt); core = refl; kept = r.1 }

pub no_free : (c : Core) (e : Entry) → ((p : ℕ) → e ≡ Free p → ⊥) → (p : ℕ) → e ≡ Free p → May c (events.Free p)
no_free c e f p i = absurd (f p i)

pub free_is : (c : Core) (p : ℕ) → May c (events.Free p) → (q : ℕ) → Free p ≡ Free q → May c (events.Free q)
free_is c p m q i = subst (λ (u : Entry). May c (event_of c u)) i m

-- a Free in the middle is as well at the front, or at the back
pub to_front : (t : Words) (rows : List Row) (fr : Fresh) (rooms : List Room) (agenda : List Entry) (f : FoundFree) → Split f agenda → Booked t rows fr rooms agenda → Booked t rows fr rooms (Free f.point ∷ f.rest)
to_front t rows fr rooms agenda f q b =
    subst (λ l. Booked t rows fr rooms (Free f.point ∷ l)) (sym q.3)
    (give_free t rows fr rooms [] (q.0 ++ q.1) f.point (take_free t rows fr rooms q.0 q.1 f.point (subst (Booked t rows fr rooms) q.2 b)))

pub to_back : (t : Words) (rows : List Row) (fr : Fresh) (rooms : List Room) (p : ℕ) (es : List Entry) → Booked t rows fr rooms (Free p ∷ es) → Booked t rows fr rooms (es ++ Free p ∷ [])
to_back t rows fr rooms p es b = give_free t rows fr rooms es [] p (subst (Booked t rows fr rooms) (sym (append_nil es)) (take_free t rows fr rooms [] es p b))

-- what is to be shown where an entry is done, whether it was the first one or a Free after others
abbrev pub Doing : (Out → Type 0) → State → Type 0
Doing P st =
    (k : Kept st) (e : Entry) (es : List Entry) → Booked st.core.program st.core.rows k.fr st.book.rooms (e ∷ es) → ((p : ℕ) → e ≡ Free p → May st.core (events.Free p))
    → ((z : Entry) → In z (e ∷ es) → In z st.book.agenda) → P (done e es st)

-- and where a Free is put back
abbrev pub Refusing : (Out → Type 0) → State → Type 0
Refusing P st =
    (p : ℕ) (es : List Entry) → Kept (record { core = st.core; book = a_book st.book.rooms (es ++ Free p ∷ []) }) → ((z : Entry) → In z (Free p ∷ es) → In z st.book.agenda)
    → P (out [] (record { core = st.core; book = a_book st.book.rooms (es ++ Free p ∷ []) }))

pub handed : (P : Out → Type 0) (st : State) → Kept st → P (out [] st) → Refusing P st → Doing P st → P (hand st.book.agenda st)
handed P st k none refused f = at_front st.book.agenda k.book (λ z h. h)
  where
    doing : (e : Entry) (es : List Entry) → ((p : ℕ) → e ≡ Free p → ⊥) → Booked st.core.program st.core.rows k.fr st.book.rooms (e ∷ es) → ((z : Entry) → In z (e ∷ es) → In z st.book.agenda) → P (done e es st)
    doing e es g b sub = f k e es b (no_free st.core e g) sub

    at_free : (p : ℕ) (es : List Entry) (o : Bool) → is_barred st.core p ≡ o → Booked st.core.program st.core.rows k.fr st.book.rooms (Free p ∷ es) → ((z : Entry) → In z (Free p ∷ es) → In z st.book.agenda) → P (release o p es st)
    at_free p es false e b sub = f k (Free p) es b (free_is st.core p (unbarred st.core p e)) sub
    at_free p es true e b sub = refused p es (record { reached = k.reached; fr = k.fr; tied = k.tied; book = to_back st.core.program st.core.rows k.fr st.book.rooms p es b }) sub

    at_entry : (e : Entry) (es : List Entry) → Booked st.core.program st.core.rows k.fr st.book.rooms (e ∷ es) → ((z : Entry) → In z (e ∷ es) → In z st.book.agenda) → P (hand_entry e es st)
    at_entry (Free p) es b sub = at_free p es (is_barred st.core p) refl b sub
    at_entry (WriteBase d) es b sub = doing (WriteBase d) es (λ q i. absurd cc) b sub
    at_entry (WriteMini d) es b sub = doing (WriteMini d) es (λ q i. absurd cc) b sub
    at_entry (LinkMini p m) es b sub = doing (LinkMini p m) es (λ q i. absurd cc) b sub
    at_entry (LinkPoint p at) es b sub = doing (LinkPoint p at) es (λ q i. absurd cc) b sub
    at_entry (UnlinkMini p m) es b sub = doing (UnlinkMini p m) es (λ q i. absurd cc) b sub
    at_entry (UnlinkPoint p at) es b sub = doing (UnlinkPoint p at) es (λ q i. absurd cc) b sub

    at_front : (es : List Entry) → Booked st.core.program st.core.rows k.fr st.book.rooms es → ((z : Entry) → In z es → In z st.book.agenda) → P (hand es st)
    at_front [] b sub = none
    at_front (e ∷ es) b sub = at_entry e es b sub

pub swept : (P : Out → Type 0) (st : State) → Kept st → IsQuiet st.core → P (out [] st) → Doing P st → P (sweep (first_free [] st.book.agenda) st)
swept P st k q none f = at_found (first_free [] st.book.agenda) refl
  where
    sub : (g : FoundFree) → Split g st.book.agenda → (z : Entry) → In z (Free g.point ∷ g.rest) → In z st.book.agenda
    sub g w z (inl i) = subst (λ l. In z l) (sym w.2) (append_right w.0 (Free g.point ∷ w.1) z (inl i))
    sub g w z (inr h) = subst (λ l. In z l) (sym w.2) (⊎_elim (λ i. append_left w.0 (Free g.point ∷ w.1) z i) (λ i. append_right w.0 (Free g.point ∷ w.1) z (inr i)) (in_append w.0 w.1 z (subst (λ l. In z l) w.3 h)))

    at_found : (o : Option FoundFree) → first_free [] st.book.agenda ≡ o → P (sweep o st)
    at_found None e = none
    at_found (Some g) e =
        let w = splits [] st.book.agenda g e in
        f k (Free g.point) g.rest (to_front st.core.program st.core.rows k.fr st.book.rooms st.book.agenda g w k.book) (free_is st.core g.point (quiet st.core g.point q)) (sub g w)

pub step_keeps : (a : Step) (st : State) → Kept st → Can a st → Goes st (does a st)
step_keeps (Happened e) st k m =
    let f = still st.core e m.0 in
    record {
      legal = (m.1, tt);
      core = refl;
      kept = record {
        reached = reaches_more st.core e k.reached m.1;
        fr = k.fr;
        tied = subst (λ x. Tied x (after_event st.core e).rows k.fr) (sym f.code) (subst (λ x. Tied st.core.code x k.fr) (sym f.rows) k.tied);
        book = subst (λ x. Booked x (after_event st.core e).rows k.fr st.book.rooms st.book.agenda) (sym f.program) (subst (λ x. Booked st.core.program x k.fr st.book.rooms st.book.agenda) (sym f.rows) k.book);
      };
    }
step_keeps (Admitted owner b) st k m =
    record {
      legal = tt;
      core = refl;
      kept = record {
        reached = k.reached;
        fr = k.fr;
        tied = k.tied;
        book = admitted st.core.program st.core.rows k.fr st.book.rooms st.book.agenda k.book owner b.mini m.good m.free b.base m.fits;
      };
    }
step_keeps (Dropped x) st k m =
    record {
      legal = tt;
      core = refl;
      kept = record { reached = k.reached; fr = k.fr; tied = k.tied; book = dropped st.core.program st.core.rows k.fr st.book.rooms st.book.agenda k.book x m.0 m.1 (ap is_held m.2) };
    }
step_keeps Handed st k m =
    handed (Goes st) st k (record { legal = tt; core = refl; kept = k }) (λ p es w sub. record { legal = tt; core = refl; kept = w })
    (λ w e es b f sub. goes_done st e es (entry_kept st.core w.reached w.fr w.tied st.book.rooms e es b f))
step_keeps Swept st k m =
    swept (Goes st) st k m (record { legal = tt; core = refl; kept = k })
    (λ w e es b f sub. goes_done st e es (entry_kept st.core w.reached w.fr w.tied st.book.rooms e es b f))

-- ---- all steps

pub record Went (steps : List Step) (st : State) : Type 0 where
  pub legal : Legal (all_events steps st) st.core
  pub core : (all_steps steps st).core ≡ replay (all_events steps st) st.core
  pub kept : Kept (all_steps steps st)

pub all_keep : (steps : List Step) (st : State) → Kept st → AllCan steps st → Went steps st
all_keep [] st k m = record { legal = tt; core = refl; kept = k }
all_keep (a ∷ more) st k m =
    let g = step_keeps a st k m.0 in
    let r = all_keep more (does a st).state g.kept m.1 in
    record {
      legal = legal-append (does a st).events (all_events more (does a st).state) st.core g.legal (subst (Legal (all_events more (does a st).state)) g.core r.legal);
      core = r.core ∙ (ap (replay (all_events more (does a st).state)) g.core ∙ sym (replay-append (does a st).events (all_events more (does a st).state) st.core));
      kept = r.kept;
    }
