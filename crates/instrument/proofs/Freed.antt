-- The rooms of a point are given back one after another, and instruments that were dropped go with their last rooms.
use Rattle.std.proofs.Common.{◌≡◌, ℕ, ◌≤◌, List, [], ◌∷◌, ◌++◌, Option, Some, None, Ok, refl, sym, ap, ◌∙◌, subst, arith, ⊎_elim, inl, inr, map, filter, cond}
use Rattle.std.specs.Prelude.{Bool, true, false, find, ◌||◌, ◌&&◌, ◌==◌, not}
use Rattle.std.specs.List.{list_any}
use Rattle.std.proofs.lemmas.Bool.{true≢false, cond-true, cond-false, or_left, or_right, eq-eqb, eqb-true, ne_eqb}
use Rattle.pn_types.specs.declared.plan.Site.{Site}
use Rattle.rv_word.specs.Plain.{Words}
use Rattle.machine.specs.Cores.{In}
use Rattle.machine.proofs.Lists.{in_filter, in_map, in_snoc}
use Rattle.instrument.specs.Admission.{with_site, with_sites}
use Rattle.instrument.specs.Books.{Book, is_mini_of, mini_leaves, base_leaves, rooms_left, without_site, with_hold, unlinked_at, rooms_behind, rooms_of, stays}
use Rattle.instrument.specs.Freed.{AllStay, AreHere, IsTakenOut, is_settled}
use Rattle.instrument.specs.Placements.{book_after, is_here, is_leaving, is_mini_room_of, is_site_of, with_state, without_sites}
use Rattle.instrument.specs.Rosters.{RosterData}
use Rattle.instrument.specs.ToolTexts.{ToolTextData}
use Rattle.instrument.specs.declared.entry.Entry.{Entry}
use Rattle.instrument.specs.declared.entry.Entry.TheVariants.{WriteBase, WriteMini, LinkMini, LinkPoint, UnlinkMini, UnlinkPoint, Free}
use Rattle.instrument.specs.declared.instrument.Instrument.{Instrument}
use Rattle.instrument.specs.declared.number.State.{State}
use Rattle.instrument.specs.declared.number.State.TheVariants.{Placing, Armed, Leaving}
use Rattle.instrument.specs.declared.room.Hold.{Hold}
use Rattle.instrument.specs.declared.room.Room.{Room}
use Rattle.instrument.proofs.Folds.{filter_append, filter_filter, filter_same}
use Rattle.instrument.proofs.Grown.{site_blocks}
use Rattle.instrument.proofs.Owners.{all_placed}

pub filter_all : {A : Type 0} (p : A → Bool) (xs : List A) → ((x : A) → In x xs → p x ≡ true) → filter p xs ≡ xs
filter_all p [] h = refl
filter_all p (x ∷ xs) h = cond-true (p x) _ _ (h x (inl refl)) ∙ ap (λ ys. x ∷ ys) (filter_all p xs (λ y i. h y (inr i)))

-- ---- a room is taken out

-- the others are freed as they were to be
same_left : (point : ℕ) (x : Room) (old new : List Room) → IsTakenOut point x old new → filter (stays point) new ≡ filter (stays point) old
same_left point x old new o =
    let p = stays point in
    ap (filter p) o.now
    ∙ (filter_append p o.before o.after
    ∙ (ap (λ ys. filter p o.before ++ ys) (sym (cond-false (p x) (x ∷ filter p o.after) (filter p o.after) o.leaves))
    ∙ (sym (filter_append p o.before (x ∷ o.after)) ∙ ap (filter p) (sym o.was))))

-- ---- who is here

any_out : (q : Room → Bool) (xs ys : List Room) (x : Room) → q x ≡ false → list_any q (xs ++ x ∷ ys) ≡ list_any q (xs ++ ys)
any_out q [] ys x e = ap (λ b. b || list_any q ys) e
any_out q (z ∷ zs) ys x e = ap (λ b. q z || b) (any_out q zs ys x e)

any_filter : (q p : Room → Bool) (xs : List Room) → list_any q (filter p xs) ≡ true → list_any q xs ≡ true
any_filter q p [] e = e
any_filter q p (x ∷ xs) e = by (q x) (p x) refl e (any_filter q p xs)
  where
    by : (b c : Bool) → q x ≡ b → list_any q (cond c (x ∷ filter p xs) (filter p xs)) ≡ true → (list_any q (filter p xs) ≡ true → list_any q xs ≡ true) → (b || list_any q xs) ≡ true
    by true c k e h = refl
    by false true k e h = h (ap (λ b. b || list_any q (filter p xs)) (sym k) ∙ e)
    by false false k e h = h e

any_more : (q : Room → Bool) (xs ys : List Room) → list_any q xs ≡ true → list_any q (xs ++ ys) ≡ true
any_more q [] ys e = absurd (true≢false (sym e))
any_more q (x ∷ xs) ys e = by (q x) e (any_more q xs ys)
  where
    by : (b : Bool) → (b || list_any q xs) ≡ true → (list_any q xs ≡ true → list_any q (xs ++ ys) ≡ true) → (b || list_any q (xs ++ ys)) ≡ true
    by true e h = refl
    by false e h = h e

-- an instrument that is here with some rooms is here with rooms that have its own
here_with : (old new : List Room) (i : Instrument) → (list_any (is_mini_room_of i.no) old ≡ true → list_any (is_mini_room_of i.no) new ≡ true) → is_here old i ≡ true → is_here new i ≡ true
here_with old new i f e = by (is_leaving i.state) e
  where
    by : (b : Bool) → (not b || list_any (is_mini_room_of i.no) old) ≡ true → (not b || list_any (is_mini_room_of i.no) new) ≡ true
    by true e = f e
    by false e = refl

-- where each instrument has as many rooms
abbrev pub AreOwnersIn : List Room → List Room → Type 0
AreOwnersIn old new = (n : ℕ) → list_any (is_mini_room_of n) new ≡ list_any (is_mini_room_of n) old

pub here_same : (old new : List Room) (is : List Instrument) → AreOwnersIn old new → AreHere old is → AreHere new is
here_same old new is f k i h = here_with old new i (λ e. f i.no ∙ e) (k i h)

pub here_more : (rooms more : List Room) (is : List Instrument) → AreHere rooms is → AreHere (rooms ++ more) is
here_more rooms more is k i h = here_with rooms (rooms ++ more) i (any_more (is_mini_room_of i.no) rooms more) (k i h)

owners_hold : (h : Room → Hold) (rooms : List Room) → AreOwnersIn rooms (map (with_hold h) rooms)
owners_hold h [] n = refl
owners_hold h (x ∷ xs) n = ap (λ b. is_mini_room_of n x || b) (owners_hold h xs n)

owners_after : (e : Entry) (rooms : List Room) → AreOwnersIn rooms (rooms_behind e rooms)
owners_after (UnlinkMini p m) rooms = owners_hold (unlinked_at m) rooms
owners_after (UnlinkPoint p m) rooms = owners_hold (unlinked_at m) rooms
owners_after (WriteBase b) rooms = λ n. refl
owners_after (WriteMini b) rooms = λ n. refl
owners_after (LinkMini p m) rooms = λ n. refl
owners_after (LinkPoint p m) rooms = λ n. refl
owners_after (Free p) rooms = λ n. refl

pub owners_behind : (agenda : List Entry) (book : Book) → AreOwnersIn book.rooms (book_after agenda book).rooms
owners_behind [] book = λ n. refl
owners_behind (e ∷ es) book = owners_after e book.rooms

owners_left : (o : Option Room) (p : ℕ) (rooms : List Room) → AreOwnersIn rooms (rooms_left o p rooms)
owners_left (Some r) p rooms = λ n. refl
owners_left None p rooms = owners_hold (base_leaves p) rooms

owners_dropped : (xs : List Room) (book : Book) → AreOwnersIn book.rooms (without_sites xs book).rooms
owners_dropped [] book = λ n. refl
owners_dropped (x ∷ xs) book = λ n.
    let rooms = map (with_hold (mini_leaves x.at)) book.rooms in
    owners_dropped xs (without_site x book) n ∙ (owners_left (find (is_mini_of x.point) rooms) x.point rooms n ∙ owners_hold (mini_leaves x.at) book.rooms n)

-- ---- the other calls

pub here_armed : (rooms : List Room) (n : ℕ) (is : List Instrument) → AreHere rooms is → AreHere rooms (map (with_state n Armed) is)
here_armed rooms n is k i h =
    let o = in_map (with_state n Armed) is i h in
    subst (λ (u : Instrument). is_here rooms u ≡ true) (sym o.2) (by ((o.0).no == n) (o.0).state (list_any (is_mini_room_of (o.0).no) rooms) (k o.0 o.1))
  where
    by : (b : Bool) (s : State) (a : Bool) → (not (is_leaving s) || a) ≡ true → (not (is_leaving (cond b Armed s)) || a) ≡ true
    by true s a e = refl
    by false s a e = e

one_here : (t : Words) (n : ℕ) (slots : List ℕ) (is : List Instrument) (s : Site) (book new : Book) → AreHere book.rooms is → with_site t n slots s book ≡ Ok new → AreHere new.rooms is
one_here t n slots is s book new k e =
    let z = site_blocks t n slots s book new e in
    subst (λ (b : Book). AreHere b.rooms is) (sym z.is) (here_more book.rooms (rooms_of z.k.base n z.k.mini) is k)

pub here_placed : (t : Words) (n : ℕ) (slots : List ℕ) (sites : List Site) (book new : Book) (is : List Instrument) (i : Instrument) → AreHere book.rooms is → with_sites t n slots sites book ≡ Ok new → i.state ≡ Placing → AreHere new.rooms (is ++ i ∷ [])
here_placed t n slots sites book new is i k e p u h =
    ⊎_elim (all_placed t n slots (λ c b. AreHere b.rooms is) (λ c s b d. one_here t n slots is s b d) 0 sites book new k e u)
    (λ q. or_left (not (is_leaving u.state)) _ (ap (λ (v : Instrument). not (is_leaving v.state)) q ∙ ap (λ s. not (is_leaving s)) p)) (in_snoc is i u h)

-- ---- an instrument goes

pub all_settled : (rooms : List Room) (n : ℕ) (is : List Instrument) → list_any (is_mini_room_of n) rooms ≡ true → is ≡ filter (is_settled rooms n) is
all_settled rooms n is e = sym (filter_all (is_settled rooms n) is (λ i h. by i (i.no == n) refl))
  where
    by : (i : Instrument) (b : Bool) → (i.no == n) ≡ b → (not b || is_here rooms i) ≡ true
    by i true q = or_right (not (is_leaving i.state)) _ (ap (λ m. list_any (is_mini_room_of m) rooms) (eqb-true i.no n q) ∙ e)
    by i false q = refl

-- where no other can have gone, all are here after it
settled_of : (new : List Room) (n : ℕ) (is : List Instrument) → ((i : Instrument) → In i is → (i.no == n) ≡ false → is_here new i ≡ true) → filter (is_settled new n) is ≡ filter (is_here new) is
settled_of new n is f = filter_same (is_settled new n) (is_here new) is (λ i h. by i h (i.no == n) refl)
  where
    by : (i : Instrument) → In i is → (b : Bool) → (i.no == n) ≡ b → (not b || is_here new i) ≡ is_here new i
    by i h true q = refl
    by i h false q = sym (f i h q)

-- one is dropped
dropped_settled : (old new : List Room) (n : ℕ) (is : List Instrument) → AreOwnersIn old new → AreHere old is → filter (is_settled new n) (map (with_state n Leaving) is) ≡ filter (is_here new) (map (with_state n Leaving) is)
dropped_settled old new n is f k = settled_of new n (map (with_state n Leaving) is) (λ i h q.
    let o = in_map (with_state n Leaving) is i h in
    let away : ((o.0).no == n) ≡ false = ap (λ (u : Instrument). u.no == n) (sym o.2) ∙ q in
    let same : i ≡ o.0 = o.2 ∙ ap (λ s. record (o.0) { state = s }) (cond-false ((o.0).no == n) Leaving (o.0).state away) in
    subst (λ (u : Instrument). is_here new u ≡ true) (sym same) (here_same old new is f k o.0 o.1))

-- those that are left, where its sites were dropped
pub dropped_left : (t u : ToolTextData) (n : ℕ) (r s : RosterData) → AreHere t.book.rooms r.instruments → u.book ≡ without_sites (filter (is_site_of n) t.book.rooms) t.book → s.instruments ≡ filter (is_settled u.book.rooms n) (map (with_state n Leaving) r.instruments)
    → s.instruments ≡ filter (is_here u.book.rooms) (map (with_state n Leaving) r.instruments)
dropped_left t u n r s k b e =
    let owners = subst (λ (z : Book). AreOwnersIn t.book.rooms z.rooms) (sym b) (owners_dropped (filter (is_site_of n) t.book.rooms) t.book) in
    e ∙ dropped_settled t.book.rooms u.book.rooms n r.instruments owners k

pub here_filter : (rooms : List Room) (is : List Instrument) → AreHere rooms (filter (is_here rooms) is)
here_filter rooms is i h = (in_filter (is_here rooms) is i h).1

-- ---- the loop over the rooms of a point

-- so far
pub record IsFreeing (point : ℕ) (text now : ToolTextData) (roster left : RosterData) : Type 0 where
  pub program : now.program ≡ text.program
  pub agenda : now.book.agenda ≡ text.book.agenda
  pub spare : now.spare_rooms ≡ text.spare_rooms
  pub takes : now.takes ≡ text.takes
  pub entries : text.entries ≤ now.entries
  pub rooms : filter (stays point) now.book.rooms ≡ filter (stays point) text.book.rooms
  pub here : AreHere now.book.rooms left.instruments
  pub room : left.room ≡ roster.room
  pub slots : left.takes ≡ roster.takes
  pub instruments : filter (is_here (filter (stays point) text.book.rooms)) left.instruments ≡ filter (is_here (filter (stays point) text.book.rooms)) roster.instruments

-- what taking a room out leaves as it is
pub record IsLess (now new : ToolTextData) : Type 0 where
  pub program : new.program ≡ now.program
  pub agenda : new.book.agenda ≡ now.book.agenda
  pub spare : new.spare_rooms ≡ now.spare_rooms
  pub takes : new.takes ≡ now.takes
  pub entries : now.entries ≤ new.entries

freeing_next : (point : ℕ) (x : Room) (text now new : ToolTextData) (roster left after : RosterData) → IsFreeing point text now roster left → IsTakenOut point x now.book.rooms new.book.rooms → IsLess now new → after.room ≡ left.room → after.takes ≡ left.takes
    → AreHere new.book.rooms after.instruments → filter (is_here (filter (stays point) new.book.rooms)) after.instruments ≡ filter (is_here (filter (stays point) new.book.rooms)) left.instruments → IsFreeing point text new roster after
freeing_next point x text now new roster left after k o l room slots here same =
    let rooms = same_left point x now.book.rooms new.book.rooms o ∙ k.rooms in
    record {
      program = l.program ∙ k.program;
      agenda = l.agenda ∙ k.agenda;
      spare = l.spare ∙ k.spare;
      takes = l.takes ∙ k.takes;
      entries = let a = l.entries in let b = k.entries in omega (arith, a, b);
      rooms = rooms;
      here = here;
      room = room ∙ k.room;
      slots = slots ∙ k.slots;
      instruments = subst (λ (f : List Room). filter (is_here f) after.instruments ≡ filter (is_here f) left.instruments) rooms same ∙ k.instruments;
    }

-- a room that isn't an instrument's is no matter to it
any_taken : (point : ℕ) (x : Room) (old new : List Room) (n : ℕ) → IsTakenOut point x old new → is_mini_room_of n x ≡ false → list_any (is_mini_room_of n) new ≡ list_any (is_mini_room_of n) old
any_taken point x old new n o e = let q = is_mini_room_of n in ap (list_any q) o.now ∙ (sym (any_out q o.before o.after x e) ∙ ap (list_any q) (sym o.was))

-- that of a mini block, whose instrument may go
pub freeing_mini : (point : ℕ) (x : Room) (text now new : ToolTextData) (roster left after : RosterData) → IsFreeing point text now roster left → IsTakenOut point x now.book.rooms new.book.rooms → IsLess now new
    → after ≡ record left { instruments = filter (is_settled new.book.rooms x.owner) left.instruments } → IsFreeing point text new roster after
freeing_mini point x text now new roster left after k o l e =
    let old = now.book.rooms in
    let rooms = new.book.rooms in
    let others : (i : Instrument) → In i left.instruments → (i.no == x.owner) ≡ false → is_here rooms i ≡ true = λ i h q.
    let away : (x.owner == i.no) ≡ false = ne_eqb x.owner i.no (λ z. true≢false (sym (eq-eqb i.no x.owner (sym z)) ∙ q)) in
    here_with old rooms i (λ a. any_taken point x old rooms i.no o (no_owner (not x.base) (x.owner == i.no) away) ∙ a) (k.here i h) in
    let is = ap (λ (r : RosterData). r.instruments) e ∙ settled_of rooms x.owner left.instruments others in
    let later : (i : Instrument) → is_here (filter (stays point) rooms) i ≡ true → is_here rooms i ≡ true = λ i h. here_with (filter (stays point) rooms) rooms i (any_filter (is_mini_room_of i.no) (stays point) rooms) h in
    freeing_next point x text now new roster left after k o l (ap (λ (r : RosterData). r.room) e) (ap (λ (r : RosterData). r.takes) e)
    (subst (λ (js : List Instrument). AreHere rooms js) (sym is) (here_filter rooms left.instruments))
    (ap (filter (is_here (filter (stays point) rooms))) is ∙ filter_filter (is_here (filter (stays point) rooms)) (is_here rooms) left.instruments later)
  where
    no_owner : (b c : Bool) → c ≡ false → (b && c) ≡ false
    no_owner true c e = e
    no_owner false c e = refl

-- none is left to be given back
pub freeing_ended : (point : ℕ) (text now : ToolTextData) (roster left : RosterData) → IsFreeing point text now roster left → AllStay point now.book.rooms → left.instruments ≡ filter (is_here (filter (stays point) text.book.rooms)) roster.instruments
freeing_ended point text now roster left k s =
    let all = filter (stays point) text.book.rooms in
    let rooms : now.book.rooms ≡ all = sym s ∙ k.rooms in
    let here = subst (λ (f : List Room). AreHere f left.instruments) rooms k.here in
    sym (filter_all (is_here all) left.instruments here) ∙ k.instruments

pub of_parts : (r : RosterData) (is : List Instrument) (room takes : ℕ) → r.instruments ≡ is → r.room ≡ room → r.takes ≡ takes → r ≡ record { instruments = is; room = room; takes = takes }
of_parts r is room takes e f g = λ i. record { instruments = e i; room = f i; takes = g i }
