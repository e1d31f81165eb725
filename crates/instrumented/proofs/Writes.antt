-- How many blocks an agenda is to write, after each call.
use Rattle.std.proofs.Common.{◌≡◌, ℕ, suc, ◌+◌, ◌*◌, ◌≤◌, List, [], ◌∷◌, ◌++◌, length, Option, Some, None, Ok, Err, refl, sym, ap, ◌∙◌, arith}
use Rattle.std.specs.Prelude.{map, filter, find, Bool, true, false, cond, Result, nat_le}
use Rattle.pn_types.specs.declared.plan.Plan.{Plan}
use Rattle.pn_types.specs.declared.plan.Site.{Site}
use Rattle.prim_code.specs.Counts.{predicted}
use Rattle.rv_word.specs.Plain.{Words, program_word}
use Rattle.tramp_spec.specs.Blocks.{moved_at}
use Rattle.tramp_spec.specs.MovedWords.{moved_of}
use Rattle.tramp_spec.specs.Statements.{body_of}
use Rattle.tramp_spec.specs.declared.block.Block.{Block}
use Rattle.tramp_spec.specs.declared.mark.MarkedWord.{MarkedWord}
use Rattle.instrument.specs.Admission.{a_base, a_mini, and_then, base_len, rooms_with, slot_count, slots_from, with_base, with_base_at, with_mini_at, with_moved, with_site, with_site_by, with_sites}
use Rattle.instrument.specs.Books.{Blocks, Book, FoundFree, first_free, is_base_of, is_mini_of, mini_leaves, placing, removing, with_blocks, with_hold, without_site}
use Rattle.instrument.specs.Fits.{room_for, slots_for}
use Rattle.instrument.specs.Placements.{Placements, admission, agenda_in, dropped, free_behind, is_over, is_site_of, or_same, slots_taken, with_instrument, with_slots, without_sites}
use Rattle.instrument.specs.declared.entry.Entry.{Entry}
use Rattle.instrument.specs.declared.entry.Entry.TheVariants.{WriteBase, WriteMini, LinkMini, LinkPoint, UnlinkMini, UnlinkPoint, Free}
use Rattle.instrument.specs.declared.number.Refused.{Refused}
use Rattle.instrument.specs.declared.number.Refused.TheVariants.{OverCost, TooMany}
use Rattle.instrument.specs.declared.room.Room.{Room}
use Rattle.instrument.proofs.Going.{Split, splits}
use Rattle.instrumented.specs.Doing.{writes_in}

pub writes_append : (xs ys : List Entry) → writes_in (xs ++ ys) ≡ writes_in xs + writes_in ys
writes_append [] ys = omega arith
writes_append (WriteBase b ∷ xs) ys = let h = writes_append xs ys in omega arith
writes_append (WriteMini b ∷ xs) ys = let h = writes_append xs ys in omega arith
writes_append (LinkMini p m ∷ xs) ys = let h = writes_append xs ys in omega arith
writes_append (LinkPoint p m ∷ xs) ys = let h = writes_append xs ys in omega arith
writes_append (UnlinkMini p m ∷ xs) ys = let h = writes_append xs ys in omega arith
writes_append (UnlinkPoint p m ∷ xs) ys = let h = writes_append xs ys in omega arith
writes_append (Free p ∷ xs) ys = let h = writes_append xs ys in omega arith

-- ---- a dropping writes none

removing_none : (o b : Option Room) (p m : ℕ) → writes_in (removing o b p m) ≡ 0
removing_none (Some x) b p m = refl
removing_none None None p m = refl
removing_none None (Some x) p m = refl

site_same : (x : Room) (book : Book) → writes_in (without_site x book).agenda ≡ writes_in book.agenda
site_same x book =
    let rooms = map (with_hold (mini_leaves x.at)) book.rooms in
    let e = writes_append book.agenda (removing (find (is_mini_of x.point) rooms) (find (is_base_of x.point) rooms) x.point x.at) in
    let z = removing_none (find (is_mini_of x.point) rooms) (find (is_base_of x.point) rooms) x.point x.at in
    omega arith

sites_same : (xs : List Room) (book : Book) → writes_in (without_sites xs book).agenda ≡ writes_in book.agenda
sites_same [] book = refl
sites_same (x ∷ xs) book = sites_same xs (without_site x book) ∙ site_same x book

pub drop_same : (n : ℕ) (p : Placements) → writes_in (dropped n p).book.agenda ≡ writes_in p.book.agenda
drop_same n p = sites_same (filter (is_site_of n) p.book.rooms) p.book

-- ---- nor does a Free that is put back or taken out

pub back_same : (es : List Entry) (p : ℕ) → writes_in (es ++ Free p ∷ []) ≡ writes_in es
back_same es p = let e = writes_append es (Free p ∷ []) in omega arith

out_same : (agenda : List Entry) (f : FoundFree) → Split f agenda → writes_in f.rest ≡ writes_in agenda
out_same agenda f s =
    let a = writes_append s.0 s.1 in
    let b : writes_in (s.0 ++ Free f.point ∷ s.1) ≡ writes_in s.0 + writes_in s.1 = (let e = writes_append s.0 (Free f.point ∷ s.1) in omega arith) in
    ap writes_in s.3 ∙ (a ∙ (sym b ∙ ap writes_in (sym s.2)))

pub taken_same : (p : Placements) → writes_in (free_behind p).book.agenda ≡ writes_in p.book.agenda
taken_same p = by (first_free [] p.book.agenda) refl
  where
    by : (o : Option FoundFree) → first_free [] p.book.agenda ≡ o → writes_in (agenda_in o p.book.agenda) ≡ writes_in p.book.agenda
    by None e = refl
    by (Some f) e = out_same p.book.agenda f (splits [] p.book.agenda f e)

-- ---- an admission writes two at each site at most

-- at most a number more
abbrev FewMore : ℕ → Book → Result Book Refused → Type 0
FewMore n book (Ok after) = writes_in after.agenda ≤ writes_in book.agenda + n
FewMore n book (Err refused) = Unit {0}

blocks_more : (owner : ℕ) (k : Blocks) (book : Book) → writes_in (with_blocks owner k book).agenda ≤ writes_in book.agenda + 2
blocks_more owner k book = let e = writes_append book.agenda (placing k.base k.mini) in let z = two k.base in omega arith
  where
    two : (o : Option Block) → writes_in (placing o k.mini) ≤ 2
    two None = omega arith
    two (Some b) = omega arith

mini_more : (o : Option ℕ) (owner p : ℕ) (body : List MarkedWord) (base : Option Block) (book : Book) → FewMore 2 book (with_mini_at o owner p body base book)
mini_more None owner p body base book = tt
mini_more (Some at) owner p body base book = blocks_more owner (record { base = base; mini = a_mini p at body }) book

moved_more : (o : Option (List MarkedWord)) (t : Words) (at owner p : ℕ) (body : List MarkedWord) (book : Book) → FewMore 2 book (with_moved o t at owner p body book)
moved_more None t at owner p body book = tt
moved_more (Some moved) t at owner p body book = mini_more (room_for t (rooms_with (Some (a_base p at moved)) book.rooms) (length body + 1)) owner p body (Some (a_base p at moved)) book

base_more : (o : Option ℕ) (t : Words) (word owner p : ℕ) (body : List MarkedWord) (book : Book) → FewMore 2 book (with_base_at o t word owner p body book)
base_more None t word owner p body book = tt
base_more (Some at) t word owner p body book = moved_more (moved_of word p (moved_at at)) t at owner p body book

word_more : (o : Option ℕ) (t : Words) (owner p : ℕ) (body : List MarkedWord) (book : Book) → FewMore 2 book (with_base o t owner p body book)
word_more None t owner p body book = tt
word_more (Some word) t owner p body book = base_more (room_for t book.rooms (base_len word)) t word owner p body book

by_more : (o : Option Room) (t : Words) (owner p : ℕ) (body : List MarkedWord) (book : Book) → FewMore 2 book (with_site_by o t owner p body book)
by_more (Some x) t owner p body book = mini_more (room_for t (rooms_with None book.rooms) (length body + 1)) owner p body None book
by_more None t owner p body book = word_more (program_word t p) t owner p body book

sites_more : (t : Words) (owner : ℕ) (slots : List ℕ) (sites : List Site) (book : Book) → FewMore (2 * length sites) book (with_sites t owner slots sites book)
sites_more t owner slots [] book = omega arith
sites_more t owner slots (s ∷ sites) book = by (with_site t owner slots s book) (by_more (find (is_base_of s.at) book.rooms) t owner s.at (body_of slots s.stmts) book) (λ b. sites_more t owner slots sites b)
  where
    further : (b : Book) (r : Result Book Refused) → writes_in b.agenda ≤ writes_in book.agenda + 2 → FewMore (2 * length sites) b r → FewMore (2 * suc (length sites)) book r
    further b (Err refused) l h = tt
    further b (Ok after) l h = omega arith

    by : (r : Result Book Refused) → FewMore 2 book r → ((b : Book) → FewMore (2 * length sites) b (with_sites t owner slots sites b)) → FewMore (2 * suc (length sites)) book (and_then r (with_sites t owner slots sites))
    by (Err refused) h ih = tt
    by (Ok b) h ih = further b (with_sites t owner slots sites b) h (ih b)

abbrev FewPlaced : ℕ → Placements → Result Placements Refused → Type 0
FewPlaced n p (Ok q) = writes_in q.book.agenda ≤ writes_in p.book.agenda + n
FewPlaced n p (Err refused) = Unit {0}

instrument_more : (n : ℕ) (plan : Plan) (slot : ℕ) (r : Result Book Refused) (p : Placements) → FewMore n p.book r → FewPlaced n p (with_instrument plan slot r p)
instrument_more n plan slot (Err refused) p h = tt
instrument_more n plan slot (Ok book) p h = h

slots_more : (o : Option ℕ) (plan : Plan) (p : Placements) → FewPlaced (2 * length plan.sites) p (with_slots o plan p)
slots_more None plan p = tt
slots_more (Some slot) plan p = instrument_more (2 * length plan.sites) plan slot (with_sites p.program p.count (slots_from slot plan.vars) plan.sites p.book) p (sites_more p.program p.count (slots_from slot plan.vars) plan.sites p.book)

pub admission_more : (p : Placements) (plan : Plan) (cost : Option ℕ) → FewPlaced (2 * length plan.sites) p (admission p plan cost)
admission_more p plan cost = by (is_over cost (predicted plan)) (nat_le p.limit (length p.instruments))
  where
    by : (b d : Bool) → FewPlaced (2 * length plan.sites) p (cond b (Err (OverCost (predicted plan))) (cond d (Err TooMany) (with_slots (slots_for (slots_taken p) (slot_count plan.vars)) plan p)))
    by true d = tt
    by false true = tt
    by false false = slots_more (slots_for (slots_taken p) (slot_count plan.vars)) plan p

pub admitted_more : (p : Placements) (plan : Plan) (cost : Option ℕ) → writes_in (or_same p (admission p plan cost)).book.agenda ≤ writes_in p.book.agenda + 2 * length plan.sites
admitted_more p plan cost = by (admission p plan cost) (admission_more p plan cost)
  where
    by : (r : Result Placements Refused) → FewPlaced (2 * length plan.sites) p r → writes_in (or_same p r).book.agenda ≤ writes_in p.book.agenda + 2 * length plan.sites
    by (Err refused) h = omega arith
    by (Ok q) h = h
