-- The sites of an instrument are placed one after another: the book grows, and is cut to what it was where one is refused.
use Rattle.std.proofs.Common.{◌≡◌, ℕ, zero, suc, ◌+◌, ◌/◌, ◌<◌, ◌≤◌, List, [], ◌∷◌, ◌++◌, Option, Some, None, refl, sym, ap, ◌∙◌, subst, arith, inl, inr, length, take, drop, get_or}
use Rattle.std.specs.Prelude.{Bool, true, false, cond, Ok, Err, Result, ◌-◌, find, IfErr, IfSome, OnOk, OnErr, max}
use Rattle.std.proofs.Math.Nat.{le-max_left}
use Rattle.std.proofs.lemmas.List.{drop_more}
use Rattle.pn_types.specs.declared.limits.TheConstants.{TOOL_TEXT_LEN}
use Rattle.pn_types.specs.declared.plan.Site.{Site}
use Rattle.rv_word.specs.Plain.{Words, program_word}
use Rattle.tool_space.specs.Rooms.{Rooms, after_give, after_reserve}
use Rattle.tramp_spec.specs.Blocks.{moved_at}
use Rattle.tramp_spec.specs.Codes.{tool_at}
use Rattle.tramp_spec.specs.MovedWords.{moved_of}
use Rattle.tramp_spec.specs.Statements.{body_of}
use Rattle.tramp_spec.specs.declared.block.Block.{Block}
use Rattle.tramp_spec.specs.declared.mark.MarkedWord.{MarkedWord}
use Rattle.machine.specs.Cores.{In}
use Rattle.instrument.specs.Admission.{base_len, a_base, a_mini, rooms_with, with_mini_at, with_moved, with_base_at, with_base, with_site_by, with_site, with_sites, and_then}
use Rattle.instrument.specs.Books.{Book, Blocks, is_base_of, rooms_of, placing, with_blocks}
use Rattle.instrument.specs.Fits.{room_for}
use Rattle.instrument.specs.Ledgers.{LedgerData, with_spare}
use Rattle.instrument.specs.Spaces.{words_of_room, AreRoomsOf}
use Rattle.instrument.specs.ToolTexts.{held_minis, is_held_mini, for_drops, IsToolText, IsGrown}
use Rattle.instrument.specs.declared.number.Refused.{Refused}
use Rattle.instrument.specs.declared.room.Room.{Room}
use Rattle.instrument.proofs.Folds.{append_assoc, append_nil}
use Rattle.instrument.proofs.Holdings.{space_give, space_reserved, middle, without}

-- ---- what a site makes of a book

pub record HasBlocks (owner point : ℕ) (before after : Book) : Type 0 where
  pub k : Blocks
  pub at : IfSome k.base (λ b. b.point ≡ point)
  pub is : after ≡ with_blocks owner k before

of_mini : (o : Option ℕ) (owner point : ℕ) (body : List MarkedWord) (base : Option Block) (book new : Book) → IfSome base (λ b. b.point ≡ point) → with_mini_at o owner point body base book ≡ Ok new → HasBlocks owner point book new
of_mini None owner point body base book new p e = absurd cc
of_mini (Some at) owner point body base book new p e = record { at = p; k = record { base = base; mini = a_mini point at body }; is = cc }

of_moved : (o : Option (List MarkedWord)) (t : Words) (at owner point : ℕ) (body : List MarkedWord) (book new : Book) → with_moved o t at owner point body book ≡ Ok new → HasBlocks owner point book new
of_moved None t at owner point body book new e = absurd cc
of_moved (Some moved) t at owner point body book new e = of_mini (room_for t (rooms_with (Some (a_base point at moved)) book.rooms) (length body + 1)) owner point body (Some (a_base point at moved)) book new refl e

of_base_at : (o : Option ℕ) (t : Words) (word owner point : ℕ) (body : List MarkedWord) (book new : Book) → with_base_at o t word owner point body book ≡ Ok new → HasBlocks owner point book new
of_base_at None t word owner point body book new e = absurd cc
of_base_at (Some at) t word owner point body book new e = of_moved (moved_of word point (moved_at at)) t at owner point body book new e

of_base : (o : Option ℕ) (t : Words) (owner point : ℕ) (body : List MarkedWord) (book new : Book) → with_base o t owner point body book ≡ Ok new → HasBlocks owner point book new
of_base None t owner point body book new e = absurd cc
of_base (Some word) t owner point body book new e = of_base_at (room_for t book.rooms (base_len word)) t word owner point body book new e

of_site : (o : Option Room) (t : Words) (owner point : ℕ) (body : List MarkedWord) (book new : Book) → with_site_by o t owner point body book ≡ Ok new → HasBlocks owner point book new
of_site (Some base) t owner point body book new e = of_mini (room_for t book.rooms (length body + 1)) owner point body None book new tt e
of_site None t owner point body book new e = of_base (program_word t point) t owner point body book new e

pub site_blocks : (t : Words) (owner : ℕ) (slots : List ℕ) (s : Site) (book new : Book) → with_site t owner slots s book ≡ Ok new → HasBlocks owner s.at book new
site_blocks t owner slots s book new e = of_site (find (is_base_of s.at) book.rooms) t owner s.at (body_of slots s.stmts) book new e

-- ---- one mini block more is held

held_append : (xs ys : List Room) → held_minis (xs ++ ys) ≡ held_minis xs + held_minis ys
held_append [] ys = omega arith
held_append (x ∷ xs) ys = let r = held_append xs ys in omega (arith, r)

held_of : (base : Option Block) (owner : ℕ) (mini : Block) → held_minis (rooms_of base owner mini) ≡ 1
held_of None owner mini = refl
held_of (Some b) owner mini = refl

pub held_more : (t : Words) (owner : ℕ) (slots : List ℕ) (s : Site) (book new : Book) → with_site t owner slots s book ≡ Ok new → held_minis new.rooms ≡ held_minis book.rooms + 1
held_more t owner slots s book new e =
    let z = site_blocks t owner slots s book new e in
    ap (λ (b : Book). held_minis b.rooms) z.is
    ∙ (held_append book.rooms (rooms_of z.k.base owner z.k.mini)
    ∙ ap (λ n. held_minis book.rooms + n) (held_of z.k.base owner z.k.mini))

-- ---- the book grows

pub grown_none : (book : Book) → IsGrown book book
grown_none book = record { more_rooms = []; more_entries = []; rooms = sym (append_nil book.rooms); agenda = sym (append_nil book.agenda) }

pub grown_site : (t : Words) (owner : ℕ) (slots : List ℕ) (s : Site) (first book new : Book) → IsGrown first book → with_site t owner slots s book ≡ Ok new → IsGrown first new
grown_site t owner slots s first book new g e =
    let z = site_blocks t owner slots s book new e in
    record {
      more_rooms = g.more_rooms ++ rooms_of z.k.base owner z.k.mini;
      more_entries = g.more_entries ++ placing z.k.base z.k.mini;
      rooms = ap (λ (b : Book). b.rooms) z.is ∙ (ap (λ xs. xs ++ rooms_of z.k.base owner z.k.mini) g.rooms ∙ append_assoc first.rooms g.more_rooms (rooms_of z.k.base owner z.k.mini));
      agenda = ap (λ (b : Book). b.agenda) z.is ∙ (ap (λ xs. xs ++ placing z.k.base z.k.mini) g.agenda ∙ append_assoc first.agenda g.more_entries (placing z.k.base z.k.mini));
    }

-- ---- rooms from a place on are given back

abbrev pub Left : ℕ → ℕ → List Room → List Room
Left len place rooms = take len rooms ++ drop place rooms

pub behind_goes : (t : Words) (space : Rooms) (xs ys : List Room) (x : Room) → AreRoomsOf t space (xs ++ x ∷ ys) → AreRoomsOf t (after_give space (x.at / 4) x.len) (xs ++ ys)
behind_goes t space xs ys x k = record {
  taken = space_give words_of_room (tool_at t / 4) (TOOL_TEXT_LEN / 4) space xs ys x k.taken (k.whole x (middle xs ys x)).0;
  whole = λ y h. k.whole y (without xs ys x y h);
}

-- ---- the text is cut

held_take : (n : ℕ) (rooms : List Room) → held_minis (take n rooms) ≤ held_minis rooms
held_take zero rooms = omega arith
held_take (suc n) [] = omega arith
held_take (suc n) (x ∷ xs) = let r = held_take n xs in omega (arith, r)

-- no more of them are held than there are
pub held_few : (rooms : List Room) → held_minis rooms ≤ length rooms
held_few [] = omega arith
held_few (x ∷ rooms) = by (is_held_mini x) (held_few rooms)
  where
    by : (b : Bool) → held_minis rooms ≤ length rooms → cond b 1 0 + held_minis rooms ≤ length (x ∷ rooms)
    by true h = omega (arith, h)
    by false h = omega (arith, h)

pub text_cut : (t : Words) (l m : LedgerData) (words given : Rooms) (n : ℕ) → IsToolText t l words → AreRoomsOf t given (take n l.book.rooms) → m.book.rooms ≡ take n l.book.rooms → m.spare_entries ≡ l.spare_entries → IsToolText t m given
text_cut t l m words given n k r b e =
    let f = held_take n l.book.rooms in
    let h = ap held_minis b in
    record {
      rooms = subst (λ (z : List Room). AreRoomsOf t given z) (sym b) r;
      entries = omega (arith, f, h, e, k.entries);
    }

pub entries_cut : (l m : LedgerData) (n : ℕ) → m.book.rooms ≡ take n l.book.rooms → m.spare_entries ≡ l.spare_entries → l.spare_entries - for_drops l.book.rooms ≤ m.spare_entries - for_drops m.book.rooms
entries_cut l m n b e = let f = held_take n l.book.rooms in let h = ap held_minis b in omega (arith, f, h, e)

-- ---- a site is placed in the text

pub text_placed : {A : Type 0} (t : Words) (l m : LedgerData) (words after : Rooms) (owner : ℕ) (slots : List ℕ) (s : Site) (r : Result A Refused) → IsToolText t l words → AreRoomsOf t after m.book.rooms
    → OnOk r (with_site t owner slots s l.book ≡ Ok m.book) → IfErr r (λ refused. m ≡ l) → 7 ≤ l.spare_entries - for_drops l.book.rooms → l.spare_entries ≤ m.spare_entries + 4
    → IsToolText t m after × (l.spare_entries - for_drops l.book.rooms ≤ m.spare_entries - for_drops m.book.rooms + 7)
text_placed t l m words after owner slots s (Ok x) k r ok err some left =
    let h = held_more t owner slots s l.book m.book ok in
    (record { rooms = r; entries = omega (arith, h, some, left, k.entries) }, omega (arith, h, some, left, k.entries))
text_placed t l m words after owner slots s (Err x) k r ok err some left =
    let h = ap (λ (z : LedgerData). held_minis z.book.rooms) err in
    let e = ap (λ (z : LedgerData). z.spare_entries) err in
    (record { rooms = r; entries = omega (arith, h, e, k.entries) }, omega (arith, h, e, k.entries))

-- ---- each site in turn

pub item_in : {A : Type 0} (xs : List A) (k : ℕ) (x : A) → k < length xs → x ≡ get_or xs k x → In x xs
item_in (y ∷ ys) zero x l e = inl e
item_in (y ∷ ys) (suc k) x l e = inr (item_in ys k x (omega arith) e)
item_in [] k x l e = absurd (omega arith)

pub each_next : (t : Words) (owner : ℕ) (slots : List ℕ) (sites : List Site) (i : ℕ) (x : Site) (book new : Book) → i < length sites → x ≡ get_or sites i x → with_site t owner slots x book ≡ Ok new
    → with_sites t owner slots (drop (i + 1) sites) new ≡ with_sites t owner slots (drop i sites) book
each_next t owner slots sites i x book new l e q =
    sym (ap (λ ss. with_sites t owner slots ss book) (drop_more sites i x l ∙ ap (λ u. u ∷ drop (i + 1) sites) (sym e))
    ∙ ap (λ r. and_then r (with_sites t owner slots (drop (i + 1) sites))) q)

-- ---- memory is reserved

pub text_reserved : {A B : Type 0} (t : Words) (l m : LedgerData) (words after : Rooms) (rooms entries : ℕ) (r : Result A B) → IsToolText t l words → m ≡ with_spare rooms entries l
    → OnOk r (after ≡ after_reserve words rooms) → OnErr r (after ≡ words) → IsToolText t m after
text_reserved {A = A} {B = B} t l m words after rooms entries r k e ok err =
    let h = ap (λ (z : LedgerData). held_minis z.book.rooms) e in
    let s = ap (λ (z : LedgerData). z.spare_entries) e in
    let g = le-max_left l.spare_entries entries in
    record {
      rooms = subst (λ (z : LedgerData). AreRoomsOf t after z.book.rooms) (sym e) (by r ok err);
      entries = omega (arith, h, s, g, k.entries);
    }
  where
    by : (r : Result A B) → OnOk r (after ≡ after_reserve words rooms) → OnErr r (after ≡ words) → AreRoomsOf t after l.book.rooms
    by (Err x) o q = subst (λ (z : Rooms). AreRoomsOf t z l.book.rooms) (sym q) k.rooms
    by (Ok x) o q = subst (λ (z : Rooms). AreRoomsOf t z l.book.rooms) (sym o) (record {
      taken = space_reserved words_of_room (tool_at t / 4) (TOOL_TEXT_LEN / 4) words l.book.rooms (max words.takes rooms) k.rooms.taken;
      whole = k.rooms.whole;
    })
