-- A room of words is taken, given back, and becomes that of a block.
use Rattle.std.proofs.Common.{◌≡◌, ℕ, ◌+◌, ◌*◌, ◌/◌, ◌<◌, ◌≤◌, List, [], ◌∷◌, ◌++◌, length, Option, Some, None, refl, sym, ap, ◌∙◌, subst, arith, ⊎_elim}
use Rattle.std.specs.Prelude.{Ok, Err}
use Rattle.pn_types.specs.declared.limits.TheConstants.{TOOL_TEXT_LEN}
use Rattle.std.specs.Prelude.{false}
use Rattle.std.specs.Option.{option_map}
use Rattle.rv_word.specs.Plain.{Words, program_word}
use Rattle.tool_space.specs.Rooms.{Rooms, IsRoom, IsLowestRoom, IsTaken, after_take, after_give}
use Rattle.tramp_spec.specs.Blocks.{moved_at}
use Rattle.tramp_spec.specs.MovedWords.{moved_of}
use Rattle.tramp_spec.specs.Codes.{tool_at}
use Rattle.tramp_spec.specs.declared.block.Block.{Block}
use Rattle.tramp_spec.specs.declared.mark.MarkedWord.{MarkedWord}
use Rattle.instrument.specs.Admission.{base_len, a_base, a_mini, rooms_with, with_mini, with_mini_at, with_moved, with_base_at, with_base}
use Rattle.instrument.specs.Books.{Book, mini_room, with_blocks, rooms_of, base_room}
use Rattle.instrument.specs.Fits.{room_for}
use Rattle.instrument.specs.Spaces.{IsSpaceOf, words_of_room, IsWhole, AreRoomsOf, IsRoomTaken, HasNoRoom}
use Rattle.instrument.specs.declared.number.Refused.TheVariants.{NoRoom}
use Rattle.instrument.specs.declared.room.Hold.TheVariants.{Held}
use Rattle.instrument.specs.declared.room.Room.{Room}
use Rattle.std.proofs.Common.{length-append}
use Rattle.instrument.proofs.Fitted.{room_given}
use Rattle.instrument.proofs.Folds.{append_assoc, append_nil, in_append}
use Rattle.instrument.proofs.Holdings.{space_take, space_give, middle, without, may_give, taken}
use Rattle.instrument.proofs.MovedLens.{moved_len}

room_more : (t : Words) (space : Rooms) (rooms : List Room) → AreRoomsOf t space rooms → (unit len : ℕ) → 0 < len → IsRoom space unit len → (space.from ≤ unit) × (unit + len ≤ space.end) → (x : Room) → x.at ≡ 4 * unit → x.len ≡ len
    → AreRoomsOf t (after_take space unit len) (rooms ++ x ∷ [])
room_more t space rooms k unit len some r w x e f =
    let lo = w.0 in let hi = w.1 in
    let u : x.at / 4 ≡ unit = omega (arith, e) in
    record {
      taken = subst (λ n. IsSpaceOf words_of_room (tool_at t / 4) (TOOL_TEXT_LEN / 4) (after_take space n len) (rooms ++ x ∷ [])) u
          (subst (λ n. IsSpaceOf words_of_room (tool_at t / 4) (TOOL_TEXT_LEN / 4) (after_take space (x.at / 4) n) (rooms ++ x ∷ [])) f
          (space_take words_of_room (tool_at t / 4) (TOOL_TEXT_LEN / 4) space rooms k.taken x (omega (arith, f)) (λ n a b. r n (omega (arith, u)) (omega (arith, u, f))) (omega (arith, u)) (omega (arith, u, f))));
      whole = λ y h. ⊎_elim (λ i. k.whole y i) (λ j. ⊎_elim (λ q. subst IsWhole (sym q) (omega (arith, f), omega (arith, e))) (λ n. absurd n) j) (in_append rooms (x ∷ []) y h);
    }

pub room_taken : (space : Rooms) (unit len : ℕ) → 0 < len → 0 < space.takes → IsLowestRoom space unit len → (space.from ≤ unit) × (unit + len ≤ space.end) → IsRoomTaken space (after_take space unit len) (4 * unit) len
room_taken space unit len some takes r w = record {
  found = λ t rooms k. room_given t space rooms k unit len some r w;
  kept = λ t rooms k x e f. room_more t space rooms k unit len some r.free w x e f;
  aligned = omega arith;
  high = let hi = w.1 in omega arith;
  takes = omega arith;
  end = refl;
}

-- the last room is given back
pub room_given_back : (t : Words) (space : Rooms) (rooms : List Room) (x : Room) → AreRoomsOf t space (rooms ++ x ∷ []) → AreRoomsOf t (after_give space (x.at / 4) x.len) rooms
room_given_back t space rooms x k = subst (λ (ys : List Room). AreRoomsOf t (after_give space (x.at / 4) x.len) ys) (append_nil rooms) (record {
  taken = space_give words_of_room (tool_at t / 4) (TOOL_TEXT_LEN / 4) space rooms [] x k.taken (k.whole x (middle rooms [] x)).0;
  whole = λ y h. k.whole y (without rooms [] x y h);
})

-- ---- a mini block

pub with_rooms : (base : Option Block) (owner : ℕ) (mini : Block) (rooms : List Room) → rooms_with base rooms ++ mini_room owner mini ∷ [] ≡ rooms ++ rooms_of base owner mini
with_rooms None owner mini rooms = refl
with_rooms (Some b) owner mini rooms = append_assoc rooms (base_room b ∷ []) (mini_room owner mini ∷ [])

pub mini_placed : (t : Words) (before after : Rooms) (owner point at : ℕ) (body : List MarkedWord) (base : Option Block) (book new : Book) (mini : Block) (len : ℕ) → len ≡ length body + 1 → IsRoomTaken before after at len → AreRoomsOf t before (rooms_with base book.rooms)
    → mini ≡ a_mini point at body → new ≡ with_blocks owner (record { base = base; mini = mini }) book → (with_mini t owner point body base book ≡ Ok new) × AreRoomsOf t after new.rooms
mini_placed t before after owner point at body base book new mini len n r k e f =
    let found : room_for t (rooms_with base book.rooms) (length body + 1) ≡ Some at = sym (ap (room_for t (rooms_with base book.rooms)) n) ∙ r.found t (rooms_with base book.rooms) k in
    let long : length mini.words ≡ len = ap (λ (b : Block). length b.words) e ∙ (length-append body _ ∙ sym n) in
    let is_at : mini.at ≡ at = ap (λ (b : Block). b.at) e in (
      ap (λ o. with_mini_at o owner point body base book) found ∙ ap Ok (ap (λ (m : Block). with_blocks owner (record { base = base; mini = m }) book) (sym e) ∙ sym f),
      subst (λ (b : Book). AreRoomsOf t after b.rooms) (sym f) (subst (λ (xs : List Room). AreRoomsOf t after xs) (with_rooms base owner mini book.rooms) (r.kept t (rooms_with base book.rooms) k (mini_room owner mini) is_at long)),
    )

pub no_mini : (t : Words) (before : Rooms) (owner point : ℕ) (body : List MarkedWord) (base : Option Block) (book : Book) (len : ℕ) → len ≡ length body + 1 → HasNoRoom before len → AreRoomsOf t before (rooms_with base book.rooms) → with_mini t owner point body base book ≡ Err (NoRoom len)
no_mini t before owner point body base book len n r k =
    ap (λ o. with_mini_at o owner point body base book) (sym (ap (room_for t (rooms_with base book.rooms)) n) ∙ r t (rooms_with base book.rooms) k) ∙ ap (λ m. Err (NoRoom m)) (sym n)

-- ---- a room that was taken, and isn't in the book

abbrev a_room : ℕ → ℕ → Room
a_room at len = record { point = 0; at = at; len = len; base = false; owner = 0; hold = Held }

held_after : (t : Words) (before after : Rooms) (rooms : List Room) (at len : ℕ) → AreRoomsOf t before rooms → IsRoomTaken before after at len → AreRoomsOf t after (rooms ++ a_room at len ∷ [])
held_after t before after rooms at len k r = r.kept t rooms k (a_room at len) refl refl

pub may_give_back : (t : Words) (before after : Rooms) (rooms : List Room) (at len : ℕ) → AreRoomsOf t before rooms → IsRoomTaken before after at len → 0 < after.gives
may_give_back t before after rooms at len k r =
    let h = held_after t before after rooms at len k r in
    may_give words_of_room (tool_at t / 4) (TOOL_TEXT_LEN / 4) after rooms [] (a_room at len) h.taken (h.whole (a_room at len) (middle rooms [] (a_room at len))).0

pub is_taken : (t : Words) (before after : Rooms) (rooms : List Room) (at len : ℕ) → AreRoomsOf t before rooms → IsRoomTaken before after at len → IsTaken after (at / 4) len
is_taken t before after rooms at len k r =
    taken words_of_room (tool_at t / 4) (TOOL_TEXT_LEN / 4) after (rooms ++ a_room at len ∷ []) (held_after t before after rooms at len k r).taken (a_room at len) (middle rooms [] (a_room at len))

pub given_back : (t : Words) (before after : Rooms) (rooms : List Room) (at len : ℕ) → AreRoomsOf t before rooms → IsRoomTaken before after at len → AreRoomsOf t (after_give after (at / 4) len) rooms
given_back t before after rooms at len k r = room_given_back t after rooms (a_room at len) (held_after t before after rooms at len k r)

-- ---- a base block

record IsBaseOf (point word at : ℕ) (base : Block) : Type 0 where
  moved : List MarkedWord
  movable : moved_of word point (moved_at at) ≡ Some moved
  is : base ≡ a_base point at moved

base_of : (point word at : ℕ) (base : Block) → option_map (a_base point at) (moved_of word point (moved_at at)) ≡ Some base → IsBaseOf point word at base
base_of point word at base e = by (moved_of word point (moved_at at)) refl e
  where
    by : (o : Option (List MarkedWord)) → moved_of word point (moved_at at) ≡ o → option_map (a_base point at) o ≡ Some base → IsBaseOf point word at base
    by None q i = absurd cc
    by (Some moved) q i = record { moved = moved; movable = q; is = cc }

pub base_long : (point word at : ℕ) (base : Block) → option_map (a_base point at) (moved_of word point (moved_at at)) ≡ Some base → length base.words ≡ base_len word
base_long point word at base e =
    let b = base_of point word at base e in
    let n = moved_len word point (moved_at at) b.moved b.movable in
    ap (λ (k : Block). length k.words) b.is ∙ omega (arith, n)

pub base_placed : (t : Words) (before after : Rooms) (rooms : List Room) (point word at : ℕ) (base : Block) → option_map (a_base point at) (moved_of word point (moved_at at)) ≡ Some base → AreRoomsOf t before rooms → IsRoomTaken before after at (base_len word)
    → AreRoomsOf t after (rooms_with (Some base) rooms)
base_placed t before after rooms point word at base e k r = r.kept t rooms k (base_room base) (ap (λ (b : Block). b.at) (base_of point word at base e).is) (base_long point word at base e)

pub with_base_is : (t : Words) (before after : Rooms) (owner point word at : ℕ) (body : List MarkedWord) (book : Book) (base : Block) → Some word ≡ program_word t point → option_map (a_base point at) (moved_of word point (moved_at at)) ≡ Some base
    → AreRoomsOf t before book.rooms → IsRoomTaken before after at (base_len word) → with_base (program_word t point) t owner point body book ≡ with_mini t owner point body (Some base) book
with_base_is t before after owner point word at body book base w e k r =
    let b = base_of point word at base e in
    ap (λ o. with_base o t owner point body book) (sym w)
    ∙ (ap (λ o. with_base_at o t word owner point body book) (r.found t book.rooms k)
    ∙ (ap (λ o. with_moved o t at owner point body book) b.movable
    ∙ ap (λ (z : Block). with_mini t owner point body (Some z) book) (sym b.is)))
