-- A site that is placed has rooms that were free, and the blocks that it is to have.
use Rattle.std.proofs.Common.{◌≡◌, ℕ, ◌+◌, ◌-◌, ◌*◌, ◌%◌, ◌<◌, ◌≤◌, List, [], ◌∷◌, ◌++◌, length, Option, Some, None, Ok, refl, sym, subst, arith, ⊎_elim, inl}
use Rattle.std.specs.Prelude.{find}
use Rattle.std.proofs.lemmas.Bool.{and_from, le-leb}
use Rattle.std.proofs.lemmas.List.{take_at, length-append}
use Rattle.pn_types.specs.declared.limits.TheConstants.{TOOL_TEXT_LEN}
use Rattle.rv_word.specs.Plain.{Words, program_word}
use Rattle.tramp_spec.specs.Blocks.{mini_words, base_words, tail_of, moved_at}
use Rattle.tramp_spec.specs.Bodies.{Harmless}
use Rattle.tramp_spec.specs.Codes.{tool_at}
use Rattle.tramp_spec.specs.Jumps.{jump_word}
use Rattle.tramp_spec.specs.Marks.{tool}
use Rattle.tramp_spec.specs.MovedWords.{moved_of}
use Rattle.tramp_spec.specs.declared.block.Block.{Block}
use Rattle.tramp_spec.specs.declared.mark.MarkedWord.{MarkedWord}
use Rattle.machine.specs.Cores.{In}
use Rattle.machine.specs.Events.{Apart}
use Rattle.machine.specs.Instruments.{body_of_block}
use Rattle.instrument.specs.Admission.{base_len, a_base, a_mini, with_mini_at, with_moved, with_base_at, with_base, with_site_by}
use Rattle.instrument.specs.Books.{Book, Blocks, base_room, is_base_of, with_blocks}
use Rattle.instrument.specs.Fits.{room_for}
use Rattle.instrument.specs.declared.room.Room.{Room}
use Rattle.instrument.proofs.Stages.{GoodBase, GoodMini}
use Rattle.instrument.proofs.Folds.{append_left, append_right}
use Rattle.instrument.proofs.Booked.{SiteFits}
use Rattle.instrument.proofs.Neats.{Neat, neat_more}
use Rattle.instrument.proofs.MovedLens.{moved_len}
use Rattle.instrument.proofs.Fitting.{FreeRoom, free_room}

-- the blocks of a site
pub record Sited (t : Words) (owner p : ℕ) (code : List MarkedWord) (book after : Book) : Type 0 where
  pub k : Blocks
  pub is : after ≡ with_blocks owner k book
  pub good : GoodMini t k.mini
  pub free : (x : Room) → In x book.rooms → Apart x.at x.len k.mini.at (length k.mini.words)
  pub fits : SiteFits t book.rooms k.base k.mini
  pub point : k.mini.point ≡ p
  pub body : body_of_block k.mini ≡ code

pub mini_words_len : (at : ℕ) (body : List MarkedWord) (next : ℕ) → length (mini_words at body next) ≡ length body + 1
mini_words_len at body next = length-append body (tool (jump_word (at + 4 * length body) next) ∷ [])

pub body_is : (point at : ℕ) (body : List MarkedWord) → body_of_block (a_mini point at body) ≡ body
body_is point at body =
    let l = mini_words_len at body at in
    let n : length body ≡ length (mini_words at body at) - 1 = omega (arith, l) in
    take_at body (tool (jump_word (at + 4 * length body) at) ∷ []) (length (mini_words at body at) - 1) n

module _ (t : Words) (owner point : ℕ) (body : List MarkedWord) (book : Book) (neat : Neat book.rooms) (harmless : Harmless body) where
  good_mini : (rooms : List Room) (at : ℕ) → FreeRoom t rooms at (length body + 1) → GoodMini t (a_mini point at body)
  good_mini rooms at f =
      let l = mini_words_len at body at in
      record {
        mini = refl;
        aligned = f.aligned;
        some = omega (arith, l);
        harmless = subst Harmless (sym (body_is point at body)) harmless;
        place = record { low = f.low; high = subst (λ n. at + 4 * n ≤ tool_at t + TOOL_TEXT_LEN) (sym l) f.high };
      }

  good_base : (at word : ℕ) (moved : List MarkedWord) → program_word t point ≡ Some word → moved_of word point (moved_at at) ≡ Some moved → FreeRoom t book.rooms at (base_len word) → GoodBase t (a_base point at moved)
  good_base at word moved here e f =
      let l = moved_len word point (moved_at at) moved e in
      let a : at + 4 ≤ at + 8 + 1048576 = omega arith in
      let b : at + 8 ≤ at + 4 + 1048574 = omega arith in
      let n : length (base_words at (tail_of at) moved) ≡ base_len word = omega (arith, l) in
      record {
        base = refl;
        shape = record { aligned = f.aligned; word = word; here = here; moved = moved; movable = e; reached = and_from _ _ (le-leb _ _ a) (le-leb _ _ b); is = refl };
        place = record { low = f.low; high = subst (λ n. at + 4 * n ≤ tool_at t + TOOL_TEXT_LEN) (sym n) f.high };
      }

  -- the point has a base block
  on_base : (o : Option ℕ) (b : Room) → room_for t book.rooms (length body + 1) ≡ o → find (is_base_of point) book.rooms ≡ Some b → (after : Book) → with_mini_at o owner point body None book ≡ Ok after → Sited t owner point body book after
  on_base None b r f after e = absurd cc
  on_base (Some at) b r f after e =
      let k : Blocks = record { base = None; mini = a_mini point at body } in
      let i : with_blocks owner k book ≡ after = cc in
      let z = free_room t book.rooms (length body + 1) at (omega arith) neat r in
      record {
        k = k;
        is = sym i;
        good = good_mini book.rooms at z;
        free = λ x h. subst (λ n. Apart x.at x.len at n) (sym (mini_words_len at body at)) (z.apart x h);
        fits = (b, f);
        point = refl;
        body = body_is point at body;
      }

  -- it gets one
  module _ (word base : ℕ) (moved : List MarkedWord) (here : program_word t point ≡ Some word) (movable : moved_of word point (moved_at base) ≡ Some moved)
      (room : FreeRoom t book.rooms base (base_len word)) (none : find (is_base_of point) book.rooms ≡ None) where
    abbrev d : Block
    d = a_base point base moved

    base_is : length (base_words base (tail_of base) moved) ≡ base_len word
    base_is = let l = moved_len word point (moved_at base) moved movable in omega (arith, l)

    base_free : (x : Room) → In x book.rooms → Apart x.at x.len base (length (base_words base (tail_of base) moved))
    base_free x h = subst (λ n. Apart x.at x.len base n) (sym base_is) (room.apart x h)

    neat_with : Neat (book.rooms ++ base_room d ∷ [])
    neat_with = neat_more book.rooms (base_room d ∷ []) neat
        (record { apart = ((λ y h. absurd h), tt); sized = λ x h. ⊎_elim (λ (i : x ≡ base_room d). subst (λ (u : Room). (0 < u.len) × (u.at % 4 ≡ 0)) (sym i) (omega arith, room.aligned)) (λ i. absurd i) h })
        (λ x y hx hy. ⊎_elim (λ i. subst (λ (u : Room). Apart x.at x.len u.at u.len) (sym i) (base_free x hx)) (λ i. absurd i) hy)

    with_new : (o : Option ℕ) → room_for t (book.rooms ++ base_room d ∷ []) (length body + 1) ≡ o → (after : Book) → with_mini_at o owner point body (Some d) book ≡ Ok after → Sited t owner point body book after
    with_new None r after e = absurd cc
    with_new (Some at) r after e =
        let k : Blocks = record { base = Some d; mini = a_mini point at body } in
        let i : with_blocks owner k book ≡ after = cc in
        let z = free_room t (book.rooms ++ base_room d ∷ []) (length body + 1) at (omega arith) neat_with r in
        let l = mini_words_len at body at in
        record {
          k = k;
          is = sym i;
          good = good_mini (book.rooms ++ base_room d ∷ []) at z;
          free = λ x h. subst (λ n. Apart x.at x.len at n) (sym l) (z.apart x (append_left book.rooms (base_room d ∷ []) x h));
          fits = record {
            good = good_base base word moved here movable room;
            same = refl;
            none = none;
            free = base_free;
            both = subst (λ n. Apart base (length (base_words base (tail_of base) moved)) at n) (sym l) (z.apart (base_room d) (append_right book.rooms (base_room d ∷ []) (base_room d) (inl refl)));
          };
          point = refl;
          body = body_is point at body;
        }

  anew : (word : ℕ) → program_word t point ≡ Some word → find (is_base_of point) book.rooms ≡ None → (after : Book) → with_base (Some word) t owner point body book ≡ Ok after → Sited t owner point body book after
  anew word here none after e = at_room (room_for t book.rooms (base_len word)) refl e
    where
      at_moved : (at : ℕ) → room_for t book.rooms (base_len word) ≡ Some at → (m : Option (List MarkedWord)) → moved_of word point (moved_at at) ≡ m → with_moved m t at owner point body book ≡ Ok after → Sited t owner point body book after
      at_moved at r None q i = absurd cc
      at_moved at r (Some moved) q i =
          with_new word at moved here q (free_room t book.rooms (base_len word) at (omega arith) neat r) none
          (room_for t (book.rooms ++ base_room (a_base point at moved) ∷ []) (length body + 1)) refl after i

      at_room : (o : Option ℕ) → room_for t book.rooms (base_len word) ≡ o → with_base_at o t word owner point body book ≡ Ok after → Sited t owner point body book after
      at_room None r i = absurd cc
      at_room (Some at) r i = at_moved at r (moved_of word point (moved_at at)) refl i

  pub sited : (w : (word : ℕ) × (program_word t point ≡ Some word)) (after : Book) → with_site_by (find (is_base_of point) book.rooms) t owner point body book ≡ Ok after → Sited t owner point body book after
  sited w after e = by (find (is_base_of point) book.rooms) refl e
    where
      by : (o : Option Room) → find (is_base_of point) book.rooms ≡ o → with_site_by o t owner point body book ≡ Ok after → Sited t owner point body book after
      by (Some b) f i = on_base (room_for t book.rooms (length body + 1)) b refl f after i
      by None f i = anew w.0 w.1 f after (subst (λ o. with_base o t owner point body book ≡ Ok after) w.1 i)
