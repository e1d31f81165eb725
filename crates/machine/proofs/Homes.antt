-- Where the program is while a hart stands in a block.
use Rattle.std.proofs.Common.{◌≡◌, ℕ, ◌+◌, ◌-◌, ◌*◌, ◌<◌, ◌≤◌, List, length, Some, sym, ap, ◌∙◌, subst, arith, ⊎_elim}
use Rattle.std.specs.Prelude.{true, nat_le, nat_lt}
use Rattle.std.specs.FinMap.{get}
use Rattle.std.proofs.lemmas.Bool.{true≢false, and_parts, and_from, lt-ltb, ltb-true, leb-true, le-leb}
use Rattle.rv_word.specs.Names.{jump_of}
use Rattle.rv_word.specs.Table.{decode_of}
use Rattle.rv_word.specs.Plain.{Words, program_word}
use Rattle.tramp_spec.specs.Codes.{Code}
use Rattle.tramp_spec.specs.Blocks.{home_by, target_or, moved_at}
use Rattle.tramp_spec.specs.MovedWords.{moved_of}
use Rattle.tramp_spec.specs.Marks.{leave}
use Rattle.tramp_spec.specs.declared.mark.MarkedWord.{MarkedWord}
use Rattle.machine.specs.Cores.{In, Row}
use Rattle.machine.specs.Places.{holds, block_at, home_in, home_of, home_of_word}
use Rattle.machine.specs.Events.{Apart}
use Rattle.machine.proofs.Lists.{in_map, map_in, find_gives, find_finds, same_some}
use Rattle.machine.proofs.Invariant.{Piece, IsBase, Linked, the_row, BaseShape, MiniShape, MovedWord, Static}

pub covers : (r : Row) (a : ℕ) → r.at ≤ a → a < r.at + 4 * r.len → holds r a ≡ true
covers r a lo hi = let d : a - r.at < 4 * r.len = omega arith in and_from _ _ (le-leb _ _ lo) (lt-ltb _ _ d)

pub covered : (r : Row) (a : ℕ) → holds r a ≡ true → (r.at ≤ a) × (a < r.at + 4 * r.len)
covered r a e =
    let p = and_parts (nat_le r.at a) (nat_lt (a - r.at) (4 * r.len)) e in
    let lo : r.at ≤ a = leb-true r.at a p.0 in
    let d : a - r.at < 4 * r.len = ltb-true (a - r.at) (4 * r.len) p.1 in (lo, omega arith)

-- the moved words of a base block are those of its shape
pub same_moved : (t : Words) (code : Code) (b : Piece) (m : MovedWord t b) (s : BaseShape t code b.row b.next) → m.moved ≡ s.moved
same_moved t code b m s =
    let e : m.word ≡ s.word = same_some (program_word t b.row.point) m.word s.word m.here s.here in
    same_some (moved_of s.word b.row.point (moved_at b.row.at)) m.moved s.moved (subst (λ w. moved_of w b.row.point (moved_at b.row.at) ≡ Some m.moved) e m.movable) s.movable

pub base_len : (t : Words) (code : Code) (b : Piece) (m : MovedWord t b) (s : BaseShape t code b.row b.next) → b.row.len ≡ 3 + length m.moved
base_len t code b m s = s.len ∙ ap (λ (ws : List MarkedWord). 3 + length ws) (sym (same_moved t code b m s))

module _ (t : Words) (code : Code) (rows : List Row) (ps : List Piece) (clock : ℕ) (st : Static t code rows ps clock) where
  -- a row is that of a piece
  pub piece_of : (r : Row) → In r rows → (p : Piece) × In p ps × (r ≡ p.row)
  piece_of r h = in_map the_row ps r (subst (λ l. In r l) (sym st.images) h)

  pub row_in : (p : Piece) → In p ps → In p.row rows
  row_in p h = subst (λ l. In p.row l) st.images (map_in the_row ps p h)

  pub has_len : (p : Piece) → In p ps → 0 < p.row.len
  has_len p h = ⊎_elim (λ (r : BaseShape t code p.row p.next). let l = r.len in omega arith) (λ (r : MiniShape code p.row p.body p.next). let l = r.len in omega arith) (st.shapes p h)

  pub base_shape : (b : Piece) → In b ps → IsBase b → BaseShape t code b.row b.next
  base_shape b hb k = ⊎_elim (λ (r : BaseShape t code b.row b.next). r) (λ (r : MiniShape code b.row b.body b.next). absurd (true≢false (sym k.base ∙ r.mini))) (st.shapes b hb)

  pub mini_shape : (m : Piece) → In m ps → Linked m → MiniShape code m.row m.body m.next
  mini_shape m hm k = ⊎_elim (λ (r : BaseShape t code m.row m.next). absurd (true≢false (sym r.base ∙ k.mini))) (λ (r : MiniShape code m.row m.body m.next). r) (st.shapes m hm)

  -- blocks that begin alike are one
  pub one_block : (x y : Piece) → In x ps → In y ps → x.row.at ≡ y.row.at → x ≡ y
  one_block x y hx hy e =
      ⊎_elim (λ r. r) (λ (r : Apart x.row.at x.row.len y.row.at y.row.len). let a = has_len x hx in let b = has_len y hy in absurd (⊎_elim (λ l. omega arith) (λ l. omega arith) r)) (st.apart x y hx hy)

  -- so are blocks that share an address
  pub one_place : (x y : Piece) (a : ℕ) → In x ps → In y ps → x.row.at ≤ a → a < x.row.at + 4 * x.row.len → y.row.at ≤ a → a < y.row.at + 4 * y.row.len → x ≡ y
  one_place x y a hx hy lx ux ly uy = ⊎_elim (λ r. r) (λ (r : Apart x.row.at x.row.len y.row.at y.row.len). absurd (⊎_elim (λ l. omega arith) (λ l. omega arith) r)) (st.apart x y hx hy)

  pub block_is : (p : Piece) (a : ℕ) → In p ps → p.row.at ≤ a → a < p.row.at + 4 * p.row.len → block_at rows a ≡ Some p.row
  block_is p a h lo hi =
      let f = find_finds (λ r. holds r a) rows p.row (row_in p h) (covers p.row a lo hi) in
      let g = find_gives (λ r. holds r a) rows f.0 f.1 in
      let q = piece_of f.0 g.0 in
      let k = covered f.0 a g.1 in
      let lo' : (q.0).row.at ≤ a = subst (λ (r : Row). r.at ≤ a) q.2 k.0 in
      let hi' : a < (q.0).row.at + 4 * (q.0).row.len = subst (λ (r : Row). a < r.at + 4 * r.len) q.2 k.1 in
      let same : q.0 ≡ p = one_place q.0 p a q.1 h lo' hi' lo hi in
      f.1 ∙ ap (λ (r : Row). Some r) (q.2 ∙ ap the_row same)

  pub home_word : (p : Piece) (a : ℕ) (w : MarkedWord) → In p ps → p.row.at ≤ a → a < p.row.at + 4 * p.row.len → get code a ≡ Some w → home_of code rows a ≡ home_by w a p.row.point
  home_word p a w h lo hi e = ap (λ o. home_in o code a) (block_is p a h lo hi) ∙ ap (λ o. home_of_word o a p.row.point) e

  pub home_leave : (p : Piece) (a left home : ℕ) → In p ps → p.row.at ≤ a → a < p.row.at + 4 * p.row.len → get code a ≡ Some (leave left) → jump_of (decode_of left) a ≡ Some home → home_of code rows a ≡ home
  home_leave p a left home h lo hi e j = home_word p a (leave left) h lo hi e ∙ ap (λ o. target_or o p.row.point) j
