-- What the machine's rows are, where it keeps what it keeps.
use Rattle.std.proofs.Common.{◌≡◌, ℕ, ◌+◌, ◌-◌, ◌*◌, ◌%◌, ◌^◌, ◌<◌, ◌≤◌, List, [], ◌∷◌, ◌++◌, length, Some, sym, ◌∙◌, arith, ⊎_elim}
use Rattle.std.specs.Prelude.{filter, true, false, ◌⊎◌, ◌&&◌, ◌==◌}
use Rattle.std.proofs.lemmas.Bool.{and_parts, and_from, le-leb, eqb-true}
use Rattle.std.proofs.lemmas.List.{length-take-le, length-append}
use Rattle.tramp_spec.specs.Blocks.{mini_words}
use Rattle.tramp_spec.specs.Codes.{tool_at, put_words}
use Rattle.tramp_spec.specs.Jumps.{jump_word, reaches}
use Rattle.tramp_spec.specs.Marks.{tool}
use Rattle.tramp_spec.specs.declared.block.Block.{Block}
use Rattle.tramp_spec.proofs.Hops.{Hops, jump_hops}
use Rattle.machine.specs.Cores.{In, Row, Written, Core, is_current}
use Rattle.machine.specs.Events.{Apart, current_base, link_at, next_of}
use Rattle.machine.specs.Instruments.{body_of_block}
use Rattle.machine.specs.Kept.{IsInvariant}
use Rattle.machine.specs.Reached.{IsReached}
use Rattle.machine.proofs.Effects.{link_is}
use Rattle.machine.proofs.KeptRows.{linkings_to, kept_there, tool_high, has_len, row_there, link_inside, head_inside}
use Rattle.machine.proofs.Lists.{find_gives, filter_in, put_words_stand, stands_at, get_append}
use Rattle.instrument.specs.declared.entry.Entry.{Entry}
use Rattle.instrument.proofs.Stages.{GoodMini, a_row, is_now, pending, AllApart}
use Rattle.instrument.proofs.Folds.{apart_across}
use Rattle.instrument.proofs.Claims.{Sized, base_now}

-- a mini block without its last word
pub body_len : (b : Block) → 0 < length b.words → length (body_of_block b) + 1 ≡ length b.words
body_len b some = let e = length-take-le (length b.words - 1) b.words (omega arith) in omega (arith, e)

pub leading_len : (b : Block) (n : ℕ) → 0 < length b.words → length (mini_words b.at (body_of_block b) n) ≡ length b.words
leading_len b n some =
    length-append (body_of_block b) (tool (jump_word (b.at + 4 * length (body_of_block b)) n) ∷ []) ∙ body_len b some

module _ (c : Core) (v : IsReached c) where
  k : IsInvariant (linkings_to c v) c
  k = kept_there c v

  pub same_row : (x y : Row) → In x c.rows → In y c.rows → x.at ≡ y.at → x ≡ y
  same_row x y hx hy e = row_there (linkings_to c v) c k x y hx hy e

  pub rows_apart : (x y : Row) → In x c.rows → In y c.rows → (x ≡ y) ⊎ Apart x.at x.len y.at y.len
  rows_apart x y hx hy = k.apart x y hx hy

  pub row_place : (r : Row) → In r c.rows → (tool_at c.program ≤ r.at) × (0 < r.len)
  row_place r h = ((k.blocks r h).low, has_len (linkings_to c v) c k r h)

  -- the word that leads on stands in the block
  pub link_place : (r : Row) → In r c.rows → (r.at ≤ link_at r) × (link_at r + 4 ≤ r.at + 4 * r.len)
  link_place r h = link_inside (linkings_to c v) c k r h

  pub into_now : (r : Row) → In r c.rows → is_current r.status ≡ true → In r (filter is_now c.rows)
  into_now r h e = filter_in is_now c.rows r h e

  pub base_of : (p : ℕ) (b : Row) → current_base (filter is_now c.rows) p ≡ Some b → (current_base c.rows p ≡ Some b) × In b c.rows × (b.base ≡ true) × (b.point ≡ p) × (is_current b.status ≡ true)
  base_of p b e =
      let e' : current_base c.rows p ≡ Some b = sym (base_now p c.rows) ∙ e in
      let g = find_gives (λ r. r.base && ((r.point == p) && is_current r.status)) c.rows b e' in
      let a = and_parts b.base ((b.point == p) && is_current b.status) g.1 in
      let z = and_parts (b.point == p) (is_current b.status) a.1 in
      (e', g.0, a.0, eqb-true b.point p z.0, z.1)

  -- two bases of a point that aren't retired
  pub one_base : (x y : Row) → In x c.rows → In y c.rows → x.base ≡ true → y.base ≡ true → x.point ≡ y.point → is_current x.status ≡ true → is_current y.status ≡ true → x ≡ y
  one_base x y hx hy bx by e cx cy = k.bases x y hx hy bx by e cx cy

  -- a pending block begins where no row does
  pub pending_at : (es : List Entry) → Sized es → AllApart (c.rows ++ pending es) → (o r : Row) → In o c.rows → In r (pending es) → r.at ≡ o.at → ⊥
  pending_at es z a o r ho hr e =
      let l = (row_place o ho).1 in let m = (z r hr).0 in
      ⊎_elim (λ i. omega arith) (λ i. omega arith) (apart_across c.rows (pending es) a o r ho hr)

  -- the head of a base block leads to its tail or to a block of the tool text
  pub head_low : (p : ℕ) (b : Row) → current_base c.rows p ≡ Some b → (next_of c.code b % 4 ≡ 0) × (tool_at c.program ≤ next_of c.code b) × (next_of c.code b ≤ tool_at c.program + 393216)
  head_low p b e =
      let g = find_gives (λ r. r.base && ((r.point == p) && is_current r.status)) c.rows b e in
      head_inside (linkings_to c v) c k b g.0 (and_parts b.base ((b.point == p) && is_current b.status) g.1).0

  -- a mini block that leads to there
  module _ (b : Block) (g : GoodMini c.program b) (to : ℕ) (al : to % 4 ≡ 0) (lo : tool_at c.program ≤ to) (hi : to ≤ tool_at c.program + 393216) where
    pub reach : reaches (b.at + 4 * length (body_of_block b)) to ≡ true
    reach =
        let n = body_len b g.some in
        let l = g.place.low in
        let h = g.place.high in
        let a : b.at + 4 * length (body_of_block b) ≤ to + 1048576 = omega (arith, n) in
        let z : to ≤ b.at + 4 * length (body_of_block b) + 1048574 = omega (arith, n) in
        and_from _ _ (le-leb _ _ a) (le-leb _ _ z)

    pub next_new : next_of (put_words b.at (mini_words b.at (body_of_block b) to) c.code) (a_row b.point b.at (length (mini_words b.at (body_of_block b) to)) false Written) ≡ to
    next_new =
        let n = body_len b g.some in
        let m = leading_len b to g.some in
        let l = g.place.low in
        let h = g.place.high in
        let th = tool_high c v in
        let ba = g.aligned in
        let e : b.at + 4 * (length (mini_words b.at (body_of_block b) to) - 1) ≡ b.at + 4 * length (body_of_block b) = omega (arith, n, m) in
        let a : b.at + 4 * length (body_of_block b) ≤ to + 1048576 = omega (arith, n) in
        let z : to ≤ b.at + 4 * length (body_of_block b) + 1048574 = omega (arith, n) in
        let f : (b.at + 4 * length (body_of_block b)) % 4 ≡ 0 = omega arith in
        let u : b.at + 4 * length (body_of_block b) < 2 ^ 32 = omega (arith, n) in
        let w : to < 2 ^ 32 = omega arith in
        let hop : Hops (b.at + 4 * length (body_of_block b)) to (jump_word (b.at + 4 * length (body_of_block b)) to) = jump_hops (b.at + 4 * length (body_of_block b)) to a z f al u w in
        link_is (put_words b.at (mini_words b.at (body_of_block b) to) c.code) (a_row b.point b.at (length (mini_words b.at (body_of_block b) to)) false Written)
        (b.at + 4 * length (body_of_block b)) to (jump_word (b.at + 4 * length (body_of_block b)) to) e hop
        (stands_at _ b.at (mini_words b.at (body_of_block b) to) (length (body_of_block b)) (tool (jump_word (b.at + 4 * length (body_of_block b)) to)) (put_words_stand b.at (mini_words b.at (body_of_block b) to) c.code) (get_append (body_of_block b) _))
