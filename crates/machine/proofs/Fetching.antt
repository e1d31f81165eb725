-- What a hart fetches, by where it stands.
use Rattle.std.proofs.Common.{◌≡◌, ℕ, suc, ◌+◌, ◌-◌, ◌*◌, ◌%◌, ◌^◌, ◌<◌, ◌≤◌, List, [], ◌∷◌, ◌++◌, length, Option, Some, None, sym, ap, ◌∙◌, subst, arith}
use Rattle.std.specs.Prelude.{true, false, slice_get, unwrap_or}
use Rattle.std.specs.FinMap.{get}
use Rattle.std.proofs.lemmas.Bool.{cond-true, cond-false, and_from, lt-ltb, le-leb, eq-eqb}
use Rattle.std.proofs.lemmas.Option.{slice_get_within}
use Rattle.pn_types.specs.declared.limits.TheConstants.{TOOL_TEXT_LEN}
use Rattle.rv_word.specs.Exec.{Prog}
use Rattle.rv_word.specs.Plain.{Words, PlainHart}
use Rattle.tramp_spec.specs.Codes.{Code, tool_at, is_text_word, is_tool_word}
use Rattle.tramp_spec.specs.Blocks.{moved_at}
use Rattle.tramp_spec.specs.Bodies.{Harmless}
use Rattle.tramp_spec.specs.Harts.{Hart}
use Rattle.tramp_spec.specs.Marks.{tool}
use Rattle.tramp_spec.specs.declared.mark.MarkedWord.{MarkedWord}
use Rattle.tramp_spec.proofs.Moving.{words_move}
use Rattle.machine.specs.Cores.{In, Row}
use Rattle.machine.specs.Turns.{fetched}
use Rattle.machine.proofs.Lists.{stands_at}
use Rattle.machine.proofs.Invariant.{Ground, Piece, IsBase, Linked, base_with, Static, MovedWord, InMini, Dynamic}
use Rattle.machine.proofs.Texts.{in_text, text_low}
use Rattle.machine.proofs.Homes.{base_shape, mini_shape, same_moved}

module _ (t : Words) (g : Ground t) (budget : ℕ) (code : Code) (rows : List Row) (ps : List Piece) (clock : ℕ) (st : Static t code rows ps clock) (h : ℕ) (x : Hart) (y : PlainHart) (p : Prog) (d : Dynamic t budget ps x y) (on : x.stop ≡ None) where
  -- ---- inside

  -- what is inside is fetched where it stands
  pub fetch_inside : (w : MarkedWord) → x.inside ≡ true → tool_at t ≤ x.pc → x.pc + 4 ≤ tool_at t + TOOL_TEXT_LEN → x.pc % 4 ≡ 0 → get code x.pc ≡ Some w → fetched t code x ≡ Some w
  fetch_inside w i lo hi al e =
      let a : (x.pc - tool_at t) % 4 ≡ 0 = omega arith in
      let n : x.pc - tool_at t < TOOL_TEXT_LEN = omega arith in
      let k : is_tool_word t x.pc ≡ true = and_from _ _ (and_from _ _ (le-leb _ _ lo) (lt-ltb _ _ n)) (eq-eqb _ _ a) in
      cond-true x.inside _ _ i ∙ (cond-true (is_tool_word t x.pc) _ _ k ∙ ap (λ o. Some (unwrap_or o (tool 0))) e)

  -- so is a word of a block
  pub fetch_block : (b : Piece) (i : ℕ) (ws : List MarkedWord) (w : MarkedWord) → In b ps → x.inside ≡ true → x.pc ≡ b.row.at + 4 * i → i < b.row.len → get code (b.row.at + 4 * i) ≡ Some w → fetched t code x ≡ Some w
  fetch_block b i ws w hb n e l k =
      let pl = st.places b hb in
      let lo = pl.low in
      let hi = pl.high in
      let al = pl.aligned in
      fetch_inside w n (omega arith) (omega arith) (omega arith) (ap (get code) e ∙ k)

  pub harmless_of : (m : Piece) → In m ps → Linked m → Harmless m.body
  harmless_of m hm k = (mini_shape t code rows ps clock st m hm k).harmless

  pub tool_high : tool_at t + TOOL_TEXT_LEN < 2 ^ 32
  tool_high = let e = g.high in omega arith

  pub body_fits : (m : Piece) → In m ps → Linked m → m.row.at + 4 * length m.body < 2 ^ 64
  body_fits m hm k = let s = mini_shape t code rows ps clock st m hm k in let l = s.len in let hi = (st.places m hm).high in let top = tool_high in omega arith

  -- ---- in a base block

  -- the word of a base block is that of its point
  pub moved_word : (b : Piece) → In b ps → IsBase b → MovedWord t b
  moved_word b hb bs =
      let s = base_shape t code rows ps clock st b hb bs in
      let q = in_text t b.row.point s.word s.here in
      let at = q.at in
      let low = q.low in
      let under = text_low t b.row.point s.word s.here in
      let pl = st.places b hb in
      let lo = pl.low in
      let hi = pl.high in
      let al = pl.aligned in
      let len = s.len in
      let ga = g.aligned in
      let gh = g.high in
      let gs = g.short in
      record {
        word = s.word;
        here = s.here;
        moved = s.moved;
        movable = s.movable;
        moves = words_move s.word b.row.point (moved_at b.row.at) s.moved (g.plain q.i s.word q.is) (g.narrow q.i s.word q.is) (omega arith) (omega arith) (omega arith) (omega arith) (omega arith) s.movable;
      }

  -- the moved word of number j is fetched
  pub fetch_moved : (b : Piece) (hb : In b ps) (bs : IsBase b) (m : MovedWord t b) (j : ℕ) (w : MarkedWord) → x.inside ≡ true → x.pc ≡ moved_at b.row.at + 4 * j → slice_get m.moved j ≡ Some w
      → (fetched t code x ≡ Some w) × (get code x.pc ≡ Some w) × (x.pc < b.row.at + 4 * b.row.len)
  fetch_moved b hb bs m j w i e k =
      let s = base_shape t code rows ps clock st b hb bs in
      let k' : slice_get s.moved j ≡ Some w = subst (λ ws. slice_get ws j ≡ Some w) (same_moved t code b m s) k in
      let l = slice_get_within s.moved j w k' in
      let len = s.len in
      let a : x.pc ≡ b.row.at + 4 * suc (suc (suc j)) = omega arith in
      let st' = stands_at code b.row.at (base_with s.jump s.moved) (suc (suc (suc j))) w s.stands k' in
      (fetch_block b (suc (suc (suc j))) (base_with s.jump s.moved) w hb i a (omega arith) st', ap (get code) a ∙ st', omega arith)

  pub fetch_base : (b : Piece) (hb : In b ps) (bs : IsBase b) (n : ℕ) (w : MarkedWord) → x.inside ≡ true → x.pc ≡ b.row.at + 4 * n → n < 3 → slice_get (base_with (base_shape t code rows ps clock st b hb bs).jump (base_shape t code rows ps clock st b hb bs).moved) n ≡ Some w → fetched t code x ≡ Some w
  fetch_base b hb bs n w i e l k =
      let s = base_shape t code rows ps clock st b hb bs in
      let len = s.len in
      fetch_block b n (base_with s.jump s.moved) w hb i e (omega arith) (stands_at code b.row.at (base_with s.jump s.moved) n w s.stands k)

  pub pc_low : (b : Piece) (n : ℕ) → In b ps → x.pc ≡ b.row.at + 4 * n → n < b.row.len → x.pc + 4 < 2 ^ 64
  pc_low b n hb e l = let hi = (st.places b hb).high in let top = tool_high in omega arith

  -- ---- in a mini block

  -- a word of the block is fetched
  pub fetch_mini : (k : InMini budget ps x y) (j : ℕ) (w : MarkedWord) → j ≡ k.i → j < (k.m).row.len → slice_get ((k.m).body ++ tool (mini_shape t code rows ps clock st k.m k.is_in k.linked).jump ∷ []) j ≡ Some w → fetched t code x ≡ Some w
  fetch_mini k j w e l q =
      let s = mini_shape t code rows ps clock st k.m k.is_in k.linked in
      fetch_block k.m j ((k.m).body ++ tool s.jump ∷ []) w k.is_in k.inside (k.pc ∙ ap (λ n. (k.m).row.at + 4 * n) (sym e)) l (stands_at code (k.m).row.at ((k.m).body ++ tool s.jump ∷ []) j w s.stands q)

  -- ---- outside

  pub fetch_text : (o : Option MarkedWord) → x.inside ≡ false → is_text_word t x.pc ≡ true → get code x.pc ≡ o → fetched t code x ≡ o
  fetch_text o i l e = cond-false x.inside _ _ i ∙ (cond-true (is_text_word t x.pc) (get code x.pc) None l ∙ e)

  pub fetch_none : x.inside ≡ false → is_text_word t x.pc ≡ false → fetched t code x ≡ None
  fetch_none i l = cond-false x.inside _ _ i ∙ cond-false (is_text_word t x.pc) (get code x.pc) None l
