-- A word of a block that is written anew, and what stays.
use Rattle.std.proofs.Common.{◌≡◌, ℕ, ◌+◌, ◌-◌, ◌*◌, ◌%◌, ◌<◌, ◌≤◌, List, [], ◌∷◌, ◌++◌, length, Some, refl, sym, ap, ◌∙◌, subst, arith, ⊎_elim, inl, inr}
use Rattle.std.specs.Prelude.{map, true, false, cond, ◌⊎◌, ◌==◌}
use Rattle.std.specs.FinMap.{get, insert}
use Rattle.std.proofs.lemmas.Bool.{true≢false, cases_Bool, cases_eq, cond-true, cond-false, eq-eqb, ne_eqb}
use Rattle.rv_word.specs.Plain.{Words, program_word}
use Rattle.tramp_spec.specs.Codes.{Code, tool_at}
use Rattle.tramp_spec.specs.Jumps.{jump_word}
use Rattle.tramp_spec.specs.Marks.{tool}
use Rattle.tramp_spec.specs.declared.mark.MarkedWord.{MarkedWord}
use Rattle.tramp_spec.proofs.Hops.{Hops, jump_hops}
use Rattle.machine.specs.Cores.{In, Row, Status, Live}
use Rattle.machine.specs.Events.{Apart, link_at, next_of}
use Rattle.machine.proofs.Effects.{link_is}
use Rattle.machine.proofs.Lists.{map_in, get_other, stands_at, get_append}
use Rattle.machine.proofs.Invariant.{Ground, Piece, IsBase, BaseShape, MiniShape, ShapedAs, Shaped, Door, TextWord, Static}
use Rattle.machine.proofs.Homes.{one_block}
use Rattle.machine.proofs.Texts.{text_low}
use Rattle.machine.proofs.Blocks.{shaped_other, shaped_next, link_in, rework, door_of}

-- what a block's word names is its next
pub next_is : (t : Words) (code : Code) (x : Piece) → Shaped t code x → next_of code x.row ≡ x.next
next_is t code x (inl r) =
    let e : link_at x.row ≡ x.row.at + 4 = cond-true x.row.base _ _ r.base in
    link_is code x.row (x.row.at + 4) x.next r.jump e r.hops (r.stands).1.0
next_is t code x (inr r) =
    let l = r.len in
    let n : x.row.at + 4 * (x.row.len - 1) ≡ x.row.at + 4 * length x.body = omega arith in
    let e : link_at x.row ≡ x.row.at + 4 * length x.body = cond-false x.row.base _ _ r.mini ∙ n in
    link_is code x.row (x.row.at + 4 * length x.body) x.next r.jump e r.hops (stands_at code x.row.at (x.body ++ tool r.jump ∷ []) (length x.body) (tool r.jump) r.stands (get_append x.body (tool r.jump)))

pub mini_or_base : (x : Piece) → IsBase x ⊎ (x.row.base ≡ false)
mini_or_base x = ⊎_elim (λ e. inl (record { base = e })) (λ e. inr e) (cases_Bool x.row.base)

-- a word of a block is written anew, and the others stand
module _ (t : Words) (g : Ground t) (code : Code) (rows : List Row) (ps : List Piece) (clock : ℕ) (st : Static t code rows ps clock) where
  -- a jump from a block to an address of the tool text is in reach
  pub tool_hops : (o : Piece) → In o ps → (to : ℕ) → to % 4 ≡ 0 → tool_at t ≤ to → to ≤ tool_at t + 393216 → Hops (link_at o.row) to (jump_word (link_at o.row) to)
  tool_hops o ho to al lo hi =
      let i = link_in t code o.row o.body o.next (st.shapes o ho) in
      let k = st.places o ho in
      let a = k.aligned in
      let l = k.low in
      let u = k.high in
      let i0 = i.0 in
      let i1 = i.1 in
      let i2 = i.2.1 in
      let gh = g.high in
      jump_hops (link_at o.row) to (omega arith) (omega arith) (omega arith) al (omega arith) (omega arith)

  pub shapes_but : (o : Piece) → In o ps → (new jump : ℕ) → Hops (link_at o.row) new jump → (x : Piece) → In x ps → ShapedAs t (insert code (link_at o.row) (tool jump)) x.row x.body (cond (x.row.at == o.row.at) new x.next)
  shapes_but o ho new jump hop x hx =
      ⊎_elim
      (λ (e : x.row.at ≡ o.row.at).
      let same = one_block t code rows ps clock st x o hx ho e in
      subst (λ n. ShapedAs t (insert code (link_at o.row) (tool jump)) x.row x.body n) (sym (cond-true (x.row.at == o.row.at) new x.next (eq-eqb _ _ e)))
      (subst (λ (u : Piece). ShapedAs t (insert code (link_at u.row) (tool jump)) x.row x.body new) same
      (shaped_next t code x.row x.body x.next new jump (subst (λ (u : Piece). Hops (link_at u.row) new jump) (sym same) hop) (st.shapes x hx))))
      (λ (e : x.row.at ≡ o.row.at → ⊥).
      subst (λ n. ShapedAs t (insert code (link_at o.row) (tool jump)) x.row x.body n) (sym (cond-false (x.row.at == o.row.at) new x.next (ne_eqb _ _ e)))
      (shaped_other t code x.row x.body x.next (link_at o.row) _ (away e) (st.shapes x hx)))
      (cases_eq x.row.at o.row.at)
    where
      away : (x.row.at ≡ o.row.at → ⊥) → (link_at o.row < x.row.at) ⊎ (x.row.at + 4 * x.row.len ≤ link_at o.row)
      away e =
          let i = link_in t code o.row o.body o.next (st.shapes o ho) in
          let i0 = i.0 in
          let i1 = i.1 in
          ⊎_elim (λ y. absurd (e (ap (λ (u : Piece). u.row.at) y))) (λ (a : Apart x.row.at x.row.len o.row.at o.row.len). ⊎_elim (λ l. inr (omega arith)) (λ l. inl (omega arith)) a) (st.apart x o hx ho)

  -- the text stands under a write in a block
  pub text_other : (o : Piece) → In o ps → (w : MarkedWord) (a u : ℕ) → program_word t a ≡ Some u → get (insert code (link_at o.row) w) a ≡ get code a
  text_other o ho w a u e =
      let i = (link_in t code o.row o.body o.next (st.shapes o ho)).0 in
      let low = (st.places o ho).low in
      let under = text_low t a u e in get_other code (link_at o.row) a w (λ z. omega arith)

  pub point_word : (b : Piece) → In b ps → IsBase b → (u : ℕ) × (program_word t b.row.point ≡ Some u)
  point_word b hb k = ⊎_elim (λ (r : BaseShape t code b.row b.next). (r.word, r.here)) (λ (r : MiniShape code b.row b.body b.next). absurd (true≢false (sym k.base ∙ r.mini))) (st.shapes b hb)

  door_other : (o : Piece) → In o ps → (w : MarkedWord) (b : Piece) → In b ps → IsBase b → Door code b → Door (insert code (link_at o.row) w) b
  door_other o ho w b hb k d = let q = point_word b hb k in record { jump = d.jump; stands = text_other o ho w b.row.point q.0 q.1 ∙ d.stands; hops = d.hops }

  pub doors_but : (f : Row → Status) → ((x : Piece) → In x ps → IsBase x → f x.row ≡ x.row.status) → (o : Piece) → In o ps → (w : MarkedWord) (b : Piece) → In b ps → IsBase b → f b.row ≡ Live → Door (insert code (link_at o.row) w) b
  doors_but f same o ho w b hb k e = door_other o ho w b hb k (st.doors b hb k (sym (same b hb k) ∙ e))

  pub words_but : (f : Row → Status) (n fam age : Piece → ℕ) → ((x : Piece) → In x ps → IsBase x → f x.row ≡ x.row.status) → (o : Piece) → In o ps → (w : MarkedWord) (a u : ℕ) → program_word t a ≡ Some u → TextWord (insert code (link_at o.row) w) (map (rework f n fam age) ps) a u
  words_but f n fam age same o ho w a u e =
      let other = text_other o ho w a u e in
      ⊎_elim (λ z. inl (other ∙ z))
      (λ (z : (d : Piece) × In d ps × IsBase d × (d.row.point ≡ a) × (d.row.status ≡ Live) × Door code d).
      let d' = rework f n fam age z.0 in
      inr (d', map_in (rework f n fam age) ps z.0 z.1, record { base = (z.2).base }, z.3, same z.0 z.1 z.2 ∙ z.4, door_of (insert code (link_at o.row) w) z.0 d' refl refl (door_other o ho w z.0 z.1 z.2 z.5)))
      (st.words a u e)
