-- Write keeps what is kept.
use Rattle.std.proofs.Common.{◌≡◌, ℕ, suc, ◌+◌, ◌*◌, ◌%◌, ◌<◌, ◌≤◌, List, [], ◌∷◌, ◌++◌, length, Some, refl, sym, ap, ◌∙◌, subst, arith, ⊎_elim, inl, inr}
use Rattle.std.specs.Prelude.{Bool, true, false}
use Rattle.std.specs.FinMap.{get}
use Rattle.std.proofs.lemmas.Bool.{true≢false, cases_Bool}
use Rattle.pn_types.specs.declared.limits.TheConstants.{TOOL_TEXT_LEN}
use Rattle.rv_word.specs.Plain.{Words, PlainHart, Plain, program_word}
use Rattle.tramp_spec.specs.Codes.{Code, tool_at, put_words}
use Rattle.tramp_spec.specs.Blocks.{tail_of}
use Rattle.tramp_spec.specs.Harts.{Hart}
use Rattle.tramp_spec.specs.Jumps.{jump_word}
use Rattle.tramp_spec.specs.Marks.{tool}
use Rattle.tramp_spec.specs.declared.block.Block.{Block}
use Rattle.tramp_spec.specs.declared.mark.MarkedWord.{MarkedWord}
use Rattle.tramp_spec.proofs.Hops.{Hops, jump_hops}
use Rattle.tramp_spec.proofs.Encodings.{jump_reads}
use Rattle.machine.specs.Cores.{In, Row, Live, Core, is_live, is_current}
use Rattle.machine.specs.Events.{Apart, MayWrite, HasShape}
use Rattle.machine.specs.Effects.{row_of, with_block}
use Rattle.machine.proofs.Lists.{in_snoc, snoc_old, map_snoc, put_words_other, put_words_stand, stands_put, AreWordsAt}
use Rattle.machine.proofs.Invariant.{Piece, the_row, IsBase, Linked, LiveOf, BaseShape, MiniShape, ShapedAs, Shaped, Placed, Leads, HasFamily, Door, Static, InBase, InMini, Dynamic, Inv}
use Rattle.machine.proofs.Homes.{has_len, row_in}
use Rattle.machine.proofs.Texts.{text_low}
use Rattle.machine.proofs.Follow.{Image, Kept, All, Nowhere, NoMore}
use Rattle.machine.proofs.BlockWords.{point_word}
use Rattle.machine.proofs.Blocks.{mini_len, shaped_still}

shaped_put : (t : Words) (code : Code) (at : ℕ) (ws : List MarkedWord) (row : Row) (body : List MarkedWord) (next : ℕ) → Apart row.at row.len at (length ws) → ShapedAs t code row body next → ShapedAs t (put_words at ws code) row body next
shaped_put t code at ws row body next o =
    shaped_still t code (put_words at ws code) row body next (λ vs e. stands_put at ws code row.at vs (⊎_elim (λ x. inl (omega arith)) (λ x. inr x) o))

-- a new block, which isn't linked
module _ (c : Core) (s : Plain) (v : Inv c s) (b : Block) (low : tool_at c.program ≤ b.at) (high : b.at + 4 * length b.words ≤ tool_at c.program + TOOL_TEXT_LEN) (aligned : b.at % 4 ≡ 0)
    (free : (r : Row) → In r c.rows → Apart r.at r.len b.at (length b.words)) (new : Piece) (row_is : new.row ≡ row_of b)
    (shaped : Shaped c.program (put_words b.at b.words c.code) new) (alone : IsBase new → (x : Piece) → In x v.ps → IsBase x → x.row.point ≡ b.point → is_current x.row.status ≡ false)
    (leads : IsBase new → new.next ≡ tail_of b.at) where
  abbrev ps : List Piece
  ps = v.ps

  abbrev clock : ℕ
  clock = v.clock

  st : Static c.program c.code c.rows v.ps v.clock
  st = v.static

  old : (x : Piece) → In x v.ps → In x.row c.rows
  old x h = row_in c.program c.code c.rows v.ps v.clock v.static x h

  apart_new : (x : Piece) → In x v.ps → Apart x.row.at x.row.len new.row.at new.row.len
  apart_new x h = subst (λ (u : Row). Apart x.row.at x.row.len u.at u.len) (sym row_is) (free x.row (old x h))

  turned : (a n d m : ℕ) → Apart a n d m → Apart d m a n
  turned a n d m o = ⊎_elim (λ l. inr l) (λ l. inl l) o

  unlinked : Linked new → ⊥
  unlinked k = k.was (ap (λ (u : Row). u.status) row_is)

  new_len : 0 < new.row.len
  new_len = ⊎_elim (λ (r : BaseShape c.program (put_words b.at b.words c.code) new.row new.next). let l = r.len in omega arith) (λ (r : MiniShape (put_words b.at b.words c.code) new.row new.body new.next). let l = r.len in omega arith) shaped

  leads_more : (family n q : ℕ) (live : Bool) → Leads v.ps family n q live → Leads (v.ps ++ new ∷ []) family n q live
  leads_more family n q live l = record {
    lo = l.lo;
    below = l.below;
    free = λ y h o a z. ⊎_elim (λ i. l.free y i o a z) (λ i. let u = o.live in let w = ap (λ (u : Piece). u.row.status) i ∙ ap (λ (u : Row). u.status) row_is in absurd cc) (in_snoc v.ps new y h);
    to = ⊎_elim (λ r. inl r) (λ (r : (m : Piece) × In m v.ps × Linked m × (m.family ≡ family) × (m.age ≡ l.lo) × (m.row.at ≡ q) × (live ≡ true → m.row.status ≡ Live)). inr (r.0, snoc_old v.ps new r.0 r.1, r.2, r.3, r.4, r.5, r.6)) l.to;
  }

  -- what holds of the old ones and of the new one
  each : (P : Piece → Type 0) → ((x : Piece) → In x v.ps → P x) → P new → (x : Piece) → In x (v.ps ++ new ∷ []) → P x
  each P f n x h = ⊎_elim (λ i. f x i) (λ i. subst P (sym i) n) (in_snoc v.ps new x h)

  family_more : (m d : Piece) → HasFamily v.ps m d → HasFamily (v.ps ++ new ∷ []) m d
  family_more m d o = record { is_in = snoc_old v.ps new d o.is_in; base = o.base; at = o.at; point = o.point }

  -- the base of a linked block is an old one
  old_base : (m d : Piece) → In m v.ps → Linked m → HasFamily (v.ps ++ new ∷ []) m d → HasFamily v.ps m d
  old_base m d hm km o = ⊎_elim (λ i. record { is_in = i; base = o.base; at = o.at; point = o.point })
      (λ i.
      let f = st.families m hm km in
      let a = apart_new f.0 (f.1).is_in in
      let n = has_len c.program c.code c.rows v.ps v.clock v.static f.0 (f.1).is_in in
      let e : (f.0).row.at ≡ new.row.at = (f.1).at ∙ (sym o.at ∙ ap (λ (u : Piece). u.row.at) i) in
      let l = new_len in
      absurd (⊎_elim (λ z. omega arith) (λ z. omega arith) a))
      (in_snoc v.ps new d o.is_in)

  same_piece : (x : Piece) → Image (λ r. r.status) x x
  same_piece x = record { at = refl; point = refl; base = refl; body = refl; status = refl; was = λ w. w; family = λ k. refl; age = λ k. refl }

  text_stays : (a u : ℕ) → program_word c.program a ≡ Some u → get (put_words b.at b.words c.code) a ≡ get c.code a
  text_stays a u e = let l = text_low c.program a u e in put_words_other b.at b.words c.code a (inl (omega arith))

  door_stays : (x : Piece) → In x v.ps → IsBase x → Door c.code x → Door (put_words b.at b.words c.code) x
  door_stays x h k d = let q = point_word c.program v.ground c.code c.rows v.ps v.clock v.static x h k in record { jump = d.jump; stands = text_stays x.row.point q.0 q.1 ∙ d.stands; hops = d.hops }

  nothing : IsBase new → (y : Piece) → In y (v.ps ++ new ∷ []) → LiveOf new.row.at y → 0 < y.age → y.age < v.clock → ⊥
  nothing k y h o a z = ⊎_elim
      (λ i.
      let ky : Linked y = record { mini = o.mini; was = λ w. let u = o.live in absurd cc } in
      let f = st.families y i ky in
      let q = apart_new f.0 (f.1).is_in in
      let n = has_len c.program c.code c.rows v.ps v.clock v.static f.0 (f.1).is_in in
      let e : (f.0).row.at ≡ new.row.at = (f.1).at ∙ o.of in
      let l = new_len in
      ⊎_elim (λ z. omega arith) (λ z. omega arith) q)
      (λ i. unlinked (record { mini = sym (ap (λ (u : Piece). u.row.base) i) ∙ o.mini; was = λ w. let u = o.live in let z = ap (λ (u : Piece). u.row.status) i in absurd cc }))
      (in_snoc v.ps new y h)

  static : Static c.program (put_words b.at b.words c.code) (c.rows ++ row_of b ∷ []) (v.ps ++ new ∷ []) v.clock
  static = record {
    images = map_snoc the_row v.ps new ∙ (ap (λ l. l ++ new.row ∷ []) st.images ∙ ap (λ (u : Row). c.rows ++ u ∷ []) row_is);
    shapes = each (Shaped c.program (put_words b.at b.words c.code)) (λ x h. shaped_put c.program c.code b.at b.words x.row x.body x.next (free x.row (old x h)) (st.shapes x h)) shaped;
    places = each (λ x. Placed c.program x.row) st.places (subst (Placed c.program) (sym row_is) (record { aligned = aligned; low = low; high = high }));
    apart = λ x y hx hy. ⊎_elim
        (λ i. ⊎_elim (λ j. st.apart x y i j) (λ j. inr (subst (λ (u : Piece). Apart x.row.at x.row.len u.row.at u.row.len) (sym j) (apart_new x i))) (in_snoc v.ps new y hy))
        (λ i. ⊎_elim (λ j. inr (subst (λ (u : Piece). Apart u.row.at u.row.len y.row.at y.row.len) (sym i) (turned _ _ _ _ (apart_new y j)))) (λ j. inl (i ∙ sym j)) (in_snoc v.ps new y hy))
        (in_snoc v.ps new x hx);
    words = λ a u e.
        let same = text_stays a u e in
        ⊎_elim (λ o. inl (same ∙ o))
        (λ (o : (d : Piece) × In d v.ps × IsBase d × (d.row.point ≡ a) × (d.row.status ≡ Live) × Door c.code d). inr (o.0, snoc_old v.ps new o.0 o.1, o.2, o.3, o.4, door_stays o.0 o.1 o.2 o.5))
        (st.words a u e);
    doors = each (λ x. IsBase x → x.row.status ≡ Live → Door (put_words b.at b.words c.code) x) (λ x h k e. door_stays x h k (st.doors x h k e)) (λ k e. let w = ap (λ (u : Row). u.status) row_is in absurd cc);
    single = λ x y hx hy bx by e cx cy. ⊎_elim
        (λ i. ⊎_elim (λ j. st.single x y i j bx by e cx cy)
        (λ j. absurd (true≢false (sym cx ∙ alone (subst IsBase j by) x i bx (e ∙ (ap (λ (u : Piece). u.row.point) j ∙ ap (λ (u : Row). u.point) row_is))))) (in_snoc v.ps new y hy))
        (λ i. ⊎_elim
        (λ j. absurd (true≢false (sym cy ∙ alone (subst IsBase i bx) y j by (sym e ∙ (ap (λ (u : Piece). u.row.point) i ∙ ap (λ (u : Row). u.point) row_is)))))
        (λ j. i ∙ sym j) (in_snoc v.ps new y hy))
        (in_snoc v.ps new x hx);
    ages = each (λ m. Linked m → (0 < m.age) × (m.age < v.clock)) st.ages (λ k. absurd (unlinked k));
    distinct = λ x y hx hy kx ky e. ⊎_elim
        (λ i. ⊎_elim (λ j. st.distinct x y i j kx ky e) (λ j. absurd (unlinked (subst Linked j ky))) (in_snoc v.ps new y hy))
        (λ i. absurd (unlinked (subst Linked i kx))) (in_snoc v.ps new x hx);
    families = each (λ m. Linked m → (d : Piece) × HasFamily (v.ps ++ new ∷ []) m d) (λ m h k. let o = st.families m h k in (o.0, family_more m o.0 o.1)) (λ k. absurd (unlinked k));
    used = λ m d hm km o lv. ⊎_elim (λ i. st.used m d i km (old_base m d i km o) lv) (λ i. absurd (unlinked (subst Linked i km))) (in_snoc v.ps new m hm);
    chains = each (λ m. Linked m → Leads (v.ps ++ new ∷ []) m.family m.age m.next (is_live m.row.status)) (λ m h k. leads_more m.family m.age m.next (is_live m.row.status) (st.chains m h k)) (λ k. absurd (unlinked k));
    heads = each (λ d. IsBase d → Leads (v.ps ++ new ∷ []) d.row.at v.clock d.next (is_current d.row.status)) (λ d h k. leads_more d.row.at v.clock d.next (is_current d.row.status) (st.heads d h k))
        (λ k. record { lo = 0; below = v.some; free = nothing k; to = inl (refl, leads k ∙ ap (λ (u : Row). tail_of u.at) (sym row_is)) });
  }

  stays : (x : Hart) (y : PlainHart) → Dynamic c.program c.budget v.ps x y → Dynamic c.program c.budget (v.ps ++ new ∷ []) x y
  stays x y d = record {
    ticks = d.ticks;
    stop = d.stop;
    first = d.first;
    second = d.second;
    bank = d.bank;
    down = d.down;
    hart = λ e. ⊎_elim (λ o. inl o) (λ r. inr (⊎_elim
        (λ (k : InBase c.program c.budget v.ps x y). inl (record { b = k.b; is_in = snoc_old v.ps new k.b k.is_in; base = k.base; was = k.was; inside = k.inside; place = k.place }))
        (λ (k : InMini c.budget v.ps x y). inr (record { m = k.m; b = k.b; is_in = snoc_old v.ps new k.m k.is_in; linked = k.linked; family = family_more k.m k.b k.family; was = k.was; inside = k.inside; home = k.home; before = k.before; saved = k.saved; i = k.i; f = k.f; pc = k.pc; safe = k.safe })) r)) (d.hart e);
  }

  write_kept : Kept All (λ y. y ≡ new) (λ r. r.status) Nowhere NoMore v.clock v.ps c (with_block b c) s
  write_kept = record {
    inv = record {
      ground = v.ground;
      ps = v.ps ++ new ∷ [];
      clock = v.clock;
      some = v.some;
      static = static;
      prog = v.prog;
      many = v.many;
      harts = λ h x y ex ey. stays x y (v.harts h x y ex ey);
    };
    numbers = λ l k. (k.0, λ y h ly. ⊎_elim (λ i. k.1 y i ly) (λ i. absurd (unlinked (subst Linked i ly))) (in_snoc v.ps new y h));
    follows = record {
      on = λ x h k. (x, snoc_old v.ps new x h, same_piece x);
      back = λ y h. ⊎_elim (λ i. inl (y, i, same_piece y)) (λ i. inr (i, λ k. unlinked (subst Linked i k))) (in_snoc v.ps new y h);
    };
    words = λ a u e but. text_stays a u e;
    program = refl;
    budget = refl;
    harts = refl;
    prog = refl;
  }

-- what a block that is written becomes
pub record Wrote (c : Core) (s : Plain) (v : Inv c s) (b : Block) : Type 0 where
  pub new : Piece
  pub base : new.row.base ≡ b.base
  pub words : b.base ≡ false → (jump : ℕ) × (b.words ≡ new.body ++ tool jump ∷ [])
  pub kept : Kept All (λ y. y ≡ new) (λ r. r.status) Nowhere NoMore v.clock v.ps c (with_block b c) s

write_base : (c : Core) (s : Plain) (v : Inv c s) (b : Block) → MayWrite c b → b.base ≡ true → HasShape c b true → Wrote c s v b
write_base c s v b may e h =
    let k = h.0 in
    let new : Piece = record { row = row_of b; body = []; next = tail_of b.at; family = 0; age = 0 } in
    let g = v.ground in
    let gh = g.high in
    let lo = may.low in
    let hi = may.high in
    let al = k.aligned in
    let hop : Hops (b.at + 4) (tail_of b.at) (jump_word (b.at + 4) (tail_of b.at)) = jump_hops (b.at + 4) (tail_of b.at) (omega arith) (omega arith) (omega arith) (omega arith) (let n = ap length k.is in omega arith) (let n = ap length k.is in omega arith) in
    let shaped : Shaped c.program (put_words b.at b.words c.code) new =
    inl (record {
      base = e;
      word = k.word;
      here = k.here;
      moved = k.moved;
      movable = k.movable;
      len = ap length k.is ∙ (let z : suc (suc (suc (length k.moved))) ≡ 3 + length k.moved = omega arith in z);
      jump = jump_word (b.at + 4) (tail_of b.at);
      hops = hop;
      stands = subst (λ l. AreWordsAt (put_words b.at b.words c.code) b.at l) k.is (put_words_stand b.at b.words c.code);
    }) in
    record {
      new = new;
      base = refl;
      words = λ f. absurd (true≢false (sym e ∙ f));
      kept = write_kept c s v b may.low may.high k.aligned may.apart new refl shaped
          (λ z x hx bx p. ap is_current (h.1 x.row (row_in c.program c.code c.rows v.ps v.clock v.static x hx) bx.base p)) (λ z. refl);
    }

write_mini : (c : Core) (s : Plain) (v : Inv c s) (b : Block) → MayWrite c b → b.base ≡ false → HasShape c b false → Wrote c s v b
write_mini c s v b may e h =
    let k = h.1 in
    let at = b.at + 4 * length k.body in
    let hop = jump_reads at h.0 in
    let new : Piece = record { row = row_of b; body = k.body; next = hop.0; family = 0; age = 0 } in
    let shaped : Shaped c.program (put_words b.at b.words c.code) new =
    inr (record {
      mini = e;
      len = ap length k.is ∙ mini_len k.body (tool (jump_word at h.0));
      harmless = k.harmless;
      jump = jump_word at h.0;
      hops = record { offset = hop.1; is = hop.2; leads = hop.3 };
      stands = subst (λ l. AreWordsAt (put_words b.at b.words c.code) b.at l) k.is (put_words_stand b.at b.words c.code);
    }) in
    record {
      new = new;
      base = refl;
      words = λ f. (jump_word at h.0, k.is);
      kept = write_kept c s v b may.low may.high k.aligned may.apart new refl shaped (λ z. absurd (true≢false (sym z.base ∙ e))) (λ z. absurd (true≢false (sym z.base ∙ e)));
    }

pub write : (c : Core) (s : Plain) (v : Inv c s) (b : Block) → MayWrite c b → Wrote c s v b
write c s v b may = ⊎_elim (λ e. write_base c s v b may e (subst (HasShape c b) e may.shape)) (λ e. write_mini c s v b may e (subst (HasShape c b) e may.shape)) (cases_Bool b.base)
