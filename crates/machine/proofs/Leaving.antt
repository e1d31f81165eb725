-- A hart inside is soon outside.
use Rattle.std.proofs.Common.{◌≡◌, ℕ, zero, suc, ◌+◌, ◌<◌, ◌≤◌, List, Option, Some, None, refl, sym, ap, ◌∙◌, subst, arith, ⊎_elim, inl, inr}
use Rattle.std.specs.Prelude.{Bool, true, false, not, is_none, IsTrue, slice_get, ◌⊎◌, ◌||◌}
use Rattle.std.specs.FinMap.{get}
use Rattle.std.proofs.lemmas.Bool.{true≢false}
use Rattle.std.proofs.lemmas.Grind.{common_steps}
use Rattle.std.proofs.lemmas.Option.{slice_get_within}
use Rattle.rv_word.specs.Plain.{Words, PlainHart, Plain, Alone, program_word}
use Rattle.rv_word.specs.Plain as plain
use Rattle.rv_word.specs.declared.outcome.Cause.{Cause}
use Rattle.rv_mem.specs.Start.{program_of}
use Rattle.rv_exec.specs.Start.{start}
use Rattle.rv_exec.specs.Run.{run_from}
use Rattle.tramp_spec.specs.Codes.{Code, is_text_word}
use Rattle.tramp_spec.specs.Harts.{Hart, Solo, step_of, is_tick}
use Rattle.tramp_spec.specs.Marks.{own, enter}
use Rattle.tramp_spec.specs.MovedWords.{own_place}
use Rattle.machine.specs.Cores.{In, Row, Core, Live, start_core}
use Rattle.machine.specs.Places.{block_at, program_pc}
use Rattle.machine.specs.Events.{Turn}
use Rattle.machine.specs.Effects.{owned}
use Rattle.machine.specs.Turns.{fetched, may_turn, turn, turn_by, put_back, is_runnable, turn_alone}
use Rattle.machine.specs.LinkedSites.{enters}
use Rattle.machine.specs.Leaving.{words_at, is_out_now, OutWithin, OutSoon, LeavesSoon}
use Rattle.machine.specs.Replays.{replay, owns}
use Rattle.machine.proofs.Beginning.{begins}
use Rattle.machine.proofs.Fetching.{fetch_text, fetch_none}
use Rattle.machine.proofs.Homes.{base_shape, base_len, block_is, one_block, has_len}
use Rattle.machine.proofs.Invariant.{Piece, IsBase, Door, BasePlace, Static, Outside, HartOk, InBase, InMini, Dynamic, Inv}
use Rattle.machine.proofs.Lefts.{is_ahead, ahead, ahead_of, left_at, left, Below, Soon}
use Rattle.machine.proofs.Standing.{in_base, in_mini}
use Rattle.machine.proofs.Lists.{get_set_same, get_set_other, length_slice_set, same_some}
use Rattle.machine.proofs.Nexts.{entering}
use Rattle.machine.proofs.Steps.{puts, within, not_stopped, step, all_events}
use Rattle.machine.proofs.Texts.{text_cases}
use Rattle.machine.proofs.Turns.{OwesBy, turn_at}
use Rattle.machine.proofs.Ahead.{ahead_linked, base_and_ahead}

module _ (t : Words) (budget : ℕ) (code : Code) (rows : List Row) (ps : List Piece) (clock : ℕ) (st : Static t code rows ps clock) (x : Hart) (y : PlainHart) where
  base_words : (b : Piece) → In b ps → IsBase b → 3 ≤ b.row.len
  base_words b hb bs = let l = (base_shape t code rows ps clock st b hb bs).len in omega arith

  some_at : (b : Piece) → In b ps → IsBase b → (k : BasePlace t budget b x y) → 0 < left_at ps clock b k
  some_at b hb bs (inl k) = let l = base_words b hb bs in omega arith
  some_at b hb bs (inr (inl k)) = let l = base_words b hb bs in omega arith
  some_at b hb bs (inr (inr (inl k))) = let l = base_words b hb bs in omega arith
  some_at b hb bs (inr (inr (inr (inl k)))) =
      let l = base_len t code b k.m (base_shape t code rows ps clock st b hb bs) in
      let tk = ((k.m).moves).tick in
      let w = slice_get_within (k.m).moved (own_place (k.m).word) (own tk.0) tk.1 in
      let j = k.low in
      omega arith
  some_at b hb bs (inr (inr (inr (inr k)))) =
      let l = base_len t code b k.m (base_shape t code rows ps clock st b hb bs) in
      let j = k.low in
      omega arith

  -- inside a turn is left
  some_left : (k : InBase t budget ps x y ⊎ InMini budget ps x y) → 0 < left {t = t} ps clock (inr k)
  some_left (inl k) = some_at k.b k.is_in k.base k.place
  some_left (inr k) = let l = base_words k.b (k.family).is_in (k.family).base in omega arith

below_more : {t : Words} {budget : ℕ} {x : Hart} {y : PlainHart} (ps : List Piece) (clock m n : ℕ) (k : HartOk t budget ps x y) → m ≤ n → Below ps clock (Some m) k → Below ps clock (Some n) k
below_more ps clock m n (inl o) l b = tt
below_more {t = t} ps clock m n (inr k) l b = let u : left {t = t} ps clock (inr k) < m = b in omega arith

-- ---- turn by turn

stopped_out : (most : ℕ) (c : Core) (h : ℕ) (x : Hart) (cause : Cause) → slice_get c.harts h ≡ Some x → x.stop ≡ Some cause → OutWithin most c h
stopped_out zero c h x cause e s = ap is_out_now e ∙ ap (λ o. not (is_none o) || not x.inside) s
stopped_out (suc most) c h x cause e s = inl (ap is_out_now e ∙ ap (λ o. not (is_none o) || not x.inside) s)

left_out : (most : ℕ) (c : Core) (h : ℕ) (x : Hart) → slice_get c.harts h ≡ Some x → x.inside ≡ false → OutWithin most c h
left_out zero c h x e i = ap is_out_now e ∙ grind (arith, common_steps, i)
left_out (suc most) c h x e i = inl (ap is_out_now e ∙ grind (arith, common_steps, i))

can_turn : (x : Hart) (budget : ℕ) → x.stop ≡ None → x.inside ≡ true → IsTrue (may_turn (Some x) budget)
can_turn x budget s i = let n : is_none x.stop ≡ true = ap is_none s in grind (arith, common_steps, i, n)

inside_of : {t : Words} {budget : ℕ} {ps : List Piece} {x : Hart} {y : PlainHart} → InBase t budget ps x y ⊎ InMini budget ps x y → x.inside ≡ true
inside_of (inl k) = k.inside
inside_of (inr k) = k.inside

-- what is claimed of this many turns
abbrev From : ℕ → Type 0
From most =
    (c : Core) (s : Plain) (v : Inv c s) (h : ℕ) (x : Hart) (y : PlainHart) → slice_get c.harts h ≡ Some x → slice_get s.harts h ≡ Some y
    → (d : Dynamic c.program c.budget v.ps x y) → ((on : x.stop ≡ None) → Below v.ps v.clock (Some (suc most)) (d.hart on)) → OutWithin most c h

none_left : From 0
none_left c s v h x y ex ey d u = by x.stop refl
  where
    by : (o : Option Cause) → x.stop ≡ o → OutWithin 0 c h
    by (Some cause) e = stopped_out 0 c h x cause ex e
    by None e = at (d.hart e) (u e)
      where
        at : (k : HartOk c.program c.budget v.ps x y) → Below v.ps v.clock (Some 1) k → OutWithin 0 c h
        at (inl o) b = left_out 0 c h x ex o.outside
        at (inr k) b = let p = some_left c.program c.budget c.code c.rows v.ps v.clock v.static x y k in absurd (omega arith)

module _ (most : ℕ) (rest : From most) (c : Core) (s : Plain) (v : Inv c s) (h : ℕ) (x : Hart) (y : PlainHart) (ex : slice_get c.harts h ≡ Some x) (ey : slice_get s.harts h ≡ Some y) where
  -- after the turn
  behind : (b : Bool) (z : Solo) (n : ℕ) → n ≤ suc most → OwesBy b c.program c.budget v.ps v.clock (Some n) h z y c.prog → OutWithin most (put_back c h z) h
  unfolding puts
  behind true z n l o =
      let a : Alone = plain.turn_alone c.program h (record { hart = y; prog = s.prog }) in
      let soon : Soon c.program c.budget v.ps v.clock (Some n) z.hart a.hart = subst (λ q. Soon c.program c.budget v.ps v.clock (Some n) z.hart (plain.turn_alone c.program h (record { hart = y; prog = q })).hart) v.prog o.1 in
      let p : z.prog ≡ a.prog = o.2 ∙ ap (λ q. (plain.turn_alone c.program h (record { hart = y; prog = q })).prog) v.prog in
      let v' = puts c s (plain.put_back s h a) h x a.hart z v ex (get_set_same s.harts h y a.hart ey) (λ j n. get_set_other s.harts h j a.hart n) (length_slice_set s.harts h a.hart) soon.0 p in
      rest (put_back c h z) (plain.put_back s h a) v' h z.hart a.hart (get_set_same c.harts h x z.hart ex) (get_set_same s.harts h y a.hart ey) soon.0
      (λ e. below_more v.ps v.clock n (suc most) (soon.0.hart e) l (soon.1 e))
  behind false z n l o =
      let soon = o.0 in
      let v' = puts c s s h x y z v ex ey (λ j n. refl) refl soon.0 (o.1 ∙ v.prog) in
      rest (put_back c h z) s v' h z.hart y (get_set_same c.harts h x z.hart ex) ey soon.0 (λ e. below_more v.ps v.clock n (suc most) (soon.0.hart e) l (soon.1 e))

  inside_out : (d : Dynamic c.program c.budget v.ps x y) (on : x.stop ≡ None) (k : InBase c.program c.budget v.ps x y ⊎ InMini c.budget v.ps x y) → left {t = c.program} v.ps v.clock (inr k) < suc (suc most) → OutWithin (suc most) c h
  inside_out d on k l =
      let i = inside_of {t = c.program} k in
      let o = turn_at c.program v.ground c.budget c.code c.rows v.ps v.clock v.static h x y c.prog d on (inl i) (inr k) in
      let can : IsTrue (is_runnable c h) = subst (λ q. IsTrue (may_turn q c.budget)) (sym ex) (can_turn x c.budget on i) in
      let next : OutWithin most (put_back c h (turn_alone c h x)) h = behind (is_tick (fetched c.program c.code x)) (turn_alone c h x) (left {t = c.program} v.ps v.clock (inr k)) (omega arith) o in
      inr (can, subst (λ q. OutWithin most (turn_by q c h) h) (sym ex) next)

  one_more : (d : Dynamic c.program c.budget v.ps x y) → ((on : x.stop ≡ None) → Below v.ps v.clock (Some (suc (suc most))) (d.hart on)) → OutWithin (suc most) c h
  one_more d u = by x.stop refl
    where
      by : (o : Option Cause) → x.stop ≡ o → OutWithin (suc most) c h
      by (Some cause) e = stopped_out (suc most) c h x cause ex e
      by None e = at (d.hart e) (u e)
        where
          at : (k : HartOk c.program c.budget v.ps x y) → Below v.ps v.clock (Some (suc (suc most))) k → OutWithin (suc most) c h
          at (inl o) b = left_out (suc most) c h x ex o.outside
          at (inr k) b = inside_out d e k b

out_within : (most : ℕ) → From most
out_within zero = none_left
out_within (suc most) = λ c s v h x y ex ey d u. one_more most (out_within most) c s v h x y ex ey d u

-- ---- as many as the blocks of the point have words

module _ (t : Words) (budget : ℕ) (code : Code) (rows : List Row) (ps : List Piece) (clock : ℕ) (st : Static t code rows ps clock) (x : Hart) (y : PlainHart) where
  -- the mini blocks of a base block are at its point
  of_point : (b : Piece) (n : ℕ) → In b ps → IsBase b → (m : Piece) → In m ps → is_ahead b.row.at n m ≡ true → m.row.point ≡ b.row.point
  of_point b n hb bs m hm e =
      let k = ahead_linked b.row.at n m e in
      let o = st.families m hm k.0 in
      let same : o.0 ≡ b = one_block t code rows ps clock st o.0 b (o.1).is_in hb ((o.1).at ∙ k.1) in
      sym (o.1).point ∙ ap (λ (z : Piece). z.row.point) same

  all_words : (b : Piece) (n : ℕ) → In b ps → IsBase b → b.row.len + ahead ps b.row.at n ≤ words_at b.row.point rows
  all_words b n hb bs = subst (λ l. b.row.len + ahead ps b.row.at n ≤ words_at b.row.point l) st.images (base_and_ahead ps b b.row.at n b.row.point hb bs refl (of_point b n hb bs))

  left_of_base : (b : Piece) → In b ps → IsBase b → (k : BasePlace t budget b x y) → left_at ps clock b k ≤ words_at b.row.point rows
  left_of_base b hb bs (inl k) = all_words b clock hb bs
  left_of_base b hb bs (inr (inl k)) = let w = all_words b clock hb bs in omega arith
  left_of_base b hb bs (inr (inr (inl k))) = let w = all_words b clock hb bs in omega arith
  left_of_base b hb bs (inr (inr (inr (inl k)))) = let w = all_words b clock hb bs in omega arith
  left_of_base b hb bs (inr (inr (inr (inr k)))) = let w = all_words b clock hb bs in omega arith

  -- the block in which the hart stands, and that no more is left than its point's blocks have words
  record Bounded (n : ℕ) : Type 0 where
    row : Row
    block : block_at rows x.pc ≡ Some row
    most : n ≤ words_at row.point rows

  bounded : (k : InBase t budget ps x y ⊎ InMini budget ps x y) → Bounded (left {t = t} ps clock (inr k))
  bounded (inl k) =
      let w = in_base t budget code rows ps clock st x y k in
      record { row = (k.b).row; block = block_is t code rows ps clock st k.b x.pc k.is_in w.0 w.1; most = left_of_base k.b k.is_in k.base k.place }
  bounded (inr k) =
      let w = in_mini t budget code rows ps clock st x y k in
      let o = k.family in
      let a = ahead_of ps (k.m).family clock k.m k.is_in k.linked refl (st.ages k.m k.is_in k.linked).1 in
      let all = all_words k.b clock o.is_in o.base in
      let same : ahead ps (k.b).row.at clock ≡ ahead ps (k.m).family clock = ap (λ f. ahead ps f clock) o.at in
      let point : words_at (k.b).row.point rows ≡ words_at (k.m).row.point rows = ap (λ p. words_at p rows) o.point in
      record { row = (k.m).row; block = block_is t code rows ps clock st k.m x.pc k.is_in w.0 w.1; most = omega arith }

  -- the bound is that of the block, wherever in it the hart stands
  below_words : (r : Row) → block_at rows x.pc ≡ Some r → (k : HartOk t budget ps x y) → Below ps clock (Some (suc (words_at r.point rows))) k
  below_words r e (inl o) = tt
  below_words r e (inr k) =
      let b = bounded k in
      let same : b.row ≡ r = same_some (block_at rows x.pc) b.row r b.block e in
      let w : words_at b.row.point rows ≡ words_at r.point rows = ap (λ (z : Row). words_at z.point rows) same in
      let m = b.most in
      omega arith

not_down : (x : Hart) (o : Option Cause) → x.inside ≡ true → ((cause : Cause) → o ≡ Some cause → x.inside ≡ false) → o ≡ None
not_down x None i f = refl
not_down x (Some cause) i f = absurd (true≢false (sym i ∙ f cause refl))

out_soon : (c : Core) (s : Plain) → Inv c s → OutSoon c
out_soon c s v h x ex i =
    let q = within c.harts s.harts h x v.many ex in
    let d = v.harts h x q.0 ex q.1 in
    let on = not_down x x.stop i (λ cause e. (d.down cause e).0) in
    stands (d.hart on)
  where
    stands : HartOk c.program c.budget v.ps x (within c.harts s.harts h x v.many ex).0 → (r : Row) × (block_at c.rows x.pc ≡ Some r) × OutWithin (words_at r.point c.rows) c h
    stands (inl o) = absurd (true≢false (sym i ∙ o.outside))
    stands (inr k) =
        let q = within c.harts s.harts h x v.many ex in
        let d = v.harts h x q.0 ex q.1 in
        let b = bounded c.program c.budget c.code c.rows v.ps v.clock v.static x q.0 k in
        (b.row, b.block, out_within (words_at b.row.point c.rows) c s v h x q.0 ex q.1 d (λ on. below_words c.program c.budget c.code c.rows v.ps v.clock v.static x q.0 b.row b.block (d.hart on)))

-- ---- through the jump at a point

module _ (c : Core) (s : Plain) (v : Inv c s) (h : ℕ) (x : Hart) (jump : ℕ) (ex : slice_get c.harts h ≡ Some x) (out : x.inside ≡ false) (may : IsTrue (is_runnable c h)) (f : fetched c.program c.code x ≡ Some (enter jump)) where
  y : (y : PlainHart) × (slice_get s.harts h ≡ Some y)
  y = within c.harts s.harts h x v.many ex

  d : Dynamic c.program c.budget v.ps x y.0
  d = v.harts h x y.0 ex y.1

  can : (x.stop ≡ None) × ((x.inside ≡ true) ⊎ (x.ticks < c.budget))
  can = not_stopped x c.budget (subst (λ o. IsTrue (may_turn o c.budget)) ex may)

  -- the base block to which the jump leads
  door : (b : Piece) × In b v.ps × IsBase b × (b.row.point ≡ x.pc) × Door c.code b
  door = ⊎_elim near (λ r. absurd (none_enters (fetch_none c.program v.ground c.budget c.code c.rows v.ps v.clock v.static h x y.0 c.prog d can.0 out r.1))) (text_cases c.program x.pc)
    where
      none_enters : fetched c.program c.code x ≡ None → ⊥
      none_enters n = let e : None ≡ Some (enter jump) = sym n ∙ f in absurd cc

      own_enters : (w : ℕ) → fetched c.program c.code x ≡ Some (own w) → ⊥
      own_enters w n = true≢false (sym (ap enters f) ∙ ap enters n)

      near : (w : ℕ) × (program_word c.program x.pc ≡ Some w) × (is_text_word c.program x.pc ≡ true) → (b : Piece) × In b v.ps × IsBase b × (b.row.point ≡ x.pc) × Door c.code b
      near r = ⊎_elim (λ (e : get c.code x.pc ≡ Some (own r.0)). absurd (own_enters r.0 (fetch_text c.program v.ground c.budget c.code c.rows v.ps v.clock v.static h x y.0 c.prog d can.0 (Some (own r.0)) out r.2 e)))
          (λ (e : (b : Piece) × In b v.ps × IsBase b × (b.row.point ≡ x.pc) × (b.row.status ≡ Live) × Door c.code b). (e.0, e.1, e.2, e.3, e.5))
          ((v.static).words x.pc r.0 r.1)

  -- where the hart stands after it
  entered : (turn_alone c h x).hart ≡ record x { pc = (door.0).row.at; inside = true }
  entered =
      let o = ⊎_elim (λ e. absurd (true≢false (sym e ∙ out))) (λ l. l) can.1 in
      let outside = ⊎_elim (λ (k : Outside x y.0). k) (λ k. absurd (true≢false (sym (inside_of {t = c.program} k) ∙ out))) (d.hart can.0) in
      let e = door.3 in
      let text = text_word_at in
      let b = (entering c.program v.ground c.budget c.code c.rows v.ps v.clock v.static h x y.0 c.prog d can.0 door.0 door.1 door.3 door.4 outside o text).0 in
      ap (λ q. (step_of q h (program_pc c.code c.rows x) (record { hart = x; prog = c.prog })).hart) b.1 ∙ ap (λ (z : Solo). z.hart) b.3
    where
      text_word_at : fetched c.program c.code x ≡ Some (enter (door.4).jump)
      text_word_at = ⊎_elim
          (λ (r : (w : ℕ) × (program_word c.program x.pc ≡ Some w) × (is_text_word c.program x.pc ≡ true)).
          fetch_text c.program v.ground c.budget c.code c.rows v.ps v.clock v.static h x y.0 c.prog d can.0 (Some (enter (door.4).jump)) out r.2 (ap (get c.code) (sym door.3) ∙ (door.4).stands))
          (λ r. let n = fetch_none c.program v.ground c.budget c.code c.rows v.ps v.clock v.static h x y.0 c.prog d can.0 out r.1 in let e : None ≡ Some (enter jump) = sym n ∙ f in absurd cc)
          (text_cases c.program x.pc)

  out_behind : OutWithin (words_at x.pc c.rows) (turn c h) h
  out_behind =
      let b = door.0 in
      let z = turn_alone c h x in
      let after : Inv (put_back c h z) (run_from c.program (owned c (Turn h)) s) = subst (λ q. Inv (turn_by q c h) (run_from c.program (owned c (Turn h)) s)) ex (step c s (Turn h) v may).1 in
      let at : slice_get (put_back c h z).harts h ≡ Some z.hart = get_set_same c.harts h x z.hart ex in
      let soon = out_soon (put_back c h z) (run_from c.program (owned c (Turn h)) s) after h z.hart at (ap (λ (k : Hart). k.inside) entered) in
      let len = has_len c.program c.code c.rows v.ps v.clock v.static b door.1 in
      let block : block_at c.rows z.hart.pc ≡ Some b.row = ap (λ (k : Hart). block_at c.rows k.pc) entered ∙ block_is c.program c.code c.rows v.ps v.clock v.static b b.row.at door.1 (omega arith) (omega arith) in
      let same : soon.0 ≡ b.row = same_some (block_at c.rows z.hart.pc) soon.0 b.row soon.1 block in
      let point : (soon.0).point ≡ x.pc = ap (λ (r : Row). r.point) same ∙ door.3 in
      subst (λ q. OutWithin (words_at x.pc c.rows) (turn_by q c h) h) (sym ex) (subst (λ p. OutWithin (words_at p c.rows) (put_back c h z) h) point soon.2)

pub leaves_soon : LeavesSoon
leaves_soon image n budget es p l =
    let a = all_events es (program_of image) budget (start_core image n budget) (start image n) refl refl (begins image n budget p) l in
    let c = replay es (start_core image n budget) in
    let s = run_from (program_of image) (owns es (start_core image n budget)) (start image n) in (out_soon c s a.1, λ h x jump ex out may f. out_behind c s a.1 h x jump ex out may f)
