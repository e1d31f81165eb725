-- LinkPoint and UnlinkPoint keep what is kept.
use Rattle.std.proofs.Common.{◌≡◌, ℕ, ◌+◌, ◌%◌, ◌≤◌, List, Some, refl, sym, ap, ◌∙◌, subst, arith, ⊎_elim, inl, inr}
use Rattle.std.specs.Prelude.{map, Bool, true, false, ◌⊎◌, ◌&&◌, ◌==◌}
use Rattle.std.specs.FinMap.{get, insert}
use Rattle.std.proofs.lemmas.Bool.{true≢false, cases_Bool, cases_eq, cond-true, cond-false, eq-eqb, ne_eqb, eqb-true, and_parts, and_from, and_left, and_right}
use Rattle.rv_word.specs.Plain.{Words, Plain, program_word}
use Rattle.tramp_spec.specs.Codes.{Code, tool_at}
use Rattle.tramp_spec.specs.Jumps.{jump_word}
use Rattle.tramp_spec.specs.Marks.{own, enter}
use Rattle.tramp_spec.proofs.Hops.{Hops, jump_hops}
use Rattle.machine.specs.Cores.{In, Row, Status, Written, Live, Retired, Core, is_live, is_current}
use Rattle.machine.specs.Effects.{at_set, retired_at, point_linked, point_unlinked}
use Rattle.machine.specs.Events.{is_linked, current_base}
pub use Rattle.machine.proofs.Effects.{at_hit, at_miss}
use Rattle.machine.proofs.Lists.{map_in, find_gives, get_same, get_other, same_some}
use Rattle.machine.proofs.Invariant.{Ground, Piece, IsBase, Linked, Leads, HasFamily, Door, TextWord, Static, Inv}
use Rattle.machine.proofs.Homes.{piece_of, one_block}
use Rattle.machine.proofs.Texts.{in_text, text_low}
use Rattle.machine.proofs.Follow.{Kept, All, NoPiece, NoMore, still, reworked}
use Rattle.machine.proofs.Blocks.{shaped_other, static_kept, leads_kept, rework, door_of}

pub live_true : (s : Status) → is_live s ≡ true → s ≡ Live
live_true Written e = absurd (true≢false (sym e))
live_true Live e = refl
live_true Retired e = absurd (true≢false (sym e))

abbrev pub same_next : Piece → ℕ
same_next q = q.next

abbrev pub same_family : Piece → ℕ
same_family q = q.family

abbrev pub same_age : Piece → ℕ
same_age q = q.age

-- the base of a point that isn't retired, as a piece
pub record Current (ps : List Piece) (p : ℕ) (b : Row) : Type 0 where
  pub d : Piece
  pub is_in : In d ps
  pub row : b ≡ d.row
  pub base : IsBase d
  pub point : d.row.point ≡ p
  pub current : is_current d.row.status ≡ true

module _ (t : Words) (code : Code) (rows : List Row) (ps : List Piece) (clock : ℕ) (st : Static t code rows ps clock) where
  pub current_piece : (p : ℕ) (b : Row) → current_base rows p ≡ Some b → Current ps p b
  current_piece p b e =
      let r = find_gives (λ r. r.base && ((r.point == p) && is_current r.status)) rows b e in
      let q = piece_of t code rows ps clock st b r.0 in
      let a = and_parts b.base ((b.point == p) && is_current b.status) r.1 in
      let z = and_parts (b.point == p) (is_current b.status) a.1 in
      record {
        d = q.0;
        is_in = q.1;
        row = q.2;
        base = record { base = sym (ap (λ (u : Row). u.base) q.2) ∙ a.0 };
        point = sym (ap (λ (u : Row). u.point) q.2) ∙ eqb-true b.point p z.0;
        current = sym (ap (λ (u : Row). is_current u.status) q.2) ∙ z.1;
      }

  -- two members of a family have one point
  pub same_point : (m u b : Piece) → HasFamily ps m b → In u ps → Linked u → u.family ≡ m.family → u.row.point ≡ m.row.point
  same_point m u b hf hu ku e =
      let o = st.families u hu ku in
      let same : o.0 ≡ b = one_block t code rows ps clock st o.0 b (o.1).is_in hf.is_in ((o.1).at ∙ (e ∙ sym hf.at)) in
      sym (o.1).point ∙ (ap (λ (u : Piece). u.row.point) same ∙ hf.point)

  pub base_point : (b u : Piece) → In b ps → IsBase b → In u ps → Linked u → u.family ≡ b.row.at → u.row.point ≡ b.row.point
  base_point b u hb bb hu ku e =
      let o = st.families u hu ku in
      let same : o.0 ≡ b = one_block t code rows ps clock st o.0 b (o.1).is_in hb ((o.1).at ∙ e) in
      sym (o.1).point ∙ ap (λ (u : Piece). u.row.point) same

  pub family_of : (m x : Piece) → In m ps → In x ps → Linked m → IsBase x → x.row.at ≡ m.family → HasFamily ps m x
  family_of m x hm hx km bx e =
      let o = st.families m hm km in
      let same : o.0 ≡ x = one_block t code rows ps clock st o.0 x (o.1).is_in hx ((o.1).at ∙ sym e) in
      subst (λ y. HasFamily ps m y) same o.1

-- a jump from the text to a block is in reach
pub text_hops : (t : Words) → Ground t → (p w at : ℕ) → program_word t p ≡ Some w → at % 4 ≡ 0 → tool_at t ≤ at → at ≤ tool_at t + 393216 → Hops p at (jump_word p at)
text_hops t g p w at e al lo hi =
    let q = in_text t p w e in
    let i = q.at in
    let l = q.low in
    let ga = g.aligned in
    let gh = g.high in
    let gs = g.short in jump_hops p at (omega arith) (omega arith) (omega arith) al (omega arith) (omega arith)

module _ (c : Core) (s : Plain) (v : Inv c s) where
  -- LinkPoint
  module _ (p : ℕ) (b : Row) (w : ℕ) (eb : current_base c.rows p ≡ Some b) (ew : program_word c.program p ≡ Some w) where
    pb : Current v.ps p b
    pb = current_piece c.program c.code c.rows v.ps v.clock v.static p b eb

    at_pb : b.at ≡ (pb.d).row.at
    at_pb = ap (λ (u : Row). u.at) pb.row

    hit : (x : Piece) → In x v.ps → x.row.at ≡ b.at → x ≡ pb.d
    hit x h e = one_block c.program c.code c.rows v.ps v.clock v.static x pb.d h pb.is_in (e ∙ at_pb)

    jump : ℕ
    jump = jump_word p b.at

    jump_leads : Hops p b.at (jump_word p b.at)
    jump_leads =
        let k = v.static.places pb.d pb.is_in in
        let e = at_pb in
        let al = k.aligned in
        let lo = k.low in
        let hi = k.high in
        text_hops c.program v.ground p w b.at ew (omega arith) (omega arith) (omega arith)

    abbrev code' : Code
    code' = insert c.code p (enter (jump_word p b.at))

    mini_same : (x : Piece) → In x v.ps → x.row.base ≡ false → at_set b.at Live x.row ≡ x.row.status
    mini_same x h m = at_miss b.at Live x.row (λ e. true≢false (sym (pb.base).base ∙ (sym (ap (λ (u : Piece). u.row.base) (hit x h e)) ∙ m)))

    linked_back : (x : Piece) → In x v.ps → Linked (rework (at_set b.at Live) same_next same_family same_age x) → Linked x
    linked_back x h k = record { mini = k.mini; was = λ e. k.was (mini_same x h k.mini ∙ e) }

    cur_back : (x : Piece) → In x v.ps → is_current (at_set b.at Live x.row) ≡ true → is_current x.row.status ≡ true
    cur_back x h e = ⊎_elim (λ i. ap (λ (u : Piece). is_current u.row.status) (hit x h i) ∙ pb.current) (λ i. ap is_current (sym (at_miss b.at Live x.row i)) ∙ e) (cases_eq x.row.at b.at)

    cur_stays : (x : Piece) → is_current x.row.status ≡ true → is_current (at_set b.at Live x.row) ≡ true
    cur_stays x e = ⊎_elim (λ i. ap is_current (at_hit b.at Live x.row i)) (λ i. ap is_current (at_miss b.at Live x.row i) ∙ e) (cases_eq x.row.at b.at)

    live_stays : (x : Piece) → x.row.status ≡ Live → at_set b.at Live x.row ≡ Live
    live_stays x e = ⊎_elim (λ i. at_hit b.at Live x.row i) (λ i. at_miss b.at Live x.row i ∙ e) (cases_eq x.row.at b.at)

    up : (x : Piece) → (x.row.status ≡ Written → ⊥) → at_set b.at Live x.row ≡ Written → ⊥
    up x n e = ⊎_elim (λ i. let h = at_hit b.at Live x.row i in absurd cc) (λ i. n (sym (at_miss b.at Live x.row i) ∙ e)) (cases_eq x.row.at b.at)

    on : (family from q : ℕ) (live live' : Bool) → (live' ≡ true → live ≡ true) → Leads v.ps family from q live → Leads (map (rework (at_set b.at Live) same_next same_family same_age) v.ps) family from q live'
    on family from q live live' le l =
        leads_kept v.ps (at_set b.at Live) same_next same_family same_age family from from q live live' l l.below
        (λ m h mi fm lv. l.free m h (record { mini = mi; of = fm; live = sym (mini_same m h mi) ∙ lv }))
        (λ u h k fm lv at. ((λ e. k.was (sym (mini_same u h k.mini) ∙ e)), fm, refl, λ e. mini_same u h k.mini ∙ lv (le e)))

    -- the jump stands at the point, for any piece that is the base
    new_door : (x : Piece) → x.row.at ≡ b.at → x.row.point ≡ p → Door code' x
    new_door x e q = record {
      jump = jump_word p b.at;
      stands = ap (get code') q ∙ get_same c.code p (enter (jump_word p b.at));
      hops = subst (λ a. Hops a x.row.at (jump_word p b.at)) (sym q) (subst (λ a. Hops p a (jump_word p b.at)) (sym e) jump_leads);
    }

    old_door : (x : Piece) → (x.row.point ≡ p → ⊥) → Door c.code x → Door code' x
    old_door x n k = record { jump = k.jump; stands = get_other c.code p x.row.point (enter (jump_word p b.at)) n ∙ k.stands; hops = k.hops }

    doors : (x : Piece) → In x v.ps → IsBase x → at_set b.at Live x.row ≡ Live → Door code' x
    doors x h bx e = ⊎_elim
        (λ (i : x.row.at ≡ b.at). new_door x i (ap (λ (u : Piece). u.row.point) (hit x h i) ∙ pb.point))
        (λ (i : x.row.at ≡ b.at → ⊥).
        let live : x.row.status ≡ Live = sym (at_miss b.at Live x.row i) ∙ e in
        old_door x (λ (q : x.row.point ≡ p). i (ap (λ (u : Piece). u.row.at) (v.static.single x pb.d h pb.is_in bx pb.base (q ∙ sym pb.point) (ap is_current live) pb.current) ∙ sym at_pb)) (v.static.doors x h bx live))
        (cases_eq x.row.at b.at)

    words : (a u : ℕ) → program_word c.program a ≡ Some u → TextWord code' (map (rework (at_set b.at Live) same_next same_family same_age) v.ps) a u
    words a u e = ⊎_elim
        (λ (i : a ≡ p). inr (
          rework (at_set b.at Live) same_next same_family same_age pb.d,
          map_in (rework (at_set b.at Live) same_next same_family same_age) v.ps pb.d pb.is_in,
          record { base = (pb.base).base },
          pb.point ∙ sym i,
          at_hit b.at Live (pb.d).row (sym at_pb),
          new_door (rework (at_set b.at Live) same_next same_family same_age pb.d) (sym at_pb) pb.point,
        ))
        (λ (i : a ≡ p → ⊥).
        let same = get_other c.code p a (enter (jump_word p b.at)) i in
        ⊎_elim (λ o. inl (same ∙ o))
        (λ (o : (d : Piece) × In d v.ps × IsBase d × (d.row.point ≡ a) × (d.row.status ≡ Live) × Door c.code d).
        let d' = rework (at_set b.at Live) same_next same_family same_age o.0 in
        inr (d', map_in (rework (at_set b.at Live) same_next same_family same_age) v.ps o.0 o.1, record { base = (o.2).base }, o.3, live_stays o.0 o.4, old_door d' (λ q. i (sym o.3 ∙ q)) (door_of c.code o.0 d' refl refl o.5)))
        (v.static.words a u e))
        (cases_eq a p)

    pub link_point : Kept All NoPiece (at_set b.at Live) (λ a. a ≡ p) NoMore v.clock v.ps c (point_linked (Some b) p c) s
    link_point =
        let st = v.static in
        let near = text_low c.program p w ew in
        reworked c s v (at_set b.at Live) same_next same_family same_age (λ a. a ≡ p) NoMore code' v.clock v.some
        (static_kept v.ps (at_set b.at Live) same_next same_family same_age c.program c.code code' c.rows v.clock v.clock st
        (λ x h. let l = (st.places x h).low in shaped_other c.program c.code x.row x.body x.next p _ (inl (omega arith)) (st.shapes x h))
        words
        doors
        (λ x h _ e. cur_back x h e)
        (λ m h k. st.ages m h (linked_back m h k))
        (λ m o hm ho km ko e. st.distinct m o hm ho (linked_back m hm km) (linked_back o ho ko) e)
        (λ m h k. let o = st.families m h (linked_back m h k) in (o.0, (o.1).is_in, (o.1).base, (o.1).at, (o.1).point))
        (λ m x hm hx km bx e lv. cur_stays x (st.used m x hm (linked_back m hm km) (family_of c.program c.code c.rows v.ps v.clock st m x hm hx (linked_back m hm km) bx e) (sym (mini_same m hm km.mini) ∙ lv)))
        (λ m h k. on m.family m.age m.next (is_live m.row.status) _ (λ e. ap is_live (sym (mini_same m h k.mini)) ∙ e) (st.chains m h (linked_back m h k)))
        (λ x h bx. on x.row.at v.clock x.next (is_current x.row.status) _ (λ e. cur_back x h e) (st.heads x h bx)))
        (λ x h n e. up x n e) (λ x h k. refl) (λ x h k. refl)
        (λ a u e but. get_other c.code p a (enter (jump_word p b.at)) but)
        (still v.ps (at_set b.at Live) same_next v.clock linked_back)

-- UnlinkPoint
module _ (c : Core) (s : Plain) (v : Inv c s) (p w : ℕ) (ew : program_word c.program p ≡ Some w) where
  miss : (x : Row) → (x.point ≡ p → ⊥) → retired_at p x ≡ x.status
  miss x n = cond-false ((x.point == p) && is_linked x) Retired x.status (and_left (x.point == p) (is_linked x) (ne_eqb x.point p n))

  unlinked : (x : Row) → is_linked x ≡ false → retired_at p x ≡ x.status
  unlinked x n = cond-false ((x.point == p) && is_linked x) Retired x.status (and_right (x.point == p) (is_linked x) n)

  struck : (x : Row) → x.point ≡ p → is_linked x ≡ true → retired_at p x ≡ Retired
  struck x e l = cond-true ((x.point == p) && is_linked x) Retired x.status (and_from (x.point == p) (is_linked x) (eq-eqb x.point p e) l)

  -- each block is as before, or was linked at the point and is retired
  cases : (x : Row) → (retired_at p x ≡ x.status) ⊎ ((x.point ≡ p) × (is_linked x ≡ true) × (retired_at p x ≡ Retired))
  cases x = ⊎_elim (λ e. ⊎_elim (λ l. inr (e, l, struck x e l)) (λ l. inl (unlinked x l)) (cases_Bool (is_linked x))) (λ n. inl (miss x n)) (cases_eq x.point p)

  up' : (x : Row) → (x.status ≡ Written → ⊥) → retired_at p x ≡ Written → ⊥
  up' x n e = ⊎_elim (λ i. n (sym i ∙ e)) (λ i. let h = i.2 in absurd cc) (cases x)

  linked_back' : (x : Piece) → Linked (rework (retired_at p) same_next same_family same_age x) → Linked x
  linked_back' x k = record { mini = k.mini; was = λ e. ⊎_elim (λ i. k.was (i ∙ e)) (λ i. let l : is_linked x.row ≡ false = cond-false x.row.base _ _ k.mini ∙ ap is_live e in true≢false (sym i.1 ∙ l)) (cases x.row) }

  -- a mini block that is live afterwards is of another point
  live_back : (x : Piece) → x.row.base ≡ false → retired_at p x.row ≡ Live → (x.row.status ≡ Live) × (x.row.point ≡ p → ⊥)
  live_back x m e = ⊎_elim
      (λ i. let live : x.row.status ≡ Live = sym i ∙ e in
      (live, λ at. let r = struck x.row at (cond-false x.row.base _ _ m ∙ ap is_live live) in absurd cc))
      (λ i. let h = i.2 in absurd cc) (cases x.row)

  cur_back' : (x : Piece) → IsBase x → is_current (retired_at p x.row) ≡ true → (is_current x.row.status ≡ true) × (x.row.point ≡ p → ⊥)
  cur_back' x b e = ⊎_elim
      (λ i. let cur : is_current x.row.status ≡ true = ap is_current (sym i) ∙ e in
      (cur, λ at. true≢false (sym e ∙ ap is_current (struck x.row at (cond-true x.row.base _ _ b.base ∙ cur)))))
      (λ i. absurd (true≢false (sym e ∙ ap is_current i.2))) (cases x.row)

  on' : (family from q : ℕ) (live live' : Bool) → (live' ≡ true → live ≡ true) → (live' ≡ true → (u : Piece) → In u v.ps → Linked u → u.family ≡ family → u.row.point ≡ p → ⊥) → Leads v.ps family from q live → Leads (map (rework (retired_at p) same_next same_family same_age) v.ps) family from q live'
  on' family from q live live' le away l =
      leads_kept v.ps (retired_at p) same_next same_family same_age family from from q live live' l l.below
      (λ m h mi fm lv. l.free m h (record { mini = mi; of = fm; live = (live_back m mi lv).0 }))
      (λ u h k fm lv at. (up' u.row k.was, fm, refl, λ e. miss u.row (away e u h k fm) ∙ lv (le e)))

  old_door' : (x : Piece) → (x.row.point ≡ p → ⊥) → Door c.code x → Door (insert c.code p (own w)) x
  old_door' x n k = record { jump = k.jump; stands = get_other c.code p x.row.point (own w) n ∙ k.stands; hops = k.hops }

  doors' : (x : Piece) → In x v.ps → IsBase x → retired_at p x.row ≡ Live → Door (insert c.code p (own w)) x
  doors' x h bx e =
      let k = cur_back' x bx (ap is_current e) in
      let live : x.row.status ≡ Live = sym (miss x.row k.1) ∙ e in old_door' x k.1 (v.static.doors x h bx live)

  words' : (a u : ℕ) → program_word c.program a ≡ Some u → TextWord (insert c.code p (own w)) (map (rework (retired_at p) same_next same_family same_age) v.ps) a u
  words' a u e = ⊎_elim
      (λ (i : a ≡ p).
      let same : w ≡ u = same_some (program_word c.program p) w u ew (ap (program_word c.program) (sym i) ∙ e) in
      inl (ap (get (insert c.code p (own w))) i ∙ (get_same c.code p (own w) ∙ ap (λ z. Some (own z)) same)))
      (λ (i : a ≡ p → ⊥).
      let same = get_other c.code p a (own w) i in
      ⊎_elim (λ o. inl (same ∙ o))
      (λ (o : (d : Piece) × In d v.ps × IsBase d × (d.row.point ≡ a) × (d.row.status ≡ Live) × Door c.code d).
      let d' = rework (retired_at p) same_next same_family same_age o.0 in
      let away : (o.0).row.point ≡ p → ⊥ = λ q. i (sym o.3 ∙ q) in
      inr (d', map_in (rework (retired_at p) same_next same_family same_age) v.ps o.0 o.1, record { base = (o.2).base }, o.3, miss (o.0).row away ∙ o.4, old_door' d' away (door_of c.code o.0 d' refl refl o.5)))
      (v.static.words a u e))
      (cases_eq a p)

  pub unlink_point : Kept All NoPiece (retired_at p) (λ a. a ≡ p) NoMore v.clock v.ps c (point_unlinked (Some w) p c) s
  unlink_point =
      let st = v.static in
      let near = text_low c.program p w ew in
      reworked c s v (retired_at p) same_next same_family same_age (λ a. a ≡ p) NoMore (insert c.code p (own w)) v.clock v.some
      (static_kept v.ps (retired_at p) same_next same_family same_age c.program c.code (insert c.code p (own w)) c.rows v.clock v.clock st
      (λ x h. let l = (st.places x h).low in shaped_other c.program c.code x.row x.body x.next p _ (inl (omega arith)) (st.shapes x h))
      words'
      doors'
      (λ x h b e. (cur_back' x b e).0)
      (λ m h k. st.ages m h (linked_back' m k))
      (λ m o hm ho km ko e. st.distinct m o hm ho (linked_back' m km) (linked_back' o ko) e)
      (λ m h k. let o = st.families m h (linked_back' m k) in (o.0, (o.1).is_in, (o.1).base, (o.1).at, (o.1).point))
      (λ m x hm hx km bx e lv.
      let r = live_back m km.mini lv in
      let fm = family_of c.program c.code c.rows v.ps v.clock st m x hm hx (linked_back' m km) bx e in
      ap is_current (miss x.row (λ at. r.1 (sym fm.point ∙ at))) ∙ st.used m x hm (linked_back' m km) fm r.0)
      (λ m h k. let o = st.families m h (linked_back' m k) in
      on' m.family m.age m.next (is_live m.row.status) _
      (λ e. ap is_live (live_back m k.mini (live_true _ e)).0)
      (λ e u hu ku fu at. (live_back m k.mini (live_true _ e)).1 (sym (same_point c.program c.code c.rows v.ps v.clock st m u o.0 o.1 hu ku fu) ∙ at))
      (st.chains m h (linked_back' m k)))
      (λ x h bx. on' x.row.at v.clock x.next (is_current x.row.status) _
      (λ e. (cur_back' x bx e).0)
      (λ e u hu ku fu at. (cur_back' x bx e).1 (sym (base_point c.program c.code c.rows v.ps v.clock st x u h bx hu ku fu) ∙ at))
      (st.heads x h bx)))
      (λ x h n e. up' x.row n e) (λ x h k. refl) (λ x h k. refl)
      (λ a u e but. get_other c.code p a (own w) but)
      (still v.ps (retired_at p) same_next v.clock (λ x h k. linked_back' x k))
