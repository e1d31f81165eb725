-- UnlinkMini keeps what is kept.
use Rattle.std.proofs.Common.{◌≡◌, ℕ, zero, suc, ◌+◌, ◌%◌, ◌<◌, ◌≤◌, List, Some, refl, sym, ap, ◌∙◌, subst, arith, ⊎_elim, inl, inr}
use Rattle.std.specs.Prelude.{map, Bool, true, false, cond, ◌⊎◌, ◌&&◌, ◌==◌}
use Rattle.std.specs.FinMap.{insert}
use Rattle.std.proofs.lemmas.Bool.{true≢false, cases_eq, cases_order, cond-true, cond-false, eq-eqb, ne_eqb, eqb-true, and_parts, and_from}
use Rattle.rv_word.specs.Plain.{Plain}
use Rattle.tramp_spec.specs.Codes.{Code, tool_at}
use Rattle.tramp_spec.specs.Blocks.{tail_of}
use Rattle.tramp_spec.specs.Jumps.{jump_word}
use Rattle.tramp_spec.specs.Marks.{tool}
use Rattle.tramp_spec.proofs.Hops.{Hops}
use Rattle.machine.specs.Cores.{In, Row, Status, Written, Live, Retired, Core, is_live, is_current}
use Rattle.machine.specs.Effects.{with_status, at_set, mini_unlinked}
use Rattle.machine.specs.Events.{Apart, is_linked, link_at, next_of, before, row_at}
use Rattle.machine.proofs.Lists.{find_gives, find_finds}
use Rattle.machine.proofs.Invariant.{Piece, the_row, IsBase, Linked, LiveOf, BaseShape, MiniShape, Leads, Static, Inv}
use Rattle.machine.proofs.Homes.{piece_of, one_block, has_len, row_in}
use Rattle.machine.proofs.Points.{live_true, at_hit, at_miss, family_of}
use Rattle.machine.proofs.BlockWords.{next_is, mini_or_base, tool_hops, shapes_but, words_but, doors_but, text_other}
use Rattle.machine.proofs.Follow.{Kept, All, NoPiece, Nowhere, NoMore, still, reworked}
use Rattle.machine.proofs.Blocks.{static_kept, leads_kept, rework}

module _ (c : Core) (s : Plain) (v : Inv c s) (m : ℕ) (r : Row) (hr : In r c.rows) (rb : r.base ≡ false) (ra : r.at ≡ m) (rs : r.status ≡ Live) where
  abbrev ps : List Piece
  ps = v.ps

  abbrev clock : ℕ
  clock = v.clock

  st : Static c.program c.code c.rows v.ps v.clock
  st = v.static

  pub pm : (d : Piece) × In d ps × (r ≡ d.row)
  pm = piece_of c.program c.code c.rows v.ps v.clock v.static r hr

  pm_at : (pm.0).row.at ≡ m
  pm_at = sym (ap (λ (u : Row). u.at) pm.2) ∙ ra

  pm_live : LiveOf (pm.0).family pm.0
  pm_live = record { mini = sym (ap (λ (u : Row). u.base) pm.2) ∙ rb; of = refl; live = sym (ap (λ (u : Row). u.status) pm.2) ∙ rs }

  pm_linked : Linked pm.0
  pm_linked = record { mini = pm_live.mini; was = λ e. let l = pm_live.live in absurd cc }

  hit : (x : Piece) → In x ps → x.row.at ≡ m → x ≡ pm.0
  hit x h e = one_block c.program c.code c.rows v.ps v.clock v.static x pm.0 h pm.1 (e ∙ sym pm_at)

  -- a block that leads on: the family and the age that it leads from
  abbrev hfam : Piece → ℕ
  hfam x = cond x.row.base x.row.at x.family

  abbrev hage : Piece → ℕ
  hage x = cond x.row.base clock x.age

  live_linked : (x : Piece) → x.row.base ≡ false → is_linked x.row ≡ true → Linked x
  live_linked x b e = record { mini = b; was = λ w. let l : is_linked x.row ≡ false = cond-false x.row.base _ _ b ∙ ap is_live w in true≢false (sym e ∙ l) }

  live_of : (x : Piece) → x.row.base ≡ false → is_linked x.row ≡ true → LiveOf (hfam x) x
  live_of x b e = record { mini = b; of = sym (cond-false x.row.base _ _ b); live = live_true _ (sym (cond-false x.row.base _ _ b) ∙ e) }

  lead : (x : Piece) → In x ps → is_linked x.row ≡ true → Leads ps (hfam x) (hage x) x.next true
  lead x h e = ⊎_elim
      (λ (b : IsBase x).
      let l = subst (λ v. Leads ps x.row.at clock x.next v) (sym (cond-true x.row.base _ _ b.base) ∙ e) (st.heads x h b) in
      subst (λ v. Leads ps v (hage x) x.next true) (sym (cond-true x.row.base x.row.at x.family b.base))
      (subst (λ v. Leads ps x.row.at v x.next true) (sym (cond-true x.row.base clock x.age b.base)) l))
      (λ (b : x.row.base ≡ false).
      let l = subst (λ v. Leads ps x.family x.age x.next v) (sym (cond-false x.row.base _ _ b) ∙ e) (st.chains x h (live_linked x b e)) in
      subst (λ v. Leads ps v (hage x) x.next true) (sym (cond-false x.row.base x.row.at x.family b))
      (subst (λ v. Leads ps x.family v x.next true) (sym (cond-false x.row.base clock x.age b)) l))
      (mini_or_base x)

  -- the base of the block
  root : (x : Piece) → In x ps → is_linked x.row ≡ true → (b : Piece) × In b ps × IsBase b × (b.row.at ≡ hfam x)
  root x h e = ⊎_elim (λ (b : IsBase x). (x, h, b, sym (cond-true x.row.base _ _ b.base)))
      (λ (b : x.row.base ≡ false). let o = st.families x h (live_linked x b e) in (o.0, (o.1).is_in, (o.1).base, (o.1).at ∙ sym (cond-false x.row.base _ _ b)))
      (mini_or_base x)

  -- no tail is a mini block
  no_tail : (b : Piece) → In b v.ps → IsBase b → m ≡ tail_of b.row.at → ⊥
  no_tail b h k e = ⊎_elim
      (λ (q : BaseShape c.program c.code b.row b.next).
      let three = q.len in
      let n = has_len c.program c.code c.rows v.ps v.clock v.static pm.0 pm.1 in
      let a = pm_at in
      ⊎_elim (λ (i : b ≡ pm.0). true≢false (sym k.base ∙ (ap (λ (u : Piece). u.row.base) i ∙ pm_live.mini)))
      (λ (i : Apart b.row.at b.row.len (pm.0).row.at (pm.0).row.len). ⊎_elim (λ l. omega arith) (λ l. omega arith) i) (st.apart b pm.0 h pm.1))
      (λ (q : MiniShape c.code b.row b.body b.next). true≢false (sym k.base ∙ q.mini)) (st.shapes b h)

  -- a live block that leads to m is the next newer one of its family
  pub record Reaches (x : Piece) : Type 0 where
    fam : hfam x ≡ (pm.0).family
    above : (pm.0).age < hage x
    none : (y : Piece) → In y ps → LiveOf (pm.0).family y → (pm.0).age < y.age → y.age < hage x → ⊥

  reaches : (x : Piece) → In x ps → is_linked x.row ≡ true → x.next ≡ m → Reaches x
  reaches x h e n =
      let l = lead x h e in
      ⊎_elim
      (λ (q : (l.lo ≡ 0) × (x.next ≡ tail_of (hfam x))). let b = root x h e in absurd (no_tail b.0 b.1 b.2 (sym n ∙ (q.1 ∙ ap tail_of (sym b.3)))))
      (λ (q : (t : Piece) × In t ps × Linked t × (t.family ≡ hfam x) × (t.age ≡ l.lo) × (t.row.at ≡ x.next) × (true ≡ true → t.row.status ≡ Live)).
      let same = hit q.0 q.1 (q.5 ∙ n) in
      let fam : hfam x ≡ (pm.0).family = sym q.3 ∙ ap (λ (u : Piece). u.family) same in
      let age : l.lo ≡ (pm.0).age = sym q.4 ∙ ap (λ (u : Piece). u.age) same in
      record { fam = fam; above = (let o = l.below in omega (arith, age)); none = λ y hy o a b. l.free y hy (subst (λ v. LiveOf v y) (sym fam) o) (subst (λ v. v < y.age) (sym age) a) b })
      l.to

  age_mini : (x : Piece) → x.row.base ≡ false → hage x ≡ x.age
  age_mini x b = cond-false x.row.base _ _ b

  age_most : (x : Piece) → In x ps → is_linked x.row ≡ true → (hage x ≡ clock) ⊎ ((x.row.base ≡ false) × (hage x < clock))
  age_most x h e = ⊎_elim (λ (b : IsBase x). inl (cond-true x.row.base _ _ b.base))
      (λ b. let a = (st.ages x h (live_linked x b e)).1 in let z = age_mini x b in inr (b, omega arith)) (mini_or_base x)

  -- there is one
  not_below : (x y : Piece) → In x ps → In y ps → is_linked x.row ≡ true → is_linked y.row ≡ true → Reaches x → Reaches y → hage x < hage y → ⊥
  not_below x y hx hy ex ey rx ry l = ⊎_elim
      (λ (i : hage x ≡ clock). ⊎_elim (λ j. omega arith) (λ j. let o = j.1 in omega arith) (age_most y hy ey))
      (λ (i : (x.row.base ≡ false) × (hage x < clock)).
      let a = age_mini x i.0 in
      ry.none x hx (subst (λ v. LiveOf v x) rx.fam (live_of x i.0 ex)) (let o = rx.above in omega arith) (omega arith))
      (age_most x hx ex)

  one : (x y : Piece) → In x ps → In y ps → is_linked x.row ≡ true → is_linked y.row ≡ true → x.next ≡ m → y.next ≡ m → x ≡ y
  one x y hx hy ex ey nx ny =
      let rx = reaches x hx ex nx in let ry = reaches y hy ey ny in
      ⊎_elim (λ e. same x y hx hy ex ey rx ry e)
      (λ q. ⊎_elim (λ l. absurd (not_below x y hx hy ex ey rx ry l)) (λ l. absurd (not_below y x hy hx ey ex ry rx l)) q)
      (cases_order (hage x) (hage y))
    where
      same : (x y : Piece) → In x ps → In y ps → is_linked x.row ≡ true → is_linked y.row ≡ true → Reaches x → Reaches y → hage x ≡ hage y → x ≡ y
      same x y hx hy ex ey rx ry e = ⊎_elim
          (λ (bx : IsBase x). ⊎_elim
          (λ (b : IsBase y). one_block c.program c.code c.rows v.ps v.clock v.static x y hx hy (sym (cond-true x.row.base _ _ bx.base) ∙ (rx.fam ∙ (sym ry.fam ∙ cond-true y.row.base _ _ b.base))))
          (λ (b : y.row.base ≡ false). let a = (st.ages y hy (live_linked y b ey)).1 in let z = age_mini y b in let w : hage x ≡ clock = cond-true x.row.base _ _ bx.base in absurd (omega arith)) (mini_or_base y))
          (λ (bx : x.row.base ≡ false). ⊎_elim
          (λ (b : IsBase y). let a = (st.ages x hx (live_linked x bx ex)).1 in let z = age_mini x bx in let w : hage y ≡ clock = cond-true y.row.base _ _ b.base in absurd (omega arith))
          (λ (b : y.row.base ≡ false). st.distinct x y hx hy (live_linked x bx ex) (live_linked y b ey) (sym (age_mini x bx) ∙ (e ∙ age_mini y b))) (mini_or_base y))
          (mini_or_base x)

  -- from a newer live block one comes down to it
  seek : (k : ℕ) (x : Piece) → In x ps → is_linked x.row ≡ true → hfam x ≡ (pm.0).family → (pm.0).age < hage x → hage x < k → (y : Piece) × In y ps × (is_linked y.row ≡ true) × (y.next ≡ m)
  seek zero x h e fm a k = absurd (omega arith)
  seek (suc k) x h e fm a low =
      let l = lead x h e in
      let o = l.below in
      let pos = (st.ages pm.0 pm.1 pm_linked).0 in
      ⊎_elim (λ (q : (l.lo ≡ 0) × (x.next ≡ tail_of (hfam x))). let z = q.0 in absurd (l.free pm.0 pm.1 (subst (λ v. LiveOf v pm.0) (sym fm) pm_live) (omega arith) a))
      (λ (q : (t : Piece) × In t ps × Linked t × (t.family ≡ hfam x) × (t.age ≡ l.lo) × (t.row.at ≡ x.next) × (true ≡ true → t.row.status ≡ Live)).
      ⊎_elim
      (λ (i : l.lo ≡ (pm.0).age). (x, h, e, sym q.5 ∙ (ap (λ (u : Piece). u.row.at) (st.distinct q.0 pm.0 q.1 pm.1 q.2 pm_linked (q.4 ∙ i)) ∙ pm_at)))
      (λ (i : (l.lo < (pm.0).age) ⊎ ((pm.0).age < l.lo)). ⊎_elim
      (λ less. absurd (l.free pm.0 pm.1 (subst (λ v. LiveOf v pm.0) (sym fm) pm_live) less a))
      (λ more.
      let z : hage q.0 ≡ (q.0).age = age_mini q.0 (q.2).mini in
      let y = q.4 in
      seek k q.0 q.1 (cond-false (q.0).row.base _ _ (q.2).mini ∙ ap is_live (q.6 refl)) (cond-false (q.0).row.base _ _ (q.2).mini ∙ (q.3 ∙ fm)) (omega arith) (omega arith)) i)
      (cases_order l.lo (pm.0).age))
      l.to

  found : (y : Piece) × In y ps × (is_linked y.row ≡ true) × (y.next ≡ m)
  found =
      let o = st.families pm.0 pm.1 pm_linked in
      let cur = st.used pm.0 o.0 pm.1 pm_linked o.1 pm_live.live in
      let b = (o.1).base in
      let a = (st.ages pm.0 pm.1 pm_linked).1 in
      let z : hage o.0 ≡ clock = cond-true (o.0).row.base _ _ b.base in
      seek (suc clock) o.0 (o.1).is_in (cond-true (o.0).row.base _ _ b.base ∙ cur) (cond-true (o.0).row.base _ _ b.base ∙ (o.1).at) (omega arith) (omega arith)

  -- what the two searches find
  the_row_at : (z : Row) → row_at c.rows m ≡ Some z → z ≡ (pm.0).row
  the_row_at z e =
      let g = find_gives _ c.rows z e in
      let q = piece_of c.program c.code c.rows v.ps v.clock v.static z g.0 in
      q.2 ∙ ap the_row (hit q.0 q.1 (sym (ap (λ (u : Row). u.at) q.2) ∙ eqb-true z.at m g.1))

  the_before : (z : Row) → before c m ≡ Some z → (y : Piece) × In y ps × (z ≡ y.row) × (is_linked y.row ≡ true) × (y.next ≡ m)
  the_before z e =
      let g = find_gives _ c.rows z e in
      let q = piece_of c.program c.code c.rows v.ps v.clock v.static z g.0 in
      let a = and_parts (is_linked z) (next_of c.code z == m) g.1 in
      (q.0, q.1, q.2, sym (ap is_linked q.2) ∙ a.0, sym (next_is c.program c.code q.0 (st.shapes q.0 q.1)) ∙ (sym (ap (next_of c.code) q.2) ∙ eqb-true _ m a.1))

  -- what leads to the block is of its point
  point_of : (x : Piece) → In x ps → is_linked x.row ≡ true → x.next ≡ m → x.row.point ≡ (pm.0).row.point
  point_of x h e n =
      let o = st.families pm.0 pm.1 pm_linked in
      let fam : hfam x ≡ (pm.0).family = (reaches x h e n).fam in
      let same : (d : Piece) → In d ps → d.row.at ≡ hfam x → d.row.point ≡ (pm.0).row.point = λ d hd at. ap (λ (u : Piece). u.row.point) (one_block c.program c.code c.rows v.ps v.clock v.static d o.0 hd (o.1).is_in (at ∙ (fam ∙ sym (o.1).at))) ∙ (o.1).point in
      ⊎_elim
      (λ (b : IsBase x). same x h (sym (cond-true x.row.base _ _ b.base)))
      (λ (b : x.row.base ≡ false). let d = st.families x h (live_linked x b e) in sym (d.1).point ∙ same d.0 (d.1).is_in ((d.1).at ∙ sym (cond-false x.row.base _ _ b)))
      (mini_or_base x)

  pub before_of : (x : Row) → In x c.rows → (is_linked x && (next_of c.code x == m)) ≡ true → x.point ≡ r.point
  before_of x h e =
      let q = piece_of c.program c.code c.rows v.ps v.clock v.static x h in
      let a = and_parts (is_linked x) (next_of c.code x == m) e in
      let next = sym (next_is c.program c.code q.0 (st.shapes q.0 q.1)) ∙ (sym (ap (next_of c.code) q.2) ∙ eqb-true _ m a.1) in
      ap (λ (u : Row). u.point) q.2 ∙ (point_of q.0 q.1 (sym (ap is_linked q.2) ∙ a.0) next ∙ sym (ap (λ (u : Row). u.point) pm.2))

  module _ (pq : Piece) (hq : In pq ps) (lq : is_linked pq.row ≡ true) (nq : pq.next ≡ m) where
    abbrev f : Row → Status
    f = at_set m Retired

    abbrev n : Piece → ℕ
    n x = cond (x.row.at == pq.row.at) (pm.0).next x.next

    fa : Piece → ℕ
    fa x = x.family

    rq : Reaches pq
    rq = reaches pq hq lq nq

    base_status : (x : Piece) → In x ps → IsBase x → f x.row ≡ x.row.status
    base_status x h k = at_miss m Retired x.row (λ e. true≢false (sym k.base ∙ (ap (λ (u : Piece). u.row.base) (hit x h e) ∙ pm_live.mini)))

    linked_back : (x : Piece) → In x ps → Linked (rework f n (λ q. q.family) (λ q. q.age) x) → Linked x
    linked_back x h k = record {
      mini = k.mini;
      was = λ e. ⊎_elim
          (λ (i : x.row.at ≡ m). let l = ap (λ (u : Piece). u.row.status) (hit x h i) ∙ pm_live.live in absurd cc)
          (λ i. k.was (at_miss m Retired x.row i ∙ e)) (cases_eq x.row.at m);
    }

    up : (x : Piece) → (x.row.status ≡ Written → ⊥) → f x.row ≡ Written → ⊥
    up x w e = ⊎_elim (λ i. let h = at_hit m Retired x.row i in absurd cc) (λ i. w (sym (at_miss m Retired x.row i) ∙ e)) (cases_eq x.row.at m)

    -- what is live afterwards was live, and isn't the block
    live_back : (x : Piece) → f x.row ≡ Live → (x.row.status ≡ Live) × (x.row.at ≡ m → ⊥)
    live_back x e = ⊎_elim (λ i. let h = at_hit m Retired x.row i in absurd cc) (λ i. (sym (at_miss m Retired x.row i) ∙ e, i)) (cases_eq x.row.at m)

    on : (family from q : ℕ) (live live' : Bool) → (live' ≡ true → live ≡ true) → (live' ≡ true → q ≡ m → ⊥) → Leads ps family from q live → Leads (map (rework f n (λ q. q.family) (λ q. q.age)) ps) family from q live'
    on family from q live live' le away l =
        leads_kept ps f n (λ q. q.family) (λ q. q.age) family from from q live live' l l.below
        (λ y h mi fm lv. l.free y h (record { mini = mi; of = fm; live = (live_back y lv).0 }))
        (λ t h k fm lv at. (up t k.was, fm, refl, λ e. at_miss m Retired t.row (λ i. away e (sym at ∙ i)) ∙ lv (le e)))

    -- the block before it leads on to what it led to
    past : (live' : Bool) → Leads (map (rework f n (λ q. q.family) (λ q. q.age)) ps) (hfam pq) (hage pq) (pm.0).next live'
    past live' =
        let l = st.chains pm.0 pm.1 pm_linked in
        let low = l.below in
        let up' = rq.above in
        subst (λ v. Leads (map (rework f n (λ q. q.family) (λ q. q.age)) ps) v (hage pq) (pm.0).next live') (sym rq.fam)
        (leads_kept ps f n (λ q. q.family) (λ q. q.age) (pm.0).family (pm.0).age (hage pq) (pm.0).next (is_live (pm.0).row.status) live' l (omega arith)
        (λ y h mi fm lv a b.
        let o = live_back y lv in
        let lo : LiveOf (pm.0).family y = record { mini = mi; of = fm; live = o.0 } in
        let ly : Linked y = record { mini = mi; was = λ w. let z = o.0 in absurd cc } in
        ⊎_elim (λ (i : y.age ≡ (pm.0).age). o.1 (ap (λ (u : Piece). u.row.at) (st.distinct y pm.0 h pm.1 ly pm_linked i) ∙ pm_at))
        (λ (i : (y.age < (pm.0).age) ⊎ ((pm.0).age < y.age)). ⊎_elim (λ less. l.free y h lo a less) (λ more. rq.none y h lo more b) i)
        (cases_order y.age (pm.0).age))
        (λ t h k fm lv at.
        (up t k.was, fm, refl, λ e. at_miss m Retired t.row (λ (i : t.row.at ≡ m). not_self (sym at ∙ i)) ∙ lv (ap is_live pm_live.live))))
      where
        -- the block doesn't lead to itself
        not_self : (pm.0).next ≡ m → ⊥
        not_self e =
            let l = lead pm.0 pm.1 (cond-false (pm.0).row.base _ _ pm_live.mini ∙ ap is_live pm_live.live) in
            let o = reaches pm.0 pm.1 (cond-false (pm.0).row.base _ _ pm_live.mini ∙ ap is_live pm_live.live) e in
            let a = o.above in let z = age_mini pm.0 pm_live.mini in omega arith

    same_at : (x : Piece) → In x ps → x.row.at ≡ pq.row.at → x ≡ pq
    same_at x h e = one_block c.program c.code c.rows v.ps v.clock v.static x pq h hq e

    chains : (x : Piece) → In x ps → Linked (rework f n (λ q. q.family) (λ q. q.age) x) → Leads (map (rework f n (λ q. q.family) (λ q. q.age)) ps) x.family x.age (n x) (is_live (f x.row))
    chains x h k = ⊎_elim
        (λ (i : x.row.at ≡ pq.row.at).
        let same = same_at x h i in
        let ef : hfam pq ≡ x.family = ap hfam (sym same) ∙ cond-false x.row.base _ _ k.mini in
        let ea : hage pq ≡ x.age = ap hage (sym same) ∙ age_mini x k.mini in
        subst (λ v. Leads (map (rework f n (λ q. q.family) (λ q. q.age)) ps) v x.age (n x) (is_live (f x.row))) ef
        (subst (λ v. Leads (map (rework f n (λ q. q.family) (λ q. q.age)) ps) (hfam pq) v (n x) (is_live (f x.row))) ea
        (subst (λ v. Leads (map (rework f n (λ q. q.family) (λ q. q.age)) ps) (hfam pq) (hage pq) v (is_live (f x.row))) (sym (cond-true (x.row.at == pq.row.at) _ _ (eq-eqb _ _ i)))
        (past (is_live (f x.row))))))
        (λ (i : x.row.at ≡ pq.row.at → ⊥).
        subst (λ v. Leads (map (rework f n (λ q. q.family) (λ q. q.age)) ps) x.family x.age v (is_live (f x.row))) (sym (cond-false (x.row.at == pq.row.at) _ _ (ne_eqb _ _ i)))
        (on x.family x.age x.next (is_live x.row.status) (is_live (f x.row)) (λ e. ap is_live (live_back x (live_true _ e)).0)
        (λ e z. i (ap (λ (u : Piece). u.row.at) (one x pq h hq (cond-false x.row.base _ _ k.mini ∙ ap is_live (live_back x (live_true _ e)).0) lq z nq)))
        (st.chains x h (linked_back x h k))))
        (cases_eq x.row.at pq.row.at)

    heads : (x : Piece) → In x ps → IsBase x → Leads (map (rework f n (λ q. q.family) (λ q. q.age)) ps) x.row.at clock (n x) (is_current (f x.row))
    heads x h k = ⊎_elim
        (λ (i : x.row.at ≡ pq.row.at).
        let same = same_at x h i in
        let ef : hfam pq ≡ x.row.at = ap hfam (sym same) ∙ cond-true x.row.base _ _ k.base in
        let ea : hage pq ≡ clock = ap hage (sym same) ∙ cond-true x.row.base _ _ k.base in
        subst (λ v. Leads (map (rework f n (λ q. q.family) (λ q. q.age)) ps) v clock (n x) (is_current (f x.row))) ef
        (subst (λ v. Leads (map (rework f n (λ q. q.family) (λ q. q.age)) ps) (hfam pq) v (n x) (is_current (f x.row))) ea
        (subst (λ v. Leads (map (rework f n (λ q. q.family) (λ q. q.age)) ps) (hfam pq) (hage pq) v (is_current (f x.row))) (sym (cond-true (x.row.at == pq.row.at) _ _ (eq-eqb _ _ i)))
        (past (is_current (f x.row))))))
        (λ (i : x.row.at ≡ pq.row.at → ⊥).
        subst (λ v. Leads (map (rework f n (λ q. q.family) (λ q. q.age)) ps) x.row.at clock v (is_current (f x.row))) (sym (cond-false (x.row.at == pq.row.at) _ _ (ne_eqb _ _ i)))
        (on x.row.at clock x.next (is_current x.row.status) (is_current (f x.row)) (λ e. ap is_current (sym (base_status x h k)) ∙ e)
        (λ e z. i (ap (λ (u : Piece). u.row.at) (one x pq h hq (cond-true x.row.base _ _ k.base ∙ (ap is_current (sym (base_status x h k)) ∙ e)) lq z nq)))
        (st.heads x h k)))
        (cases_eq x.row.at pq.row.at)

    abbrev new_code : ℕ → Code
    new_code w = insert c.code (link_at pq.row) (tool (jump_word (link_at pq.row) w))

    -- the block's next is the tail of its base or another block
    next_low : ((pm.0).next % 4 ≡ 0) × (tool_at c.program ≤ (pm.0).next) × ((pm.0).next ≤ tool_at c.program + 393216)
    next_low =
        let l = st.chains pm.0 pm.1 pm_linked in
        ⊎_elim
        (λ (q : (l.lo ≡ 0) × ((pm.0).next ≡ tail_of (pm.0).family)).
        let o = st.families pm.0 pm.1 pm_linked in
        let k = st.places o.0 (o.1).is_in in
        let al = k.aligned in
        let lo = k.low in
        let hi = k.high in
        let at = (o.1).at in
        let e = q.1 in
        ⊎_elim (λ (z : BaseShape c.program c.code (o.0).row (o.0).next). let n = z.len in (omega arith, omega arith, omega arith))
        (λ (z : MiniShape c.code (o.0).row (o.0).body (o.0).next). absurd (true≢false (sym ((o.1).base).base ∙ z.mini))) (st.shapes o.0 (o.1).is_in))
        (λ (q : (u : Piece) × In u v.ps × Linked u × (u.family ≡ (pm.0).family) × (u.age ≡ l.lo) × (u.row.at ≡ (pm.0).next) × (is_live (pm.0).row.status ≡ true → u.row.status ≡ Live)).
        let k = st.places q.0 q.1 in
        let al = k.aligned in
        let lo = k.low in
        let hi = k.high in
        let e = q.5 in (omega arith, omega arith, omega arith))
        l.to

    hop : Hops (link_at pq.row) (pm.0).next (jump_word (link_at pq.row) (pm.0).next)
    hop = let k = next_low in tool_hops c.program v.ground c.code c.rows v.ps v.clock v.static pq hq (pm.0).next k.0 k.1 k.2

    unlinked : Static c.program (new_code (pm.0).next) (map (with_status f) c.rows) (map (rework f n (λ q. q.family) (λ q. q.age)) v.ps) v.clock
    unlinked =
        static_kept v.ps f n (λ q. q.family) (λ q. q.age) c.program c.code (new_code (pm.0).next) c.rows v.clock v.clock st
        (λ x h. shapes_but c.program v.ground c.code c.rows v.ps v.clock v.static pq hq (pm.0).next (jump_word (link_at pq.row) (pm.0).next) hop x h)
        (words_but c.program v.ground c.code c.rows v.ps v.clock v.static f n (λ q. q.family) (λ q. q.age) base_status pq hq (tool (jump_word (link_at pq.row) (pm.0).next)))
        (doors_but c.program v.ground c.code c.rows v.ps v.clock v.static f base_status pq hq (tool (jump_word (link_at pq.row) (pm.0).next)))
        (λ x h k e. ap is_current (sym (base_status x h k)) ∙ e)
        (λ x h k. st.ages x h (linked_back x h k))
        (λ x y hx hy kx ky e. st.distinct x y hx hy (linked_back x hx kx) (linked_back y hy ky) e)
        (λ x h k. let o = st.families x h (linked_back x h k) in (o.0, (o.1).is_in, (o.1).base, (o.1).at, (o.1).point))
        (λ x y hx hy kx by e lv. ap is_current (base_status y hy by) ∙ st.used x y hx (linked_back x hx kx) (family_of c.program c.code c.rows v.ps v.clock v.static x y hx hy (linked_back x hx kx) by e) (live_back x lv).0)
        chains heads

    kept : Kept All NoPiece (at_set m Retired) Nowhere NoMore v.clock v.ps c (record c { code = new_code (pm.0).next; rows = map (with_status (at_set m Retired)) c.rows }) s
    kept =
        reworked c s v f n (λ q. q.family) (λ q. q.age) Nowhere NoMore (new_code (pm.0).next) v.clock v.some unlinked
        (λ x h w e. up x w e) (λ x h k. refl) (λ x h k. refl)
        (λ a u e but. text_other c.program v.ground c.code c.rows v.ps v.clock v.static pq hq (tool (jump_word (link_at pq.row) (pm.0).next)) a u e)
        (still v.ps f n v.clock linked_back)

  -- what the two searches find stands
  pub unlinks : (h : Row) × (z : Row) × (before c m ≡ Some h) × (row_at c.rows m ≡ Some z) × ((y : Piece) × In y v.ps × (h ≡ y.row) × (is_linked y.row ≡ true) × (y.next ≡ m)) × (next_of c.code z ≡ (pm.0).next)
  unlinks =
      let y = found in
      let b = find_finds (λ (r : Row). is_linked r && (next_of c.code r == m)) c.rows (y.0).row (row_in c.program c.code c.rows v.ps v.clock v.static y.0 y.1) (and_from _ _ y.2 (eq-eqb _ _ (next_is c.program c.code y.0 (st.shapes y.0 y.1) ∙ y.3))) in
      let z = find_finds (λ (r : Row). r.at == m) c.rows r hr (eq-eqb _ _ ra) in
      (b.0, z.0, b.1, z.1, the_before b.0 b.1, ap (next_of c.code) (the_row_at z.0 z.1) ∙ next_is c.program c.code pm.0 (st.shapes pm.0 pm.1))

  pub unlink_mini : Kept All NoPiece (at_set m Retired) Nowhere NoMore v.clock v.ps c (mini_unlinked (before c m) (row_at c.rows m) m c) s
  unlink_mini =
      let k = unlinks in
      let q = k.4 in
      let is : Kept All NoPiece (at_set m Retired) Nowhere NoMore v.clock v.ps c (mini_unlinked (Some k.0) (Some k.1) m c) s =
      subst (λ (u : Row). Kept All NoPiece (at_set m Retired) Nowhere NoMore v.clock v.ps c (mini_unlinked (Some u) (Some k.1) m c) s) (sym q.2)
      (subst (λ w. Kept All NoPiece (at_set m Retired) Nowhere NoMore v.clock v.ps c (record c { code = insert c.code (link_at (q.0).row) (tool (jump_word (link_at (q.0).row) w)); rows = map (with_status (at_set m Retired)) c.rows }) s) (sym k.5) (kept q.0 q.1 q.3 q.4)) in
      subst (λ o. Kept All NoPiece (at_set m Retired) Nowhere NoMore v.clock v.ps c (mini_unlinked o (row_at c.rows m) m c) s) (sym k.2)
      (subst (λ o. Kept All NoPiece (at_set m Retired) Nowhere NoMore v.clock v.ps c (mini_unlinked (Some k.0) o m c) s) (sym k.3) is)
