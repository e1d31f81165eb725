-- LinkMini keeps what is kept.
use Rattle.std.proofs.Common.{◌≡◌, ℕ, ◌+◌, ◌-◌, ◌<◌, ◌≤◌, List, Some, sym, ap, ◌∙◌, subst, arith, ⊎_elim, inr}
use Rattle.std.specs.Prelude.{map, Bool, true, false, cond, ◌⊎◌, ◌==◌}
use Rattle.std.specs.FinMap.{insert}
use Rattle.std.proofs.lemmas.Bool.{true≢false, cases_eq, cond-true, cond-false, eq-eqb, ne_eqb}
use Rattle.rv_word.specs.Plain.{Plain}
use Rattle.tramp_spec.specs.Jumps.{jump_word}
use Rattle.tramp_spec.specs.Marks.{tool}
use Rattle.tramp_spec.proofs.Hops.{Hops}
use Rattle.machine.specs.Cores.{In, Row, Status, Written, Live, Core, is_live, is_current}
use Rattle.machine.specs.Effects.{with_status, at_set, mini_linked}
use Rattle.machine.specs.Events.{link_at, next_of, current_base}
use Rattle.machine.specs.Kept.{Linkings, link_under}
use Rattle.machine.proofs.Lists.{in_map, map_in}
use Rattle.machine.proofs.Invariant.{Piece, IsBase, Linked, LiveOf, Leads, Static, Inv}
use Rattle.machine.proofs.Homes.{piece_of, one_block}
use Rattle.machine.proofs.Points.{at_hit, at_miss, Current, current_piece, family_of}
use Rattle.machine.proofs.Follow.{Kept, Numbers, All, NoPiece, Nowhere, reworked}
use Rattle.machine.proofs.Blocks.{static_kept, leads_kept, rework}
use Rattle.machine.proofs.BlockWords.{next_is, tool_hops, shapes_but, text_other, doors_but, words_but}

-- LinkMini
module _ (c : Core) (s : Plain) (v : Inv c s) (p m : ℕ) (b r : Row) (eb : current_base c.rows p ≡ Some b) (hr : In r c.rows) (rb : r.base ≡ false) (rp : r.point ≡ p) (ra : r.at ≡ m) (rs : r.status ≡ Written) (rn : next_of c.code r ≡ next_of c.code b) where
  abbrev ps : List Piece
  ps = v.ps

  abbrev clock : ℕ
  clock = v.clock

  st : Static c.program c.code c.rows v.ps v.clock
  st = v.static

  pb : Current v.ps p b
  pb = current_piece c.program c.code c.rows v.ps v.clock v.static p b eb

  pm : (d : Piece) × In d v.ps × (r ≡ d.row)
  pm = piece_of c.program c.code c.rows v.ps v.clock v.static r hr

  pm_at : (pm.0).row.at ≡ m
  pm_at = sym (ap (λ (u : Row). u.at) pm.2) ∙ ra

  pm_mini : (pm.0).row.base ≡ false
  pm_mini = sym (ap (λ (u : Row). u.base) pm.2) ∙ rb

  pm_written : (pm.0).row.status ≡ Written
  pm_written = sym (ap (λ (u : Row). u.status) pm.2) ∙ rs

  same_next : (pm.0).next ≡ (pb.d).next
  same_next = sym (next_is c.program c.code pm.0 (st.shapes pm.0 pm.1)) ∙ (ap (next_of c.code) (sym pm.2) ∙ (rn ∙ (ap (next_of c.code) pb.row ∙ next_is c.program c.code pb.d (st.shapes pb.d pb.is_in))))

  abbrev f : Row → Status
  f = at_set m Live

  abbrev n : Piece → ℕ
  n x = cond (x.row.at == (pb.d).row.at) m x.next

  abbrev fam : Piece → ℕ
  fam x = cond (x.row.at == m) (pb.d).row.at x.family

  abbrev age : Piece → ℕ
  age x = cond (x.row.at == m) v.clock x.age

  hit : (x : Piece) → In x v.ps → x.row.at ≡ m → x ≡ pm.0
  hit x h e = one_block c.program c.code c.rows v.ps v.clock v.static x pm.0 h pm.1 (e ∙ sym pm_at)

  -- the others are not at m
  fam_miss : (x : Piece) → (x.row.at ≡ m → ⊥) → fam x ≡ x.family
  fam_miss x e = cond-false (x.row.at == m) _ _ (ne_eqb _ _ e)

  age_miss : (x : Piece) → (x.row.at ≡ m → ⊥) → age x ≡ x.age
  age_miss x e = cond-false (x.row.at == m) _ _ (ne_eqb _ _ e)

  fam_hit : (x : Piece) → x.row.at ≡ m → fam x ≡ (pb.d).row.at
  fam_hit x e = cond-true (x.row.at == m) _ _ (eq-eqb _ _ e)

  age_hit : (x : Piece) → x.row.at ≡ m → age x ≡ v.clock
  age_hit x e = cond-true (x.row.at == m) _ _ (eq-eqb _ _ e)

  linked_not : (x : Piece) → In x v.ps → Linked x → x.row.at ≡ m → ⊥
  linked_not x h k e = k.was (ap (λ (u : Piece). u.row.status) (hit x h e) ∙ pm_written)

  base_not : (x : Piece) → In x v.ps → IsBase x → x.row.at ≡ m → ⊥
  base_not x h k e = true≢false (sym k.base ∙ (ap (λ (u : Piece). u.row.base) (hit x h e) ∙ pm_mini))

  linked_back : (x : Piece) → (x.row.at ≡ m → ⊥) → Linked (rework f n fam age x) → Linked x
  linked_back x e k = record { mini = k.mini; was = λ w. k.was (at_miss m Live x.row e ∙ w) }

  up : (x : Piece) → (x.row.status ≡ Written → ⊥) → f x.row ≡ Written → ⊥
  up x w e = ⊎_elim (λ i. let h = at_hit m Live x.row i in absurd cc) (λ i. w (sym (at_miss m Live x.row i) ∙ e)) (cases_eq x.row.at m)

  base_status : (x : Piece) → In x v.ps → IsBase x → f x.row ≡ x.row.status
  base_status x h k = at_miss m Live x.row (base_not x h k)

  -- what led on before leads on
  on : (family from from' q : ℕ) (live live' : Bool) → (live' ≡ true → live ≡ true) → from ≤ from' → ((y : Piece) → In y v.ps → LiveOf family y → y.age < from' → y.age < from) → (family ≡ (pb.d).row.at → from' ≤ v.clock) → Leads v.ps family from q live → Leads (map (rework f n fam age) v.ps) family from' q live'
  on family from from' q live live' le wide back low l =
      leads_kept v.ps f n fam age family from from' q live live' l (let o = l.below in omega arith)
      (λ y h mi fm lv lo hi. ⊎_elim
      (λ (i : y.row.at ≡ m). let a = age_hit y i in let z = low (sym fm ∙ fam_hit y i) in absurd (omega arith))
      (λ (i : y.row.at ≡ m → ⊥). let a = age_miss y i in
      let o : LiveOf family y = record { mini = mi; of = sym (fam_miss y i) ∙ fm; live = sym (at_miss m Live y.row i) ∙ lv } in
      l.free y h o (subst (λ z. l.lo < z) a lo) (back y h o (subst (λ z. z < from') a hi)))
      (cases_eq y.row.at m))
      (λ u h k fm lv at. let i = linked_not u h k in (up u k.was, fam_miss u i ∙ fm, age_miss u i, λ e. at_miss m Live u.row i ∙ lv (le e)))

  head : Leads v.ps (pb.d).row.at v.clock (pb.d).next (is_current (pb.d).row.status)
  head = st.heads pb.d pb.is_in pb.base

  first : (x : Piece) → In x v.ps → x.row.at ≡ m → age x ≡ v.clock → 0 < age x
  first x h i a = let l = head.below in omega arith

  ages : (x : Piece) → In x v.ps → Linked (rework f n fam age x) → (0 < age x) × (age x < v.clock + 1)
  ages x h k = ⊎_elim (λ (i : x.row.at ≡ m). let a = age_hit x i in (first x h i a, omega arith)) (λ (i : x.row.at ≡ m → ⊥). let o = st.ages x h (linked_back x i k) in let a = age_miss x i in (omega arith, omega arith)) (cases_eq x.row.at m)

  distinct : (x y : Piece) → In x v.ps → In y v.ps → Linked (rework f n fam age x) → Linked (rework f n fam age y) → age x ≡ age y → x ≡ y
  distinct x y hx hy kx ky e = ⊎_elim
      (λ (i : x.row.at ≡ m). ⊎_elim (λ (j : y.row.at ≡ m). hit x hx i ∙ sym (hit y hy j))
      (λ (j : y.row.at ≡ m → ⊥). let o = (st.ages y hy (linked_back y j ky)).1 in let a = age_hit x i in let z = age_miss y j in absurd (omega arith)) (cases_eq y.row.at m))
      (λ (i : x.row.at ≡ m → ⊥). ⊎_elim
      (λ (j : y.row.at ≡ m). let o = (st.ages x hx (linked_back x i kx)).1 in let a = age_hit y j in let z = age_miss x i in absurd (omega arith))
      (λ (j : y.row.at ≡ m → ⊥). st.distinct x y hx hy (linked_back x i kx) (linked_back y j ky) (sym (age_miss x i) ∙ (e ∙ age_miss y j))) (cases_eq y.row.at m))
      (cases_eq x.row.at m)

  families : (x : Piece) → In x v.ps → Linked (rework f n fam age x) → (d : Piece) × In d v.ps × IsBase d × (d.row.at ≡ fam x) × (d.row.point ≡ x.row.point)
  families x h k = ⊎_elim
      (λ (i : x.row.at ≡ m). (pb.d, pb.is_in, pb.base, sym (fam_hit x i), pb.point ∙ (sym rp ∙ (ap (λ (u : Row). u.point) pm.2 ∙ sym (ap (λ (u : Piece). u.row.point) (hit x h i))))))
      (λ (i : x.row.at ≡ m → ⊥). let o = st.families x h (linked_back x i k) in (o.0, (o.1).is_in, (o.1).base, (o.1).at ∙ sym (fam_miss x i), (o.1).point))
      (cases_eq x.row.at m)

  used : (x y : Piece) → In x v.ps → In y v.ps → Linked (rework f n fam age x) → IsBase y → y.row.at ≡ fam x → f x.row ≡ Live → is_current (f y.row) ≡ true
  used x y hx hy kx by e lv = ap is_current (base_status y hy by) ∙ ⊎_elim
      (λ (i : x.row.at ≡ m). ap (λ (u : Piece). is_current u.row.status) (one_block c.program c.code c.rows v.ps v.clock v.static y pb.d hy pb.is_in (e ∙ fam_hit x i)) ∙ pb.current)
      (λ (i : x.row.at ≡ m → ⊥). let k = linked_back x i kx in st.used x y hx k (family_of c.program c.code c.rows v.ps v.clock v.static x y hx hy k by (e ∙ fam_miss x i)) (sym (at_miss m Live x.row i) ∙ lv))
      (cases_eq x.row.at m)

  next_miss : (x : Piece) → (x.row.at ≡ (pb.d).row.at → ⊥) → n x ≡ x.next
  next_miss x e = cond-false (x.row.at == (pb.d).row.at) m x.next (ne_eqb _ _ e)

  mini_not : (x : Piece) → In x v.ps → x.row.base ≡ false → x.row.at ≡ (pb.d).row.at → ⊥
  mini_not x h k e = true≢false (sym (pb.base).base ∙ (sym (ap (λ (u : Piece). u.row.base) (one_block c.program c.code c.rows v.ps v.clock v.static x pb.d h pb.is_in e)) ∙ k))

  chains : (x : Piece) → In x v.ps → Linked (rework f n fam age x) → Leads (map (rework f n fam age) v.ps) (fam x) (age x) (n x) (is_live (f x.row))
  chains x h k = ⊎_elim
      (λ (i : x.row.at ≡ m).
      let same = hit x h i in
      subst (λ a. Leads (map (rework f n fam age) v.ps) a (age x) (n x) (is_live (f x.row))) (sym (fam_hit x i))
      (subst (λ a. Leads (map (rework f n fam age) v.ps) (pb.d).row.at a (n x) (is_live (f x.row))) (sym (age_hit x i))
      (subst (λ a. Leads (map (rework f n fam age) v.ps) (pb.d).row.at v.clock a (is_live (f x.row))) (sym (next_miss x (mini_not x h k.mini) ∙ (ap (λ (u : Piece). u.next) same ∙ same_next)))
      (on (pb.d).row.at v.clock v.clock (pb.d).next (is_current (pb.d).row.status) (is_live (f x.row)) (λ e. pb.current) (omega arith) (λ y hy o l. l) (λ e. omega arith) head))))
      (λ (i : x.row.at ≡ m → ⊥).
      let kx = linked_back x i k in
      let a = (st.ages x h kx).1 in
      subst (λ a. Leads (map (rework f n fam age) v.ps) a (age x) (n x) (is_live (f x.row))) (sym (fam_miss x i))
      (subst (λ a. Leads (map (rework f n fam age) v.ps) x.family a (n x) (is_live (f x.row))) (sym (age_miss x i))
      (subst (λ a. Leads (map (rework f n fam age) v.ps) x.family x.age a (is_live (f x.row))) (sym (next_miss x (mini_not x h k.mini)))
      (on x.family x.age x.age x.next (is_live x.row.status) (is_live (f x.row)) (λ e. ap is_live (sym (at_miss m Live x.row i)) ∙ e) (omega arith) (λ y hy o l. l) (λ e. omega arith) (st.chains x h kx)))))
      (cases_eq x.row.at m)

  heads : (x : Piece) → In x v.ps → IsBase x → Leads (map (rework f n fam age) v.ps) x.row.at (v.clock + 1) (n x) (is_current (f x.row))
  heads x h k = ⊎_elim
      (λ (i : x.row.at ≡ (pb.d).row.at).
      subst (λ a. Leads (map (rework f n fam age) v.ps) x.row.at (v.clock + 1) a (is_current (f x.row))) (sym (cond-true (x.row.at == (pb.d).row.at) m x.next (eq-eqb _ _ i)))
      (record {
        lo = v.clock;
        below = omega arith;
        free = λ y hy o a l. omega arith;
        to = inr (
          rework f n fam age pm.0,
          map_in (rework f n fam age) v.ps pm.0 pm.1,
          record { mini = pm_mini; was = λ e. let g = at_hit m Live (pm.0).row pm_at in absurd cc },
          fam_hit pm.0 pm_at ∙ sym i,
          age_hit pm.0 pm_at,
          pm_at,
          λ e. at_hit m Live (pm.0).row pm_at,
        );
      }))
      (λ (i : x.row.at ≡ (pb.d).row.at → ⊥).
      subst (λ a. Leads (map (rework f n fam age) v.ps) x.row.at (v.clock + 1) a (is_current (f x.row))) (sym (next_miss x i))
      (on x.row.at v.clock (v.clock + 1) x.next (is_current x.row.status) (is_current (f x.row)) (λ e. ap is_current (sym (base_status x h k)) ∙ e) (omega arith)
      (λ y hy o l. (st.ages y hy (record { mini = o.mini; was = λ w. let z = o.live in absurd cc })).1) (λ e. absurd (i e)) (st.heads x h k)))
      (cases_eq x.row.at (pb.d).row.at)

  -- the jump of the head, which is written anew
  abbrev jump : ℕ
  jump = jump_word (link_at (pb.d).row) m

  hop : Hops (link_at (pb.d).row) m (jump_word (link_at (pb.d).row) m)
  hop =
      let k = st.places pm.0 pm.1 in
      let al = k.aligned in
      let lo = k.low in
      let hi = k.high in
      let e = pm_at in tool_hops c.program v.ground c.code c.rows v.ps v.clock v.static pb.d pb.is_in m (omega arith) (omega arith) (omega arith)

  linked : Static c.program (insert c.code (link_at (pb.d).row) (tool jump)) (map (with_status f) c.rows) (map (rework f n fam age) v.ps) (v.clock + 1)
  linked =
      static_kept v.ps f n fam age c.program c.code (insert c.code (link_at (pb.d).row) (tool jump)) c.rows v.clock (v.clock + 1) st
      (λ x h. shapes_but c.program v.ground c.code c.rows v.ps v.clock v.static pb.d pb.is_in m jump hop x h)
      (words_but c.program v.ground c.code c.rows v.ps v.clock v.static f n fam age base_status pb.d pb.is_in (tool jump))
      (doors_but c.program v.ground c.code c.rows v.ps v.clock v.static f base_status pb.d pb.is_in (tool jump))
      (λ x h k e. ap is_current (sym (base_status x h k)) ∙ e)
      ages distinct families used chains heads

  -- the linking of the mini block is the newest
  numbers : (l : Linkings) → Numbers l v.ps v.clock → Numbers (link_under (Some (pb.d).row) m l) (map (rework f n fam age) v.ps) (v.clock + 1)
  numbers l k = (
    ap (λ z. z + 1) k.0,
    λ y h ly.
        let r = in_map (rework f n fam age) v.ps y h in
        subst (λ (z : Piece). (z.age ≡ (link_under (Some (pb.d).row) m l).number z.row.at) × (z.family ≡ (link_under (Some (pb.d).row) m l).under z.row.at)) (sym r.2) (told r.0 r.1 (subst Linked r.2 ly)),
  )
    where
      told : (x : Piece) → In x v.ps → Linked (rework f n fam age x) → (age x ≡ cond (x.row.at == m) (l.count + 1) (l.number x.row.at)) × (fam x ≡ cond (x.row.at == m) (pb.d).row.at (l.under x.row.at))
      told x h lx = ⊎_elim
          (λ (i : x.row.at ≡ m). (
            age_hit x i ∙ (k.0 ∙ sym (cond-true (x.row.at == m) (l.count + 1) (l.number x.row.at) (eq-eqb _ _ i))),
            fam_hit x i ∙ sym (cond-true (x.row.at == m) (pb.d).row.at (l.under x.row.at) (eq-eqb _ _ i)),
          ))
          (λ (i : x.row.at ≡ m → ⊥).
          let o = k.1 x h (linked_back x i lx) in (
            age_miss x i ∙ (o.0 ∙ sym (cond-false (x.row.at == m) (l.count + 1) (l.number x.row.at) (ne_eqb _ _ i))),
            fam_miss x i ∙ (o.1 ∙ sym (cond-false (x.row.at == m) (pb.d).row.at (l.under x.row.at) (ne_eqb _ _ i))),
          ))
          (cases_eq x.row.at m)

  pub link_mini : Kept All NoPiece (at_set m Live) Nowhere (link_under (Some b) m) v.clock v.ps c (mini_linked (Some b) m c) s
  link_mini =
      subst (λ (z : Row). Kept All NoPiece (at_set m Live) Nowhere (link_under (Some z) m) v.clock v.ps c (mini_linked (Some z) m c) s) (sym pb.row)
      (reworked c s v f n fam age Nowhere (link_under (Some (pb.d).row) m) (insert c.code (link_at (pb.d).row) (tool jump)) (v.clock + 1) (omega arith) linked
      (λ x h w e. up x w e) (λ x h k. fam_miss x (linked_not x h k)) (λ x h k. age_miss x (linked_not x h k))
      (λ a u e but. text_other c.program v.ground c.code c.rows v.ps v.clock v.static pb.d pb.is_in (tool jump) a u e)
      numbers)
