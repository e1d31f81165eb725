-- What is kept at every event, out of what is known of the blocks.
use Rattle.std.proofs.Common.{◌≡◌, ◌≢◌, ℕ, zero, suc, ◌+◌, ◌*◌, ◌<◌, ◌≤◌, List, [], ◌∷◌, length, Option, Some, None, refl, sym, ap, ◌∙◌, subst, arith, ⊎_elim, inl, inr}
use Rattle.std.specs.Prelude.{Bool, true, false, slice_get, ◌⊎◌}
use Rattle.std.proofs.lemmas.Bool.{true≢false, cases_order}
use Rattle.rv_word.specs.Plain.{PlainHart, Plain, program_word}
use Rattle.rv_word.specs.declared.outcome.Cause.{Cause}
use Rattle.rv_mem.specs.Start.{program_of}
use Rattle.rv_exec.specs.Start.{start}
use Rattle.rv_exec.specs.Run.{run_from}
use Rattle.tramp_spec.specs.Blocks.{tail_of}
use Rattle.tramp_spec.specs.Harts.{Hart}
use Rattle.tramp_spec.specs.MovedWords.{own_place}
use Rattle.tramp_spec.proofs.Hops.{Hops}
use Rattle.machine.specs.Cores.{In, Row, Live, Core, is_live, is_current, start_core}
use Rattle.machine.specs.Events.{Apart, next_of}
use Rattle.machine.specs.Kept.{IsJump, IsBaseBlock, IsMiniBlock, IsBlock, WasLinked, IsOpen, Linkings, linkings, no_linkings, IsUnder, Way, AreOlder, LeadsDown, HasBase, IsBeforeTick, IsInside, IsInvariant, KeepsAlways}
use Rattle.machine.specs.Replays.{replay, owns}
use Rattle.machine.proofs.Beginning.{begins, begins_numbers}
use Rattle.machine.proofs.Homes.{piece_of, row_in, base_shape, block_is}
use Rattle.machine.proofs.Invariant.{Piece, the_row, IsBase, Linked, LiveOf, BaseShape, MiniShape, Leads, Door, BasePlace, HartOk, Dynamic, Inv}
use Rattle.machine.proofs.Lists.{same_some}
use Rattle.machine.proofs.BlockWords.{next_is}
use Rattle.machine.proofs.Standing.{in_base, in_mini}
use Rattle.machine.proofs.Follow.{Numbers}
use Rattle.machine.proofs.Steps.{Counted, within, counted_events}

jump_of_hops : (from to other word : ℕ) → Hops from to word → other ≡ to → IsJump from other word
jump_of_hops from to other word h e = record { offset = h.offset; is = h.is; leads = h.leads ∙ sym e }

module _ (l : Linkings) (c : Core) (s : Plain) (v : Inv c s) (told : Numbers l v.ps v.clock) where
  age_is : (p : Piece) → In p v.ps → Linked p → l.number p.row.at ≡ p.age
  age_is p h k = sym (told.1 p h k).0

  family_is : (p : Piece) → In p v.ps → Linked p → l.under p.row.at ≡ p.family
  family_is p h k = sym (told.1 p h k).1

  listed : (r : Row) → In r c.rows → (p : Piece) × In p v.ps × (r ≡ p.row)
  listed r h = piece_of c.program c.code c.rows v.ps v.clock v.static r h

  among : (p : Piece) → In p v.ps → In p.row c.rows
  among p h = row_in c.program c.code c.rows v.ps v.clock v.static p h

  next : (p : Piece) → In p v.ps → next_of c.code p.row ≡ p.next
  next p h = next_is c.program c.code p ((v.static).shapes p h)

  -- ---- blocks

  base_block : (p : Piece) → In p v.ps → BaseShape c.program c.code p.row p.next → IsBaseBlock c p.row
  base_block p h b =
      record {
        word = b.word;
        here = b.here;
        moved = b.moved;
        movable = b.movable;
        len = b.len;
        head = b.jump;
        leads = jump_of_hops (p.row.at + 4) p.next (next_of c.code p.row) b.jump b.hops (next p h);
        stands = b.stands;
      }

  mini_block : (p : Piece) → In p v.ps → MiniShape c.code p.row p.body p.next → IsMiniBlock c p.row
  mini_block p h m =
      record {
        body = p.body;
        harmless = m.harmless;
        len = m.len;
        jump = m.jump;
        leads = jump_of_hops (p.row.at + 4 * length p.body) p.next (next_of c.code p.row) m.jump m.hops (next p h);
        stands = m.stands;
      }

  is_block : (p : Piece) → In p v.ps → IsBlock c p.row
  is_block p h =
      let k = (v.static).places p h in
      record {
        base = λ e. base_block p h (base_shape c.program c.code c.rows v.ps v.clock v.static p h (record { base = e }));
        mini = λ e. ⊎_elim (λ (b : BaseShape c.program c.code p.row p.next). absurd (true≢false (sym b.base ∙ e))) (λ (m : MiniShape c.code p.row p.body p.next). mini_block p h m) ((v.static).shapes p h);
        aligned = k.aligned;
        low = k.low;
        high = k.high;
      }

  opens : (b : Piece) → Door c.code b → IsOpen c.code b.row
  opens b d = record { jump = d.jump; stands = d.stands; leads = jump_of_hops b.row.point b.row.at b.row.at d.jump d.hops refl }

  -- ---- ways

  is_linked : (p : Piece) (r : Row) → r ≡ p.row → r.base ≡ false → WasLinked r → Linked p
  is_linked p r e b w = record { mini = ap (λ (x : Row). x.base) (sym e) ∙ b; was = λ q. w (ap (λ (x : Row). x.status) e ∙ q) }

  -- a way ends where age n leads to the tail
  ends : (n family q : ℕ) (live : Bool) → (k : Leads v.ps family n q live) → k.lo ≡ 0 → q ≡ tail_of family → LeadsDown l c family n q live
  ends n family q live k none to =
      record {
        through = [];
        way = to;
        older = tt;
        under = λ r h. absurd h;
        whole = λ r h u on y.
            let p = listed r h in
            let lk = is_linked p.0 r p.2 u.mini u.linked in
            let age : l.number r.at ≡ (p.0).age = ap (λ (x : Row). l.number x.at) p.2 ∙ age_is p.0 p.1 lk in
            let fam : (p.0).family ≡ family = sym (ap (λ (x : Row). l.under x.at) p.2 ∙ family_is p.0 p.1 lk) ∙ u.under in
            let a = ((v.static).ages p.0 p.1 lk).0 in
            let live : (p.0).row.status ≡ Live = ap (λ (x : Row). x.status) (sym p.2) ∙ on in
            absurd (k.free p.0 p.1 (record { mini = lk.mini; of = fam; live = live }) (let z : k.lo < (p.0).age = omega arith in z) (let z : (p.0).age < n = omega arith in z));
        alive = λ e r h. absurd h;
      }

  first_or : (family : ℕ) (m : Piece) → In m v.ps → Linked m → m.family ≡ family → (rs : List Row) → ((r : Row) → In r rs → In r c.rows × IsUnder l family r) → (r : Row) → In r (m.row ∷ rs) → In r c.rows × IsUnder l family r
  first_or family m hm k f rs u r (inl i) = (
    subst (λ (x : Row). In x c.rows) (sym i) (among m hm),
    subst (λ (x : Row). IsUnder l family x) (sym i) (record { mini = k.mini; linked = k.was; under = family_is m hm k ∙ f }),
  )
  first_or family m hm k f rs u r (inr h) = u r h

  -- where it leads to a mini block, it goes on as from there
  module _ (n family q : ℕ) (live : Bool) (k : Leads v.ps family n q live) (m : Piece) (hm : In m v.ps) (lm : Linked m) (am : m.age ≡ k.lo) (rest : LeadsDown l c family m.age m.next (is_live m.row.status)) where
    at_age : (r : Row) → In r c.rows → IsUnder l family r → r.status ≡ Live → l.number r.at < n → (p : Piece) → In p v.ps → r ≡ p.row → Linked p → l.number r.at ≡ p.age → LiveOf family p → In r (m.row ∷ rest.through)
    at_age r h u on y p hp e lk age lv = ⊎_elim
        (λ (same : p.age ≡ m.age). inl (e ∙ ap the_row ((v.static).distinct p m hp hm lk lm same)))
        (λ (other : (p.age < m.age) ⊎ (m.age < p.age)). ⊎_elim
        (λ (less : p.age < m.age). inr (rest.whole r h u on (let z : l.number r.at < m.age = omega arith in z)))
        (λ (more : m.age < p.age). absurd (k.free p hp lv (let z : k.lo < p.age = omega arith in z) (let z : p.age < n = omega arith in z)))
        other)
        (cases_order p.age m.age)

    whole : (r : Row) → In r c.rows → IsUnder l family r → r.status ≡ Live → l.number r.at < n → In r (m.row ∷ rest.through)
    whole r h u on y =
        let p = listed r h in
        let lk = is_linked p.0 r p.2 u.mini u.linked in
        let age : l.number r.at ≡ (p.0).age = ap (λ (x : Row). l.number x.at) p.2 ∙ age_is p.0 p.1 lk in
        let fam : (p.0).family ≡ family = sym (ap (λ (x : Row). l.under x.at) p.2 ∙ family_is p.0 p.1 lk) ∙ u.under in
        at_age r h u on y p.0 p.1 p.2 lk age (record { mini = lk.mini; of = fam; live = ap (λ (x : Row). x.status) (sym p.2) ∙ on })

    goes : m.family ≡ family → m.row.at ≡ q → (live ≡ true → m.row.status ≡ Live) → LeadsDown l c family n q live
    goes fm at on =
        let b = k.below in
        let number = age_is m hm lm in
        record {
          through = m.row ∷ rest.through;
          way = (at, subst (λ x. Way c.code x rest.through (tail_of family)) (sym (next m hm)) rest.way);
          older = (let z : l.number m.row.at < n = omega arith in z, subst (λ x. AreOlder l x rest.through) (sym number) rest.older);
          under = first_or family m hm lm fm rest.through rest.under;
          whole = whole;
          alive = λ e r h. ⊎_elim (λ (i : r ≡ m.row). ap (λ (x : Row). x.status) i ∙ on e) (λ i. rest.alive (ap is_live (on e)) r i) h;
        }

  -- a way from where age n leads
  down : (most n family q : ℕ) (live : Bool) → n ≤ most → Leads v.ps family n q live → LeadsDown l c family n q live
  down zero n family q live le k = let b = k.below in absurd (omega arith)
  down (suc most) n family q live le k = ⊎_elim (λ e. ends n family q live k e.0 e.1)
      (λ (g : (m : Piece) × In m v.ps × Linked m × (m.family ≡ family) × (m.age ≡ k.lo) × (m.row.at ≡ q) × (live ≡ true → m.row.status ≡ Live)).
      let m = g.0 in
      let b = k.below in
      let a = g.4 in
      let chain : Leads v.ps family m.age m.next (is_live m.row.status) = subst (λ f. Leads v.ps f m.age m.next (is_live m.row.status)) g.3 ((v.static).chains m g.1 g.2) in
      goes n family q live k m g.1 g.2 g.4 (down most m.age family m.next (is_live m.row.status) (let z : m.age ≤ most = omega arith in z) chain) g.3 g.5 g.6)
      k.to

  -- ---- harts

  module _ (x : Hart) (y : PlainHart) (d : Dynamic c.program c.budget v.ps x y) (i : x.inside ≡ true) (on : x.stop ≡ None) where
    inside_at : (p : Piece) → In p v.ps → WasLinked p.row → p.row.at ≤ x.pc → x.pc < p.row.at + 4 * p.row.len → (place : ℕ) → x.pc ≡ p.row.at + 4 * place → (IsBeforeTick c p.row place → x.ticks < c.budget) → IsInside c x
    inside_at p h was lo hi place word before =
        record {
          on = on;
          block = p.row;
          at = block_is c.program c.code c.rows v.ps v.clock v.static p x.pc h lo hi;
          linked = was;
          place = place;
          word = word;
          before = before;
        }

    in_base_block : (b : Piece) → In b v.ps → IsBase b → WasLinked b.row → b.row.at ≤ x.pc → x.pc < b.row.at + 4 * b.row.len → BasePlace c.program c.budget b x y → IsInside c x
    in_base_block b h bs was lo hi (inl k) = inside_at b h was lo hi 0 (let e = k.pc in omega arith) (λ q. k.before)
    in_base_block b h bs was lo hi (inr (inl k)) = inside_at b h was lo hi 1 (let e = k.pc in omega arith) (λ q. k.before)
    in_base_block b h bs was lo hi (inr (inr (inl k))) = inside_at b h was lo hi 2 (let e = k.pc in omega arith) (λ q. k.before)
    in_base_block b h bs was lo hi (inr (inr (inr (inl k)))) = inside_at b h was lo hi (3 + k.j) (let e = k.pc in omega arith) (λ q. k.before)
    in_base_block b h bs was lo hi (inr (inr (inr (inr k)))) =
        inside_at b h was lo hi (3 + k.j) (let e = k.pc in omega arith)
        (λ q. ⊎_elim (λ (m : b.row.base ≡ false). absurd (true≢false (sym bs.base ∙ m)))
        (λ (w : (word : ℕ) × (program_word c.program b.row.point ≡ Some word) × (3 + k.j ≤ 3 + own_place word)).
        let same : w.0 ≡ (k.m).word = same_some (program_word c.program b.row.point) w.0 (k.m).word w.1 (k.m).here in
        let e : own_place w.0 ≡ own_place (k.m).word = ap own_place same in
        let z = w.2 in
        let a = k.above in
        absurd (omega arith)) q)

    stands : HartOk c.program c.budget v.ps x y → IsInside c x
    stands (inl o) = absurd (true≢false (sym i ∙ o.outside))
    stands (inr (inl k)) = let w = in_base c.program c.budget c.code c.rows v.ps v.clock v.static x y k in in_base_block k.b k.is_in k.base k.was w.0 w.1 k.place
    stands (inr (inr k)) = let w = in_mini c.program c.budget c.code c.rows v.ps v.clock v.static x y k in inside_at k.m k.is_in (k.linked).was w.0 w.1 k.i k.pc (λ q. k.before)

  not_down : (x : Hart) (o : Option Cause) → x.inside ≡ true → ((cause : Cause) → o ≡ Some cause → x.inside ≡ false) → o ≡ None
  not_down x None i f = refl
  not_down x (Some cause) i f = absurd (true≢false (sym i ∙ f cause refl))

  inside : (h : ℕ) (x : Hart) → slice_get c.harts h ≡ Some x → x.inside ≡ true → IsInside c x
  inside h x ex i =
      let q = within c.harts s.harts h x v.many ex in
      let d = v.harts h x q.0 ex q.1 in
      let on = not_down x x.stop i (λ cause e. (d.down cause e).0) in
      stands x q.0 d i on (d.hart on)

  -- ---- together

  family_block : (r : Row) → In r c.rows → r.base ≡ false → WasLinked r → (b : Row) × HasBase l c r b
  family_block r h b w =
      let p = listed r h in
      let k = is_linked p.0 r p.2 b w in
      let f = (v.static).families p.0 p.1 k in (
        (f.0).row,
        record {
          listed = among f.0 (f.1).is_in;
          base = ((f.1).base).base;
          under = ap (λ (z : Row). l.under z.at) p.2 ∙ (family_is p.0 p.1 k ∙ sym (f.1).at);
          point = ap (λ (z : Row). z.point) p.2 ∙ sym (f.1).point;
          current = λ e. (v.static).used p.0 f.0 p.1 k f.1 (ap (λ (z : Row). z.status) (sym p.2) ∙ e);
        },
      )

  way_of : (r : Row) → In r c.rows → r.base ≡ false → WasLinked r → LeadsDown l c (l.under r.at) (l.number r.at) (next_of c.code r) (is_live r.status)
  way_of r h b w =
      let p = listed r h in
      let k = is_linked p.0 r p.2 b w in
      let o = down (p.0).age (p.0).age (p.0).family (p.0).next (is_live (p.0).row.status) (omega arith) ((v.static).chains p.0 p.1 k) in
      let o1 : LeadsDown l c (l.under (p.0).row.at) (p.0).age (p.0).next (is_live (p.0).row.status) = subst (λ f. LeadsDown l c f (p.0).age (p.0).next (is_live (p.0).row.status)) (sym (family_is p.0 p.1 k)) o in
      let o2 : LeadsDown l c (l.under (p.0).row.at) (l.number (p.0).row.at) (p.0).next (is_live (p.0).row.status) = subst (λ n. LeadsDown l c (l.under (p.0).row.at) n (p.0).next (is_live (p.0).row.status)) (sym (age_is p.0 p.1 k)) o1 in
      let o3 : LeadsDown l c (l.under (p.0).row.at) (l.number (p.0).row.at) (next_of c.code (p.0).row) (is_live (p.0).row.status) = subst (λ q. LeadsDown l c (l.under (p.0).row.at) (l.number (p.0).row.at) q (is_live (p.0).row.status)) (sym (next p.0 p.1)) o2 in
      subst (λ (z : Row). LeadsDown l c (l.under z.at) (l.number z.at) (next_of c.code z) (is_live z.status)) (sym p.2) o3

  head_of : (b : Row) → In b c.rows → b.base ≡ true → LeadsDown l c b.at (l.count + 1) (next_of c.code b) (is_current b.status)
  head_of b h e =
      let p = listed b h in
      let bs : IsBase p.0 = record { base = ap (λ (z : Row). z.base) (sym p.2) ∙ e } in
      let o = down v.clock v.clock (p.0).row.at (p.0).next (is_current (p.0).row.status) (omega arith) ((v.static).heads p.0 p.1 bs) in
      let o1 : LeadsDown l c (p.0).row.at (l.count + 1) (p.0).next (is_current (p.0).row.status) = subst (λ n. LeadsDown l c (p.0).row.at n (p.0).next (is_current (p.0).row.status)) told.0 o in
      let o2 : LeadsDown l c (p.0).row.at (l.count + 1) (next_of c.code (p.0).row) (is_current (p.0).row.status) = subst (λ q. LeadsDown l c (p.0).row.at (l.count + 1) q (is_current (p.0).row.status)) (sym (next p.0 p.1)) o1 in
      subst (λ (r : Row). LeadsDown l c r.at (l.count + 1) (next_of c.code r) (is_current r.status)) (sym p.2) o2

  pub kept : IsInvariant l c
  kept =
      record {
        blocks = λ r h. let p = listed r h in subst (IsBlock c) (sym p.2) (is_block p.0 p.1);
        apart = λ r q hr hq.
            let a = listed r hr in
            let b = listed q hq in
            ⊎_elim (λ e. inl (a.2 ∙ (ap the_row e ∙ sym b.2))) (λ k. inr (subst (λ (x : Row). Apart x.at x.len q.at q.len) (sym a.2) (subst (λ (x : Row). Apart (a.0).row.at (a.0).row.len x.at x.len) (sym b.2) k))) ((v.static).apart a.0 b.0 a.1 b.1);
        bases = λ b d hb hd eb ed same lb ld.
            let x = listed b hb in
            let y = listed d hd in
            x.2
            ∙ (ap the_row ((v.static).single x.0 y.0 x.1 y.1 (record { base = ap (λ (z : Row). z.base) (sym x.2) ∙ eb }) (record { base = ap (λ (z : Row). z.base) (sym y.2) ∙ ed })
            (ap (λ (z : Row). z.point) (sym x.2) ∙ (same ∙ ap (λ (z : Row). z.point) y.2)) (ap (λ (z : Row). is_current z.status) (sym x.2) ∙ lb) (ap (λ (z : Row). is_current z.status) (sym y.2) ∙ ld))
            ∙ sym y.2);
        text = λ a w e. ⊎_elim (λ z. inl z)
            (λ (z : (b : Piece) × In b v.ps × IsBase b × (b.row.point ≡ a) × (b.row.status ≡ Live) × Door c.code b). inr ((z.0).row, among z.0 z.1, (z.2).base, z.3, z.4, opens z.0 z.5))
            ((v.static).words a w e);
        open_at = λ b h e on.
            let p = listed b h in
            subst (IsOpen c.code) (sym p.2) (opens p.0 ((v.static).doors p.0 p.1 (record { base = ap (λ (z : Row). z.base) (sym p.2) ∙ e }) (ap (λ (z : Row). z.status) (sym p.2) ∙ on)));
        numbers = λ r h b w.
            let p = listed r h in
            let a = (v.static).ages p.0 p.1 (is_linked p.0 r p.2 b w) in
            let a0 = a.0 in
            let a1 = a.1 in
            let k = told.0 in
            let e : l.number r.at ≡ (p.0).age = ap (λ (z : Row). l.number z.at) p.2 ∙ age_is p.0 p.1 (is_linked p.0 r p.2 b w) in
            (omega arith, omega arith);
        distinct = λ r q hr hq br bq wr wq e.
            let a = listed r hr in
            let b = listed q hq in
            a.2
            ∙ (ap the_row ((v.static).distinct a.0 b.0 a.1 b.1 (is_linked a.0 r a.2 br wr) (is_linked b.0 q b.2 bq wq)
            (sym (age_is a.0 a.1 (is_linked a.0 r a.2 br wr)) ∙ (ap (λ (z : Row). l.number z.at) (sym a.2) ∙ (e ∙ (ap (λ (z : Row). l.number z.at) b.2 ∙ age_is b.0 b.1 (is_linked b.0 q b.2 bq wq))))))
            ∙ sym b.2);
        families = family_block;
        ways = way_of;
        heads = head_of;
        harts = inside;
      }

pub keeps : KeepsAlways
keeps image n budget es p k =
    let c = start_core image n budget in
    let first : Counted no_linkings c (start image n) = record { inv = begins image n budget p; numbers = begins_numbers image n budget p } in
    let a = counted_events no_linkings es (program_of image) budget c (start image n) refl refl first k in
    kept (linkings es c no_linkings) (replay es c) (run_from (program_of image) (owns es c) (start image n)) (a.1).inv (a.1).numbers
