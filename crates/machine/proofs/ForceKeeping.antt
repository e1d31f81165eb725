-- What is kept of an instrument in force stays at an event of the tool.
use Rattle.std.proofs.Common.{◌≡◌, ℕ, ◌+◌, ◌*◌, List, [], sym, ap, ◌∙◌, subst, ⊎_elim, inl, inr}
use Rattle.std.specs.Prelude.{true, false}
use Rattle.pn_types.specs.declared.placed.Placed.{Placed}
use Rattle.pn_types.specs.declared.placed.PlacedSite.{PlacedSite}
use Rattle.pn_types.specs.declared.plan.Plan.{Plan}
use Rattle.rv_word.specs.Plain.{Words, PlainHart}
use Rattle.tramp_spec.specs.Blocks.{tail_of}
use Rattle.tramp_spec.specs.Bodies.{Safe, finish}
use Rattle.tramp_spec.specs.Harts.{Hart, bench_of}
use Rattle.tramp_spec.specs.declared.mark.MarkedWord.{MarkedWord}
use Rattle.machine.specs.Cores.{In, Row, Status, Live}
use Rattle.machine.specs.Instruments.{IsMiniOf, Spares}
use Rattle.machine.specs.Measures.{Level}
use Rattle.machine.proofs.Follow.{Image, Follows}
use Rattle.machine.proofs.Force.{Mine, Ready, Way, BaseTells, BaseReads, MiniReads, Reads}
use Rattle.machine.proofs.Invariant.{Piece, Linked, HasFamily, AtMoved, AtLeave, BasePlace, InBase, InMini}

-- ---- a hart stands alike in base blocks at one address and point

abbrev stub : ℕ → ℕ → Piece
stub at point = record { row = record { point = point; at = at; len = 0; base = true; status = Live }; body = []; next = 0; family = 0; age = 0 }

module _ (t : Words) (budget : ℕ) (x : Hart) (y : PlainHart) where
  moved_in : (b : Piece) → AtMoved t budget b x y → AtMoved t budget (stub b.row.at b.row.point) x y
  moved_in b k =
      let m = k.m in
      record {
        m = record { word = m.word; here = m.here; moved = m.moved; movable = m.movable; moves = m.moves };
        j = k.j;
        low = k.low;
        pc = k.pc;
        home = k.home;
        before = k.before;
        regs = k.regs;
        size = k.size;
        agree = k.agree;
        is = k.is;
      }

  moved_out : (b : Piece) → AtMoved t budget (stub b.row.at b.row.point) x y → AtMoved t budget b x y
  moved_out b k =
      let m = k.m in
      record {
        m = record { word = m.word; here = m.here; moved = m.moved; movable = m.movable; moves = m.moves };
        j = k.j;
        low = k.low;
        pc = k.pc;
        home = k.home;
        before = k.before;
        regs = k.regs;
        size = k.size;
        agree = k.agree;
        is = k.is;
      }

  leave_in : (b : Piece) → AtLeave t b x y → AtLeave t (stub b.row.at b.row.point) x y
  leave_in b k =
      let m = k.m in
      record {
        m = record { word = m.word; here = m.here; moved = m.moved; movable = m.movable; moves = m.moves };
        j = k.j;
        above = k.above;
        low = k.low;
        pc = k.pc;
        left = k.left;
        stands = k.stands;
        home = k.home;
        agree = k.agree;
      }

  leave_out : (b : Piece) → AtLeave t (stub b.row.at b.row.point) x y → AtLeave t b x y
  leave_out b k =
      let m = k.m in
      record {
        m = record { word = m.word; here = m.here; moved = m.moved; movable = m.movable; moves = m.moves };
        j = k.j;
        above = k.above;
        low = k.low;
        pc = k.pc;
        left = k.left;
        stands = k.stands;
        home = k.home;
        agree = k.agree;
      }

  at_moved : (b e : Piece) → e.row.at ≡ b.row.at → e.row.point ≡ b.row.point → AtMoved t budget b x y → AtMoved t budget e x y
  at_moved b e a p k = moved_out e (subst (λ n. AtMoved t budget (stub n e.row.point) x y) (sym a) (subst (λ n. AtMoved t budget (stub b.row.at n) x y) (sym p) (moved_in b k)))

  at_leave : (b e : Piece) → e.row.at ≡ b.row.at → e.row.point ≡ b.row.point → AtLeave t b x y → AtLeave t e x y
  at_leave b e a p k = leave_out e (subst (λ n. AtLeave t (stub n e.row.point) x y) (sym a) (subst (λ n. AtLeave t (stub b.row.at n) x y) (sym p) (leave_in b k)))

module _ (i : Placed) (plan : Plan) (families ages : ℕ → ℕ) where
  place_on : (t : Words) (budget : ℕ) (x : Hart) (y : PlainHart) (v : Level) (b e : Piece) → e.row.at ≡ b.row.at → e.row.point ≡ b.row.point → (k : BasePlace t budget b x y) → BaseTells i plan families ages v k
      → (q : BasePlace t budget e x y) × BaseTells i plan families ages v q
  place_on t budget x y v b e a p (inl k) o = (inl (record { pc = k.pc ∙ sym a; home = k.home ∙ sym p; before = k.before; agree = k.agree }), record { stand = o.stand; family_is = λ s h z. o.family_is s h z ∙ sym a })
  place_on t budget x y v b e a p (inr (inl k)) o = (inr (inl (record { pc = k.pc ∙ ap (λ n. n + 4) (sym a); home = k.home ∙ sym p; before = k.before; saved = k.saved })), record { stand = o.stand; family_is = λ s h z. o.family_is s h z ∙ sym a })
  place_on t budget x y v b e a p (inr (inr (inl k))) o = (inr (inr (inl (record { pc = k.pc ∙ ap tail_of (sym a); home = k.home ∙ sym p; before = k.before; saved = k.saved }))), o)
  place_on t budget x y v b e a p (inr (inr (inr (inl k)))) o = (inr (inr (inr (inl (at_moved t budget x y b e a p k)))), o)
  place_on t budget x y v b e a p (inr (inr (inr (inr k)))) o = (inr (inr (inr (inr (at_leave t budget x y b e a p k)))), o)

  module _ (ps qs : List Piece) (keep fresh : Piece → Type 0) (f : Row → Status) (fo : Follows keep fresh f ps qs) (rd : Ready i plan families ages ps)
      (mine_kept : (s : PlacedSite) → In s i.sites → (m : Mine i plan families ages ps s) → keep m.x × keep m.b × (f (m.x).row ≡ Live) × (f (m.b).row ≡ Live))
      (new_spares : (y : Piece) → fresh y → In y qs → y.row.base ≡ false → Spares i y.body) where
    family_on : (m b n e : Piece) → Linked m → Image f m n → Image f b e → In e qs → HasFamily ps m b → HasFamily qs n e
    family_on m b n e k im ib h o = record { is_in = h; base = record { base = ib.base ∙ (o.base).base }; at = ib.at ∙ (o.at ∙ sym (im.family k)); point = ib.point ∙ (o.point ∙ sym im.point) }

    mines : (s : PlacedSite) → In s i.sites → Mine i plan families ages qs s
    mines s h =
        let m = rd.mines s h in
        let k = mine_kept s h m in
        let x = fo.on m.x m.is_in k.0 in
        let b = fo.on m.b (m.base).is_in k.1 in
        let ix = x.2 in
        let ib = b.2 in
        record {
          x = x.0;
          is_in = x.1;
          at = ix.at ∙ m.at;
          point = ix.point ∙ m.point;
          linked = record { mini = ix.base ∙ (m.linked).mini; was = ix.was (m.linked).was };
          live = ix.status ∙ k.2;
          family = ix.family m.linked ∙ m.family;
          age = ix.age m.linked ∙ m.age;
          site = m.site;
          found = m.found;
          body = ix.body ∙ m.body;
          b = b.0;
          base = family_on m.x m.b x.0 b.0 m.linked ix ib b.1 m.base;
          entered = ib.status ∙ k.3;
        }

    pub ready : Ready i plan families ages qs
    ready = record {
      fits = rd.fits;
      mines = mines;
      spares = λ y h e. ⊎_elim
          (λ (r : (x : Piece) × In x ps × Image f x y).
          let m = r.2 in
          ⊎_elim (λ o. inl (subst (IsMiniOf i) (sym m.at) o)) (λ o. inr (subst (Spares i) (sym m.body) o)) (rd.spares r.0 r.1 (sym m.base ∙ e)))
          (λ r. inr (new_spares y r.0 h e)) (fo.back y h);
    }

    base_on : (t : Words) (budget : ℕ) (x : Hart) (y : PlainHart) (v : Level) (r : BaseReads i plan families ages t budget ps x y v) → keep (r.k).b → BaseReads i plan families ages t budget qs x y v
    base_on t budget x y v r kept =
        let k = r.k in
        let b = fo.on k.b k.is_in kept in
        let m = b.2 in
        let q = place_on t budget x y v k.b b.0 m.at m.point k.place r.told in
        record {
          k = record { b = b.0; is_in = b.1; base = record { base = m.base ∙ (k.base).base }; was = m.was k.was; inside = k.inside; place = q.0 };
          told = q.1;
        }

    mini_on : (budget : ℕ) (x : Hart) (y : PlainHart) (v : Level) (r : MiniReads i plan families ages budget ps x y v) → keep (r.k).m → keep (r.k).b → MiniReads i plan families ages budget qs x y v
    mini_on budget x y v r km kb =
        let k = r.k in
        let n = fo.on k.m k.is_in km in
        let b = fo.on k.b (k.family).is_in kb in
        let im = n.2 in
        let ib = b.2 in
        let at = im.at in
        record {
          k = record {
            m = n.0;
            b = b.0;
            is_in = n.1;
            linked = record { mini = im.base ∙ (k.linked).mini; was = im.was (k.linked).was };
            family = family_on k.m k.b n.0 b.0 k.linked im ib b.1 k.family;
            was = ib.was k.was;
            inside = k.inside;
            home = k.home ∙ sym im.point;
            before = k.before;
            saved = k.saved;
            i = k.i;
            f = k.f;
            pc = k.pc ∙ ap (λ a. a + 4 * k.i) (sym im.at);
            safe = subst (λ (w : List MarkedWord). Safe k.f w (n.0).row.at k.i (bench_of x) x.ticks) (sym im.body) (subst (λ a. Safe k.f (k.m).body a k.i (bench_of x) x.ticks) (sym im.at) k.safe);
          };
          way = subst (λ a. Way i plan families ages budget y v a (n.0).age (finish k.f (n.0).body (n.0).row.at k.i (bench_of x) x.ticks) x.ticks) (sym (im.family k.linked))
              (subst (λ a. Way i plan families ages budget y v (k.m).family a (finish k.f (n.0).body (n.0).row.at k.i (bench_of x) x.ticks) x.ticks) (sym (im.age k.linked))
              (subst (λ (w : List MarkedWord). Way i plan families ages budget y v (k.m).family (k.m).age (finish k.f w (n.0).row.at k.i (bench_of x) x.ticks) x.ticks) (sym im.body)
              (subst (λ a. Way i plan families ages budget y v (k.m).family (k.m).age (finish k.f (k.m).body a k.i (bench_of x) x.ticks) x.ticks) (sym im.at) r.way)));
        }

    pub reads : (t : Words) (budget : ℕ) (x : Hart) (y : PlainHart) (v : Level) → ((k : InBase t budget ps x y) → keep k.b) → ((k : InMini budget ps x y) → keep k.m × keep k.b)
        → Reads i plan families ages t budget ps x y v → Reads i plan families ages t budget qs x y v
    reads t budget x y v hb hm (inl o) = inl o
    reads t budget x y v hb hm (inr (inl r)) = inr (inl (base_on t budget x y v r (hb r.k)))
    reads t budget x y v hb hm (inr (inr r)) = let q = hm r.k in inr (inr (mini_on budget x y v r q.0 q.1))
