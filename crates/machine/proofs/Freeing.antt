-- Free keeps what is kept.
use Rattle.std.proofs.Common.{◌≡◌, ℕ, Some, refl, sym, ap, ◌∙◌, ⊎_elim, inl, inr}
use Rattle.std.specs.Prelude.{filter, Bool, true, not, ◌⊎◌, ◌==◌, slice_get}
use Rattle.std.proofs.lemmas.Bool.{true≢false, cases_Bool, cases_eq, eq-eqb, ne_eqb, not_from_false, not_from_true, and_left, and_right, and_from}
use Rattle.rv_word.specs.Plain.{PlainHart, Plain}
use Rattle.tramp_spec.specs.Harts.{Hart}
use Rattle.machine.specs.Cores.{In, Row, Status, Written, Live, Retired, Core, is_live, is_current}
use Rattle.machine.specs.Events.{StandsIn}
use Rattle.machine.specs.Effects.{is_kept}
use Rattle.machine.proofs.Lists.{in_filter, filter_in, map_filter}
use Rattle.machine.proofs.Invariant.{Piece, the_row, IsBase, Linked, Leads, HasFamily, Door, Static, InBase, InMini, Dynamic, Inv}
use Rattle.machine.proofs.Homes.{row_in}
use Rattle.machine.proofs.Points.{live_true, same_point, base_point}
use Rattle.machine.proofs.Follow.{Kept, NoPiece, Nowhere, NoMore}
use Rattle.machine.proofs.Standing.{base_holds, mini_holds}

module _ (c : Core) (s : Plain) (v : Inv c s) (p : ℕ) (may : (r : Row) → In r c.rows → r.point ≡ p → StandsIn c r → ⊥) where
  abbrev kept : Piece → Bool
  kept x = is_kept p x.row

  st' : Static c.program c.code c.rows v.ps v.clock
  st' = v.static

  pub kept_current : (x : Piece) → is_current x.row.status ≡ true → kept x ≡ true
  kept_current x e = not_from_false _ (and_right (x.row.point == p) (not (is_current x.row.status)) (not_from_true _ e))

  kept_other : (x : Piece) → (x.row.point ≡ p → ⊥) → kept x ≡ true
  kept_other x e = not_from_false _ (and_left (x.row.point == p) (not (is_current x.row.status)) (ne_eqb _ _ e))

  -- what is kept is of another point or isn't retired
  why : (x : Piece) → kept x ≡ true → (x.row.point ≡ p → ⊥) ⊎ (is_current x.row.status ≡ true)
  why x e = ⊎_elim (λ i. ⊎_elim (λ t. inr t) (λ t. absurd (true≢false (sym e ∙ not_from_true _ (and_from _ _ (eq-eqb _ _ i) (not_from_false _ t))))) (cases_Bool (is_current x.row.status))) (λ i. inl i) (cases_eq x.row.point p)

  live_current : (x : Piece) → x.row.status ≡ Live → is_current x.row.status ≡ true
  live_current x e = ap is_current e

  keep : (x : Piece) → In x (filter kept v.ps) → In x v.ps × (kept x ≡ true)
  keep x h = in_filter kept v.ps x h

  -- where the target is kept
  leads_less : (family n q : ℕ) (live : Bool) → Leads v.ps family n q live → ((u : Piece) → In u v.ps → Linked u → u.family ≡ family → (live ≡ true → u.row.status ≡ Live) → kept u ≡ true) → Leads (filter kept v.ps) family n q live
  leads_less family n q live l f = record {
    lo = l.lo;
    below = l.below;
    free = λ y h o a b. l.free y (keep y h).0 o a b;
    to = ⊎_elim (λ r. inl r) (λ (r : (m : Piece) × In m v.ps × Linked m × (m.family ≡ family) × (m.age ≡ l.lo) × (m.row.at ≡ q) × (live ≡ true → m.row.status ≡ Live)). inr (r.0, filter_in kept v.ps r.0 r.1 (f r.0 r.1 r.2 r.3 r.6), r.2, r.3, r.4, r.5, r.6)) l.to;
  }

  -- a linked block that isn't retired is live
  live_from : (x : Piece) → Linked x → is_current x.row.status ≡ true → is_live x.row.status ≡ true
  live_from x k e = by x.row.status k.was e
    where
      by : (z : Status) → (z ≡ Written → ⊥) → is_current z ≡ true → is_live z ≡ true
      by Written n e = absurd (n refl)
      by Live n e = refl
      by Retired n e = absurd (true≢false (sym e))

  family_kept : (m b : Piece) → In m v.ps → Linked m → kept m ≡ true → HasFamily v.ps m b → HasFamily (filter kept v.ps) m b
  family_kept m b hm km e o = record {
    is_in = filter_in kept v.ps b o.is_in (⊎_elim (λ i. kept_other b (λ z. i (sym o.point ∙ z))) (λ i. kept_current b (st'.used m b hm km o (live_true _ (live_from m km i)))) (why m e));
    base = o.base;
    at = o.at;
    point = o.point;
  }

  in_rows : (x : Piece) → In x v.ps → In x.row c.rows
  in_rows x h = row_in c.program c.code c.rows v.ps v.clock v.static x h

  -- where a hart stands, the block and its base are kept
  pub holds_base : (h : ℕ) (x : Hart) (y : PlainHart) → slice_get c.harts h ≡ Some x → (k : InBase c.program c.budget v.ps x y) → is_kept p (k.b).row ≡ true
  holds_base h x y ex k = kept_other k.b (λ e. may (k.b).row (in_rows k.b k.is_in) e (h, x, ex, k.inside, base_holds c.program c.budget c.code c.rows v.ps v.clock v.static x y k))

  pub holds_mini : (h : ℕ) (x : Hart) (y : PlainHart) → slice_get c.harts h ≡ Some x → (k : InMini c.budget v.ps x y) → (is_kept p (k.m).row ≡ true) × (is_kept p (k.b).row ≡ true)
  holds_mini h x y ex k =
      let a = kept_other k.m (λ e. may (k.m).row (in_rows k.m k.is_in) e (h, x, ex, k.inside, mini_holds c.program c.budget c.code c.rows v.ps v.clock v.static x y k)) in
      (a, (keep k.b (family_kept k.m k.b k.is_in k.linked a k.family).is_in).1)

  stays_free : (h : ℕ) (x : Hart) (y : PlainHart) → slice_get c.harts h ≡ Some x → Dynamic c.program c.budget v.ps x y → Dynamic c.program c.budget (filter kept v.ps) x y
  stays_free h x y ex d = record {
    ticks = d.ticks;
    stop = d.stop;
    first = d.first;
    second = d.second;
    bank = d.bank;
    down = d.down;
    hart = λ e. ⊎_elim (λ o. inl o) (λ r. inr (⊎_elim
        (λ (k : InBase c.program c.budget v.ps x y). inl (record { b = k.b; is_in = filter_in kept v.ps k.b k.is_in (holds_base h x y ex k); base = k.base; was = k.was; inside = k.inside; place = k.place }))
        (λ (k : InMini c.budget v.ps x y). let a = (holds_mini h x y ex k).0 in inr (record { m = k.m; b = k.b; is_in = filter_in kept v.ps k.m k.is_in a; linked = k.linked; family = family_kept k.m k.b k.is_in k.linked a k.family; was = k.was; inside = k.inside; home = k.home; before = k.before; saved = k.saved; i = k.i; f = k.f; pc = k.pc; safe = k.safe })) r)) (d.hart e);
  }

  pub freed : Kept (λ x. is_kept p x.row ≡ true) NoPiece (λ r. r.status) Nowhere NoMore v.clock v.ps c (record c { rows = filter (is_kept p) c.rows }) s
  freed = record {
    inv = record {
      ground = v.ground;
      ps = filter kept v.ps;
      clock = v.clock;
      some = v.some;
      static = record {
        images = sym (map_filter the_row (is_kept p) v.ps) ∙ ap (filter (is_kept p)) st'.images;
        shapes = λ x h. st'.shapes x (keep x h).0;
        places = λ x h. st'.places x (keep x h).0;
        apart = λ x y hx hy. st'.apart x y (keep x hx).0 (keep y hy).0;
        words = λ a u e. ⊎_elim (λ o. inl o)
            (λ (o : (d : Piece) × In d v.ps × IsBase d × (d.row.point ≡ a) × (d.row.status ≡ Live) × Door c.code d). inr (o.0, filter_in kept v.ps o.0 o.1 (kept_current o.0 (live_current o.0 o.4)), o.2, o.3, o.4, o.5))
            (st'.words a u e);
        doors = λ x h k e. st'.doors x (keep x h).0 k e;
        single = λ x y hx hy bx by e cx cy. st'.single x y (keep x hx).0 (keep y hy).0 bx by e cx cy;
        ages = λ m h k. st'.ages m (keep m h).0 k;
        distinct = λ x y hx hy kx ky e. st'.distinct x y (keep x hx).0 (keep y hy).0 kx ky e;
        families = λ m h k. let i = keep m h in let o = st'.families m i.0 k in (o.0, family_kept m o.0 i.0 k i.1 o.1);
        used = λ m b hm km o lv. st'.used m b (keep m hm).0 km (record { is_in = (keep b o.is_in).0; base = o.base; at = o.at; point = o.point }) lv;
        chains = λ m h k. let i = keep m h in leads_less m.family m.age m.next (is_live m.row.status) (st'.chains m i.0 k)
            (λ u hu ku fu lv. ⊎_elim
            (λ away. let o = st'.families m i.0 k in kept_other u (λ z. away (sym (same_point c.program c.code c.rows v.ps v.clock v.static m u o.0 o.1 hu ku fu) ∙ z)))
            (λ cur. kept_current u (live_current u (lv (live_from m k cur)))) (why m i.1));
        heads = λ b h k. let i = keep b h in leads_less b.row.at v.clock b.next (is_current b.row.status) (st'.heads b i.0 k)
            (λ u hu ku fu lv. ⊎_elim
            (λ away. kept_other u (λ z. away (sym (base_point c.program c.code c.rows v.ps v.clock v.static b u i.0 k hu ku fu) ∙ z)))
            (λ cur. kept_current u (live_current u (lv cur))) (why b i.1));
      };
      prog = v.prog;
      many = v.many;
      harts = λ h x y ex ey. stays_free h x y ex (v.harts h x y ex ey);
    };
    numbers = λ l k. (k.0, λ y h ly. k.1 y (keep y h).0 ly);
    follows = record {
      on = λ x h k. (x, filter_in kept v.ps x h k, record { at = refl; point = refl; base = refl; body = refl; status = refl; was = λ w. w; family = λ k. refl; age = λ k. refl });
      back = λ y h. inl (y, (keep y h).0, record { at = refl; point = refl; base = refl; body = refl; status = refl; was = λ w. w; family = λ k. refl; age = λ k. refl });
    };
    words = λ a u e but. refl;
    program = refl;
    budget = refl;
    harts = refl;
    prog = refl;
  }
