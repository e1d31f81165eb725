-- What a change of one word or of the rows leaves.
use Rattle.std.proofs.Common.{◌≡◌, ℕ, suc, ◌+◌, ◌-◌, ◌*◌, ◌<◌, ◌≤◌, List, [], ◌∷◌, ◌++◌, length, Some, refl, sym, ap, ◌∙◌, subst, arith, ⊎_elim, inl, inr}
use Rattle.std.specs.Prelude.{map, Bool, true, false, ◌⊎◌}
use Rattle.std.specs.FinMap.{get, insert}
use Rattle.std.proofs.lemmas.Bool.{cond-true, cond-false}
use Rattle.rv_word.specs.Plain.{Words, PlainHart, program_word}
use Rattle.tramp_spec.specs.Codes.{Code}
use Rattle.tramp_spec.specs.Harts.{Hart}
use Rattle.tramp_spec.specs.Marks.{tool}
use Rattle.tramp_spec.specs.declared.mark.MarkedWord.{MarkedWord}
use Rattle.tramp_spec.proofs.Hops.{Hops}
use Rattle.machine.specs.Cores.{In, Row, Status, Written, Live, is_live, is_current}
use Rattle.machine.specs.Effects.{with_status}
use Rattle.machine.specs.Events.{Apart, link_at}
use Rattle.machine.proofs.Lists.{in_map, map_in, map_follows, get_same, get_other, AreWordsAt, stands_other}
use Rattle.machine.proofs.Invariant.{Piece, the_row, IsBase, Linked, base_with, ShapedAs, Shaped, Placed, Leads, HasFamily, Door, TextWord, Static, BasePlace, InBase, InMini, Outside, Dynamic}

-- ---- one word

-- the last word of a mini block is written anew
mini_next : (code : Code) (at : ℕ) (body : List MarkedWord) (old new : MarkedWord) → AreWordsAt code at (body ++ old ∷ []) → AreWordsAt (insert code (at + 4 * length body) new) at (body ++ new ∷ [])
mini_next code at [] old new h =
    let e : at + 4 * 0 ≡ at = omega arith in
    subst (λ a. AreWordsAt (insert code a new) at (new ∷ [])) (sym e) (get_same code at new, tt)
mini_next code at (w ∷ ws) old new h =
    let e : at + 4 * suc (length ws) ≡ at + 4 + 4 * length ws = omega arith in
    subst (λ a. AreWordsAt (insert code a new) at (w ∷ (ws ++ new ∷ []))) (sym e)
    (get_other code (at + 4 + 4 * length ws) at new (λ x. omega arith) ∙ h.0, mini_next code (at + 4) ws old new h.1)

pub mini_len : (body : List MarkedWord) (w : MarkedWord) → length (body ++ w ∷ []) ≡ length body + 1
mini_len [] w = refl
mini_len (v ∷ vs) w = let e = mini_len vs w in omega (arith, e)

-- a block whose words stand as before
pub shaped_still : (t : Words) (code new : Code) (row : Row) (body : List MarkedWord) (next : ℕ) → ((ws : List MarkedWord) → length ws ≡ row.len → AreWordsAt code row.at ws → AreWordsAt new row.at ws)
    → ShapedAs t code row body next → ShapedAs t new row body next
shaped_still t code new row body next still (inl r) =
    inl (record {
      base = r.base;
      word = r.word;
      here = r.here;
      moved = r.moved;
      movable = r.movable;
      len = r.len;
      jump = r.jump;
      hops = r.hops;
      stands = still (base_with r.jump r.moved) (let l = r.len in omega arith) r.stands;
    })
shaped_still t code new row body next still (inr r) =
    inr (record {
      mini = r.mini;
      len = r.len;
      harmless = r.harmless;
      jump = r.jump;
      hops = r.hops;
      stands = still (body ++ tool r.jump ∷ []) (mini_len body (tool r.jump) ∙ sym r.len) r.stands;
    })

-- a write outside of a block
pub shaped_other : (t : Words) (code : Code) (row : Row) (body : List MarkedWord) (next a : ℕ) (w : MarkedWord) → (a < row.at) ⊎ (row.at + 4 * row.len ≤ a) → ShapedAs t code row body next → ShapedAs t (insert code a w) row body next
shaped_other t code row body next a w o =
    shaped_still t code (insert code a w) row body next (λ ws e. stands_other code a w row.at ws (⊎_elim (λ x. inl x) (λ x. inr (omega arith)) o))

link_base : (row : Row) → row.base ≡ true → link_at row ≡ row.at + 4
link_base row e = cond-true row.base _ _ e

link_mini : (row : Row) (n : ℕ) → row.base ≡ false → row.len ≡ n + 1 → link_at row ≡ row.at + 4 * n
link_mini row n e l = let m : row.at + 4 * (row.len - 1) ≡ row.at + 4 * n = omega arith in cond-false row.base _ _ e ∙ m

-- the word that leads to the next block is written anew
pub shaped_next : (t : Words) (code : Code) (row : Row) (body : List MarkedWord) (old new jump : ℕ) → Hops (link_at row) new jump → ShapedAs t code row body old → ShapedAs t (insert code (link_at row) (tool jump)) row body new
shaped_next t code row body old new jump h (inl r) =
    let e = link_base row r.base in
    inl (record {
      base = r.base;
      word = r.word;
      here = r.here;
      moved = r.moved;
      movable = r.movable;
      len = r.len;
      jump = jump;
      hops = subst (λ a. Hops a new jump) e h;
      stands = subst (λ a. AreWordsAt (insert code a (tool jump)) row.at (base_with jump r.moved)) (sym e) (
        get_other code (row.at + 4) row.at (tool jump) (λ x. omega arith) ∙ (r.stands).0,
        (
          get_same code (row.at + 4) (tool jump),
          (
            get_other code (row.at + 4) (row.at + 4 + 4) (tool jump) (λ x. omega arith) ∙ (r.stands).1.1.0,
            stands_other code (row.at + 4) (tool jump) (row.at + 4 + 4 + 4) r.moved (inl (omega arith)) (r.stands).1.1.1,
          ),
        ),
      );
    })
shaped_next t code row body old new jump h (inr r) =
    let e = link_mini row (length body) r.mini r.len in
    inr (record {
      mini = r.mini;
      len = r.len;
      harmless = r.harmless;
      jump = jump;
      hops = subst (λ a. Hops a new jump) e h;
      stands = subst (λ a. AreWordsAt (insert code a (tool jump)) row.at (body ++ tool jump ∷ [])) (sym e) (mini_next code row.at body (tool r.jump) (tool jump) r.stands);
    })

pub shaped_len : (t : Words) (code : Code) (row : Row) (body : List MarkedWord) (next : ℕ) → ShapedAs t code row body next → 0 < row.len
shaped_len t code row body next (inl r) = let l = r.len in omega arith
shaped_len t code row body next (inr r) = let l = r.len in omega arith

-- that word lies in the block
pub link_in : (t : Words) (code : Code) (row : Row) (body : List MarkedWord) (next : ℕ) → ShapedAs t code row body next → (row.at ≤ link_at row) × (link_at row + 4 ≤ row.at + 4 * row.len) × ((n : ℕ) × (link_at row ≡ row.at + 4 * n))
link_in t code row body next (inl r) = let e = link_base row r.base in let l = r.len in (omega arith, omega arith, (1, e ∙ (let z : row.at + 4 ≡ row.at + 4 * 1 = omega arith in z)))
link_in t code row body next (inr r) = let e = link_mini row (length body) r.mini r.len in let l = r.len in (omega arith, omega arith, (length body, e))

-- ---- the rows

-- pieces with other statuses, next blocks, families and ages
abbrev pub rework : (Row → Status) → (Piece → ℕ) → (Piece → ℕ) → (Piece → ℕ) → Piece → Piece
rework f n fam age p = record { row = with_status f p.row; body = p.body; next = n p; family = fam p; age = age p }

-- a door is that of an address, whatever else is known of the base
pub door_of : (code : Code) (b d : Piece) → d.row.point ≡ b.row.point → d.row.at ≡ b.row.at → Door code b → Door code d
door_of code b d p a k = record {
  jump = k.jump;
  stands = ap (get code) p ∙ k.stands;
  hops = subst (λ q. Hops q d.row.at k.jump) (sym p) (subst (λ q. Hops b.row.point q k.jump) (sym a) k.hops);
}

module _ (ps : List Piece) (f : Row → Status) (n fam age : Piece → ℕ) where
  abbrev g : Piece → Piece
  g p = rework f n fam age p

  pub images_kept : (rows : List Row) → map the_row ps ≡ rows → map the_row (map (rework f n fam age) ps) ≡ map (with_status f) rows
  images_kept rows e = sym (map_follows the_row (rework f n fam age) (with_status f) ps (λ x. refl)) ∙ ap (map (with_status f)) e

  -- the facts of the reworked blocks, from facts over the old ones
  pub static_kept : (t : Words) (code code' : Code) (rows : List Row) (clock clock' : ℕ) → Static t code rows ps clock
      → ((p : Piece) → In p ps → ShapedAs t code' p.row p.body (n p))
      → ((a w : ℕ) → program_word t a ≡ Some w → TextWord code' (map (rework f n fam age) ps) a w)
      → ((b : Piece) → In b ps → IsBase b → f b.row ≡ Live → Door code' b)
      → ((b : Piece) → In b ps → IsBase b → is_current (f b.row) ≡ true → is_current b.row.status ≡ true)
      → ((m : Piece) → In m ps → Linked (rework f n fam age m) → (0 < age m) × (age m < clock'))
      → ((m o : Piece) → In m ps → In o ps → Linked (rework f n fam age m) → Linked (rework f n fam age o) → age m ≡ age o → m ≡ o)
      → ((m : Piece) → In m ps → Linked (rework f n fam age m) → (b : Piece) × In b ps × IsBase b × (b.row.at ≡ fam m) × (b.row.point ≡ m.row.point))
      → ((m b : Piece) → In m ps → In b ps → Linked (rework f n fam age m) → IsBase b → b.row.at ≡ fam m → f m.row ≡ Live → is_current (f b.row) ≡ true)
      → ((m : Piece) → In m ps → Linked (rework f n fam age m) → Leads (map (rework f n fam age) ps) (fam m) (age m) (n m) (is_live (f m.row)))
      → ((b : Piece) → In b ps → IsBase b → Leads (map (rework f n fam age) ps) b.row.at clock' (n b) (is_current (f b.row)))
      → Static t code' (map (with_status f) rows) (map (rework f n fam age) ps) clock'
  static_kept t code code' rows clock clock' st shapes words doors cur ages distinct families used chains heads =
      record {
        images = images_kept rows st.images;
        shapes = λ y h. let r = in_map g ps y h in subst (Shaped t code') (sym r.2) (again r.0 (shapes r.0 r.1));
        places = λ y h. let r = in_map g ps y h in subst (λ (q : Piece). Placed t q.row) (sym r.2) (let k = st.places r.0 r.1 in record { aligned = k.aligned; low = k.low; high = k.high });
        apart = λ y z hy hz. let r = in_map g ps y hy in let q = in_map g ps z hz in
            subst (λ (u : Piece). (u ≡ z) ⊎ Apart u.row.at u.row.len z.row.at z.row.len) (sym r.2)
            (subst (λ (u : Piece). (g r.0 ≡ u) ⊎ Apart (r.0).row.at (r.0).row.len u.row.at u.row.len) (sym q.2)
            (⊎_elim (λ e. inl (ap g e)) (λ a. inr a) (st.apart r.0 q.0 r.1 q.1)));
        words = words;
        doors = λ y h by live. let r = in_map g ps y h in
            door_of code' r.0 y (ap (λ (u : Piece). u.row.point) r.2) (ap (λ (u : Piece). u.row.at) r.2) (doors r.0 r.1 (base_back r.0 y r.2 by) (sym (ap (λ (u : Piece). u.row.status) r.2) ∙ live));
        single = λ y z hy hz by bz e cy cz. let r = in_map g ps y hy in let q = in_map g ps z hz in
            r.2 ∙ (ap g (st.single r.0 q.0 r.1 q.1 (base_back r.0 y r.2 by) (base_back q.0 z q.2 bz)
            (sym (ap (λ (u : Piece). u.row.point) r.2) ∙ (e ∙ ap (λ (u : Piece). u.row.point) q.2))
            (cur r.0 r.1 (base_back r.0 y r.2 by) (sym (ap (λ (u : Piece). is_current u.row.status) r.2) ∙ cy))
            (cur q.0 q.1 (base_back q.0 z q.2 bz) (sym (ap (λ (u : Piece). is_current u.row.status) q.2) ∙ cz))) ∙ sym q.2);
        ages = λ y h k. let r = in_map g ps y h in subst (λ (u : Piece). (0 < u.age) × (u.age < clock')) (sym r.2) (ages r.0 r.1 (subst Linked r.2 k));
        distinct = λ y z hy hz ky kz e. let r = in_map g ps y hy in let q = in_map g ps z hz in
            r.2 ∙ (ap g (distinct r.0 q.0 r.1 q.1 (subst Linked r.2 ky) (subst Linked q.2 kz) (sym (ap (λ (u : Piece). u.age) r.2) ∙ (e ∙ ap (λ (u : Piece). u.age) q.2))) ∙ sym q.2);
        families = λ y h k. let r = in_map g ps y h in
            subst (λ (u : Piece). (b : Piece) × HasFamily (map g ps) u b) (sym r.2)
            (let o = families r.0 r.1 (subst Linked r.2 k) in (g o.0, record { is_in = map_in g ps o.0 o.1; base = record { base = (o.2).base }; at = o.3; point = o.4 }));
        used = λ y z hy ky fz live. let r = in_map g ps y hy in let q = in_map g ps z fz.is_in in
            let fam' : (q.0).row.at ≡ fam r.0 = sym (ap (λ (u : Piece). u.row.at) q.2) ∙ (fz.at ∙ ap (λ (u : Piece). u.family) r.2) in
            ap (λ (u : Piece). is_current u.row.status) q.2
            ∙ used r.0 q.0 r.1 q.1 (subst Linked r.2 ky) (base_back q.0 z q.2 fz.base) fam' (sym (ap (λ (u : Piece). u.row.status) r.2) ∙ live);
        chains = λ y h k. let r = in_map g ps y h in
            subst (λ (u : Piece). Leads (map g ps) u.family u.age u.next (is_live u.row.status)) (sym r.2) (chains r.0 r.1 (subst Linked r.2 k));
        heads = λ y h b. let r = in_map g ps y h in
            subst (λ (u : Piece). Leads (map g ps) u.row.at clock' u.next (is_current u.row.status)) (sym r.2) (heads r.0 r.1 (base_back r.0 y r.2 b));
      }
    where
      base_back : (x y : Piece) → y ≡ g x → IsBase y → IsBase x
      base_back x y e b = record { base = sym (ap (λ (u : Piece). u.row.base) e) ∙ b.base }

      again : (x : Piece) → ShapedAs t code' x.row x.body (n x) → Shaped t code' (g x)
      again x (inl r) = inl (record { base = r.base; word = r.word; here = r.here; moved = r.moved; movable = r.movable; len = r.len; jump = r.jump; hops = r.hops; stands = r.stands })
      again x (inr r) = inr (record { mini = r.mini; len = r.len; harmless = r.harmless; jump = r.jump; hops = r.hops; stands = r.stands })

-- ---- harts

-- a hart in a base block stands there whatever the block's status
pub base_place : (t : Words) (budget : ℕ) (f : Row → Status) (n fam age : Piece → ℕ) (b : Piece) (x : Hart) (y : PlainHart) → BasePlace t budget b x y → BasePlace t budget (rework f n fam age b) x y
base_place t budget f n fam age b x y (inl k) = inl (record { pc = k.pc; home = k.home; before = k.before; agree = k.agree })
base_place t budget f n fam age b x y (inr (inl k)) = inr (inl (record { pc = k.pc; home = k.home; before = k.before; saved = k.saved }))
base_place t budget f n fam age b x y (inr (inr (inl k))) = inr (inr (inl (record { pc = k.pc; home = k.home; before = k.before; saved = k.saved })))
base_place t budget f n fam age b x y (inr (inr (inr (inl k)))) =
    let m = k.m in
    inr (inr (inr (inl (record {
      m = record { word = m.word; here = m.here; moved = m.moved; movable = m.movable; moves = m.moves };
      j = k.j;
      low = k.low;
      pc = k.pc;
      home = k.home;
      before = k.before;
      regs = k.regs;
      size = k.size;
      agree = k.agree;
      is = k.is;
    }))))
base_place t budget f n fam age b x y (inr (inr (inr (inr k)))) =
    let m = k.m in
    inr (inr (inr (inr (record {
      m = record { word = m.word; here = m.here; moved = m.moved; movable = m.movable; moves = m.moves };
      j = k.j;
      above = k.above;
      low = k.low;
      pc = k.pc;
      left = k.left;
      stands = k.stands;
      home = k.home;
      agree = k.agree;
    }))))

module _ (ps : List Piece) (f : Row → Status) (n fam age : Piece → ℕ) where
  -- a hart stays where it is
  pub dynamic_kept : (t : Words) (budget : ℕ) (x : Hart) (y : PlainHart)
      → ((p : Piece) → In p ps → (p.row.status ≡ Written → ⊥) → f p.row ≡ Written → ⊥)
      → ((p : Piece) → In p ps → Linked p → fam p ≡ p.family)
      → Dynamic t budget ps x y → Dynamic t budget (map (rework f n fam age) ps) x y
  dynamic_kept t budget x y up same d =
      record {
        ticks = d.ticks;
        stop = d.stop;
        first = d.first;
        second = d.second;
        bank = d.bank;
        down = d.down;
        hart = λ e. ⊎_elim (λ (o : Outside x y). inl o) (λ r. inr (⊎_elim (λ k. inl (in_base k)) (λ k. inr (in_mini k)) r)) (d.hart e);
      }
    where
      in_base : InBase t budget ps x y → InBase t budget (map (rework f n fam age) ps) x y
      in_base k = record {
        b = rework f n fam age k.b;
        is_in = map_in (rework f n fam age) ps k.b k.is_in;
        base = record { base = (k.base).base };
        was = up k.b k.is_in k.was;
        inside = k.inside;
        place = base_place t budget f n fam age k.b x y k.place;
      }

      in_mini : InMini budget ps x y → InMini budget (map (rework f n fam age) ps) x y
      in_mini k = record {
        m = rework f n fam age k.m;
        b = rework f n fam age k.b;
        is_in = map_in (rework f n fam age) ps k.m k.is_in;
        linked = record { mini = (k.linked).mini; was = up k.m k.is_in (k.linked).was };
        family = record { is_in = map_in (rework f n fam age) ps k.b (k.family).is_in; base = record { base = ((k.family).base).base }; at = (k.family).at ∙ sym (same k.m k.is_in k.linked); point = (k.family).point };
        was = up k.b (k.family).is_in k.was;
        inside = k.inside;
        home = k.home;
        before = k.before;
        saved = k.saved;
        i = k.i;
        f = k.f;
        pc = k.pc;
        safe = k.safe;
      }

  -- what leads on leads on among the reworked blocks
  pub leads_kept : (family from from' q : ℕ) (live live' : Bool) (l : Leads ps family from q live) → l.lo < from'
      → ((m : Piece) → In m ps → m.row.base ≡ false → fam m ≡ family → f m.row ≡ Live → l.lo < age m → age m < from' → ⊥)
      → ((u : Piece) → In u ps → Linked u → u.family ≡ family → (live ≡ true → u.row.status ≡ Live) → u.row.at ≡ q → (f u.row ≡ Written → ⊥) × (fam u ≡ family) × (age u ≡ u.age) × (live' ≡ true → f u.row ≡ Live))
      → Leads (map (rework f n fam age) ps) family from' q live'
  leads_kept family from from' q live live' l low none target =
      record {
        lo = l.lo;
        below = low;
        free = λ y h o a b. let r = in_map (rework f n fam age) ps y h in
            none r.0 r.1 (sym (ap (λ (u : Piece). u.row.base) r.2) ∙ o.mini) (sym (ap (λ (u : Piece). u.family) r.2) ∙ o.of) (sym (ap (λ (u : Piece). u.row.status) r.2) ∙ o.live)
            (subst (λ x. l.lo < x) (ap (λ (u : Piece). u.age) r.2) a) (subst (λ x. x < from') (ap (λ (u : Piece). u.age) r.2) b);
        to = ⊎_elim (λ r. inl r)
            (λ (r : (m : Piece) × In m ps × Linked m × (m.family ≡ family) × (m.age ≡ l.lo) × (m.row.at ≡ q) × (live ≡ true → m.row.status ≡ Live)).
            let o = target r.0 r.1 r.2 r.3 r.6 r.5 in
            inr (rework f n fam age r.0, map_in (rework f n fam age) ps r.0 r.1, record { mini = (r.2).mini; was = o.0 }, o.1, o.2 ∙ r.4, r.5, o.3))
            l.to;
      }
