-- Admission and dropping keep what is kept of the book.
use Rattle.std.proofs.Common.{◌≡◌, ℕ, List, [], ◌∷◌, ◌++◌, length, Option, Some, None, refl, sym, ap, ◌∙◌, subst, arith, ⊎_elim, inl, inr}
use Rattle.std.specs.Prelude.{map, filter, find, true, false, not, ◌&&◌, ◌==◌}
use Rattle.std.proofs.lemmas.Bool.{true≢false, cases_Bool, cases_eq, cond-true, cond-false, eq-eqb, ne_eqb, and_parts, and_from, and_left, and_right, not_from_false, not_from_true}
use Rattle.rv_word.specs.Plain.{Words}
use Rattle.tramp_spec.specs.declared.block.Block.{Block}
use Rattle.machine.specs.Cores.{In, Row, Written, Live}
use Rattle.machine.specs.Effects.{with_status, at_set}
use Rattle.machine.specs.Events.{Apart, current_base}
use Rattle.machine.proofs.Lists.{in_map}
use Rattle.instrument.specs.Books.{is_held, leaving, base_room, mini_room, is_base_of, is_mini_of, with_hold, rooms_of, placing, mini_leaves, base_leaves, removing, rooms_left}
use Rattle.instrument.specs.declared.entry.Entry.{Entry}
use Rattle.instrument.specs.declared.entry.Entry.TheVariants.{UnlinkMini, UnlinkPoint, Free}
use Rattle.instrument.specs.declared.room.Room.{Room}
use Rattle.instrument.proofs.Stages.{a_row, block_row, is_now, Fresh, Idle, Stage, stage, pending, Ok, Sound, ending, GoodBase, GoodMini, AllApart, is_other_mini, is_other_base, room_row, standing}
use Rattle.instrument.proofs.Folds.{sound_append, ending_append, append_assoc, append_nil, pending_append, in_append, append_left, append_right, apart_append, map_append, find_none, find_append, find_first, find_map}
use Rattle.instrument.proofs.Claims.{Of, Claimed}
use Rattle.instrument.proofs.Booked.{Based, Booked, SiteFits, claimed_hold, gone_cond, held_cond, in_standing, live_map, live_row, row_opt, set_hit, set_miss, standing_append, standing_find, standing_in, standing_less}

-- more entries after, in the words of what will stand
module _ (t : Words) (rows : List Row) (fr : Fresh) (rooms : List Room) (agenda : List Entry) (b : Booked t rows fr rooms agenda) where
  more_sound : (new : List Entry) → Sound t (stage (standing rooms) Idle) new → Sound t (stage (filter is_now rows) fr) (agenda ++ new)
  more_sound new s = sound_append t (stage (filter is_now rows) fr) agenda new b.sound (subst (λ k. Sound t k new) (sym b.ends) s)

  more_ends : (new : List Entry) (k : Stage) → ending (stage (standing rooms) Idle) new ≡ k → ending (stage (filter is_now rows) fr) (agenda ++ new) ≡ k
  more_ends new k e = ending_append (stage (filter is_now rows) fr) agenda new ∙ (ap (λ z. ending z new) b.ends ∙ e)

  more_pending : (new : List Entry) → rows ++ pending (agenda ++ new) ≡ (rows ++ pending agenda) ++ pending new
  more_pending new = ap (λ l. rows ++ l) (pending_append agenda new) ∙ sym (append_assoc rows (pending agenda) (pending new))

  more_apart : (new : List Entry) → AllApart (pending new) → ((x : Room) (r : Row) → In x rooms → In r (pending new) → Apart x.at x.len r.at r.len) → AllApart (rows ++ pending (agenda ++ new))
  more_apart new a f = subst AllApart (sym (more_pending new))
      (apart_append (rows ++ pending agenda) (pending new) b.apart a
      (λ o r ho hr. let x = b.claims o ho in
      subst (λ v. Apart v o.len r.at r.len) (x.2).at (subst (λ v. Apart (x.0).at v r.at r.len) (x.2).len (f x.0 r x.1 hr))))

  more_claims : (new : List Entry) (add : List Room) → Claimed add (pending new) → Claimed (rooms ++ add) (rows ++ pending (agenda ++ new))
  more_claims new add k = subst (Claimed (rooms ++ add)) (sym (more_pending new)) (λ r h. ⊎_elim
      (λ i. let x = b.claims r i in (x.0, append_left rooms add x.0 x.1, x.2))
      (λ i. let x = k r i in (x.0, append_right rooms add x.0 x.1, x.2)) (in_append (rows ++ pending agenda) (pending new) r h))

  -- a site more, with rooms that are free
  module _ (owner : ℕ) (m : Block) (good : GoodMini t m) (mini_free : (x : Room) → In x rooms → Apart x.at x.len m.at (length m.words)) where
    abbrev S : List Row
    S = standing rooms

    abbrev mW : Row
    mW = block_row m false

    abbrev mL : Row
    mL = a_row m.point m.at (length m.words) false Live

    of_mini : (r : Row) → r ≡ mW → Of (mini_room owner m) r
    of_mini r e = subst (Of (mini_room owner m)) (sym e) (record { point = refl; at = refl; len = refl; base = refl; unlinked = refl })

    based_more : (add : List Room) → ((x : Room) → In x add → x.base ≡ false → (o : Room) × (find (is_base_of x.point) (rooms ++ add) ≡ Some o)) → Based (rooms ++ add)
    based_more add f x h k e = ⊎_elim
        (λ i. let o = b.based x i k e in (o.0, find_first (is_base_of x.point) rooms add o.0 o.1))
        (λ i. f x i k) (in_append rooms add x h)

    -- the point has a base
    onto : (o : Room) → find (is_base_of m.point) rooms ≡ Some o → Booked t rows fr (rooms ++ rooms_of None owner m) (agenda ++ placing None m)
    onto o e = record {
      sound = more_sound (placing None m)
          (good, (refl, room_row o, standing_find m.point rooms ∙ ap row_opt e), (tt, refl, tt));
      ends = more_ends (placing None m) (stage (standing (rooms ++ mini_room owner m ∷ [])) Idle)
          (ap (λ l. stage l Idle) (map_append (with_status (at_set m.at Live)) S (mW ∷ [])
          ∙ (cc (live_map m.at rooms, set_hit m.point m.at (length m.words) false Written) ∙ sym (standing_append rooms (mini_room owner m ∷ [])))));
      apart = more_apart (placing None m) ((λ y h. absurd h), tt)
          (λ x r hx hr. ⊎_elim (λ i. subst (λ (u : Row). Apart x.at x.len u.at u.len) (sym i) (mini_free x hx)) (λ i. absurd i) hr);
      claims = more_claims (placing None m) (mini_room owner m ∷ []) (λ r h. ⊎_elim (λ i. (mini_room owner m, inl refl, of_mini r i)) (λ i. absurd i) h);
      based = based_more (mini_room owner m ∷ []) (λ x h k. ⊎_elim
          (λ (i : x ≡ mini_room owner m). (o, ap (λ (u : Room). find (is_base_of u.point) (rooms ++ mini_room owner m ∷ [])) i ∙ find_first (is_base_of m.point) rooms (mini_room owner m ∷ []) o e))
          (λ i. absurd i) h);
    }

    -- it has none
    module _ (d : Block) (gd : GoodBase t d) (same : d.point ≡ m.point) (e : find (is_base_of d.point) rooms ≡ None)
        (base_free : (x : Room) → In x rooms → Apart x.at x.len d.at (length d.words)) (both : Apart d.at (length d.words) m.at (length m.words)) where
      abbrev bW : Row
      bW = block_row d true

      abbrev bL : Row
      bL = a_row d.point d.at (length d.words) true Live

      of_base : (r : Row) → r ≡ bW → Of (base_room d) r
      of_base r i = subst (Of (base_room d)) (sym i) (record { point = refl; at = refl; len = refl; base = refl; unlinked = refl })

      differ : d.at ≡ m.at → ⊥
      differ i = let l = ap length gd.shape.is in let z = good.some in ⊎_elim (λ q. omega arith) (λ q. omega arith) both

      no_base : (r : Row) → In r S → r.base ≡ true → r.point ≡ d.point → ⊥
      no_base r h k q =
          let x = in_standing rooms r h in
          find_none (is_base_of d.point) rooms e x.0 x.1
          (and_from _ _ (sym (ap (λ (u : Row). u.base) x.3) ∙ k) (and_from _ _ (eq-eqb _ _ (sym (ap (λ (u : Row). u.point) x.3) ∙ q)) x.2))

      none_yet : current_base S d.point ≡ None
      none_yet = standing_find d.point rooms ∙ ap row_opt e

      has_new : (rest : List Row) → current_base (bW ∷ rest) d.point ≡ Some bW
      has_new rest = cond-true ((d.point == d.point) && true) _ _ (and_from (d.point == d.point) true (eq-eqb d.point d.point refl) refl)

      base_there : current_base (S ++ bW ∷ []) d.point ≡ Some bW
      base_there = find_append _ S (bW ∷ []) none_yet ∙ has_new []

      joined : map (with_status (at_set m.at Live)) ((S ++ bW ∷ []) ++ mW ∷ []) ≡ (S ++ bW ∷ []) ++ mL ∷ []
      joined =
          map_append (with_status (at_set m.at Live)) (S ++ bW ∷ []) (mW ∷ [])
          ∙ cc (map_append (with_status (at_set m.at Live)) S (bW ∷ []), live_map m.at rooms, set_miss d.point d.at (length d.words) m.at true Written differ, set_hit m.point m.at (length m.words) false Written)

      mini_stays : with_status (at_set d.at Live) mL ≡ mL
      mini_stays = live_row d.at (mini_room owner m)

      entered : map (with_status (at_set d.at Live)) ((S ++ bW ∷ []) ++ mL ∷ []) ≡ (S ++ bL ∷ []) ++ mL ∷ []
      entered =
          map_append (with_status (at_set d.at Live)) (S ++ bW ∷ []) (mL ∷ [])
          ∙ cc (map_append (with_status (at_set d.at Live)) S (bW ∷ []), live_map d.at rooms, set_hit d.point d.at (length d.words) true Written, mini_stays)

      stands : (S ++ bL ∷ []) ++ mL ∷ [] ≡ standing (rooms ++ base_room d ∷ mini_room owner m ∷ [])
      stands = append_assoc S (bL ∷ []) (mL ∷ []) ∙ sym (standing_append rooms (base_room d ∷ mini_room owner m ∷ []))

      found_new : find (is_base_of d.point) (rooms ++ base_room d ∷ mini_room owner m ∷ []) ≡ Some (base_room d)
      found_new = find_append (is_base_of d.point) rooms _ e ∙ cond-true ((d.point == d.point) && true) _ _ (and_from (d.point == d.point) true (eq-eqb d.point d.point refl) refl)

      anew : Booked t rows fr (rooms ++ rooms_of (Some d) owner m) (agenda ++ placing (Some d) m)
      anew = record {
        sound = more_sound (placing (Some d) m) (
          gd,
          (refl, no_base),
          (
            good,
            (refl, bW, subst (λ q. current_base (S ++ bW ∷ []) q ≡ Some bW) same base_there),
            (
              tt,
              refl,
              (
                tt,
                (refl, bW, ap (λ l. current_base l d.point) joined ∙ find_first _ (S ++ bW ∷ []) (mL ∷ []) bW base_there, refl, refl),
                tt,
              ),
            ),
          ),
        );
        ends = more_ends (placing (Some d) m) (stage (standing (rooms ++ base_room d ∷ mini_room owner m ∷ [])) Idle)
            (ap (λ l. stage (map (with_status (at_set d.at Live)) l) Idle) joined ∙ ap (λ l. stage l Idle) (entered ∙ stands));
        apart = more_apart (placing (Some d) m)
            ((λ y h. ⊎_elim (λ i. subst (λ (u : Row). Apart d.at (length d.words) u.at u.len) (sym i) both) (λ i. absurd i) h), ((λ y h. absurd h), tt))
            (λ x r hx hr. ⊎_elim (λ i. subst (λ (u : Row). Apart x.at x.len u.at u.len) (sym i) (base_free x hx))
            (λ j. ⊎_elim (λ i. subst (λ (u : Row). Apart x.at x.len u.at u.len) (sym i) (mini_free x hx)) (λ i. absurd i) j) hr);
        claims = more_claims (placing (Some d) m) (base_room d ∷ mini_room owner m ∷ []) (λ r h. ⊎_elim (λ i. (base_room d, inl refl, of_base r i))
            (λ j. ⊎_elim (λ i. (mini_room owner m, inr (inl refl), of_mini r i)) (λ i. absurd i) j) h);
        based = based_more (base_room d ∷ mini_room owner m ∷ []) (λ x h k. ⊎_elim
            (λ (i : x ≡ base_room d). absurd (true≢false (sym (ap (λ (u : Room). u.base) i) ∙ k)))
            (λ j. ⊎_elim (λ (i : x ≡ mini_room owner m). (
              base_room d,
              ap (λ (u : Room). find (is_base_of u.point) (rooms ++ base_room d ∷ mini_room owner m ∷ [])) i
                  ∙ subst (λ q. find (is_base_of q) (rooms ++ base_room d ∷ mini_room owner m ∷ []) ≡ Some (base_room d)) same found_new,
            )) (λ i. absurd i) j) h);
      }

    pub admitted : (o : Option Block) → SiteFits t rooms o m → Booked t rows fr (rooms ++ rooms_of o owner m) (agenda ++ placing o m)
    admitted None f = onto f.0 f.1
    admitted (Some d) f = anew d f.good f.same f.none f.free f.both

  -- one site is dropped
  module _ (x : Room) (hx : In x rooms) (mini : x.base ≡ false) (held : is_held x.hold ≡ true) where
    abbrev one : List Room
    one = map (with_hold (mini_leaves x.at)) rooms

    one_stands : standing (map (with_hold (mini_leaves x.at)) rooms) ≡ filter (is_other_mini x.at) (standing rooms)
    one_stands = standing_less (mini_leaves x.at) (is_other_mini x.at) rooms (λ y h. held_cond (not y.base && (y.at == x.at)) y.hold)

    -- bases are as they were
    base_as : (q : ℕ) (y : Room) → is_base_of q (with_hold (mini_leaves x.at) y) ≡ is_base_of q y
    base_as q y = ⊎_elim
        (λ (k : y.base ≡ true). ap (λ v. y.base && ((y.point == q) && is_held v)) (cond-false (not y.base && (y.at == x.at)) (leaving y.hold) y.hold (and_left _ _ (not_from_true _ k))))
        (λ (k : y.base ≡ false). and_left y.base _ k ∙ sym (and_left y.base _ k)) (cases_Bool y.base)

    one_based : Based one
    one_based y i m e =
        let o = in_map (with_hold (mini_leaves x.at)) rooms y i in
        let h : is_held (mini_leaves x.at o.0) ≡ true = sym (ap (λ (u : Room). is_held u.hold) o.2) ∙ e in
        let was : is_held (o.0).hold ≡ true = (and_parts (is_held (o.0).hold) _ (sym (held_cond (not (o.0).base && ((o.0).at == x.at)) (o.0).hold) ∙ h)).0 in
        let w = b.based o.0 o.1 (sym (ap (λ (u : Room). u.base) o.2) ∙ m) was in (
          with_hold (mini_leaves x.at) w.0,
          ap (λ (u : Room). find (is_base_of u.point) one) o.2
              ∙ find_map (is_base_of (o.0).point) (with_hold (mini_leaves x.at)) rooms (λ z j. base_as (o.0).point z) w.0 w.1,
        )

    one_claims : Claimed one (rows ++ pending agenda)
    one_claims = claimed_hold (mini_leaves x.at) rooms (rows ++ pending agenda) (λ y. gone_cond (not y.base && (y.at == x.at)) y.hold) b.claims

    abbrev part_ok : Ok (stage (standing rooms) Idle) (UnlinkMini x.point x.at)
    part_ok = (refl, room_row x, standing_in rooms x hx held, mini, refl, refl, refl)

    no_puts : (new : List Entry) → pending new ≡ [] → rows ++ pending (agenda ++ new) ≡ rows ++ pending agenda
    no_puts new e = more_pending new ∙ (ap (λ l. (rows ++ pending agenda) ++ l) e ∙ append_nil (rows ++ pending agenda))

    -- others use the point
    shared : Booked t rows fr one (agenda ++ UnlinkMini x.point x.at ∷ Free x.point ∷ [])
    shared = record {
      sound = more_sound (UnlinkMini x.point x.at ∷ Free x.point ∷ []) (tt, part_ok, (tt, tt, tt));
      ends = more_ends (UnlinkMini x.point x.at ∷ Free x.point ∷ []) (stage (standing one) Idle) (ap (λ l. stage l Idle) (sym one_stands));
      apart = subst AllApart (sym (no_puts (UnlinkMini x.point x.at ∷ Free x.point ∷ []) refl)) b.apart;
      claims = subst (Claimed one) (sym (no_puts (UnlinkMini x.point x.at ∷ Free x.point ∷ []) refl)) one_claims;
      based = one_based;
    }

    -- none does
    module _ (last : find (is_mini_of x.point) one ≡ None) (o : Room) (eo : find (is_base_of x.point) one ≡ Some o) where
      abbrev two : List Room
      two = map (with_hold (base_leaves x.point)) one

      abbrev new : List Entry
      new = UnlinkMini x.point x.at ∷ UnlinkPoint x.point o.at ∷ Free x.point ∷ []

      two_stands : standing two ≡ filter (is_other_base x.point) (standing one)
      two_stands = standing_less (base_leaves x.point) (is_other_base x.point) one (λ y h. held_cond (y.base && (y.point == x.point)) y.hold)

      alone : (r : Row) → In r (standing one) → r.base ≡ false → r.point ≡ x.point → ⊥
      alone r h k q =
          let y = in_standing one r h in
          find_none (is_mini_of x.point) one last y.0 y.1
          (and_from _ _ (not_from_false _ (sym (ap (λ (u : Row). u.base) y.3) ∙ k)) (and_from _ _ (eq-eqb _ _ (sym (ap (λ (u : Row). u.point) y.3) ∙ q)) y.2))

      point_ok : Ok (stage (standing one) Idle) (UnlinkPoint x.point o.at)
      point_ok = (refl, room_row o, standing_find x.point one ∙ ap row_opt eo, refl, refl, alone)

      base_off : (q : ℕ) → (q ≡ x.point → ⊥) → (y : Room) → is_base_of q (with_hold (base_leaves x.point) y) ≡ is_base_of q y
      base_off q n y = ⊎_elim
          (λ (i : y.point ≡ x.point). let z : (y.point == q) ≡ false = ne_eqb _ _ (λ j. n (sym j ∙ i)) in
          and_right y.base _ (and_left _ _ z) ∙ sym (and_right y.base _ (and_left _ _ z)))
          (λ (i : y.point ≡ x.point → ⊥). ap (λ v. y.base && ((y.point == q) && is_held v)) (cond-false (y.base && (y.point == x.point)) (leaving y.hold) y.hold (and_right _ _ (ne_eqb _ _ i))))
          (cases_eq y.point x.point)

      two_based : Based two
      two_based y i m e =
          let k = in_map (with_hold (base_leaves x.point)) one y i in
          let h : is_held (base_leaves x.point k.0) ≡ true = sym (ap (λ (u : Room). is_held u.hold) k.2) ∙ e in
          let was : is_held (k.0).hold ≡ true = (and_parts (is_held (k.0).hold) _ (sym (held_cond ((k.0).base && ((k.0).point == x.point)) (k.0).hold) ∙ h)).0 in
          let km : (k.0).base ≡ false = sym (ap (λ (u : Room). u.base) k.2) ∙ m in
          let n : (k.0).point ≡ x.point → ⊥ = λ j. find_none (is_mini_of x.point) one last k.0 k.1 (and_from _ _ (not_from_false _ km) (and_from _ _ (eq-eqb _ _ j) was)) in
          let w = one_based k.0 k.1 km was in (
            with_hold (base_leaves x.point) w.0,
            ap (λ (u : Room). find (is_base_of u.point) two) k.2
                ∙ find_map (is_base_of (k.0).point) (with_hold (base_leaves x.point)) one (λ z j. base_off (k.0).point n z) w.0 w.1,
          )

      closed : Booked t rows fr two (agenda ++ new)
      closed = record {
        sound = more_sound new (tt, part_ok, (tt, subst (λ l. Ok (stage l Idle) (UnlinkPoint x.point o.at)) one_stands point_ok, (tt, tt, tt)));
        ends = more_ends new (stage (standing two) Idle) (ap (λ l. stage (filter (is_other_base x.point) l) Idle) (sym one_stands) ∙ ap (λ l. stage l Idle) (sym two_stands));
        apart = subst AllApart (sym (no_puts new refl)) b.apart;
        claims = subst (Claimed two) (sym (no_puts new refl)) (claimed_hold (base_leaves x.point) one (rows ++ pending agenda) (λ y. gone_cond (y.base && (y.point == x.point)) y.hold) one_claims);
        based = two_based;
      }

    base_found : (o : Room) × (find (is_base_of x.point) one ≡ Some o)
    base_found =
        let w = b.based x hx mini held in
        (with_hold (mini_leaves x.at) w.0, find_map (is_base_of x.point) (with_hold (mini_leaves x.at)) rooms (λ z j. base_as x.point z) w.0 w.1)

    dropped_with : (q : Option Room) → find (is_mini_of x.point) one ≡ q → Booked t rows fr (rooms_left q x.point one) (agenda ++ removing q (find (is_base_of x.point) one) x.point x.at)
    dropped_with (Some o) e = shared
    dropped_with None e =
        subst (λ (v : Option Room). Booked t rows fr (rooms_left None x.point one) (agenda ++ removing None v x.point x.at)) (sym (base_found).1) (closed e (base_found).0 (base_found).1)

    pub dropped : Booked t rows fr (rooms_left (find (is_mini_of x.point) one) x.point one) (agenda ++ removing (find (is_mini_of x.point) one) (find (is_base_of x.point) one) x.point x.at)
    dropped = dropped_with (find (is_mini_of x.point) one) refl
