-- Rooms of one book and those of another before it.
use Rattle.std.proofs.Common.{◌≡◌, ℕ, List, [], ◌∷◌, ◌++◌, Option, Some, None, refl, sym, ap, ◌∙◌, subst, arith, ⊎_elim, inl, inr}
use Rattle.std.specs.Prelude.{map, filter, find, Bool, true, false, cond, not, ◌&&◌, ◌==◌}
use Rattle.std.proofs.lemmas.Bool.{true≢false, cases_Bool, cond-true, cond-false, eq-eqb, eqb-true, and_parts, and_from, and_left, not_from_false, not_from_true}
use Rattle.pn_types.specs.declared.placed.PlacedSite.{PlacedSite}
use Rattle.machine.specs.Cores.{In}
use Rattle.machine.specs.Events.{Apart}
use Rattle.machine.proofs.Lists.{in_map, map_in, in_filter, filter_in}
use Rattle.instrument.specs.Books.{is_held, leaving, is_mini_of, with_hold, mini_leaves, base_leaves, rooms_left, unlinked_at, stays}
use Rattle.instrument.specs.Placements.{is_mini_room_of, sites_of}
use Rattle.instrument.specs.declared.entry.Entry.{Entry}
use Rattle.instrument.specs.declared.entry.Entry.TheVariants.{WriteBase, WriteMini, LinkMini, LinkPoint, UnlinkMini, UnlinkPoint, Free}
use Rattle.instrument.specs.declared.room.Hold.{Hold}
use Rattle.instrument.specs.declared.room.Room.{Room}
use Rattle.instrument.proofs.Stages.{room_row, rooms_done}
use Rattle.instrument.proofs.Folds.{map_append, filter_append}
use Rattle.instrument.proofs.Booked.{Booked}
use Rattle.instrument.proofs.Steps.{State, Dropped, does, all_steps}
use Rattle.instrument.proofs.Going as keeping
use Rattle.instrument.proofs.Keeping.{Kept, hold_same, held_stays, unheld_mini, unheld_point}
use Rattle.instrument.proofs.Force.{other_leaves}
use Rattle.instrument.proofs.Neats.{Neat, Site, Differ, site_kept, neat_step}

-- the same room, but for its hold
pub record Same (x y : Room) : Type 0 where
  pub base : y.base ≡ x.base
  pub owner : y.owner ≡ x.owner
  pub at : y.at ≡ x.at
  pub point : y.point ≡ x.point

-- each room was there, held as now
abbrev pub Under : List Room → List Room → Type 0
Under xs ys = (x : Room) → In x xs → (y : Room) × In y ys × Same x y × (is_held y.hold ≡ is_held x.hold)

same_self : (x : Room) → Same x x
same_self x = record { base = refl; owner = refl; at = refl; point = refl }

same_hold : (f : Room → Hold) (x y : Room) → x ≡ with_hold f y → Same x y
same_hold f x y e = subst (λ (u : Room). Same u y) (sym e) (record { base = refl; owner = refl; at = refl; point = refl })

pub same_then : (x y z : Room) → Same x y → Same y z → Same x z
same_then x y z a b = record { base = b.base ∙ a.base; owner = b.owner ∙ a.owner; at = b.at ∙ a.at; point = b.point ∙ a.point }

pub under_all : (xs : List Room) → Under xs xs
under_all xs x h = (x, h, same_self x, refl)

under_hold : (f : Room → Hold) (xs : List Room) → ((x : Room) → In x xs → is_held (f x) ≡ is_held x.hold) → Under (map (with_hold f) xs) xs
under_hold f xs g x h =
    let o = in_map (with_hold f) xs x h in
    (o.0, o.1, same_hold f x o.0 o.2, sym (g o.0 o.1) ∙ sym (ap (λ (u : Room). is_held u.hold) o.2))

pub under_done : (st : State) (k : Kept st) (e : Entry) (es : List Entry) → Booked st.core.program st.core.rows k.fr st.book.rooms (e ∷ es) → Under (rooms_done e st.book.rooms) st.book.rooms
under_done st k (WriteBase b) es z = under_all st.book.rooms
under_done st k (WriteMini b) es z = under_all st.book.rooms
under_done st k (LinkMini p m) es z = under_all st.book.rooms
under_done st k (LinkPoint p m) es z = under_all st.book.rooms
under_done st k (Free p) es z = λ x h. (x, (in_filter (stays p) st.book.rooms x h).0, same_self x, refl)
under_done st k (UnlinkMini p m) es z = under_hold (unlinked_at m) st.book.rooms (hold_same st.book.rooms m (unheld_mini st.core k.reached k.fr st.book.rooms p m es z))
under_done st k (UnlinkPoint p m) es z = under_hold (unlinked_at m) st.book.rooms (hold_same st.book.rooms m (unheld_point st.core k.reached k.fr st.book.rooms p m es z))

-- ---- the sites of an instrument

abbrev pub placed_site : Room → PlacedSite
placed_site x = record { at = x.point; mini = x.at }

pub sites_hold : (n : ℕ) (f : Room → Hold) (xs : List Room) → sites_of n (map (with_hold f) xs) ≡ sites_of n xs
sites_hold n f [] = refl
sites_hold n f (x ∷ xs) = by (is_mini_room_of n x) (sites_hold n f xs)
  where
    by : (b : Bool) → sites_of n (map (with_hold f) xs) ≡ sites_of n xs
        → map placed_site (cond b (with_hold f x ∷ filter (is_mini_room_of n) (map (with_hold f) xs)) (filter (is_mini_room_of n) (map (with_hold f) xs))) ≡ map placed_site (cond b (x ∷ filter (is_mini_room_of n) xs) (filter (is_mini_room_of n) xs))
    by true e = ap (λ l. placed_site x ∷ l) e
    by false e = e

pub sites_filter : (n : ℕ) (p : Room → Bool) (xs : List Room) → ((x : Room) → In x xs → is_mini_room_of n x ≡ true → p x ≡ true) → sites_of n (filter p xs) ≡ sites_of n xs
sites_filter n p [] f = refl
sites_filter n p (x ∷ xs) f = by (p x) (is_mini_room_of n x) refl refl (sites_filter n p xs (λ y h. f y (inr h)))
  where
    by : (b d : Bool) → p x ≡ b → is_mini_room_of n x ≡ d → sites_of n (filter p xs) ≡ sites_of n xs
        → sites_of n (cond b (x ∷ filter p xs) (filter p xs)) ≡ map placed_site (cond d (x ∷ filter (is_mini_room_of n) xs) (filter (is_mini_room_of n) xs))
    by true true e g ih = ap (map placed_site) (cond-true (is_mini_room_of n x) _ _ g) ∙ ap (λ l. placed_site x ∷ l) ih
    by true false e g ih = ap (map placed_site) (cond-false (is_mini_room_of n x) _ _ g) ∙ ih
    by false true e g ih = absurd (true≢false (sym (f x (inl refl) g) ∙ e))
    by false false e g ih = ih

pub sites_append : (n : ℕ) (xs ys : List Room) → sites_of n (xs ++ ys) ≡ sites_of n xs ++ sites_of n ys
sites_append n xs ys = ap (map placed_site) (filter_append (is_mini_room_of n) xs ys) ∙ map_append placed_site (filter (is_mini_room_of n) xs) (filter (is_mini_room_of n) ys)

pub sites_done : (n : ℕ) (e : Entry) (xs : List Room) → ((x : Room) → In x xs → is_mini_room_of n x ≡ true → is_held x.hold ≡ true) → sites_of n (rooms_done e xs) ≡ sites_of n xs
sites_done n (WriteBase b) xs f = refl
sites_done n (WriteMini b) xs f = refl
sites_done n (LinkMini p m) xs f = refl
sites_done n (LinkPoint p m) xs f = refl
sites_done n (UnlinkMini p m) xs f = sites_hold n (unlinked_at m) xs
sites_done n (UnlinkPoint p m) xs f = sites_hold n (unlinked_at m) xs
sites_done n (Free p) xs f = sites_filter n (stays p) xs (λ x h e. held_stays p x (f x h e))

sites_left : (n : ℕ) (o : Option Room) (q : ℕ) (xs : List Room) → sites_of n (rooms_left o q xs) ≡ sites_of n xs
sites_left n (Some o) q xs = refl
sites_left n None q xs = sites_hold n (base_leaves q) xs

pub sites_drops : (n : ℕ) (xs : List Room) (st : State) → sites_of n (all_steps (map (λ x. Dropped x) xs) st).book.rooms ≡ sites_of n st.book.rooms
sites_drops n [] st = refl
sites_drops n (x ∷ xs) st =
    sites_drops n xs (does (Dropped x) st).state
    ∙ (sites_left n (find (is_mini_of x.point) (map (with_hold (mini_leaves x.at)) st.book.rooms)) x.point (map (with_hold (mini_leaves x.at)) st.book.rooms) ∙ sites_hold n (mini_leaves x.at) st.book.rooms)

-- a site is that of a room
pub site_room : (n : ℕ) (xs : List Room) (s : PlacedSite) → In s (sites_of n xs) → (x : Room) × In x xs × (x.base ≡ false) × (x.owner ≡ n) × (x.point ≡ s.at) × (x.at ≡ s.mini)
site_room n xs s h =
    let o = in_map placed_site (filter (is_mini_room_of n) xs) s h in
    let z = in_filter (is_mini_room_of n) xs o.0 o.1 in
    let p = and_parts (not (o.0).base) ((o.0).owner == n) z.1 in
    (o.0, z.0, ⊎_elim (λ (k : (o.0).base ≡ true). absurd (true≢false (sym p.0 ∙ not_from_true _ k))) (λ k. k) (cases_Bool (o.0).base), eqb-true (o.0).owner n p.1, sym (ap (λ (u : PlacedSite). u.at) o.2), sym (ap (λ (u : PlacedSite). u.mini) o.2))

pub room_site : (n : ℕ) (xs : List Room) (x : Room) → In x xs → x.base ≡ false → x.owner ≡ n → In (placed_site x) (sites_of n xs)
room_site n xs x h b e = map_in placed_site (filter (is_mini_room_of n) xs) x (filter_in (is_mini_room_of n) xs x h (and_from _ _ (not_from_false _ b) (eq-eqb _ _ e)))

-- ---- a dropping

-- rooms at one place are one
pub neat_same : (xs : List Room) → Neat xs → (x y : Room) → In x xs → In y xs → x.at ≡ y.at → x ≡ y
neat_same [] n x y hx hy e = absurd hx
neat_same (z ∷ zs) n x y (inl i) (inl j) e = i ∙ sym j
neat_same (z ∷ zs) n x y (inl i) (inr j) e = absurd (clash y j (sym (ap (λ (u : Room). u.at) i) ∙ e))
  where
    clash : (y : Room) → In y zs → z.at ≡ y.at → ⊥
    clash y j e =
        let a = (n.sized z (inl refl)).0 in let b = (n.sized y (inr j)).0 in
        let r : Apart z.at z.len y.at y.len = (n.apart).0 (room_row y) (map_in room_row zs y j) in
        ⊎_elim (λ l. omega arith) (λ l. omega arith) r
neat_same (z ∷ zs) n x y (inr i) (inl j) e = absurd (clash x i (sym (ap (λ (u : Room). u.at) j) ∙ sym e))
  where
    clash : (y : Room) → In y zs → z.at ≡ y.at → ⊥
    clash y j e =
        let a = (n.sized z (inl refl)).0 in let b = (n.sized y (inr j)).0 in
        let r : Apart z.at z.len y.at y.len = (n.apart).0 (room_row y) (map_in room_row zs y j) in
        ⊎_elim (λ l. omega arith) (λ l. omega arith) r
neat_same (z ∷ zs) n x y (inr i) (inr j) e = neat_same zs (record { apart = (n.apart).1; sized = λ u h. n.sized u (inr h) }) x y i j e

-- of each mini block's room its mate before: held as now where its owner isn't i
abbrev pub Mated : ℕ → List Room → List Room → Type 0
Mated i xs ys = (x : Room) → In x xs → x.base ≡ false → (y : Room) × In y ys × Same x y × ((x.owner ≡ i → ⊥) → is_held y.hold ≡ is_held x.hold)

mate_left : (i : ℕ) (o : Option Room) (q : ℕ) (xs : List Room) → Mated i (rooms_left o q xs) xs
mate_left i (Some o) q xs x h m = (x, h, same_self x, λ n. refl)
mate_left i None q xs x h m =
    let o = in_map (with_hold (base_leaves q)) xs x h in
    let om : (o.0).base ≡ false = sym (ap (λ (u : Room). u.base) o.2) ∙ m in (
      o.0,
      o.1,
      same_hold (base_leaves q) x o.0 o.2,
      λ n. ap is_held (sym (cond-false ((o.0).base && ((o.0).point == q)) (leaving (o.0).hold) (o.0).hold (and_left _ _ om))) ∙ sym (ap (λ (u : Room). is_held u.hold) o.2),
    )

mate_drop : (i : ℕ) (x : Room) (st : State) → Neat st.book.rooms → In x st.book.rooms → x.owner ≡ i → Mated i (does (Dropped x) st).state.book.rooms st.book.rooms
mate_drop i x st n hx own y h m =
    let a = mate_left i (find (is_mini_of x.point) (map (with_hold (mini_leaves x.at)) st.book.rooms)) x.point (map (with_hold (mini_leaves x.at)) st.book.rooms) y h m in
    let o = in_map (with_hold (mini_leaves x.at)) st.book.rooms a.0 a.1 in
    let oo : (o.0).owner ≡ y.owner = sym (ap (λ (u : Room). u.owner) o.2) ∙ (a.2).owner in (
      o.0,
      o.1,
      same_then y a.0 o.0 a.2 (same_hold (mini_leaves x.at) a.0 o.0 o.2),
      λ w. ap is_held (sym (other_leaves x o.0 (λ j. w (sym oo ∙ (sym (ap (λ (u : Room). u.owner) (neat_same st.book.rooms n x o.0 hx o.1 j)) ∙ own)))))
          ∙ (sym (ap (λ (u : Room). is_held u.hold) o.2) ∙ a.3 w),
    )

pub mate_drops : (i : ℕ) (xs : List Room) (st : State) → Kept st → Neat st.book.rooms → Differ xs → ((y : Room) → In y xs → Site st y × (y.owner ≡ i)) → Mated i (all_steps (map (λ x. Dropped x) xs) st).book.rooms st.book.rooms
mate_drops i [] st k n d f y h m = (y, h, same_self y, λ w. refl)
mate_drops i (x ∷ xs) st k n d f y h m =
    let fx = f x (inl refl) in
    let a = mate_drops i xs (does (Dropped x) st).state (kept_drop x st k fx.0) (neat_step (Dropped x) st k fx.0 n) d.1 (λ z hz. let fz = f z (inr hz) in (site_kept st x z (d.0 z hz) fz.0, fz.1)) y h m in
    let b = mate_drop i x st n fx.0.0 fx.1 a.0 a.1 ((a.2).base ∙ m) in
    (b.0, b.1, same_then y a.0 b.0 a.2 b.2, λ w. b.3 (λ j. w (sym (a.2).owner ∙ j)) ∙ a.3 w)
  where
    kept_drop : (x : Room) (st : State) → Kept st → Site st x → Kept (does (Dropped x) st).state
    kept_drop x st k z = (keeping.step_keeps (Dropped x) st k z).kept
