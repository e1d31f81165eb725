-- The rooms of the book are apart, and a whole instrument can be dropped.
use Rattle.std.proofs.Common.{◌≡◌, ℕ, ◌%◌, ◌<◌, List, [], ◌∷◌, ◌++◌, length, Option, Some, None, refl, sym, ap, ◌∙◌, subst, arith, ⊎_elim, inl, inr}
use Rattle.std.specs.Prelude.{map, filter, find, Bool, true, false, cond, not, ◌&&◌, ◌==◌}
use Rattle.std.proofs.lemmas.Bool.{true≢false, cases_Bool, cond-true, cond-false, eq-eqb, eqb-true, and_parts, and_from, and_left, not_from_false, not_from_true}
use Rattle.rv_word.specs.Plain.{Words}
use Rattle.tramp_spec.specs.declared.block.Block.{Block}
use Rattle.machine.specs.Cores.{In, Row}
use Rattle.machine.specs.Events.{Apart}
use Rattle.machine.proofs.Lists.{in_map, map_in, in_filter, filter_in}
use Rattle.instrument.specs.Books.{is_held, leaving, base_room, mini_room, is_mini_of, with_hold, rooms_of, mini_leaves, base_leaves, rooms_left, unlinked_at, stays}
use Rattle.instrument.specs.Placements.{is_site_of}
use Rattle.instrument.specs.declared.entry.Entry.{Entry}
use Rattle.instrument.specs.declared.entry.Entry.TheVariants.{WriteBase, WriteMini, LinkMini, LinkPoint, UnlinkMini, UnlinkPoint, Free}
use Rattle.instrument.specs.declared.room.Hold.{Hold}
use Rattle.instrument.specs.declared.room.Hold.TheVariants.{Held, Leaving, Unlinked}
use Rattle.instrument.specs.declared.room.Room.{Room}
use Rattle.instrument.proofs.Stages.{AllApart, GoodMini, room_row, rooms_done}
use Rattle.instrument.proofs.Folds.{in_append, apart_append, map_append}
use Rattle.instrument.proofs.Booked.{SiteFits}
use Rattle.instrument.proofs.Steps.{State, Step, Happened, Admitted, Dropped, Handed, Swept, does, Can, AllCan, all_steps}
use Rattle.instrument.proofs.Keeping.{Kept}
use Rattle.instrument.proofs.Going.{handed, swept}
use Rattle.instrument.proofs.Force.{other_leaves}

-- no two rooms overlap, each has words and begins at a multiple of 4
pub record Neat (rooms : List Room) : Type 0 where
  pub apart : AllApart (map room_row rooms)
  pub sized : (x : Room) → In x rooms → (0 < x.len) × (x.at % 4 ≡ 0)

neat_hold : (h : Room → Hold) (xs : List Room) → Neat xs → Neat (map (with_hold h) xs)
neat_hold h xs n = record {
  apart = subst AllApart (sym (same xs)) n.apart;
  sized = λ x i. let o = in_map (with_hold h) xs x i in subst (λ (u : Room). (0 < u.len) × (u.at % 4 ≡ 0)) (sym o.2) (n.sized o.0 o.1);
}
  where
    same : (xs : List Room) → map room_row (map (with_hold h) xs) ≡ map room_row xs
    same [] = refl
    same (x ∷ xs) = ap (λ l. room_row x ∷ l) (same xs)

neat_filter : (p : Room → Bool) (xs : List Room) → Neat xs → Neat (filter p xs)
neat_filter p xs n = record { apart = less xs n.apart; sized = λ x i. n.sized x (in_filter p xs x i).0 }
  where
    less : (xs : List Room) → AllApart (map room_row xs) → AllApart (map room_row (filter p xs))
    less [] a = tt
    less (x ∷ xs) a = by (p x) (less xs a.1)
      where
        by : (b : Bool) → AllApart (map room_row (filter p xs)) → AllApart (map room_row (cond b (x ∷ filter p xs) (filter p xs)))
        by true r = (λ y h. let o = in_map room_row (filter p xs) y h in a.0 y (subst (λ u. In u (map room_row xs)) (sym o.2) (map_in room_row xs o.0 (in_filter p xs o.0 o.1).0)), r)
        by false r = r

neat_left : (o : Option Room) (q : ℕ) (xs : List Room) → Neat xs → Neat (rooms_left o q xs)
neat_left (Some o) q xs n = n
neat_left None q xs n = neat_hold (base_leaves q) xs n

pub neat_more : (xs ys : List Room) → Neat xs → Neat ys → ((x y : Room) → In x xs → In y ys → Apart x.at x.len y.at y.len) → Neat (xs ++ ys)
neat_more xs ys n m f = record {
  apart = subst AllApart (sym (map_append room_row xs ys)) (apart_append (map room_row xs) (map room_row ys) n.apart m.apart
      (λ a b ha hb. let x = in_map room_row xs a ha in let y = in_map room_row ys b hb in
      subst (λ (u : Row). Apart u.at u.len b.at b.len) (sym x.2) (subst (λ (u : Row). Apart (x.0).at (x.0).len u.at u.len) (sym y.2) (f x.0 y.0 x.1 y.1))));
  sized = λ x h. ⊎_elim (λ i. n.sized x i) (λ i. m.sized x i) (in_append xs ys x h);
}

pub neat_new : (owner : ℕ) (t : Words) (rooms : List Room) (m : Block) → GoodMini t m → ((x : Room) → In x rooms → Apart x.at x.len m.at (length m.words)) → (o : Option Block) → SiteFits t rooms o m → Neat rooms → Neat (rooms ++ rooms_of o owner m)
neat_new owner t rooms m g free None f n = neat_more rooms (mini_room owner m ∷ []) n
    (record { apart = ((λ y h. absurd h), tt); sized = λ x h. ⊎_elim (λ (i : x ≡ mini_room owner m). subst (λ (u : Room). (0 < u.len) × (u.at % 4 ≡ 0)) (sym i) (g.some, g.aligned)) (λ i. absurd i) h })
    (λ x y hx hy. ⊎_elim (λ i. subst (λ (u : Room). Apart x.at x.len u.at u.len) (sym i) (free x hx)) (λ i. absurd i) hy)
neat_new owner t rooms m g free (Some b) f n = neat_more rooms (base_room b ∷ mini_room owner m ∷ []) n
    (record {
      apart = ((λ y h. ⊎_elim (λ i. subst (λ (u : Row). Apart b.at (length b.words) u.at u.len) (sym i) f.both) (λ i. absurd i) h), ((λ y h. absurd h), tt));
      sized = λ x h. ⊎_elim (λ (i : x ≡ base_room b). subst (λ (u : Room). (0 < u.len) × (u.at % 4 ≡ 0)) (sym i) ((let l = ap length f.good.shape.is in omega arith), f.good.shape.aligned))
          (λ j. ⊎_elim (λ (i : x ≡ mini_room owner m). subst (λ (u : Room). (0 < u.len) × (u.at % 4 ≡ 0)) (sym i) (g.some, g.aligned)) (λ i. absurd i) j) h;
    })
    (λ x y hx hy. ⊎_elim (λ i. subst (λ (u : Room). Apart x.at x.len u.at u.len) (sym i) (f.free x hx))
    (λ j. ⊎_elim (λ i. subst (λ (u : Room). Apart x.at x.len u.at u.len) (sym i) (free x hx)) (λ i. absurd i) j) hy)

neat_after : (e : Entry) (xs : List Room) → Neat xs → Neat (rooms_done e xs)
neat_after (WriteBase b) xs n = n
neat_after (WriteMini b) xs n = n
neat_after (LinkMini p m) xs n = n
neat_after (LinkPoint p at) xs n = n
neat_after (UnlinkMini p m) xs n = neat_hold (unlinked_at m) xs n
neat_after (UnlinkPoint p at) xs n = neat_hold (unlinked_at at) xs n
neat_after (Free p) xs n = neat_filter (stays p) xs n

pub neat_step : (a : Step) (st : State) → Kept st → Can a st → Neat st.book.rooms → Neat (does a st).state.book.rooms
neat_step (Happened e) st k c n = n
neat_step (Admitted owner b) st k c n = neat_new owner st.core.program st.book.rooms b.mini c.good c.free b.base c.fits n
neat_step (Dropped x) st k c n =
    neat_left (find (is_mini_of x.point) (map (with_hold (mini_leaves x.at)) st.book.rooms)) x.point (map (with_hold (mini_leaves x.at)) st.book.rooms) (neat_hold (mini_leaves x.at) st.book.rooms n)
neat_step Handed st k c n = handed (λ o. Neat o.state.book.rooms) st k n (λ p es w sub. n) (λ w e es b f sub. neat_after e st.book.rooms n)
neat_step Swept st k c n = swept (λ o. Neat o.state.book.rooms) st k c n (λ w e es b f sub. neat_after e st.book.rooms n)

-- sites that are dropped one after another
abbrev pub Site : State → Room → Type 0
Site st x = In x st.book.rooms × (x.base ≡ false) × (x.hold ≡ Held)

abbrev pub Differ : List Room → Type 0
Differ [] = Unit {0}
Differ (x ∷ xs) = ((y : Room) → In y xs → x.at ≡ y.at → ⊥) × Differ xs

in_left_rooms : (o : Option Room) (q : ℕ) (xs : List Room) (y : Room) → y.base ≡ false → In y xs → In y (rooms_left o q xs)
in_left_rooms (Some o) q xs y m h = h
in_left_rooms None q xs y m h =
    let e : base_leaves q y ≡ y.hold = cond-false (y.base && (y.point == q)) (leaving y.hold) y.hold (and_left _ _ m) in
    subst (λ u. In u (map (with_hold (base_leaves q)) xs)) (ap (λ v. record y { hold = v }) e) (map_in (with_hold (base_leaves q)) xs y h)

pub site_kept : (st : State) (x y : Room) → (x.at ≡ y.at → ⊥) → Site st y → Site (does (Dropped x) st).state y
site_kept st x y n s = (
  in_left_rooms (find (is_mini_of x.point) (map (with_hold (mini_leaves x.at)) st.book.rooms)) x.point (map (with_hold (mini_leaves x.at)) st.book.rooms) y s.1
      (subst (λ u. In u (map (with_hold (mini_leaves x.at)) st.book.rooms)) (ap (λ v. record y { hold = v }) (other_leaves x y n)) (map_in (with_hold (mini_leaves x.at)) st.book.rooms y s.0)),
  s.1,
  s.2,
)

drops : (xs : List Room) (st : State) → Differ xs → ((y : Room) → In y xs → Site st y) → AllCan (map (λ x. Dropped x) xs) st
drops [] st d f = tt
drops (x ∷ xs) st d f = (f x (inl refl), drops xs (does (Dropped x) st).state d.1 (λ y h. site_kept st x y (d.0 y h) (f y (inr h))))

held_is : (h : Hold) → is_held h ≡ true → h ≡ Held
held_is Held e = refl
held_is Leaving e = absurd (true≢false (sym e))
held_is Unlinked e = absurd (true≢false (sym e))

pub differ_filter : (p : Room → Bool) (xs : List Room) → Neat xs → Differ (filter p xs)
differ_filter p xs n = all (filter p xs) (neat_filter p xs n)
  where
    all : (ys : List Room) → Neat ys → Differ ys
    all [] n = tt
    all (y ∷ ys) n = (
      (λ z h e.
          let a = (n.sized y (inl refl)).0 in let b = (n.sized z (inr h)).0 in
          let r : Apart y.at y.len z.at z.len = (n.apart).0 (room_row z) (map_in room_row ys z h) in
          ⊎_elim (λ l. omega arith) (λ l. omega arith) r),
      all ys (record { apart = (n.apart).1; sized = λ x h. n.sized x (inr h) }),
    )

pub site_of : (i : ℕ) (x : Room) → is_site_of i x ≡ true → (x.base ≡ false) × (x.owner ≡ i) × (x.hold ≡ Held)
site_of i x e =
    let a = and_parts (not x.base) ((x.owner == i) && is_held x.hold) e in
    let b = and_parts (x.owner == i) (is_held x.hold) a.1 in
    (⊎_elim (λ (k : x.base ≡ true). absurd (true≢false (sym a.0 ∙ not_from_true _ k))) (λ k. k) (cases_Bool x.base), eqb-true x.owner i b.0, held_is x.hold b.1)

-- a room that is held after a dropping was held before, and isn't the one that was dropped
was_site : (st : State) (x y : Room) (i : ℕ) → In y (does (Dropped x) st).state.book.rooms → is_site_of i y ≡ true → In y st.book.rooms × (y.at ≡ x.at → ⊥)
was_site st x y i h e =
    let s = site_of i y e in
    let o : In y (map (with_hold (mini_leaves x.at)) st.book.rooms) = back (find (is_mini_of x.point) (map (with_hold (mini_leaves x.at)) st.book.rooms)) h s.0 s.2 in
    let z = in_map (with_hold (mini_leaves x.at)) st.book.rooms y o in
    let zh : mini_leaves x.at z.0 ≡ Held = sym (ap (λ (u : Room). u.hold) z.2) ∙ s.2 in
    let zb : (z.0).base ≡ false = sym (ap (λ (u : Room). u.base) z.2) ∙ s.0 in
    let n : (z.0).at ≡ x.at → ⊥ = λ j. not_leaving (z.0).hold (sym (cond-true (not (z.0).base && (z.0).at == x.at) (leaving (z.0).hold) (z.0).hold (and_from _ _ (not_from_false _ zb) (eq-eqb _ _ j))) ∙ zh) in
    let k : mini_leaves x.at z.0 ≡ (z.0).hold = other_leaves x z.0 (λ j. n (sym j)) in
    let w : y ≡ z.0 = z.2 ∙ ap (λ v. record (z.0) { hold = v }) k in
    (subst (λ u. In u st.book.rooms) (sym w) z.1, λ j. n (sym (ap (λ (u : Room). u.at) w) ∙ j))
  where
    not_leaving : (h : Hold) → leaving h ≡ Held → ⊥
    not_leaving Held e = absurd cc
    not_leaving Leaving e = absurd cc
    not_leaving Unlinked e = absurd cc

    back : (o : Option Room) → In y (rooms_left o x.point (map (with_hold (mini_leaves x.at)) st.book.rooms)) → y.base ≡ false → y.hold ≡ Held → In y (map (with_hold (mini_leaves x.at)) st.book.rooms)
    back (Some o) h b e = h
    back None h b e =
        let z = in_map (with_hold (base_leaves x.point)) (map (with_hold (mini_leaves x.at)) st.book.rooms) y h in
        let zb : (z.0).base ≡ false = sym (ap (λ (u : Room). u.base) z.2) ∙ b in
        let k : base_leaves x.point z.0 ≡ (z.0).hold = cond-false ((z.0).base && (z.0).point == x.point) (leaving (z.0).hold) (z.0).hold (and_left _ _ zb) in
        subst (λ u. In u (map (with_hold (mini_leaves x.at)) st.book.rooms)) (sym (z.2 ∙ ap (λ v. record (z.0) { hold = v }) k)) z.1

none_left : (i : ℕ) (xs : List Room) (st : State) → ((y : Room) → In y st.book.rooms → is_site_of i y ≡ true → In y xs) → (y : Room) → In y (all_steps (map (λ x. Dropped x) xs) st).book.rooms → is_site_of i y ≡ true → ⊥
none_left i [] st f y h e = absurd (f y h e)
none_left i (x ∷ xs) st f y h e =
    none_left i xs (does (Dropped x) st).state
    (λ z hz ez. let w = was_site st x z i hz ez in ⊎_elim (λ (j : z ≡ x). absurd (w.1 (ap (λ (u : Room). u.at) j))) (λ j. j) (f z w.0 ez)) y h e

pub drops_site : (i : ℕ) (st : State) → Neat st.book.rooms → AllCan (map (λ x. Dropped x) (filter (is_site_of i) st.book.rooms)) st
drops_site i st n =
    drops (filter (is_site_of i) st.book.rooms) st (differ_filter (is_site_of i) st.book.rooms n)
    (λ y h. let o = in_filter (is_site_of i) st.book.rooms y h in let s = site_of i y o.1 in (o.0, s.0, s.2))

pub no_site_left : (i : ℕ) (st : State) → (x : Room) → In x (all_steps (map (λ x. Dropped x) (filter (is_site_of i) st.book.rooms)) st).book.rooms → is_site_of i x ≡ true → ⊥
no_site_left i st = none_left i (filter (is_site_of i) st.book.rooms) st (λ y h e. filter_in (is_site_of i) st.book.rooms y h e)
