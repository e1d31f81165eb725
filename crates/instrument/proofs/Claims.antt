-- Rooms that the rows of blocks claim, under changes of statuses.
use Rattle.std.proofs.Common.{◌≡◌, ℕ, ◌<◌, List, [], ◌∷◌, ◌++◌, length, refl, sym, ap, ◌∙◌, subst, arith, ⊎_elim, inl, inr}
use Rattle.std.specs.Prelude.{map, filter, Bool, not, ◌&&◌, ◌==◌}
use Rattle.std.proofs.lemmas.Bool.{and_parts}
use Rattle.rv_word.specs.Plain.{Words}
use Rattle.machine.specs.Cores.{In, Row, Status, Written, is_current}
use Rattle.machine.specs.Effects.{with_status}
use Rattle.machine.specs.Events.{Apart, current_base}
use Rattle.machine.proofs.Lists.{in_map, map_in, in_filter}
use Rattle.instrument.specs.Books.{is_unlinked, with_hold}
use Rattle.instrument.specs.declared.entry.Entry.{Entry}
use Rattle.instrument.specs.declared.entry.Entry.TheVariants.{WriteBase, WriteMini, LinkMini, LinkPoint, UnlinkMini, UnlinkPoint, Free}
use Rattle.instrument.specs.declared.room.Hold.{Hold}
use Rattle.instrument.specs.declared.room.Room.{Room}
use Rattle.instrument.proofs.Stages.{Stage, puts, pending, next, Good, Sound, AllApart, is_now}
use Rattle.instrument.proofs.Folds.{in_append, append_left, append_right, apart_across, apart_append, apart_left, apart_right, apart_filter, apart_map, find_now}

-- a room and the row that it is of
pub record Of (x : Room) (r : Row) : Type 0 where
  pub point : x.point ≡ r.point
  pub at : x.at ≡ r.at
  pub len : x.len ≡ r.len
  pub base : x.base ≡ r.base
  pub unlinked : is_unlinked x.hold ≡ not (is_current r.status)

abbrev pub Claimed : List Room → List Row → Type 0
Claimed rooms rows = (r : Row) → In r rows → (x : Room) × In x rooms × Of x r

-- blocks that are to be written have words
abbrev pub Sized : List Entry → Type 0
Sized es = (r : Row) → In r (pending es) → (0 < r.len) × (r.status ≡ Written)

put_row : (t : Words) (e : Entry) → Good t e → (r : Row) → In r (puts e) → (0 < r.len) × (r.status ≡ Written)
put_row t (WriteBase b) g r (inl i) = let s = g.shape in let l = ap length s.is in subst (λ (u : Row). (0 < u.len) × (u.status ≡ Written)) (sym i) (omega arith, refl)
put_row t (WriteBase b) g r (inr i) = absurd i
put_row t (WriteMini b) g r (inl i) = subst (λ (u : Row). (0 < u.len) × (u.status ≡ Written)) (sym i) (g.some, refl)
put_row t (WriteMini b) g r (inr i) = absurd i
put_row t (LinkMini p m) g r i = absurd i
put_row t (LinkPoint p at) g r i = absurd i
put_row t (UnlinkMini p m) g r i = absurd i
put_row t (UnlinkPoint p at) g r i = absurd i
put_row t (Free p) g r i = absurd i

pub sized_of : (t : Words) (k : Stage) (es : List Entry) → Sound t k es → Sized es
sized_of t k [] s r h = absurd h
sized_of t k (e ∷ es) s r h = ⊎_elim (λ i. put_row t e s.0 r i) (λ i. sized_of t (next k e) es s.2 r i) (in_append (puts e) (pending es) r h)

pub claims_map : (f : Row → Status) (xs ys : List Row) → AllApart (xs ++ ys) → AllApart (map (with_status f) xs ++ ys)
claims_map f xs ys a =
    apart_append (map (with_status f) xs) ys (apart_map f xs (apart_left xs ys a)) (apart_right xs ys a)
    (λ x y hx hy. let o = in_map (with_status f) xs x hx in subst (λ (u : Row). Apart u.at u.len y.at y.len) (sym o.2) (apart_across xs ys a o.0 y o.1 hy))

pub claims_filter : (p : Row → Bool) (xs ys : List Row) → AllApart (xs ++ ys) → AllApart (filter p xs ++ ys)
claims_filter p xs ys a =
    apart_append (filter p xs) ys (apart_filter p xs (apart_left xs ys a)) (apart_right xs ys a)
    (λ x y hx hy. apart_across xs ys a x y (in_filter p xs x hx).0 hy)

pub base_now : (p : ℕ) (rows : List Row) → current_base (filter is_now rows) p ≡ current_base rows p
base_now p rows = find_now (λ r. r.base && ((r.point == p) && is_current r.status)) rows (λ x t. (and_parts (x.point == p) (is_current x.status) (and_parts x.base ((x.point == p) && is_current x.status) t).1).1)

pub claimed_map : (rows : List Row) (f : Row → Status) (h : Room → Hold) (rooms : List Room) (es : List Entry) → Claimed rooms (rows ++ pending es)
    → ((x : Room) (r : Row) → In r rows → Of x r → is_unlinked (h x) ≡ not (is_current (f r)))
    → ((x : Room) (r : Row) → In r (pending es) → Of x r → is_unlinked (h x) ≡ not (is_current r.status))
    → Claimed (map (with_hold h) rooms) (map (with_status f) rows ++ pending es)
claimed_map rows f h rooms es k a b r i =
    ⊎_elim
    (λ (j : In r (map (with_status f) rows)).
    let o = in_map (with_status f) rows r j in
    let x = k o.0 (append_left rows (pending es) o.0 o.1) in (
      with_hold h x.0,
      map_in (with_hold h) rooms x.0 x.1,
      subst (Of (with_hold h x.0)) (sym o.2) (record { point = (x.2).point; at = (x.2).at; len = (x.2).len; base = (x.2).base; unlinked = a x.0 o.0 o.1 x.2 }),
    ))
    (λ (j : In r (pending es)).
    let x = k r (append_right rows (pending es) r j) in
    (with_hold h x.0, map_in (with_hold h) rooms x.0 x.1, record { point = (x.2).point; at = (x.2).at; len = (x.2).len; base = (x.2).base; unlinked = b x.0 r j x.2 }))
    (in_append (map (with_status f) rows) (pending es) r i)

pub claimed_same : (rows : List Row) (f : Row → Status) (rooms : List Room) (es : List Entry) → Claimed rooms (rows ++ pending es)
    → ((r : Row) → In r rows → is_current (f r) ≡ is_current r.status)
    → Claimed rooms (map (with_status f) rows ++ pending es)
claimed_same rows f rooms es k a r i =
    ⊎_elim
    (λ (j : In r (map (with_status f) rows)).
    let o = in_map (with_status f) rows r j in
    let x = k o.0 (append_left rows (pending es) o.0 o.1) in
    (x.0, x.1, subst (Of x.0) (sym o.2) (record { point = (x.2).point; at = (x.2).at; len = (x.2).len; base = (x.2).base; unlinked = (x.2).unlinked ∙ ap not (sym (a o.0 o.1)) })))
    (λ (j : In r (pending es)). k r (append_right rows (pending es) r j))
    (in_append (map (with_status f) rows) (pending es) r i)
