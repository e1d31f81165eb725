-- Changes of the blocks of a point, from place to place of its bucket.
use Rattle.std.proofs.Common.{◌≡◌, ℕ, ◌+◌, ◌<◌, ◌≤◌, List, [], ◌∷◌, length, get_or, set, map, Option, Some, None, refl, sym, ap, subst, ◌∙◌, arith, inl, inr}
use Rattle.std.specs.Prelude.{◌==◌, Bool, true, false, cond}
use Rattle.std.specs.Option.{option_map}
use Rattle.std.proofs.lemmas.Bool.{and_from, and_parts, eq-eqb, eqb-true, false_from_ne_true}
use Rattle.std.proofs.lemmas.List.{length-set}
use Rattle.std.specs.Vec.{vec_capacity, with_item}
use Rattle.std.specs.Cmp.{both_ways}
use Rattle.bucket_chains.specs.Entries.{Entries, bucket_at, bucket_of, IsFirst}
use Rattle.bucket_chains.specs.Left.{buckets_of, present_entries}
use Rattle.bucket_chains.proofs.Nexts.{IsNext, WalkedTo, buckets_len, is_next, less_buckets, same_buckets, walk_begun, walked_on, entry_there, fewer_places, next_within, places_from, read_entry}
use Rattle.bucket_chains.proofs.Walks.{IsChange, IsWalked, changed, stayed, left_map}
use Rattle.machine.specs.Cores.{In, Row, Status}
use Rattle.machine.specs.Effects.{at_set, with_status}
use Rattle.machine.specs.Views.{row_of, status_of}
use Rattle.machine.specs.declared.block_row.BlockRow.{BlockRow}
use Rattle.machine.specs.declared.block_row.BlockStatus.{BlockStatus}
use Rattle.machine.specs.declared.block_list.Blocks.TheInside.{Inside}
use Rattle.machine.specs.contracts.block_list.Blocks.{the_invariant}
use Rattle.machine.proofs.Lists.{map_follows}
use Rattle.machine.proofs.BlockLooks.{begins_at, left_in, point_of}

-- what a walk leaves of the other parts
pub record Fits (old now : Inside) : Type 0 where
  pub places : now.places.buckets ≡ buckets_of point_of now.rows.items
  pub room : now.room ≡ old.room
  pub placed : now.room ≤ now.places.room
  pub capacity : length now.rows.items + now.room ≤ vec_capacity now.rows

-- the blocks before the next place are changed
pub record Walks (p : ℕ) (g : Option BlockRow → Option BlockRow) (old now : Inside) (next : Option ℕ) : Type 0 where
  pub place : IsNext (bucket_of p) now.places.buckets next
  pub walked : WalkedTo point_of g old.rows.items now.rows.items next
  pub fits : Fits old now

-- so is the one at a place
pub record Passed (p : ℕ) (g : Option BlockRow → Option BlockRow) (old now : Inside) (place : ℕ) : Type 0 where
  pub walked : IsWalked point_of g old.rows.items now.rows.items (place + 1)
  pub fits : Fits old now

module _ (p : ℕ) (g : Option BlockRow → Option BlockRow) (change : IsChange point_of (bucket_of p) g) (old : Inside) where
  pub walk_first : (r : Option ℕ) → the_invariant old → IsFirst (bucket_of p) 0 old.places.buckets r → Walks p g old old r
  walk_first r inv h =
      record {
        place = is_next (bucket_of p) 0 old.places.buckets r h;
        walked = walk_begun point_of (bucket_of p) g old.rows.items r change (subst (λ bs. IsFirst (bucket_of p) 0 bs r) inv.0 h);
        fits = record { places = inv.0; room = refl; placed = inv.1; capacity = inv.2 };
      }

  pub walk_on : (now : Inside) (place : ℕ) (r : Option ℕ) → Passed p g old now place → IsFirst (bucket_of p) (place + 1) now.places.buckets r → Walks p g old now r
  walk_on now place r passed h =
      record {
        place = is_next (bucket_of p) (place + 1) now.places.buckets r h;
        walked = walked_on point_of (bucket_of p) g old.rows.items now.rows.items (place + 1) r change (subst (λ bs. IsFirst (bucket_of p) (place + 1) bs r) passed.fits.places h) passed.walked;
        fits = passed.fits;
      }

module _ (p : ℕ) (g : Option BlockRow → Option BlockRow) (old now : Inside) (next : Option ℕ) (place : ℕ) (is : next ≡ Some place) (walks : Walks p g old now next) where
  at_place : Walks p g old now (Some place)
  at_place = subst (Walks p g old now) is walks

  pub walk_here : bucket_at now.places.buckets place ≡ Some (bucket_of p)
  walk_here = at_place.place

  pub walk_within : place < length now.rows.items
  walk_within = next_within point_of (bucket_of p) place now.rows.items (subst (λ bs. bucket_at bs place ≡ Some (bucket_of p)) walks.fits.places walk_here)

  pub walk_placed : place < length now.places.buckets
  walk_placed = omega (arith, walk_within, ap length walks.fits.places, buckets_len point_of now.rows.items)

  pub walk_fewer : (r : Option ℕ) (buckets : List (Option ℕ)) → length buckets ≡ length now.places.buckets → IsFirst (bucket_of p) (place + 1) buckets r → places_from (length old.rows.items) r < places_from (length old.rows.items) next
  walk_fewer r buckets len h =
      subst (λ n. places_from (length old.rows.items) r < places_from (length old.rows.items) n) (sym is)
      (fewer_places (bucket_of p) place (length old.rows.items) buckets r (omega (arith, walk_within, at_place.walked.len)) (omega (arith, len, ap length walks.fits.places, buckets_len point_of now.rows.items, at_place.walked.len)) h)

  module _ (o : Option BlockRow) (read : o ≡ get_or now.rows.items place o) where
    pub walk_entry : get_or now.rows.items place None ≡ o
    walk_entry = read_entry now.rows.items place o walk_within read

    -- the block is one of the old ones
    pub walk_old : (x : BlockRow) → o ≡ Some x → In x (present_entries old.rows.items)
    walk_old x e = left_in old.rows.items place x (sym (at_place.walked.rest place (omega arith)) ∙ (walk_entry ∙ e))

    pub walk_none : o ≡ None → ⊥
    walk_none none = entry_there point_of (bucket_of p) place now.rows.items (subst (λ bs. bucket_at bs place ≡ Some (bucket_of p)) walks.fits.places walk_here) (walk_entry ∙ none)

    -- the block stays
    pub walk_stays : g o ≡ o → Passed p g old now place
    walk_stays same = record { walked = stayed point_of place (ap g walk_entry ∙ (same ∙ sym walk_entry)) at_place.walked; fits = walks.fits }

    -- another block of the same point is put in its place
    pub walk_puts : (x y : BlockRow) → o ≡ Some x → y.point ≡ x.point → g (Some x) ≡ Some y → Passed p g old (record now { rows = with_item now.rows place (Some y) }) place
    walk_puts x y e point new =
        record {
          walked = changed point_of place (Some y) walk_within (sym new ∙ ap g (sym e ∙ (sym walk_entry ∙ at_place.walked.rest place (omega arith)))) at_place.walked;
          fits = record {
            places = walks.fits.places ∙ sym (same_buckets point_of now.rows.items place x y (walk_entry ∙ e) (ap bucket_of point));
            room = walks.fits.room;
            placed = walks.fits.placed;
            capacity = omega (arith, walks.fits.capacity, length-set now.rows.items place (Some y));
          };
        }

    -- it is taken out
    pub walk_takes : (x : BlockRow) (places : Entries) (empty : ℕ) → o ≡ Some x → g (Some x) ≡ None → places ≡ record now.places { buckets = set now.places.buckets place None }
        → Passed p g old (record now { rows = with_item now.rows place None; places = places; empty = empty }) place
    walk_takes x places empty e gone less =
        record {
          walked = changed point_of place None walk_within (sym gone ∙ ap g (sym e ∙ (sym walk_entry ∙ at_place.walked.rest place (omega arith)))) at_place.walked;
          fits = record {
            places = ap (λ (es : Entries). es.buckets) less ∙ (ap (λ bs. set bs place None) walks.fits.places ∙ sym (less_buckets point_of now.rows.items place));
            room = walks.fits.room;
            placed = subst (λ (es : Entries). now.room ≤ es.room) (sym less) walks.fits.placed;
            capacity = omega (arith, walks.fits.capacity, length-set now.rows.items place None);
          };
        }

module _ (p : ℕ) (g : Option BlockRow → Option BlockRow) (old now : Inside) (next : Option ℕ) (is : next ≡ None) (walks : Walks p g old now next) where
  -- in the end all blocks are changed
  pub walk_over : now.rows.items ≡ map g old.rows.items
  walk_over = (subst (Walks p g old now) is walks).walked

  pub walk_fits : the_invariant now
  walk_fits = (walks.fits.places, walks.fits.placed, walks.fits.capacity)

-- ---- changes of statuses

-- a block that passes gets a status
abbrev pub put_if : (Row → Bool) → BlockStatus → BlockRow → BlockRow
put_if q s x = record x { status = cond (q (row_of x)) s x.status }

abbrev pub status_if : (Row → Bool) → Status → Row → Status
status_if q s r = cond (q r) s r.status

status_cond : (b : Bool) (s t : BlockStatus) → status_of (cond b s t) ≡ cond b (status_of s) (status_of t)
status_cond true s t = refl
status_cond false s t = refl

row_put : (q : Row → Bool) (s : BlockStatus) (x : BlockRow) → row_of (put_if q s x) ≡ with_status (status_if q (status_of s)) (row_of x)
row_put q s x = ap (λ (k : Status). record { point = x.point; at = x.at; len = x.len; base = x.base; status = k }) (status_cond (q (row_of x)) s x.status)

pub put_changes : (p : ℕ) (q : Row → Bool) (s : BlockStatus) → ((r : Row) → q r ≡ true → r.point ≡ p) → IsChange point_of (bucket_of p) (option_map (put_if q s))
put_changes p q s own =
    record {
      none = refl;
      other = λ x off. ap (λ b. Some (record x { status = cond b s x.status })) (false_from_ne_true (q (row_of x)) (λ e. off (ap bucket_of (own (row_of x) e))));
    }

pub put_hit : (q : Row → Bool) (s : BlockStatus) (x : BlockRow) → q (row_of x) ≡ true → option_map (put_if q s) (Some x) ≡ Some (record x { status = s })
put_hit q s x e = ap (λ b. Some (record x { status = cond b s x.status })) e

pub put_miss : (q : Row → Bool) (s : BlockStatus) (x : BlockRow) → q (row_of x) ≡ false → option_map (put_if q s) (Some x) ≡ Some x
put_miss q s x e = ap (λ b. Some (record x { status = cond b s x.status })) e

-- the blocks that are left have their new statuses
pub all_put : (q : Row → Bool) (s : BlockStatus) (old now : List (Option BlockRow)) → now ≡ map (option_map (put_if q s)) old → map row_of (present_entries now) ≡ map (with_status (status_if q (status_of s))) (map row_of (present_entries old))
all_put q s old now e =
    ap (λ es. map row_of (present_entries es)) e
    ∙ (ap (map row_of) (left_map (put_if q s) old) ∙ sym (map_follows row_of (put_if q s) (with_status (status_if q (status_of s))) (present_entries old) (row_put q s)))

maps_same : {A B : Type 0} (f h : A → B) (xs : List A) → ((x : A) → In x xs → f x ≡ h x) → map f xs ≡ map h xs
maps_same f h [] e = refl
maps_same f h (x ∷ xs) e = cc (e x (inl refl), maps_same f h xs (λ y i. e y (inr i)))

pub at_same : (p a : ℕ) (s : Status) (rows : List Row) → ((r : Row) → In r rows → r.at ≡ a → r.point ≡ p) → map (with_status (status_if (begins_at p a) s)) rows ≡ map (with_status (at_set a s)) rows
at_same p a s rows of =
    maps_same (with_status (status_if (begins_at p a) s)) (with_status (at_set a s)) rows
    (λ r i. ap (λ b. record r { status = cond b s r.status }) (both_ways (begins_at p a r) (r.at == a) (λ e. (and_parts (r.point == p) (r.at == a) e).1) (λ e. and_from (r.point == p) (r.at == a) (eq-eqb r.point p (of r i (eqb-true r.at a e))) e)))
