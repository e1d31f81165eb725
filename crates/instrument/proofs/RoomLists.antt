-- The rooms by place: what a push, a removal and a walk make of those that are left.
use Rattle.std.proofs.Common.{◌≡◌, ℕ, zero, suc, ◌+◌, ◌<◌, ◌≤◌, Option, Some, None, List, [], ◌∷◌, ◌++◌, length, filter, take, drop, set, get_or, refl, sym, ap, ◌∙◌, arith}
use Rattle.std.proofs.lemmas.Option.{none-some}
use Rattle.std.proofs.lemmas.List.{map-append, map-set, length-append}
use Rattle.std.specs.Option.{is_some}
use Rattle.bucket_chains.specs.Left.{present_entries}
use Rattle.instrument.specs.RoomPlaces.{AreIndexed, RoomEntries, at_key, bucket_by, owner_key, point_key}
use Rattle.instrument.specs.declared.room.Room.{Room}

-- ---- what is left

pub left_few : {A : Type 0} (es : List (Option A)) → length (present_entries es) ≤ length es
left_few [] = omega arith
left_few (None ∷ es) = omega (arith, left_few es)
left_few (Some x ∷ es) = omega (arith, left_few es)

-- one at a place is taken out
pub left_out : {A : Type 0} (es : List (Option A)) (place : ℕ) (x : A) → get_or es place None ≡ Some x → present_entries es ≡ present_entries (take place es) ++ x ∷ present_entries (drop (suc place) es)
left_out [] place x h = absurd (none-some x h)
left_out (None ∷ es) zero x h = absurd (none-some x h)
left_out (Some y ∷ es) zero x h = cc
left_out (None ∷ es) (suc place) x h = left_out es place x h
left_out (Some y ∷ es) (suc place) x h = ap (λ l. y ∷ l) (left_out es place x h)

pub left_parts : {A : Type 0} (es : List (Option A)) (place : ℕ) → present_entries es ≡ present_entries (take place es) ++ present_entries (drop place es)
left_parts es zero = refl
left_parts [] (suc place) = refl
left_parts (None ∷ es) (suc place) = left_parts es place
left_parts (Some x ∷ es) (suc place) = ap (λ l. x ∷ l) (left_parts es place)

pub left_without : {A : Type 0} (es : List (Option A)) (place : ℕ) → place < length es → present_entries (set es place None) ≡ present_entries (take place es) ++ present_entries (drop (suc place) es)
left_without [] place lt = absurd (omega (arith, lt))
left_without (e ∷ es) zero lt = refl
left_without (None ∷ es) (suc place) lt = left_without es place (omega (arith, lt))
left_without (Some y ∷ es) (suc place) lt = ap (λ l. y ∷ l) (left_without es place (omega (arith, lt)))

-- the empty places are left out
pub left_filled : {A : Type 0} (es : List (Option A)) → present_entries (filter is_some es) ≡ present_entries es
left_filled [] = refl
left_filled (None ∷ es) = left_filled es
left_filled (Some x ∷ es) = ap (λ l. x ∷ l) (left_filled es)

pub entry_within : {A : Type 0} (es : List (Option A)) (place : ℕ) (x : A) → get_or es place None ≡ Some x → place < length es
entry_within [] place x h = absurd (none-some x h)
entry_within (e ∷ es) zero x h = omega arith
entry_within (e ∷ es) (suc place) x h = omega (arith, entry_within es place x h)

pub left_fewer : {A : Type 0} (es : List (Option A)) (place : ℕ) (x : A) → get_or es place None ≡ Some x → length (present_entries es) ≡ length (present_entries (set es place None)) + 1
left_fewer es place x h =
    omega (
      arith,
      ap length (left_out es place x h),
      length-append (present_entries (take place es)) (x ∷ present_entries (drop (suc place) es)),
      ap length (left_without es place (entry_within es place x h)),
      length-append (present_entries (take place es)) (present_entries (drop (suc place) es)),
    )

-- another one in the place of one
pub left_same : {A : Type 0} (es : List (Option A)) (place : ℕ) (x y : A) → get_or es place None ≡ Some x → length (present_entries (set es place (Some y))) ≡ length (present_entries es)
left_same [] place x y h = refl
left_same (None ∷ es) zero x y h = absurd (none-some x h)
left_same (Some z ∷ es) zero x y h = refl
left_same (None ∷ es) (suc place) x y h = left_same es place x y h
left_same (Some z ∷ es) (suc place) x y h = ap (λ n. suc n) (left_same es place x y h)

-- ---- the index

pub indexed_push : (places : List (Option Room)) (place : Option Room) (before after : RoomEntries) → AreIndexed places before
    → after.points ≡ before.points ++ bucket_by point_key place ∷ [] → after.addresses ≡ before.addresses ++ bucket_by at_key place ∷ [] → after.owners ≡ before.owners ++ bucket_by owner_key place ∷ []
    → AreIndexed (places ++ place ∷ []) after
indexed_push places place before after h p a o = record {
  points = p ∙ ap (λ l. l ++ bucket_by point_key place ∷ []) h.points ∙ sym (map-append (bucket_by point_key) places (place ∷ []));
  addresses = a ∙ ap (λ l. l ++ bucket_by at_key place ∷ []) h.addresses ∙ sym (map-append (bucket_by at_key) places (place ∷ []));
  owners = o ∙ ap (λ l. l ++ bucket_by owner_key place ∷ []) h.owners ∙ sym (map-append (bucket_by owner_key) places (place ∷ []));
}

pub indexed_remove : (places : List (Option Room)) (place : ℕ) (before after : RoomEntries) → AreIndexed places before
    → after.points ≡ set before.points place None → after.addresses ≡ set before.addresses place None → after.owners ≡ set before.owners place None
    → AreIndexed (set places place None) after
indexed_remove places place before after h p a o = record {
  points = p ∙ ap (λ l. set l place None) h.points ∙ sym (map-set (bucket_by point_key) places place None);
  addresses = a ∙ ap (λ l. set l place None) h.addresses ∙ sym (map-set (bucket_by at_key) places place None);
  owners = o ∙ ap (λ l. set l place None) h.owners ∙ sym (map-set (bucket_by owner_key) places place None);
}
