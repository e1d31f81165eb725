-- Lists of seats, and of the lists that views were given.
use Rattle.std.proofs.Common.{◌≡◌, ℕ, zero, suc, ◌<◌, ◌≤◌, List, [], ◌∷◌, ◌++◌, length, refl, ap, ◌∙◌, arith, map}
use Rattle.std.specs.Prelude.{slice_index_or, replicate}
use Rattle.std.specs.List.{AllByRecursion}
use Rattle.atomic_table.specs.Seated.{TableId}
use Rattle.session_spec.specs.declared.data.LatestSample.{LatestSample}
use Rattle.visi_run.specs.Texts.{first_count}
use Rattle.visi_run.specs.declared.view.Seat.{Seat}
use Rattle.visi_run.specs.Watching.{IsSameSeat, seat_lines, AreSeatsOf}

pub each_front : {X : Type 0} (P : X → Type 0) (xs ys : List X) → AllByRecursion P (xs ++ ys) → AllByRecursion P xs
each_front P [] ys h = tt
each_front P (x ∷ xs) ys h = (h.0, each_front P xs ys h.1)

pub each_last : {X : Type 0} (P : X → Type 0) (xs : List X) (y : X) → AllByRecursion P (xs ++ y ∷ []) → P y
each_last P [] y h = h.0
each_last P (x ∷ xs) y h = each_last P xs y h.1

pub index_map : {X Y : Type 0} (f : X → Y) (xs : List X) (i : ℕ) (d : X) → slice_index_or (map f xs) i (f d) ≡ f (slice_index_or xs i d)
index_map f [] i d = refl
index_map f (x ∷ xs) zero d = refl
index_map f (x ∷ xs) (suc i) d = index_map f xs i d

pub seats_same : (xs ys : List Seat) → length xs ≡ length ys → ((i : ℕ) → i < length xs → (d : Seat) → IsSameSeat (slice_index_or ys i d) (slice_index_or xs i d)) → seat_lines xs ≡ seat_lines ys
seats_same [] [] e h = refl
seats_same [] (y ∷ ys) e h = absurd (omega arith)
seats_same (x ∷ xs) [] e h = absurd (omega arith)
seats_same (x ∷ xs) (y ∷ ys) e h =
    let head : x.view.line ≡ y.view.line = (h 0 (omega arith) x).0 in
    let rest = seats_same xs ys (omega arith) (λ i lt d. h (suc i) (omega arith) d) in
    λ k. head k ∷ rest k

pub cells_same : (cell : TableId) (xs ys : List Seat) → length xs ≡ length ys → ((i : ℕ) → i < length xs → (d : Seat) → IsSameSeat (slice_index_or ys i d) (slice_index_or xs i d)) → AreSeatsOf cell ys → AreSeatsOf cell xs
cells_same cell [] [] e h c = tt
cells_same cell [] (y ∷ ys) e h c = absurd (omega arith)
cells_same cell (x ∷ xs) [] e h c = absurd (omega arith)
cells_same cell (x ∷ xs) (y ∷ ys) e h c = ((h 0 (omega arith) x).1 ∙ c.0, cells_same cell xs ys (omega arith) (λ i lt d. h (suc i) (omega arith) d) c.1)

-- a number of lists, each of which is the same
pub all_same : {X : Type 0} (xs : X) (lists : List X) → AllByRecursion (λ x. x ≡ xs) lists → lists ≡ replicate (length lists) xs
all_same xs [] h = refl
all_same xs (x ∷ lists) h = λ k. h.0 k ∷ all_same xs lists h.1 k

-- how many samples the first view was given, where all were given the same ones
pub first_is : (xs : List LatestSample) (lists : List (List LatestSample)) → AllByRecursion (λ x. x ≡ xs) lists → 1 ≤ length lists → first_count lists ≡ length xs
first_is xs [] h some = absurd (omega (arith, some))
first_is xs (x ∷ lists) h some = ap (λ (l : List LatestSample). length l) h.0
