-- The search for a Free, a place at a time.
use Rattle.std.proofs.Common.{◌≡◌, ℕ, zero, suc, ◌+◌, ◌<◌, List, [], ◌∷◌, ◌++◌, length, Option, Some, None, refl, sym, ap, ◌∙◌, arith, take, drop}
use Rattle.std.specs.Prelude.{Bool, true, false, cond, slice_get, remove}
use Rattle.std.specs.List.{list_any}
use Rattle.instrument.specs.Agendas.{free_point, free_entry, IsFoundAt}
use Rattle.instrument.specs.Books.{FoundFree, unlinks, freed_point, or_later, first_free}
use Rattle.instrument.specs.declared.entry.Entry.{Entry}

record At (items : List Entry) (i : ℕ) : Type 0 where
  e : Entry
  get : slice_get items i ≡ Some e
  drops : drop i items ≡ e ∷ drop (suc i) items
  takes : take (suc i) items ≡ take i items ++ e ∷ []
  removes : remove items i ≡ take i items ++ drop (suc i) items

at_place : (items : List Entry) (i : ℕ) → i < length items → At items i
at_place [] i l = absurd (omega arith)
at_place (x ∷ xs) zero l = record { e = x; get = refl; drops = refl; takes = refl; removes = refl }
at_place (x ∷ xs) (suc i) l =
    let a = at_place xs i (omega arith) in
    record { e = a.e; get = a.get; drops = a.drops; takes = ap (λ ys. x ∷ ys) a.takes; removes = ap (λ ys. x ∷ ys) a.removes }

goes_to : (items : List Entry) (i : ℕ) → i < length items → free_entry (slice_get items i) (take i items) ≡ None → first_free (take i items) (drop i items) ≡ first_free (take (suc i) items) (drop (suc i) items)
goes_to items i l e =
    let a = at_place items i l in
    ap (first_free (take i items)) a.drops
    ∙ (by (freed_point a.e) (first_free (take i items ++ a.e ∷ []) (drop (suc i) items)) (sym (ap (λ o. free_entry o (take i items)) a.get) ∙ e) ∙ ap (λ before. first_free before (drop (suc i) items)) (sym a.takes))
  where
    on : (b : Bool) (p : ℕ) (r : Option FoundFree) → cond b None (Some p) ≡ None → cond b r (Some (record { point = p; rest = take i items ++ drop (suc i) items })) ≡ r
    on true p r q = refl
    on false p r q = absurd cc

    by : (o : Option ℕ) (r : Option FoundFree) → free_point o (take i items) ≡ None → or_later o (take i items) (drop (suc i) items) r ≡ r
    by None r q = refl
    by (Some p) r q = on (list_any (unlinks p) (take i items)) p r q

pub goes_on : (items : List Entry) (i : ℕ) → i < length items → free_entry (slice_get items i) (take i items) ≡ None → first_free (take i items) (drop i items) ≡ first_free (take (i + 1) items) (drop (i + 1) items)
goes_on items i l e = let z : suc i ≡ i + 1 = omega arith in goes_to items i l e ∙ ap (λ k. first_free (take k items) (drop k items)) z

pub found_at : (items : List Entry) (i p : ℕ) → i < length items → free_entry (slice_get items i) (take i items) ≡ Some p → first_free [] items ≡ first_free (take i items) (drop i items) → IsFoundAt items i p
found_at items i p l e q =
    let a = at_place items i l in
    q ∙ (ap (first_free (take i items)) a.drops ∙ (by (freed_point a.e) (first_free (take i items ++ a.e ∷ []) (drop (suc i) items)) (sym (ap (λ o. free_entry o (take i items)) a.get) ∙ e) ∙ ap (λ rest. Some (record { point = p; rest = rest })) (sym a.removes)))
  where
    on : (b : Bool) (z : ℕ) (r : Option FoundFree) → cond b None (Some z) ≡ Some p → cond b r (Some (record { point = z; rest = take i items ++ drop (suc i) items })) ≡ Some (record { point = p; rest = take i items ++ drop (suc i) items })
    on true z r q = absurd cc
    on false z r q = let w : z ≡ p = cc in ap (λ (n : ℕ). Some (record { point = n; rest = take i items ++ drop (suc i) items })) w

    by : (o : Option ℕ) (r : Option FoundFree) → free_point o (take i items) ≡ Some p → or_later o (take i items) (drop (suc i) items) r ≡ Some (record { point = p; rest = take i items ++ drop (suc i) items })
    by None r q = absurd cc
    by (Some z) r q = on (list_any (unlinks z) (take i items)) z r q
