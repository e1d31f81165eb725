-- How the regions of a memory that starts come to be, one by one.
use Rattle.std.proofs.Common.{◌≡◌, ℕ, zero, suc, ◌+◌, ◌-◌, ◌<◌, ◌≤◌, List, [], ◌∷◌, ◌++◌, length, drop, get_or, refl, ap, sym, subst, ◌∙◌, arith}
use Rattle.rv_word.specs.Memory.{flat, numbered}
use Rattle.rv_mem.specs.declared.mapped.Region.{Region}
use Rattle.pn_types.specs.declared.image.Segment.{Segment}
use Rattle.std.specs.List.{AllByRecursion}
use Rattle.pn_types.specs.Images.{IsSegment}
use Rattle.rv_mem.specs.Regions.{content, entries_of, parts_of, region_part}
use Rattle.rv_mem.specs.Start.{segment_part, segment_parts, heap_part, stack_part, stack_parts}

pub entries_of-flat : (rs : List Region) → entries_of rs ≡ flat (parts_of rs)
entries_of-flat [] = refl
entries_of-flat (r ∷ rs) = ap (λ es. numbered r.at (content r) ++ es) (entries_of-flat rs)

-- a region more, before what is to come
parts_of-push : (rs : List Region) (r : Region) (rest : List (ℕ × List ℕ)) → parts_of (rs ++ r ∷ []) ++ rest ≡ parts_of rs ++ region_part r ∷ rest
parts_of-push [] r rest = refl
parts_of-push (x ∷ rs) r rest = ap (λ z. region_part x ∷ z) (parts_of-push rs r rest)

segment_parts-drop : (ss : List Segment) (i : ℕ) (s : Segment) → s ≡ get_or ss i s → i < length ss → segment_part s ∷ segment_parts (drop (suc i) ss) ≡ segment_parts (drop i ss)
segment_parts-drop [] i s e h = absurd (omega arith)
segment_parts-drop (x ∷ ss) zero s e h = ap (λ z. segment_part z ∷ segment_parts ss) e
segment_parts-drop (x ∷ ss) (suc i) s e h = segment_parts-drop ss i s e (omega arith)

-- each segment has room for its bytes
pub filled_at : (ss : List Segment) (i : ℕ) (s : Segment) → AllByRecursion IsSegment ss → s ≡ get_or ss i s → i < length ss → length s.bytes ≤ s.size
filled_at [] i s all e h = absurd (omega arith)
filled_at (x ∷ ss) zero s all e h = subst (λ z. length z.bytes ≤ z.size) (sym e) all.0.filled
filled_at (x ∷ ss) (suc i) s all e h = filled_at ss i s all.1 e (omega arith)

pub segment_step : (rs new : List Region) (r : Region) (ss : List Segment) (i : ℕ) (s : Segment) → new ≡ rs ++ r ∷ [] → region_part r ≡ segment_part s → s ≡ get_or ss i s → i < length ss → parts_of new ++ segment_parts (drop (i + 1) ss) ≡ parts_of rs ++ segment_parts (drop i ss)
segment_step rs new r ss i s e is at h =
    let n : i + 1 ≡ suc i = omega arith in
    ap (λ z. parts_of z ++ segment_parts (drop (i + 1) ss)) e
    ∙ parts_of-push rs r (segment_parts (drop (i + 1) ss))
    ∙ ap (λ k. parts_of rs ++ region_part r ∷ segment_parts (drop k ss)) n
    ∙ ap (λ z. parts_of rs ++ z ∷ segment_parts (drop (suc i) ss)) is
    ∙ ap (λ z. parts_of rs ++ z) (segment_parts-drop ss i s at h)

pub stack_step : (rs new : List Region) (r : Region) (n h : ℕ) → h < n → new ≡ rs ++ r ∷ [] → region_part r ≡ stack_part h → parts_of new ++ stack_parts (n - (h + 1)) (h + 1) ≡ parts_of rs ++ stack_parts (n - h) h
stack_step rs new r n h l e is =
    let k : suc (n - (h + 1)) ≡ n - h = omega arith in
    ap (λ z. parts_of z ++ stack_parts (n - (h + 1)) (h + 1)) e
    ∙ parts_of-push rs r (stack_parts (n - (h + 1)) (h + 1))
    ∙ ap (λ z. parts_of rs ++ z ∷ stack_parts (n - (h + 1)) (h + 1)) is
    ∙ ap (λ j. parts_of rs ++ stack_parts j h) k

segment_parts-past : (ss : List Segment) (i : ℕ) → length ss ≤ i → segment_parts (drop i ss) ≡ []
segment_parts-past [] zero h = refl
segment_parts-past [] (suc i) h = refl
segment_parts-past (x ∷ ss) zero h = absurd (omega arith)
segment_parts-past (x ∷ ss) (suc i) h = segment_parts-past ss i (omega arith)

append_nil : (xs : List (ℕ × List ℕ)) → xs ++ [] ≡ xs
append_nil [] = refl
append_nil (x ∷ xs) = ap (λ z. x ∷ z) (append_nil xs)

pub heap_step : (rs new : List Region) (r : Region) (ss : List Segment) (i n : ℕ) → new ≡ rs ++ r ∷ [] → region_part r ≡ heap_part → length ss ≤ i → parts_of rs ++ segment_parts (drop i ss) ≡ segment_parts ss → parts_of new ++ stack_parts (n - 0) 0 ≡ segment_parts ss ++ heap_part ∷ stack_parts n 0
heap_step rs new r ss i n e is l inv =
    let k : n - 0 ≡ n = omega arith in
    let p : parts_of rs ≡ segment_parts ss = sym (append_nil (parts_of rs)) ∙ ap (λ z. parts_of rs ++ z) (sym (segment_parts-past ss i l)) ∙ inv in
    ap (λ z. parts_of z ++ stack_parts (n - 0) 0) e
    ∙ parts_of-push rs r (stack_parts (n - 0) 0)
    ∙ ap (λ z. parts_of rs ++ z ∷ stack_parts (n - 0) 0) is
    ∙ ap (λ j. parts_of rs ++ heap_part ∷ stack_parts j 0) k
    ∙ ap (λ z. z ++ heap_part ∷ stack_parts n 0) p
