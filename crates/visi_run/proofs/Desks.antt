-- Lists of lanes, one of which was written.
use Rattle.std.proofs.Common.{◌≡◌, ℕ, zero, suc, ◌+◌, ◌<◌, List, [], ◌∷◌, ◌++◌, length, map, take, drop, set, get_or, refl, sym, ap, ◌∙◌, subst, arith}
use Rattle.std.proofs.lemmas.List.{take_more_set}
use Rattle.session_spec.specs.declared.data.LatestSample.{LatestSample}
use Rattle.std.specs.List.{AllByRecursion}
use Rattle.visi_run.specs.Lanes.{LaneData, HaveOneList, alls_of, lines_of}
use Rattle.visi_run.specs.Streams.{Watch, watch_lines}

abbrev tail_of : {X : Type 0} → List X → List X
tail_of [] = []
tail_of (x ∷ xs) = xs

abbrev head_or : {X : Type 0} → X → List X → X
head_or d [] = d
head_or d (x ∷ xs) = x

pub map_set : {X Y : Type 0} (f : X → Y) (xs : List X) (i : ℕ) (x d : X) → d ≡ get_or xs i d → f x ≡ f d → map f (set xs i x) ≡ map f xs
map_set f [] i x d is same = refl
map_set f (y ∷ ys) zero x d is same = let e = same ∙ ap f is in λ k. e k ∷ map f ys
map_set f (y ∷ ys) (suc i) x d is same = let e = map_set f ys i x d is same in λ k. f y ∷ e k

pub each_append : {X : Type 0} (P : X → Type 0) (xs ys : List X) → AllByRecursion P xs → AllByRecursion P ys → AllByRecursion P (xs ++ ys)
each_append P [] ys a b = b
each_append P (x ∷ xs) ys a b = (a.0, each_append P xs ys a.1 b)

pub each_more : {X : Type 0} (P : X → Type 0) (xs : List X) (i : ℕ) (y : X) → i < length xs → P y → AllByRecursion P (take i xs) → AllByRecursion P (take (i + 1) (set xs i y))
each_more P xs i y lt p h = subst (AllByRecursion P) (sym (take_more_set xs i y lt)) (each_append P (take i xs) (y ∷ []) h (p, tt))

pub each_behind : {X : Type 0} (P : X → Type 0) (xs : List X) (i : ℕ) (y : X) → AllByRecursion P (drop i xs) → AllByRecursion P (drop (suc i) (set xs i y))
each_behind P [] i y h = tt
each_behind P (x ∷ xs) zero y h = h.1
each_behind P (x ∷ xs) (suc i) y h = each_behind P xs i y h

pub alls_longer : (f : List LatestSample → List LatestSample) (ds : List LaneData) (bs : List (List LatestSample)) (i : ℕ) (x d : LaneData) → i < length ds → d ≡ get_or ds i d → x.all ≡ f d.all
    → alls_of ds ≡ map f (take i bs) ++ drop i bs → alls_of (set ds i x) ≡ map f (take (suc i) bs) ++ drop (suc i) bs
alls_longer f [] bs i x d lt is same h = absurd (omega arith)
alls_longer f (y ∷ ys) [] zero x d lt is same h = absurd cc
alls_longer f (y ∷ ys) (a ∷ bs) zero x d lt is same h =
    let head : x.all ≡ f a = same ∙ ap (λ (k : LaneData). f k.all) is ∙ ap (λ l. f (head_or [] l)) h in
    let rest : alls_of ys ≡ bs = ap tail_of h in
    λ k. head k ∷ rest k
alls_longer f (y ∷ ys) [] (suc i) x d lt is same h = absurd cc
alls_longer f (y ∷ ys) (a ∷ bs) (suc i) x d lt is same h =
    let head : y.all ≡ f a = ap (head_or []) h in
    let rest = alls_longer f ys bs i x d (omega arith) is same (ap tail_of h) in
    λ k. head k ∷ rest k

pub alls_longer_at : (f : List LatestSample → List LatestSample) (ds : List LaneData) (bs : List (List LatestSample)) (i : ℕ) (x d : LaneData) → i < length ds → d ≡ get_or ds i d → x.all ≡ f d.all
    → alls_of ds ≡ map f (take i bs) ++ drop i bs → alls_of (set ds i x) ≡ map f (take (i + 1) bs) ++ drop (i + 1) bs
alls_longer_at f ds bs i x d lt is same h = let e : suc i ≡ i + 1 = omega arith in subst (λ n. alls_of (set ds i x) ≡ map f (take n bs) ++ drop n bs) e (alls_longer f ds bs i x d lt is same h)

pub each_behind_at : {X : Type 0} (P : X → Type 0) (xs : List X) (i : ℕ) (y : X) → AllByRecursion P (drop i xs) → AllByRecursion P (drop (i + 1) (set xs i y))
each_behind_at P xs i y h = let e : suc i ≡ i + 1 = omega arith in subst (λ n. AllByRecursion P (drop n (set xs i y))) e (each_behind P xs i y h)

pub same_length : {X Y Z : Type 0} (f : X → Z) (g : Y → Z) (xs : List X) (ys : List Y) → map f xs ≡ map g ys → length xs ≡ length ys
same_length f g [] [] e = refl
same_length f g [] (y ∷ ys) e = absurd cc
same_length f g (x ∷ xs) [] e = absurd cc
same_length f g (x ∷ xs) (y ∷ ys) e = ap suc (same_length f g xs ys (ap tail_of e))

pub line_at : (ws : List Watch) (ds : List LaneData) (i : ℕ) (w : Watch) (d : LaneData) → i < length ws → watch_lines ws ≡ lines_of ds → w ≡ get_or ws i w → d ≡ get_or ds i d → w.line ≡ d.line
line_at [] ds i w d lt e a b = absurd (omega arith)
line_at (x ∷ xs) [] i w d lt e a b = absurd cc
line_at (x ∷ xs) (y ∷ ys) zero w d lt e a b = ap (λ (k : Watch). k.line) a ∙ ap (head_or x.line) e ∙ sym (ap (λ (k : LaneData). k.line) b)
line_at (x ∷ xs) (y ∷ ys) (suc i) w d lt e a b = line_at xs ys i w d (omega arith) (ap tail_of e) a b

taken_more : (ds : List LaneData) (i : ℕ) (d : LaneData) → i < length ds → d ≡ get_or ds i d → take (suc i) (alls_of ds) ≡ take i (alls_of ds) ++ d.all ∷ []
taken_more [] i d lt is = absurd (omega arith)
taken_more (y ∷ ys) zero d lt is = let e = ap (λ (k : LaneData). k.all) (sym is) in λ k. e k ∷ []
taken_more (y ∷ ys) (suc i) d lt is = let e = taken_more ys i d (omega arith) is in λ k. y.all ∷ e k

pub taken_more_at : (ds : List LaneData) (i : ℕ) (d : LaneData) → i < length ds → d ≡ get_or ds i d → take (i + 1) (alls_of ds) ≡ take i (alls_of ds) ++ d.all ∷ []
taken_more_at ds i d lt is = let e : suc i ≡ i + 1 = omega arith in subst (λ n. take n (alls_of ds) ≡ take i (alls_of ds) ++ d.all ∷ []) e (taken_more ds i d lt is)

each_grown : (items first : List LatestSample) (bs : List (List LatestSample)) → AllByRecursion (λ xs. xs ≡ first) bs → AllByRecursion (λ xs. xs ≡ first ++ items) (map (λ xs. xs ++ items) bs)
each_grown items first [] h = tt
each_grown items first (a ∷ bs) h = (ap (λ l. l ++ items) h.0, each_grown items first bs h.1)

pub alike_grows : (old new : List LaneData) (items : List LatestSample) → 0 < length old → HaveOneList old → alls_of new ≡ map (λ xs. xs ++ items) (alls_of old) → (0 < length new) × HaveOneList new
alike_grows [] new items lt h e = absurd (omega arith)
alike_grows (d ∷ ds) [] items lt h e = absurd cc
alike_grows (d ∷ ds) (x ∷ xs) items lt h e =
    let head : x.all ≡ d.all ++ items = ap (head_or []) e in
    let rest : alls_of xs ≡ map (λ ys. ys ++ items) (alls_of ds) = ap tail_of e in
    (omega arith, (refl, subst (λ (l : List LatestSample). AllByRecursion (λ ys. ys ≡ l) (alls_of xs)) (sym head) (subst (AllByRecursion (λ ys. ys ≡ d.all ++ items)) (sym rest) (each_grown items d.all (alls_of ds) h.1))))

pub snoc_map : {X Y : Type 0} (f : X → Y) (xs : List X) (x : X) → map f (xs ++ x ∷ []) ≡ map f xs ++ f x ∷ []
snoc_map f [] x = refl
snoc_map f (y ∷ ys) x = let e = snoc_map f ys x in λ k. f y ∷ e k
