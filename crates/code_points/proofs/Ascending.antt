-- The addresses of points ascend.
use Rattle.std.proofs.Common.{◌≡◌, ℕ, zero, suc, ◌+◌, ◌*◌, ◌/◌, ◌%◌, ◌<◌, ◌≤◌, List, [], ◌∷◌, ◌++◌, length, get_or, map, Bool, true, false, cond, refl, ap, sym, subst, ◌∙◌, arith}
use Rattle.std.specs.List.{filter, range_with_len, All}
use Rattle.std.specs.List.Sorted.{IsStrictlyIncreasing}
use Rattle.std.proofs.lemmas.List.{map-append, length-append, length-map}
use Rattle.std.proofs.lemmas.List.FromFn.{length-map-range_with_len}
use Rattle.std.proofs.lemmas.List.Sums.{length-filter, count_by-le-length}
use Rattle.std.proofs.lemmas.List.Elements.{All-tail}
use Rattle.pn_types.specs.declared.code.Point.{Point}
use Rattle.pn_types.specs.declared.code.Proc.{Proc}
use Rattle.pn_types.specs.declared.image.Image.{Image}
use Rattle.rv_word.specs.Plain.{Words}
use Rattle.code_points.specs.Procedures.{AreProcsOf, IsProcOf, Ascend}
use Rattle.code_points.specs.Points.{point_at, has_kind, addresses, points_in, points_from}

-- each number is above those before it, and the first is at least n
abbrev Rises : ℕ → List ℕ → Type 0
Rises n [] = Unit {0}
Rises n (x ∷ xs) = (n ≤ x) × Rises (x + 1) xs

-- whole words, each procedure after the one before it, and the first at n or after
abbrev Follow : ℕ → List Proc → Type 0
Follow n [] = Unit {0}
Follow n (p ∷ ps) = (n ≤ p.start) × (p.len % 4 ≡ 0) × Follow (p.start + p.len) ps

from_lower : (m n : ℕ) (xs : List ℕ) → m ≤ n → Rises n xs → Rises m xs
from_lower m n [] l h = tt
from_lower m n (x ∷ xs) l h = (omega (arith, h.0), h.1)

increasing : (n : ℕ) (xs : List ℕ) → Rises n xs → IsStrictlyIncreasing xs
increasing n [] h k l = absurd (omega arith)
increasing n (x ∷ []) h k l = absurd (omega arith)
increasing n (x ∷ y ∷ xs) h zero l = omega (arith, h.1.0)
increasing n (x ∷ y ∷ xs) h (suc k) l =
    let e : suc (k + 1) ≡ suc k + 1 = omega arith in
    subst (λ j. get_or (y ∷ xs) k 0 < get_or (x ∷ y ∷ xs) j 0) e (increasing (x + 1) (y ∷ xs) h.1 k (omega arith))

-- a number that passes or not, before others
one : (b : Bool) (n x : ℕ) (xs : List ℕ) → n ≤ x → Rises (x + 1) xs → Rises n (cond b (x ∷ xs) xs)
one true n x xs l h = (l, h)
one false n x xs l h = from_lower n (x + 1) xs (omega arith) h

cond-append : (b : Bool) (x : ℕ) (xs ys : List ℕ) → cond b (x ∷ xs) xs ++ ys ≡ cond b (x ∷ (xs ++ ys)) (xs ++ ys)
cond-append true x xs ys = refl
cond-append false x xs ys = refl

-- the words of one procedure, before those of others
words : (test : ℕ → Bool) (s k m n : ℕ) (rest : List ℕ) → n ≤ s + 4 * k → Rises (s + 4 * (k + m)) rest → Rises n (filter test (map (λ j. s + 4 * j) (range_with_len k m)) ++ rest)
words test s k zero n rest l h = from_lower n (s + 4 * (k + 0)) rest (omega arith) h
words test s k (suc m) n rest l h =
    let e : s + 4 * (k + suc m) ≡ s + 4 * (k + 1 + m) = omega arith in
    let tail = filter test (map (λ j. s + 4 * j) (range_with_len (k + 1) m)) in
    let up : Rises (s + 4 * k + 1) (tail ++ rest) = words test s (k + 1) m (s + 4 * k + 1) rest (omega arith) (subst (λ j. Rises j rest) e h) in
    subst (Rises n) (sym (cond-append (test (s + 4 * k)) (s + 4 * k) tail rest)) (one (test (s + 4 * k)) n (s + 4 * k) (tail ++ rest) l up)

kept : (b : Bool) (q : Point) (x : ℕ) (qs : List Point) (xs : List ℕ) → q.at ≡ x → map (λ q. q.at) qs ≡ xs → map (λ q. q.at) (cond b (q ∷ qs) qs) ≡ cond b (x ∷ xs) xs
kept true q x qs xs e h = ap (λ a. a ∷ map (λ q. q.at) qs) e ∙ ap (λ z. x ∷ z) h
kept false q x qs xs e h = h

-- the addresses of what is kept
ats : (test : Point → Bool) (f : ℕ → Point) → ((a : ℕ) → (f a).at ≡ a) → (xs : List ℕ) → map (λ q. q.at) (filter test (map f xs)) ≡ filter (λ a. test (f a)) xs
ats test f h [] = refl
ats test f h (x ∷ xs) = kept (test (f x)) (f x) x (filter test (map f xs)) (filter (λ a. test (f a)) xs) (h x) (ats test f h xs)

rise : (t : Words) (n k : ℕ) (ps : List Proc) → Follow k ps → Rises k (map (λ q. q.at) (points_from t n ps))
rise t n k [] h = tt
rise t n k (p ∷ ps) h =
    let test = λ (a : ℕ). has_kind (point_at t n p a) in
    let rest = map (λ (q : Point). q.at) (points_from t (n + 1) ps) in
    let e : p.start + p.len ≡ p.start + 4 * (0 + p.len / 4) = omega (arith, h.1) in
    let same = map-append (λ (q : Point). q.at) (points_in t n p) (points_from t (n + 1) ps) ∙ ap (λ z. z ++ rest) (ats has_kind (point_at t n p) (λ a. refl) (addresses p)) in
    subst (Rises k) (sym same) (words test p.start 0 (p.len / 4) k rest (omega (arith, h.0)) (subst (λ j. Rises j rest) e (rise t (n + 1) (p.start + p.len) ps h.2)))

next : (p : Proc) (ps : List Proc) (j : ℕ) (d : Proc) → (get_or ps j d).start + (get_or ps j d).len ≤ (get_or (p ∷ ps) (suc j + 1) d).start → (get_or ps j d).start + (get_or ps j d).len ≤ (get_or ps (j + 1) d).start
next p ps j d h =
    let e : suc j + 1 ≡ suc (j + 1) = omega arith in
    subst (λ i. (get_or ps j d).start + (get_or ps j d).len ≤ (get_or (p ∷ ps) i d).start) e h

follow : (image : Image) (k : ℕ) (ps : List Proc) → All (IsProcOf image) ps → Ascend ps → ((d : Proc) → 0 < length ps → k ≤ (get_or ps 0 d).start) → Follow k ps
follow image k [] h a l = tt
follow image k (p ∷ ps) h a l =
    (l p (omega arith), (h 0 p (omega arith)).words, follow image (p.start + p.len) ps (All-tail (IsProcOf image) p ps h) (λ j d b. next p ps j d (a (suc j) d (omega arith))) (λ d b. a 0 d (omega arith)))

-- the points of procedures ascend
pub ascending : (image : Image) (t : Words) (ps : List Proc) → AreProcsOf image ps → IsStrictlyIncreasing (map (λ q. q.at) (points_from t 0 ps))
ascending image t ps h = increasing 0 (map (λ q. q.at) (points_from t 0 ps)) (rise t 0 0 ps (follow image 0 ps h.each h.ascend (λ d b. omega arith)))

-- ---- how many

-- a procedure has no more points than words
points_few : (t : Words) (n : ℕ) (p : Proc) → 4 * length (points_in t n p) ≤ p.len
points_few t n p =
    let kept = length-filter has_kind (map (point_at t n p) (addresses p)) in
    let most = count_by-le-length has_kind (map (point_at t n p) (addresses p)) in
    let points = length-map (addresses p) (point_at t n p) in
    let words = length-map-range_with_len (λ k. p.start + 4 * k) 0 (p.len / 4) in
    omega arith

-- procedures that follow one another end no later than this
abbrev End : ℕ → List Proc → Type 0
End e [] = Unit {0}
End e (p ∷ ps) = (p.start + p.len ≤ e) × End e ps

counted : (t : Words) (n k e : ℕ) (ps : List Proc) → k ≤ e → Follow k ps → End e ps → k + 4 * length (points_from t n ps) ≤ e
counted t n k e [] l h g = omega (arith, l)
counted t n k e (p ∷ ps) l h g =
    omega (arith, h.0, g.0, points_few t n p, counted t (n + 1) (p.start + p.len) e ps g.0 h.2 g.1, length-append (points_in t n p) (points_from t (n + 1) ps))

end : (image : Image) (ps : List Proc) → All (IsProcOf image) ps → End (image.text_at + image.text_len) ps
end image [] h = tt
end image (p ∷ ps) h = ((h 0 p (omega arith)).before, end image ps (All-tail (IsProcOf image) p ps h))

first_behind : (image : Image) (ps : List Proc) → All (IsProcOf image) ps → (d : Proc) → 0 < length ps → image.text_at ≤ (get_or ps 0 d).start
first_behind image ps h d l = (h 0 d l).behind

-- there are no more points than words of the text
pub few_points : (image : Image) (t : Words) (ps : List Proc) → AreProcsOf image ps → length (points_from t 0 ps) ≤ image.text_len / 4
few_points image t ps h =
    let most = counted t 0 image.text_at (image.text_at + image.text_len) ps (omega arith) (follow image image.text_at ps h.each h.ascend (first_behind image ps h.each)) (end image ps h.each) in
    omega arith
