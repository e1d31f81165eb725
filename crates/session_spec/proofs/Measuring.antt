-- What is measured, and the ticks of harts, over times that are past: they add up, and later turns change nothing.
use Rattle.std.proofs.Common.{◌≡◌, ℕ, zero, suc, ◌+◌, ◌-◌, ◌%◌, ◌^◌, ◌≤◌, List, [], ◌∷◌, ◌++◌, length, refl, sym, ap, ◌∙◌, arith}
use Rattle.std.specs.Prelude.{Bool, drop, filter, take, ◌==◌}
use Rattle.std.specs.List.{list_any}
use Rattle.std.proofs.Math.Seq.{take-add}
use Rattle.std.proofs.lemmas.Bool.{cond_both}
use Rattle.std.proofs.lemmas.List.{drop-append-le, drop-drop, length-append, length-drop, take-append-le}
use Rattle.pn_types.specs.declared.plan.Plan.{Plan}
use Rattle.rv_word.specs.Plain.{Plain, Words}
use Rattle.rv_exec.specs.Run.{run_from}
use Rattle.machine.specs.Measures.{Level, difference, level, level_at, measure, measure_of, measured, opening_level}
use Rattle.instrument.proofs.Folds.{filter_append}
use Rattle.session_spec.specs.Verdicts.{ticks_in}

-- ---- measures

level_more : (t : Words) (plan : Plan) (h a k : ℕ) (owns more : List ℕ) (s : Plain) → a ≤ length owns → k ≤ length owns → level_at t plan h a k (owns ++ more) s ≡ level_at t plan h a k owns s
level_more t plan h a k owns more s l m =
    ap (λ (xs : List ℕ). level t plan h (drop a xs) (run_from t (take a (owns ++ more)) s) (opening_level plan (run_from t (take a (owns ++ more)) s) h)) (take-append-le k owns more m)
    ∙ ap (λ (xs : List ℕ). level t plan h (drop a (take k owns)) (run_from t xs s) (opening_level plan (run_from t xs s) h)) (take-append-le a owns more l)

pub measure_more : (t : Words) (plan : Plan) (harts : List ℕ) (a b c : ℕ) (owns more : List ℕ) (s : Plain) → a ≤ b → b ≤ c → c ≤ length owns
    → measure t plan harts a b c (owns ++ more) s ≡ measure t plan harts a b c owns s
measure_more t plan [] a b c owns more s l m n = refl
measure_more t plan (h ∷ harts) a b c owns more s l m n =
    let first : a ≤ length owns = omega arith in
    let middle : b ≤ length owns = omega arith in
    let rest = λ (x : ℕ). (x + measure t plan harts a b c (owns ++ more) s) % 2 ^ 64 in
    ap (λ (v : Level). rest (difference (measured plan v) (measured plan (level_at t plan h a c (owns ++ more) s)))) (level_more t plan h a b owns more s first middle)
    ∙ (ap (λ (v : Level). rest (difference (measured plan (level_at t plan h a b owns s)) (measured plan v))) (level_more t plan h a c owns more s first n)
    ∙ ap (λ (x : ℕ). (measure_of t plan a b c h owns s + x) % 2 ^ 64) (measure_more t plan harts a b c owns more s l m n))

no_difference : (x : ℕ) → difference x x ≡ 0
no_difference x = omega arith

pub measure_none : (t : Words) (plan : Plan) (harts : List ℕ) (a b : ℕ) (owns : List ℕ) (s : Plain) → measure t plan harts a b b owns s ≡ 0
measure_none t plan [] a b owns s = refl
measure_none t plan (h ∷ harts) a b owns s =
    ap (λ (x : ℕ). (x + measure t plan harts a b b owns s) % 2 ^ 64) (no_difference (measured plan (level_at t plan h a b owns s)))
    ∙ ap (λ (x : ℕ). (0 + x) % 2 ^ 64) (measure_none t plan harts a b owns s)

-- ---- ticks

abbrev is_one_of : List ℕ → ℕ → Bool
is_one_of harts h = list_any (λ x. x == h) harts

pub ticks_more : (owns more harts : List ℕ) (b c : ℕ) → b ≤ c → c ≤ length owns → ticks_in (owns ++ more) harts b c ≡ ticks_in owns harts b c
ticks_more owns more harts b c l m =
    let here : b ≤ length owns = omega arith in
    let few : c - b ≤ length (drop b owns) = omega (arith, length-drop b owns) in
    ap (λ (xs : List ℕ). length (filter (is_one_of harts) (take (c - b) xs))) (drop-append-le b owns more here)
    ∙ ap (λ (xs : List ℕ). length (filter (is_one_of harts) xs)) (take-append-le (c - b) (drop b owns) more few)

pub ticks_add : (owns harts : List ℕ) (a b c : ℕ) → a ≤ b → b ≤ c → ticks_in owns harts a b + ticks_in owns harts b c ≡ ticks_in owns harts a c
ticks_add owns harts a b c l m =
    let parts : c - a ≡ (b - a) + (c - b) = omega arith in
    let from : a + (b - a) ≡ b = omega arith in
    let is : take (c - a) (drop a owns) ≡ take (b - a) (drop a owns) ++ take (c - b) (drop b owns) =
    ap (λ (n : ℕ). take n (drop a owns)) parts
    ∙ (take-add (b - a) (c - b) (drop a owns)
    ∙ ap (λ (xs : List ℕ). take (b - a) (drop a owns) ++ take (c - b) xs) (drop-drop (b - a) a owns ∙ ap (λ (n : ℕ). drop n owns) from)) in
    sym (ap (λ (xs : List ℕ). length (filter (is_one_of harts) xs)) is
    ∙ (ap (λ (xs : List ℕ). length xs) (filter_append (is_one_of harts) (take (b - a) (drop a owns)) (take (c - b) (drop b owns)))
    ∙ length-append (filter (is_one_of harts) (take (b - a) (drop a owns))) (filter (is_one_of harts) (take (c - b) (drop b owns)))))

pub ticks_none : (owns harts : List ℕ) (b : ℕ) → ticks_in owns harts b b ≡ 0
ticks_none owns harts b = let z : b - b ≡ 0 = omega arith in ap (λ (n : ℕ). length (filter (is_one_of harts) (take n (drop b owns)))) z

filter_few : (p : ℕ → Bool) (n : ℕ) (xs : List ℕ) → length (filter p (take n xs)) ≤ n
filter_few p zero xs = omega arith
filter_few p (suc n) [] = omega arith
filter_few p (suc n) (x ∷ xs) =
    cond_both (p x) (x ∷ filter p (take n xs)) (filter p (take n xs)) (λ (ys : List ℕ). length ys ≤ suc n) (λ _. omega (arith, filter_few p n xs)) (λ _. omega (arith, filter_few p n xs))

pub ticks_few : (owns harts : List ℕ) (b c : ℕ) → ticks_in owns harts b c ≤ c - b
ticks_few owns harts b c = filter_few (is_one_of harts) (c - b) (drop b owns)
