-- Sums and differences modulo 2^64.
use Rattle.std.proofs.Common.{◌≡◌, ℕ, ◌+◌, ◌%◌, ◌^◌, ◌<◌, List, [], ◌∷◌, ◌++◌, refl, ap, ◌∙◌, arith}
use Rattle.pn_types.specs.declared.plan.Plan.{Plan}
use Rattle.rv_word.specs.Plain.{Words, Plain}
use Rattle.machine.specs.Measures.{difference, level_at, measured, measure, measure_of, MeasuresAdd}

pub differences_add : (a b c : ℕ) → (difference a b + difference b c) % 2 ^ 64 ≡ difference a c
differences_add a b c = omega arith

pub sums_add : (a b c d : ℕ) → ((a + b) % 2 ^ 64 + (c + d) % 2 ^ 64) % 2 ^ 64 ≡ ((a + c) % 2 ^ 64 + (b + d) % 2 ^ 64) % 2 ^ 64
sums_add a b c d = omega arith

sum_assoc : (a b c : ℕ) → (a + (b + c) % 2 ^ 64) % 2 ^ 64 ≡ ((a + b) % 2 ^ 64 + c) % 2 ^ 64
sum_assoc a b c = omega arith

measure_low : (t : Words) (plan : Plan) (harts : List ℕ) (a b c : ℕ) (turns : List ℕ) (s : Plain) → measure t plan harts a b c turns s < 2 ^ 64
measure_low t plan [] a b c turns s = omega arith
measure_low t plan (h ∷ harts) a b c turns s = omega arith

times_add : (t : Words) (plan : Plan) (harts : List ℕ) (a b c d : ℕ) (turns : List ℕ) (s : Plain) → (measure t plan harts a b c turns s + measure t plan harts a c d turns s) % 2 ^ 64 ≡ measure t plan harts a b d turns s
times_add t plan [] a b c d turns s = refl
times_add t plan (h ∷ harts) a b c d turns s =
    sums_add (measure_of t plan a b c h turns s) (measure t plan harts a b c turns s) (measure_of t plan a c d h turns s) (measure t plan harts a c d turns s)
    ∙ ap (λ x. (x + (measure t plan harts a b c turns s + measure t plan harts a c d turns s) % 2 ^ 64) % 2 ^ 64)
    (differences_add (measured plan (level_at t plan h a b turns s)) (measured plan (level_at t plan h a c turns s)) (measured plan (level_at t plan h a d turns s)))
    ∙ ap (λ x. (measure_of t plan a b d h turns s + x) % 2 ^ 64) (times_add t plan harts a b c d turns s)

harts_add : (t : Words) (plan : Plan) (harts others : List ℕ) (a b c : ℕ) (turns : List ℕ) (s : Plain) → measure t plan (harts ++ others) a b c turns s ≡ (measure t plan harts a b c turns s + measure t plan others a b c turns s) % 2 ^ 64
harts_add t plan [] others a b c turns s = let l = measure_low t plan others a b c turns s in omega arith
harts_add t plan (h ∷ harts) others a b c turns s =
    ap (λ x. (measure_of t plan a b c h turns s + x) % 2 ^ 64) (harts_add t plan harts others a b c turns s)
    ∙ sum_assoc (measure_of t plan a b c h turns s) (measure t plan harts a b c turns s) (measure t plan others a b c turns s)

pub measures_add : MeasuresAdd
measures_add = record { times = times_add; harts = harts_add }
