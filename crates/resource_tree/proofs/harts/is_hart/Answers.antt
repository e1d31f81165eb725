use Rattle.std.proofs.Common.{◌≡◌, ap, sym, ◌∙◌, ℕ, List, ◌∷◌, ◌++◌, [], ◌+◌, ◌%◌, ◌/◌, ◌<◌, ◌≤◌, bytes_eq, arith}
use Rattle.std.specs.Fmt.{decimal}
use Rattle.std.proofs.lemmas.Fmt.{decimal_digit, decimal_step}
use Rattle.resource_tree.proofs.harts.is_hart.Goals as goal

one_digit : (n : ℕ) → n < 10 → (48 + n % 10) ∷ [] ≡ decimal n
one_digit n h = let k : n % 10 ≡ n = omega arith in ap (λ (m : ℕ). (48 + m) ∷ []) k ∙ sym (decimal_digit n h)

two_digits : (n : ℕ) → 10 ≤ n → n < 100 → (48 + n / 10) ∷ (48 + n % 10) ∷ [] ≡ decimal n
two_digits n h k =
    let q : n / 10 < 10 = omega arith in
    sym (decimal_step n h (omega arith) ∙ ap (λ (ds : List ℕ). ds ++ ((48 + n % 10) ∷ [])) (decimal_digit (n / 10) q))

pub returns-then-number-lt10 : goal.returns-then-number-lt10
returns-then-number-lt10 c =
    c.eq.ensures
    ∙ ap (bytes_eq c.args.name.now) (c.as_slice.ensures ∙ ap (λ (ds : List ℕ). 104 ∷ 97 ∷ 114 ∷ 116 ∷ ds) (one_digit c.args.number c.if-number-lt10.true))

pub returns : goal.returns
returns c =
    c.eq-2.ensures
    ∙ ap (bytes_eq c.args.name.now) (c.as_slice-2.ensures ∙ ap (λ (ds : List ℕ). 104 ∷ 97 ∷ 114 ∷ 116 ∷ ds) (two_digits c.args.number c.if-number-lt10.false (omega arith)))
