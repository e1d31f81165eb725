-- The ends of nodes.
use Rattle.std.proofs.Common.{◌≡◌, ◌+◌, ℕ, zero, suc, ◌++◌, List, refl, ap, sym, ◌∙◌, append_assoc, arith}
use Rattle.std.specs.Prelude.{codes}
use Rattle.report_picture.specs.Html.{ends}

abbrev text : List ℕ
text = codes "</details>\n"

ends_suc : (n : ℕ) → ends (suc n) ≡ ends n ++ text
ends_suc zero = refl
ends_suc (suc n) = ap (λ (z : List ℕ). text ++ z) (ends_suc n) ∙ sym (append_assoc text (ends n) text)

-- one more
pub ends_more : (old now next : List ℕ) (n : ℕ) → now ≡ old ++ ends n → next ≡ now ++ codes "</details>\n" → next ≡ old ++ ends (n + 1)
ends_more old now next n e f =
    let more : n + 1 ≡ suc n = omega arith in
    f ∙ ap (λ (z : List ℕ). z ++ text) e ∙ append_assoc old (ends n) text ∙ ap (λ (z : List ℕ). old ++ z) (sym (ap ends more ∙ ends_suc n))
