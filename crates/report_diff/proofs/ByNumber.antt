-- Lines on harts, one hart more.
use Rattle.std.proofs.Common.{◌≡◌, ◌+◌, ◌<◌, ℕ, suc, Option, List, [], ◌∷◌, ◌++◌, length, drop, get_or, refl, ap, sym, ◌∙◌, append_assoc, slice_get, arith}
use Rattle.std.specs.Option.{option_map_or}
use Rattle.std.proofs.Math.Seq.{drop-cons}
use Rattle.report.specs.declared.parts.HartPart.{HartPart}
use Rattle.report_diff.specs.Runs.{harts_in_both}

pub one_more : (line : ℕ → HartPart → HartPart → List ℕ) (news olds : List HartPart) (n : ℕ) (d : HartPart) (out new all : List ℕ) → n < length olds
    → new ≡ out ++ option_map_or (line n (get_or olds n d)) (slice_get news n) []
    → out ++ harts_in_both line news n (drop n olds) ≡ all
    → new ++ harts_in_both line news (n + 1) (drop (n + 1) olds) ≡ all
one_more line news olds n d out new all l e i =
    let rest = harts_in_both line news (n + 1) (drop (n + 1) olds) in
    let text = option_map_or (line n (get_or olds n d)) (slice_get news n) [] in
    let one : suc n ≡ n + 1 = omega arith in
    let first : drop n olds ≡ get_or olds n d ∷ drop (n + 1) olds = drop-cons olds n d l ∙ ap (λ (k : ℕ). get_or olds n d ∷ drop k olds) one in
    ap (λ (z : List ℕ). z ++ rest) e ∙ append_assoc out text rest
    ∙ ap (λ (z : List ℕ). out ++ z) (sym (ap (harts_in_both line news n) first)) ∙ i
