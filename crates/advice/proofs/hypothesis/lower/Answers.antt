use Rattle.std.proofs.Common.{◌≡◌, ℕ, List, cond, Some, ap, ◌∙◌, bytes_eq}
use Rattle.std.specs.Map.{lookup}
use Rattle.advice.specs.Advice.{rate}
use Rattle.advice.specs.Lowering.{least_with}
use Rattle.advice.proofs.Lowered.{found_inserted, lowered_at}
use Rattle.advice.proofs.hypothesis.lower.Goals as goal

pub returns : goal.returns
returns c =
    let v = c.args.verdict.now in
    let es = c.args.thresholds.now.entries in
    let key : c.in_ok-from_slice.field-0.items ≡ v.hypothesis = c.in_ok-from_slice.ensures.items ∙ c.bytes-name.ensures in
    let before : c.copied.result ≡ lookup (λ k. bytes_eq v.hypothesis k.items) es =
    c.copied.ensures ∙ c.get.ensures.value ∙ ap (λ (n : List ℕ). lookup (λ k. bytes_eq n k.items) es) c.bytes-name.ensures in
    let least : c.least_with-least.result ≡ least_with (rate v) (lookup (λ k. bytes_eq v.hypothesis k.items) es) =
    c.least_with-least.ensures ∙ ap (λ (n : ℕ). least_with n c.copied.result) c.rate.ensures ∙ ap (least_with (rate v)) before in
    λ name. ap (lookup (λ k. bytes_eq name k.items)) c.in_ok-insert.ensures.entries
    ∙ found_inserted (λ k. k.items) name es c.in_ok-from_slice.field-0 c.least_with-least.result
    ∙ ap (λ (n : List ℕ). cond (bytes_eq name n) (Some c.least_with-least.result) (lookup (λ k. bytes_eq name k.items) es)) key
    ∙ lowered_at v name (λ n. lookup (λ k. bytes_eq n k.items) es) c.least_with-least.result least
