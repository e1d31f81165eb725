use Rattle.std.proofs.Common.{◌∙◌, ℕ, List, ap}
use Rattle.std.specs.List.{list_any}
use Rattle.pn_text.specs.Bytes.{begins_with}
use Rattle.pd_run.proofs.Beginnings.{any_map}
use Rattle.pd_run.proofs.guarding.begins_as.Goals as goal

pub returns : goal.returns
returns c =
    c.begins_as_one.ensures ∙ any_map (λ (front : List ℕ). begins_with front c.args.bytes.now) (λ front. front.now) c.beginnings.result.now
    ∙ ap (λ (fronts : List (List ℕ)). list_any (λ front. begins_with front c.args.bytes.now) fronts) c.beginnings.ensures
