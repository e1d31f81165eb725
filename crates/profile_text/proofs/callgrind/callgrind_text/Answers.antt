use Rattle.std.proofs.Common.{ℕ, List, ◌++◌, ap, ◌∙◌}
use Rattle.profile_text.specs.Callgrind.{callgrind_text}
use Rattle.profile_text.proofs.Joins.{same_text}
use Rattle.profile_text.proofs.callgrind.callgrind_text.Goals as goal

pub returns : goal.returns
returns c =
    let t = c.in_ok-text.text in
    c.in_ok-add_text.ensures
    ∙ ap (λ (z : List ℕ). z ++ callgrind_text t.image.now t.procs.now t.profile.now) c.new-out.ensures.items
    ∙ same_text callgrind_text t.image.now c.args.image.now t.procs.now c.args.procs.now t.profile.now c.args.profile.now
    c.in_ok-text.ensures.image c.in_ok-text.ensures.procs c.in_ok-text.ensures.profile
