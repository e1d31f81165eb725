use Rattle.std.proofs.Common.{ℕ, List, ◌++◌, ap, ◌∙◌}
use Rattle.profile_text.specs.Table.{profile_table}
use Rattle.profile_text.proofs.Joins.{same_text}
use Rattle.profile_text.proofs.table.profile_table.Goals as goal

pub returns : goal.returns
returns c =
    let t = c.in_ok-text.text in
    c.in_ok-add_table.ensures
    ∙ ap (λ (z : List ℕ). z ++ profile_table t.image.now t.procs.now t.profile.now c.args.top) c.new-out.ensures.items
    ∙ same_text (λ image procs r. profile_table image procs r c.args.top) t.image.now c.args.image.now t.procs.now c.args.procs.now t.profile.now c.args.profile.now
    c.in_ok-text.ensures.image c.in_ok-text.ensures.procs c.in_ok-text.ensures.profile
