use Rattle.std.proofs.Common.{ℕ, List, ◌++◌, ap, ◌∙◌}
use Rattle.profile_text.specs.Lines.{profile_lines}
use Rattle.profile_text.proofs.Joins.{same_text}
use Rattle.profile_text.proofs.lines.profile_lines.Goals as goal

pub returns : goal.returns
returns c =
    let t = c.in_ok-text.text in
    c.in_ok-add_lines.ensures
    ∙ ap (λ (z : List ℕ). z ++ profile_lines t.image.now t.procs.now t.profile.now c.args.has_words) c.new-out.ensures.items
    ∙ same_text (λ image procs r. profile_lines image procs r c.args.has_words) t.image.now c.args.image.now t.procs.now c.args.procs.now t.profile.now c.args.profile.now
    c.in_ok-text.ensures.image c.in_ok-text.ensures.procs c.in_ok-text.ensures.profile
