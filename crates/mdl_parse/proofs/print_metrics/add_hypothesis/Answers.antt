use Rattle.std.proofs.Common.{List, ℕ, ◌++◌, refl, ap, ◌∙◌}
use Rattle.mdl_parse.proofs.LineTexts.{all_behind, hypothesis_parts, hypothesis_text}
use Rattle.mdl_parse.proofs.print_metrics.add_hypothesis.Goals as goal

pub returns : goal.returns
returns c = all_behind c.args.out.now.items (hypothesis_parts c.args.hypothesis.now) c.add_close.new.out.items
    (_, c.in_ok-add_opening.ensures, (_, c.in_ok-add_parent.ensures, (_, c.in_ok-add_name.ensures, (_, c.in_ok-add_number.ensures, (_, c.in_ok-add_axes.ensures, (_, c.in_ok-add_close.ensures, refl))))))
    ∙ ap (λ (t : List ℕ). c.args.out.now.items ++ t) (hypothesis_text c.args.hypothesis.now)
