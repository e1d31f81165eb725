use Rattle.std.proofs.Common.{ℕ, List, ◌++◌, ◌∙◌, ap, sym, codes}
use Rattle.std.proofs.lemmas.List.{append_assoc}
use Rattle.mdl_parse.specs.Printing.{indent}
use Rattle.mdl_parse.proofs.LineTexts.{indent_more}
use Rattle.mdl_parse.proofs.line.add_indent.Goals as goal

pub levels-preserved : goal.levels-preserved
levels-preserved c =
    c.in_ok-add.ensures ∙ ap (λ (t : List ℕ). t ++ codes "  ") c.levels.invariant
    ∙ append_assoc c.args.out.now.items (indent c.levels.counter) (codes "  ") ∙ ap (λ (t : List ℕ). c.args.out.now.items ++ t) (sym (indent_more c.levels.counter))
