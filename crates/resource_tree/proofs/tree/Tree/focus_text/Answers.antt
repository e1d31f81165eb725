use Rattle.std.proofs.Common.{◌∙◌}
use Rattle.resource_tree.proofs.Canonical.{canonical_reads}
use Rattle.resource_tree.proofs.tree.Tree.focus_text.Goals as goal

pub returns-clause-read : goal.returns-clause-read
returns-clause-read c named of =
    let r = canonical_reads c.args.self.now c.args.focus.now c.in_ok-canonical.ensures.harts named of in
    record { parts = r.parts; are_parts = r.are_parts; spelled = c.from_vec.ensures ∙ c.in_ok-canonical.ensures.text ∙ r.spelled; selected = r.selected }
