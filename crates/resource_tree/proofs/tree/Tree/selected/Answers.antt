use Rattle.resource_tree.proofs.Spellings.{unselected}
use Rattle.resource_tree.proofs.tree.Tree.selected.Goals as goal

pub returns-in-Err-clause-selects : goal.returns-in-Err-clause-selects
returns-in-Err-clause-selects c = unselected c.args.self.now c.args.text.now c.in-Err.field-0 c.in-Err.ensures.reading
