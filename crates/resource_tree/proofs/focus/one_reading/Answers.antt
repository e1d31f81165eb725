use Rattle.resource_tree.proofs.Spellings.{one_spelling, one_reading, one_selection}
use Rattle.resource_tree.proofs.focus.one_reading.Goals as goal

pub returns-clause-spelling : goal.returns-clause-spelling
returns-clause-spelling c ps qs a b e = one_spelling ps qs a b e

pub returns-clause-reading : goal.returns-clause-reading
returns-clause-reading c t text r s a b = one_reading t text r s a b

pub returns-clause-selection : goal.returns-clause-selection
returns-clause-selection c t text f g a b = one_selection t text f g a b
