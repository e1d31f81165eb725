use Rattle.std.proofs.Common.{◌≡◌, List, Result, Ok, Err, IfOk, sym}
use Rattle.pn_types.specs.declared.focus.Focus.{Focus}
use Rattle.resource_tree.specs.Foci.{focus_of, IsFocusOf}
use Rattle.resource_tree.specs.FocusTexts.{Part, IsFocusText}
use Rattle.resource_tree.specs.Resources.{Resources}
use Rattle.resource_tree.specs.declared.fault.FocusFault.{FocusFault}
use Rattle.resource_tree.proofs.InTree.{focus_in}
use Rattle.resource_tree.proofs.Spellings.{reading_of}
use Rattle.resource_tree.proofs.tree.Tree.focus.Goals as goal

in_tree : (t : Resources) (ps : List Part) (r : Result Focus FocusFault) → r ≡ focus_of t ps → IfOk r (IsFocusOf t)
in_tree t ps (Ok f) e = focus_in t ps f (sym e)
in_tree t ps (Err fault) e = tt

pub returns-clause-in_tree : goal.returns-clause-in_tree
returns-clause-in_tree c =
    let h : IsFocusText c.args.text.now = rw c.in_default.is at c.form_fault.ensures in
    in_tree c.args.self.now h.parts c.named.result (c.named.ensures h.parts h.are_parts h.spelled)

pub returns-clause-reading : goal.returns-clause-reading
returns-clause-reading c =
    let h : IsFocusText c.args.text.now = rw c.in_default.is at c.form_fault.ensures in
    reading_of c.args.self.now c.args.text.now c.named.result h c.named.ensures
