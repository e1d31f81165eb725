-- What the check says of a configuration before and after directives.
use Rattle.std.specs.Prelude.{List, Ok}
use Rattle.mdl_ast.specs.declared.items.Item.{Item}
use Rattle.resource_tree.specs.Resources.{Resources}
use Rattle.mdl_check.specs.declared.checked.Checked.{Checked}
use Rattle.mdl_check.specs.Checking.{IsAnswer}

-- the check accepts the items with these shipped ones
unfoldable pub IsAccepted : Resources → List Item → List Item → Type 0
IsAccepted t shipped items = (checked : Checked) × IsAnswer t shipped items (Ok checked)
