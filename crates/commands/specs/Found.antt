-- What is found of a program and a configuration: the program's resources, and what the configuration says of them.
use Rattle.std.specs.Prelude.{ℕ, ◌≡◌, Ok, Err}
use Rattle.code_points.specs.Points.{points_of}
use Rattle.code_points.specs.Procedures.{procedures_of, skipped_of}
use Rattle.code_points.specs.Objects.{objects_of}
use Rattle.mdl_ast.specs.declared.items.Conf.{Conf}
use Rattle.mdl_check.specs.Checking.{IsAnswer, prefixes_of}
use Rattle.mdl_check.specs.declared.checked.Checked.{Checked}
use Rattle.mdl_check.specs.declared.fault.CheckFault.{CheckFault}
use Rattle.mdl_shipped.specs.Shipped.{shipped_conf}
use Rattle.pn_types.specs.declared.image.Image.{Image}
use Rattle.refusals.specs.Kinds.{fault_at, check_kind}
use Rattle.refusals.specs.Refusals.{Step}
use Rattle.refusals.specs.declared.fault.Fault.TheVariants.{BadConf}
use Rattle.resource_tree.specs.Resources.{Resources, tree_of}
use Rattle.commands.specs.declared.finding.Found.{Found}

-- the resources of a program on a number of harts, where a configuration tells the beginnings of the objects' names
abbrev pub resources_of : Image → ℕ → Conf → Resources
resources_of image harts conf = tree_of (procedures_of image) (objects_of image) harts (prefixes_of shipped_conf.items conf.items)

-- What a configuration holds of resources, or its first fault, for which no column is told.
abbrev pub IsCheck : Resources → Conf → Step Checked
IsCheck t conf (Ok checked) = IsAnswer t shipped_conf.items conf.items (Ok checked)
IsCheck t conf (Err fault) =
    (found : CheckFault) × IsAnswer t shipped_conf.items conf.items (Err found)
    × (fault ≡ BadConf (fault_at found.line 0 (check_kind found.kind)))

-- the program's procedures, how many of its symbols are none, its points and resources, and what the configuration holds, which was checked
pub record AreFound (image : Image) (harts : ℕ) (conf : Conf) (found : Found) : Type 0 where
  pub procs : found.procs ≡ procedures_of image
  pub skipped : found.skipped ≡ skipped_of image
  pub points : found.points ≡ points_of image (procedures_of image)
  pub tree : found.tree ≡ resources_of image harts conf
  pub checked : IsCheck (resources_of image harts conf) conf (Ok found.checked)

-- What is found, or the first fault of the check.
abbrev pub IsFound : Image → ℕ → Conf → Step Found
IsFound image harts conf (Ok found) = AreFound image harts conf found
IsFound image harts conf (Err fault) = IsCheck (resources_of image harts conf) conf (Err fault)
