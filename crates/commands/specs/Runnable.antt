-- That a session can be made of what the bytes of files mean.
use Rattle.std.specs.Prelude.{◌≡◌, ◌⊎◌, ℕ, ◌≤◌, List, Ok, length}
use Rattle.directives.specs.Acts.{applied}
use Rattle.directives.specs.declared.directive.Directive.{Directive}
use Rattle.mdl_ast.specs.declared.items.Conf.{Conf}
use Rattle.mdl_parse.specs.Meaning.{IsConf}
use Rattle.mdl_shipped.specs.Shipped.{shipped_conf}
use Rattle.outside.specs.Outside.{IsBytes}
use Rattle.pn_types.specs.declared.image.Image.{Image}
use Rattle.commands.specs.Found.{AreFound}
use Rattle.commands.specs.Given.{CanRun}
use Rattle.commands.specs.Inputs.{image_of}
use Rattle.commands.specs.declared.finding.Found.{Found}

-- the image of a program's file
pub record IsImageOf (bytes : List ℕ) (image : Image) : Type 0 where
  pub are : IsBytes bytes
  pub short : length bytes ≤ 33554432
  pub means : image_of bytes ≡ Ok image

-- the configuration of a file
pub record IsConfOf (text : List ℕ) (conf : Conf) : Type 0 where
  pub short : length text ≤ 1048576
  pub spelled : IsConf text conf

-- the configuration itself, or what some directives make of it
abbrev pub MakesOf : Conf → Conf → Type 0
MakesOf conf made = (made ≡ conf) ⊎ ((directives : List Directive) × (applied shipped_conf.items conf.items directives ≡ Ok made.items))

-- A session takes what is found of the program and of the configuration that files hold, or of what directives make of that: the files'
-- bytes and the check alone say so.
abbrev pub FoundCanRun : Type 0
FoundCanRun =
    (bytes text : List ℕ) (image : Image) (conf made : Conf) (harts : ℕ) (found : Found) → IsImageOf bytes image → IsConfOf text conf →
    MakesOf conf made → AreFound image harts made found → CanRun image harts found
