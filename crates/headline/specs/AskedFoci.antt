-- What `ask` asks for: metrics at foci of the program's tree.
use Rattle.std.specs.Prelude.{◌≡◌, ◌==◌, ℕ, ⊤, true, All, List, Option, None, Some, Ok, is_some}
use Rattle.std.specs.List.{list_all, list_any}
use Rattle.command_words.specs.Requests.{AskRequest}
use Rattle.commands.specs.Asking.{AreFoci, asked_text}
use Rattle.commands.specs.Output.{output}
use Rattle.commands.specs.Plans.{metric_named}
use Rattle.commands.specs.declared.finding.Found.{Found}
use Rattle.commands.specs.declared.texts.Texts.{Texts}
use Rattle.pn_types.specs.declared.focus.CodePart.{CodePart}
use Rattle.pn_types.specs.declared.focus.CodePart.TheVariants as node
use Rattle.pn_types.specs.declared.focus.Focus.{Focus}
use Rattle.pn_types.specs.declared.image.Image.{Image}
use Rattle.resource_tree.specs.Foci.{IsTextOf, procs_of_module}
use Rattle.resource_tree.specs.Resources.{CodeNodes, Resources}

-- A node of the code is another, or below it: each is below the root, and a module's procedures are below the module.
abbrev pub IsCodeWithin : CodeNodes → CodePart → CodePart → Type 0
IsCodeWithin c part node.All = ⊤
IsCodeWithin c node.All (node.Module m) = ⊥
IsCodeWithin c (node.Module n) (node.Module m) = n ≡ m
IsCodeWithin c (node.Procedure p) (node.Module m) = list_any (λ r. r == p) (procs_of_module c m) ≡ true
IsCodeWithin c node.All (node.Procedure p) = ⊥
IsCodeWithin c (node.Module n) (node.Procedure p) = ⊥
IsCodeWithin c (node.Procedure q) (node.Procedure p) = q ≡ p

-- A hart or an object is another, or below the root.
abbrev pub IsNodeWithin : Option ℕ → Option ℕ → Type 0
IsNodeWithin place None = ⊤
IsNodeWithin place (Some n) = place ≡ Some n

pub record IsFocusWithin (t : Resources) (f under : Focus) : Type 0 where
  pub code : IsCodeWithin t.code f.code under.code
  pub hart : IsNodeWithin f.hart under.hart
  pub object : IsNodeWithin f.object under.object

-- The text selects a focus of the tree, which is another, or below it.
abbrev pub SelectsWithin : Resources → Focus → List ℕ → Type 0
SelectsWithin t under text = (f : Focus) × IsTextOf t text f × IsFocusWithin t f under

-- Each of the names is a shipped metric's. The metrics are asked for at foci of the nodes of the kind that was given, each of which is in
-- the program's tree, and is the focus under which is asked or below it.
pub record IsAskedAt (q : AskRequest) (image : Image) (found : Found) (texts : Texts) : Type 0 where
  pub metrics : list_all (λ name. is_some (metric_named found.checked.metrics name)) q.metrics ≡ true
  pub under : Focus
  pub selected : IsTextOf found.tree q.under under
  pub foci : List (List ℕ)
  pub are : AreFoci q.each q image found.tree under (Ok foci)
  pub within : All (SelectsWithin found.tree under) foci
  pub is : texts ≡ output (asked_text q q.metrics foci)
