-- The foci of a tree: their texts, what they select, and their children.
use Rattle.std.specs.Prelude.{ℕ, ◌≡◌, ◌+◌, ◌<◌, ◌&&◌, Bool, List, [], ◌∷◌, ◌++◌, length, map, position, slice_get, codes, Option, Some, None, Result, Ok, Err}
use Rattle.std.specs.Fmt.{decimal}
use Rattle.std.specs.List.{range_with_len}
use Rattle.std.specs.Option.{option_map, option_and_then, option_map_or}
use Rattle.std.specs.Str.{bytes_eq}
use Rattle.pn_types.specs.declared.focus.Axis.{Axis}
use Rattle.pn_types.specs.declared.focus.Axis.TheVariants.{Code, Machine, SyncObject}
use Rattle.pn_types.specs.declared.focus.CodePart.{CodePart}
use Rattle.pn_types.specs.declared.focus.CodePart.TheVariants.{All, Module, Procedure}
use Rattle.pn_types.specs.declared.focus.Focus.{Focus}
use Rattle.resource_tree.specs.FocusTexts.{Part, AreParts, parts_text, IsFaultAt}
use Rattle.resource_tree.specs.Resources.{Resources, CodeNodes, ProcNode, ObjectNode}
use Rattle.resource_tree.specs.declared.fault.FocusFault.{FocusFault}
use Rattle.resource_tree.specs.declared.fault.FocusFault.TheVariants.{Form, NoSuchNode}

-- the focus of the three roots
abbrev pub root : Focus
root = record { code = All; hart = None; object = None }

-- a focus with another node of one hierarchy
abbrev pub with_code : Focus → CodePart → Focus
with_code f code = record { code = code; hart = f.hart; object = f.object }

abbrev pub with_hart : Focus → Option ℕ → Focus
with_hart f hart = record { code = f.code; hart = hart; object = f.object }

abbrev pub with_object : Focus → Option ℕ → Focus
with_object f object = record { code = f.code; hart = f.hart; object = object }

-- the name of hart number k
abbrev pub hart_name : ℕ → List ℕ
hart_name k = codes "hart" ++ decimal k

-- the names of the harts
abbrev pub hart_names : ℕ → List (List ℕ)
hart_names harts = map hart_name (range_with_len 0 harts)

-- the procedure has this name, and its module that one
abbrev pub is_named : List ℕ → List ℕ → ProcNode → Bool
is_named «module» name p = bytes_eq «module» p.«module» && bytes_eq name p.name

-- the node of the code that names select: a module, or the first procedure of a module and a name
abbrev pub code_named : CodeNodes → List (List ℕ) → Option CodePart
code_named c [] = Some All
code_named c (name ∷ []) = option_map Module (position (λ m. bytes_eq name m.name) c.modules)
code_named c (name ∷ proc ∷ []) = option_map Procedure (position (is_named name proc) c.procs)
code_named c (name ∷ proc ∷ more ∷ names) = None

-- the node of the machine that names select
abbrev pub hart_named : ℕ → List (List ℕ) → Option (Option ℕ)
hart_named harts [] = Some None
hart_named harts (name ∷ []) = option_map Some (position (bytes_eq name) (hart_names harts))
hart_named harts (name ∷ more ∷ names) = None

-- the node of the objects that names select
abbrev pub object_named : List ObjectNode → List (List ℕ) → Option (Option ℕ)
object_named os [] = Some None
object_named os (name ∷ []) = option_map Some (position (λ o. bytes_eq name o.name) os)
object_named os (name ∷ more ∷ names) = None

-- a focus with the node of a part
abbrev pub with_node : Resources → Focus → Axis → List (List ℕ) → Option Focus
with_node t f Code names = option_map (with_code f) (code_named t.code names)
with_node t f Machine names = option_map (with_hart f) (hart_named t.harts names)
with_node t f SyncObject names = option_map (with_object f) (object_named t.objects names)

-- a focus with the nodes of parts, of which the first has number n, or else the first part that names no node
abbrev pub with_nodes : Resources → ℕ → Focus → List Part → Result Focus FocusFault
with_nodes t n f [] = Ok f
with_nodes t n f (p ∷ ps) = elim (with_node t f p.axis p.names) [
  | None ↦ Err (NoSuchNode n)
  | Some g ↦ with_nodes t (n + 1) g ps
]

-- the focus of parts: a hierarchy that no part has is selected as a whole
abbrev pub focus_of : Resources → List Part → Result Focus FocusFault
focus_of t parts = with_nodes t 0 root parts

-- parts that spell the text have this focus, or this one that names no node
pub record IsSpelled (t : Resources) (text : List ℕ) (r : Result Focus FocusFault) : Type 0 where
  pub parts : List Part
  pub are_parts : AreParts parts
  pub spelled : text ≡ parts_text parts
  pub selected : focus_of t parts ≡ r

-- the text selects the focus
abbrev pub IsTextOf : Resources → List ℕ → Focus → Type 0
IsTextOf t text f = IsSpelled t text (Ok f)

-- what a text selects: one focus, or nothing
abbrev pub Selects : Resources → List ℕ → Option Focus → Type 0
Selects t text None = (f : Focus) → IsTextOf t text f → ⊥
Selects t text (Some f) = IsTextOf t text f

-- what a text is read as: the focus that it selects; or where its form ends, or else its first part that names no node
abbrev pub IsReading : Resources → List ℕ → Result Focus FocusFault → Type 0
IsReading t text (Ok f) = IsTextOf t text f
IsReading t text (Err (Form place)) = IsFaultAt text place
IsReading t text (Err (NoSuchNode n)) = IsSpelled t text (Err (NoSuchNode n))

-- a text selects one focus, or none
abbrev pub OneSelection : Type 0
OneSelection = (t : Resources) (text : List ℕ) (f g : Option Focus) → Selects t text f → Selects t text g → f ≡ g

-- a text is read as one thing
abbrev pub OneReading : Type 0
OneReading = (t : Resources) (text : List ℕ) (r s : Result Focus FocusFault) → IsReading t text r → IsReading t text s → r ≡ s

-- the nodes of a focus are the tree's
abbrev pub IsCodeOf : CodeNodes → CodePart → Type 0
IsCodeOf c All = Unit {0}
IsCodeOf c (Module m) = m < length c.modules
IsCodeOf c (Procedure p) = p < length c.procs

abbrev pub IsBelow : ℕ → Option ℕ → Type 0
IsBelow n None = Unit {0}
IsBelow n (Some k) = k < n

pub record IsFocusOf (t : Resources) (f : Focus) : Type 0 where
  pub code : IsCodeOf t.code f.code
  pub hart : IsBelow t.harts f.hart
  pub object : IsBelow (length t.objects) f.object

-- the path of a procedure: its module, a `/` and its name
abbrev pub path_of : ProcNode → List ℕ
path_of p = p.«module» ++ (codes "/" ++ p.name)

-- a name or a path after a `/`
abbrev pub named_text : Option (List ℕ) → List ℕ
named_text None = []
named_text (Some name) = codes "/" ++ name

-- the text of a node after its hierarchy
abbrev pub code_text : CodeNodes → CodePart → List ℕ
code_text c All = []
code_text c (Module m) = named_text (option_map (λ n. n.name) (slice_get c.modules m))
code_text c (Procedure p) = named_text (option_map path_of (slice_get c.procs p))

abbrev pub hart_text : Option ℕ → List ℕ
hart_text hart = named_text (option_map hart_name hart)

abbrev pub object_text : List ObjectNode → Option ℕ → List ℕ
object_text os object = named_text (option_and_then (λ k. option_map (λ o. o.name) (slice_get os k)) object)

-- the canonical text of a focus: all three parts
abbrev pub canonical : Resources → Focus → List ℕ
canonical t f =
    codes "/Code" ++ code_text t.code f.code ++ codes ",/Machine" ++ hart_text f.hart ++ codes ",/SyncObject"
    ++ object_text t.objects f.object

-- the numbers of the procedures of a module
abbrev pub procs_of_module : CodeNodes → ℕ → List ℕ
procs_of_module c m = option_map_or (λ n. n.procs) (slice_get c.modules m) []

-- the numbers of the procedures that a node of the code selects
abbrev pub procs_of : CodeNodes → CodePart → List ℕ
procs_of c All = range_with_len 0 (length c.procs)
procs_of c (Module m) = procs_of_module c m
procs_of c (Procedure p) = p ∷ []

-- the first hart that a node of the machine selects, and how many
abbrev pub harts_of_node : ℕ → Option ℕ → ℕ × ℕ
harts_of_node harts None = (0, harts)
harts_of_node harts (Some h) = (h, 1)

-- the address of the object that a focus selects
abbrev pub address_of : List ObjectNode → Option ℕ → Option ℕ
address_of os object = option_and_then (λ k. option_map (λ o. o.at) (slice_get os k)) object

-- what a focus selects: harts, procedures, and the address of an object
pub record Selection : Type 0 where
  pub harts : List ℕ
  pub procs : List ℕ
  pub object : Option ℕ

abbrev pub part : Resources → Focus → Selection
part t f = record {
  harts = range_with_len (harts_of_node t.harts f.hart).0 (harts_of_node t.harts f.hart).1;
  procs = procs_of t.code f.code;
  object = address_of t.objects f.object;
}

-- the children of a node of the code: the modules, or a module's procedures
abbrev pub code_children : CodeNodes → CodePart → List CodePart
code_children c All = map Module (range_with_len 0 (length c.modules))
code_children c (Module m) = map Procedure (procs_of_module c m)
code_children c (Procedure p) = []

-- the children of a node of a hierarchy with n nodes below the root
abbrev pub flat_children : ℕ → Option ℕ → List (Option ℕ)
flat_children n None = map Some (range_with_len 0 n)
flat_children n (Some k) = []

-- the children of a focus on an axis, in the order of the tree
abbrev pub children : Resources → Focus → Axis → List Focus
children t f Code = map (with_code f) (code_children t.code f.code)
children t f Machine = map (with_hart f) (flat_children t.harts f.hart)
children t f SyncObject = map (with_object f) (flat_children (length t.objects) f.object)
