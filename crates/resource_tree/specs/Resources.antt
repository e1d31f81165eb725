-- The resources of a program.
use Rattle.std.specs.Prelude.{ℕ, ◌≡◌, ◌<◌, ◌≤◌, ◌&&◌, nat_eq, Bool, List, length, map, slice_get, Some}
use Rattle.std.specs.List.{filter, list_any, starts_with}
use Rattle.first_places.specs.Groups.{first_mentions, firsts, places_of}
use Rattle.pn_types.specs.declared.limits.TheConstants.{MAX_HARTS}
use Rattle.pn_types.specs.GoodNames.{is_good_name}
use Rattle.pn_types.specs.declared.code.Proc.{Proc}
use Rattle.pn_types.specs.declared.image.Symbol.{Symbol}

-- a module: its name, and the numbers of its procedures
pub record ModuleNode : Type 0 where
  pub name : List ℕ
  pub procs : List ℕ

-- an object: its name and its address
pub record ObjectNode : Type 0 where
  pub name : List ℕ
  pub at : ℕ

-- a procedure: its module's name and its own
pub record ProcNode : Type 0 where
  pub «module» : List ℕ
  pub name : List ℕ

-- the modules, and the procedures
pub record CodeNodes : Type 0 where
  pub modules : List ModuleNode
  pub procs : List ProcNode

-- the resources of the three hierarchies: the code, the objects, and how many harts there are
pub record Resources : Type 0 where
  pub code : CodeNodes
  pub objects : List ObjectNode
  pub harts : ℕ

-- a module of this name, where these are the modules of the procedures: its procedures are those whose module it is
abbrev pub module_of : List (List ℕ) → List ℕ → ModuleNode
module_of modules name = record { name = name; procs = places_of name modules }

-- the modules in the order of their first mentions, where these are the modules of the procedures
abbrev pub modules_of : List (List ℕ) → List ModuleNode
modules_of modules = map (module_of modules) (first_mentions modules)

-- a procedure by name
abbrev pub proc_of : Proc → ProcNode
proc_of p = record { «module» = p.«module»; name = p.name }

-- each procedure of each module is one of the first n
abbrev pub HasMembersBelow : ℕ → List ModuleNode → Type 0
HasMembersBelow n ms = (k i p : ℕ) (m : ModuleNode) → slice_get ms k ≡ Some m → slice_get m.procs i ≡ Some p → p < n

-- the modules and procedures
abbrev pub code_of : List Proc → CodeNodes
code_of procs = record { modules = modules_of (map (λ p. p.«module») procs); procs = map proc_of procs }

-- the name begins with one of the prefixes
abbrev pub has_prefix : List (List ℕ) → List ℕ → Bool
has_prefix prefixes name = list_any (λ prefix. starts_with nat_eq name prefix) prefixes

-- a good name with one of the prefixes
abbrev pub is_listed : List (List ℕ) → Symbol → Bool
is_listed prefixes s = is_good_name s.name && has_prefix prefixes s.name

-- the object of a symbol
abbrev pub object_of : Symbol → ObjectNode
object_of s = record { name = s.name; at = s.at }

-- the objects: the symbols that are listed, in their order, the first of each name
abbrev pub objects_of : List (List ℕ) → List Symbol → List ObjectNode
objects_of prefixes symbols = map object_of (firsts (λ s. s.name) (filter (is_listed prefixes) symbols))

-- the tree of procedures, object symbols and harts, where these are the prefixes of the objects' names
abbrev pub tree_of : List Proc → List Symbol → ℕ → List (List ℕ) → Resources
tree_of procs symbols harts prefixes = record {
  code = code_of procs;
  objects = objects_of prefixes symbols;
  harts = harts;
}

-- no module has more than n procedures
abbrev pub HasFewMembers : ℕ → List ModuleNode → Type 0
HasFewMembers n ms = (k : ℕ) (m : ModuleNode) → slice_get ms k ≡ Some m → length m.procs ≤ n

-- no more harts than a machine can have, and each module's procedures are the tree's, of which it has no more than there are
pub record IsBounded (t : Resources) : Type 0 where
  pub harts : t.harts ≤ MAX_HARTS
  pub members : HasMembersBelow (length t.code.procs) t.code.modules
  pub few : HasFewMembers (length t.code.procs) t.code.modules
