-- For proofs alone: the nodes of a tree, kept in columns.
use Rattle.std.specs.Prelude.{ℕ, ◌≡◌, ◌<◌, ◌+◌, ◌^◌, List, [], ◌∷◌, length, map, drop}
use Rattle.resource_tree.specs.Foci.{path_of}
use Rattle.resource_tree.specs.Resources.{CodeNodes, ObjectNode, ProcNode, modules_of}

-- procedures of these modules with these paths: after a module and a `/` stands the name
abbrev pub procs_at : List (List ℕ) → List (List ℕ) → List ProcNode
procs_at [] paths = []
procs_at (m ∷ ms) [] = []
procs_at (m ∷ ms) (path ∷ paths) = record { «module» = m; name = drop (length m + 1) path } ∷ procs_at ms paths

-- the code of procedures of these modules with these paths
abbrev pub code_at : List (List ℕ) → List (List ℕ) → CodeNodes
code_at modules paths = record { modules = modules_of modules; procs = procs_at modules paths }

-- the paths are those of the procedures, whose numbers have 32 bits
pub record AreColumns (modules paths : List (List ℕ)) : Type 0 where
  pub joined : paths ≡ map path_of (procs_at modules paths)
  pub fits : length paths < 2 ^ 32

-- objects with these names and addresses
abbrev pub objects_at : List (List ℕ) → List ℕ → List ObjectNode
objects_at [] ats = []
objects_at (name ∷ names) [] = []
objects_at (name ∷ names) (at ∷ ats) = record { name = name; at = at } ∷ objects_at names ats

-- each name has its address, and numbers have 32 bits
pub record AreEven (names : List (List ℕ)) (ats : List ℕ) : Type 0 where
  pub even : length names ≡ length ats
  pub fits : length names < 2 ^ 32
