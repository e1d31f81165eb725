-- The foci of procedures, and of their modules, within another focus.
use Rattle.std.specs.Prelude.{ℕ, if◌then◌else◌, Bool, Some, List, [], ◌∷◌, ◌++◌, codes, drop, flat_map, length, map, position, take, unwrap_or}
use Rattle.first_places.specs.Groups.{first_mentions}
use Rattle.pn_text.specs.Bytes.{begins_with}
use Rattle.pn_types.specs.declared.code.Proc.{Proc}
use Rattle.report.specs.Points.{proc_path}
use Rattle.resource_tree.specs.FocusTexts.{is_comma}

-- the part of a canonical focus that says of the code, which is the first, and what stands behind it
abbrev pub code_len : List ℕ → ℕ
code_len focus = unwrap_or (position is_comma focus) (length focus)

abbrev pub code_part : List ℕ → List ℕ
code_part focus = take (code_len focus) focus

abbrev pub other_parts : List ℕ → List ℕ
other_parts focus = drop (code_len focus) focus

-- a node of the code is the one of a path, or below it
unfoldable pub is_within : List ℕ → List ℕ → Bool
is_within path node = begins_with (path ++ codes "/") (node ++ codes "/")

-- a node of the code in place of a focus's own, where it is within that
unfoldable pub focus_at : List ℕ → List ℕ → List (List ℕ)
focus_at focus node = if is_within (code_part focus) node then (node ++ other_parts focus) ∷ [] else []

-- ---- nodes

abbrev pub module_node : Proc → List ℕ
module_node p = codes "/Code/" ++ p.«module»

abbrev pub procedure_node : Proc → List ℕ
procedure_node p = codes "/Code/" ++ proc_path (Some p)

-- ---- foci

-- The foci of those of some procedures that are within a focus, in their order.
abbrev pub procedure_foci : List ℕ → List Proc → List (List ℕ)
procedure_foci focus procs = flat_map (focus_at focus) (map procedure_node procs)

-- The foci of their modules, each where its first procedure stands.
abbrev pub module_foci : List ℕ → List Proc → List (List ℕ)
module_foci focus procs = flat_map (focus_at focus) (first_mentions (map module_node procs))
