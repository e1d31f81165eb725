-- How a hypothesis at a focus is refined: by other hypotheses, and by the foci just below.
use Rattle.std.specs.Prelude.{ℕ, ◌+◌, if◌then◌else◌, Bool, false, Option, Some, None, is_none, List, [], ◌∷◌, ◌++◌, map, slice_get}
use Rattle.std.specs.List.{list_any}
use Rattle.std.specs.Option.{option_map_or}
use Rattle.std.specs.Str.{bytes_eq}
use Rattle.pn_types.specs.Texts.{axis_text}
use Rattle.pn_types.specs.declared.focus.Axis.{Axis}
use Rattle.pn_types.specs.declared.focus.Axis.TheVariants.{Code, Machine, SyncObject}
use Rattle.pn_types.specs.declared.focus.Focus.{Focus}
use Rattle.mdl_ast.specs.declared.items.Hypothesis.{Hypothesis}
use Rattle.resource_tree.specs.Foci as foci
use Rattle.resource_tree.specs.Resources.{Resources}
use Rattle.w3_search.specs.declared.axis_set.AxisSet.{AxisSet}

-- ---- hypotheses

-- the numbers of the hypotheses that pass a test, in their order, of which the first has number i
abbrev pub hypothesis_numbers_from : (Hypothesis → Bool) → ℕ → List Hypothesis → List ℕ
hypothesis_numbers_from passes i [] = []
hypothesis_numbers_from passes i (h ∷ hs) = if passes h then i ∷ hypothesis_numbers_from passes (i + 1) hs else hypothesis_numbers_from passes (i + 1) hs

-- a hypothesis without a parent
abbrev pub is_root : Hypothesis → Bool
is_root h = is_none h.parent

-- its parent has this name
abbrev pub is_under : List ℕ → Hypothesis → Bool
is_under name h = option_map_or (bytes_eq name) h.parent false

-- the numbers of the hypotheses without a parent
unfoldable pub roots : List Hypothesis → List ℕ
roots hs = hypothesis_numbers_from is_root 0 hs

-- the numbers of the hypotheses whose parent has this name
unfoldable pub refinements : List Hypothesis → List ℕ → List ℕ
refinements hs name = hypothesis_numbers_from (is_under name) 0 hs

-- ---- foci

-- the axes that are named
abbrev pub names_axis : List (List ℕ) → Axis → Bool
names_axis names axis = list_any (bytes_eq (axis_text axis)) names

abbrev pub axes_named : List (List ℕ) → AxisSet
axes_named names = record {
  code = names_axis names Code;
  machine = names_axis names Machine;
  sync_object = names_axis names SyncObject;
}

-- the foci just below on one axis, if it is wanted, in the order of the tree
abbrev pub finer_on : Resources → Focus → Bool → Axis → List Focus
finer_on tree focus wanted axis = if wanted then foci.children tree focus axis else []

-- the foci just below on these axes, in the order Code, Machine, SyncObject
abbrev pub finer : Resources → Focus → AxisSet → List Focus
finer tree focus axes =
    finer_on tree focus axes.code Code ++ (finer_on tree focus axes.machine Machine ++ finer_on tree focus axes.sync_object SyncObject)

-- ---- children

-- the children of hypothesis number h at a focus: the hypotheses under it there, and then it at the foci just below
abbrev pub children_of : List Hypothesis → Resources → ℕ → Focus → Option Hypothesis → List (ℕ × Focus)
children_of hs tree h focus None = []
children_of hs tree h focus (Some own) =
    map (λ k. (k, focus)) (refinements hs own.name) ++ map (λ below. (h, below)) (finer tree focus (axes_named own.axes))

unfoldable pub children : List Hypothesis → Resources → ℕ → Focus → List (ℕ × Focus)
children hs tree h focus = children_of hs tree h focus (slice_get hs h)

-- the threshold of hypothesis number h
abbrev pub threshold_of : List Hypothesis → ℕ → ℕ
threshold_of hs h = option_map_or (λ own. own.threshold) (slice_get hs h) 0
