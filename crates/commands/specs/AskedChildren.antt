-- For proofs alone: children one by one.
use Rattle.std.specs.Prelude.{ℕ, List, [], ◌∷◌, slice_get}
use Rattle.std.specs.Option.{option_map_or}
use Rattle.pn_types.specs.declared.focus.Axis.{Axis}
use Rattle.pn_types.specs.declared.focus.Focus.{Focus}
use Rattle.resource_tree.specs.Foci.{canonical, children}
use Rattle.resource_tree.specs.Resources.{Resources}

-- the text of a child of a focus on an axis, if there is one
abbrev pub child_at : Resources → Focus → Axis → ℕ → List (List ℕ)
child_at t focus axis number = option_map_or (λ child. canonical t child ∷ []) (slice_get (children t focus axis) number) []
