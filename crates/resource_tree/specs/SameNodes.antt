-- Whether two nodes of a hierarchy are one.
use Rattle.std.specs.Prelude.{ℕ, ◌==◌, Bool, true, false, Option, Some, None}
use Rattle.pn_types.specs.declared.focus.CodePart.{CodePart}
use Rattle.pn_types.specs.declared.focus.CodePart.TheVariants.{All, Module, Procedure}

-- two numbers that are one, or none twice
abbrev pub is_same_number : Option ℕ → Option ℕ → Bool
is_same_number None None = true
is_same_number (Some a) (Some b) = a == b
is_same_number a b = false

abbrev pub is_same_code : CodePart → CodePart → Bool
is_same_code All All = true
is_same_code (Module a) (Module b) = a == b
is_same_code (Procedure a) (Procedure b) = a == b
is_same_code a b = false
