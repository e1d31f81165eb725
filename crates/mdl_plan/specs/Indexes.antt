-- For proofs alone: what is looked up while plans are made.
use Rattle.std.specs.Prelude.{ℕ, ◌≡◌, ◌<◌, ◌^◌, ◌==◌, true, Some, List, [], ◌∷◌, ◌++◌, length, set, slice_get, slice_index_or, option_to_list, flat_map}
use Rattle.std.specs.List.{list_any}
use Rattle.pn_types.specs.declared.code.Point.{Point}
use Rattle.pn_types.specs.declared.code.Proc.{Proc}
use Rattle.mdl_plan.specs.Scopes.{names_of}

-- the place of each point stands among those of its procedure
abbrev pub AreByProcedure : List Point → List (List ℕ) → Type 0
AreByProcedure points places =
    (i : ℕ) (p : Point) → slice_get points i ≡ Some p → p.proc_no < length places
    → list_any (λ j. j == i) (slice_index_or places p.proc_no []) ≡ true

-- these are the names of the procedures, and by procedure the places of the points, all of which a number of 32 bits counts
pub record IsIndexOf (procs : List Proc) (points : List Point) (own_names by_proc : List (List ℕ)) : Type 0 where
  pub few_procs : length procs < 2 ^ 32
  pub few_points : length points < 2 ^ 32
  pub names : own_names ≡ names_of procs
  pub many : length by_proc ≡ length procs
  pub places : AreByProcedure points by_proc

-- one more place, that of a point of procedure number q
abbrev pub with_point_place : ℕ → ℕ → List (List ℕ) → List (List ℕ)
with_point_place q i places = set places q (slice_index_or places q [] ++ i ∷ [])

-- the points at these places, where there are such
abbrev pub gathered : List Point → List ℕ → List Point
gathered points places = flat_map (λ i. option_to_list (slice_get points i)) places
