-- For proofs alone: the numbers of the pieces that are chosen, by procedure.
use Rattle.std.specs.Prelude.{ℕ, ◌≡◌, ◌+◌, ◌-◌, ◌<◌, ◌==◌, Bool, false, if◌then◌else◌, Some, List, [], ◌∷◌, ◌++◌, length, slice_get, slice_index_or}
use Rattle.std.specs.List.{list_any}
use Rattle.std.specs.Option.{option_map_or}
use Rattle.pn_types.specs.declared.code.Proc.{Proc}
use Rattle.pn_types.specs.declared.plan.Stmt.{Stmt}
use Rattle.mdl_plan.specs.Pieces.{Piece}
use Rattle.mdl_plan.specs.Statements.{Terms, stmts_of}

-- the list ends with this number
abbrev pub ends_with : ℕ → List ℕ → Bool
ends_with i l = option_map_or (λ x. x == i) (slice_get l (length l - 1)) false

-- a number put last, unless it is the last
abbrev pub once : ℕ → List ℕ → List ℕ
once i l = if ends_with i l then l else l ++ i ∷ []

-- the number is put into the lists of these procedures, and no other list changes
pub record Marked (i : ℕ) (qs : List ℕ) (old new : List (List ℕ)) : Type 0 where
  pub len : length new ≡ length old
  pub at : (q : ℕ) → q < length old
      → slice_index_or new q []
      ≡ (if list_any (λ r. r == q) qs then once i (slice_index_or old q []) else slice_index_or old q [])

-- there is an empty list for each of n procedures
pub record AreEmpty (n : ℕ) (lists : List (List ℕ)) : Type 0 where
  pub len : length lists ≡ n
  pub at : (q : ℕ) → slice_index_or lists q [] ≡ []

-- the number is put into the lists of the procedures that pass the test, and no other list changes
pub record Added (procs : List Proc) (test : ℕ → Proc → Bool) (i : ℕ) (old new : List (List ℕ)) : Type 0 where
  pub len : length new ≡ length old
  pub at : (q : ℕ) (p : Proc) → slice_get procs q ≡ Some p → q < length old
      → slice_index_or new q [] ≡ (if test q p then once i (slice_index_or old q []) else slice_index_or old q [])

-- the numbers of the pieces that pass the test, of which the first has number n
abbrev pub numbers_from : ℕ → (Piece → Bool) → List Piece → List ℕ
numbers_from n test [] = []
numbers_from n test (p ∷ ps) = if test p then n ∷ numbers_from (n + 1) test ps else numbers_from (n + 1) test ps

-- each procedure's list has the numbers of the pieces that pass its test
pub record AreNumbers (procs : List Proc) (test : ℕ → Proc → Piece → Bool) (pieces : List Piece) (lists : List (List ℕ)) : Type 0 where
  pub len : length lists ≡ length procs
  pub at : (q : ℕ) (p : Proc) → slice_get procs q ≡ Some p → slice_index_or lists q [] ≡ numbers_from 0 (test q p) pieces

-- the statements of piece number i
abbrev pub stmts_of_number : Terms → List Piece → ℕ → List Stmt
stmts_of_number t pieces i = option_map_or (stmts_of t) (slice_get pieces i) []
