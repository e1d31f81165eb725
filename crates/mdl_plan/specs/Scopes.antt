-- For proofs alone: the procedures of sets.
use Rattle.std.specs.Prelude.{ℕ, ◌≡◌, ◌==◌, Bool, Some, List, map, slice_get}
use Rattle.std.specs.List.{list_any}
use Rattle.pn_types.specs.declared.code.Proc.{Proc}

-- these numbers of procedures are those of the procedures that pass the test
abbrev pub ArePassing : List Proc → (ℕ → Proc → Bool) → List ℕ → Type 0
ArePassing procs test qs = (q : ℕ) (p : Proc) → slice_get procs q ≡ Some p → list_any (λ r. r == q) qs ≡ test q p

-- what tells the procedures of a set: the numbers of those that the focus selects, and all procedures
pub record Scope : Type 0 where
  pub selected : List ℕ
  pub procs : List Proc

abbrev pub scope : List ℕ → List Proc → Scope
scope selected procs = record { selected = selected; procs = procs }

-- the names of procedures
abbrev pub names_of : List Proc → List (List ℕ)
names_of procs = map (λ p. p.name) procs
