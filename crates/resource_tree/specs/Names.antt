-- When names tell the nodes of a tree apart.
use Rattle.std.specs.Prelude.{ℕ, ◌≡◌, true, List, map, slice_get, Some}
use Rattle.pn_types.specs.GoodNames.{is_good_name}
use Rattle.pn_types.specs.declared.code.Proc.{Proc}
use Rattle.resource_tree.specs.Resources.{ProcNode, Resources}

-- no name stands at two places
abbrev pub AreApart : List (List ℕ) → Type 0
AreApart names = (j k : ℕ) (name : List ℕ) → slice_get names j ≡ Some name → slice_get names k ≡ Some name → j ≡ k

-- good names, no two of them equal
pub record AreGoodNames (names : List (List ℕ)) : Type 0 where
  pub good : (k : ℕ) (name : List ℕ) → slice_get names k ≡ Some name → is_good_name name ≡ true
  pub apart : AreApart names

-- all names of a tree are good, no two modules or objects have one name, and no two procedures one module and name
pub record IsNamed (t : Resources) : Type 0 where
  pub modules : AreGoodNames (map (λ m. m.name) t.code.modules)
  pub procs : (k : ℕ) (p : ProcNode) → slice_get t.code.procs k ≡ Some p → (is_good_name p.«module» ≡ true) × (is_good_name p.name ≡ true)
  pub procs_apart : (j k : ℕ) (p q : ProcNode) → slice_get t.code.procs j ≡ Some p → slice_get t.code.procs k ≡ Some q
      → p.«module» ≡ q.«module» → p.name ≡ q.name → j ≡ k
  pub objects : AreGoodNames (map (λ o. o.name) t.objects)

-- procedures with good names in modules with good names, no two of which have one module and name
pub record AreNamed (procs : List Proc) : Type 0 where
  pub good : (k : ℕ) (p : Proc) → slice_get procs k ≡ Some p → (is_good_name p.«module» ≡ true) × (is_good_name p.name ≡ true)
  pub apart : (j k : ℕ) (p q : Proc) → slice_get procs j ≡ Some p → slice_get procs k ≡ Some q
      → p.«module» ≡ q.«module» → p.name ≡ q.name → j ≡ k
