-- The nodes of a tree out of their columns.
use Rattle.std.proofs.Common.{◌≡◌, ℕ, suc, ◌+◌, ◌<◌, ◌^◌, cond, Bool, List, [], ◌∷◌, ◌++◌, length, map, drop, position, Option, Some, refl, sym, ap, ◌∙◌, arith}
use Rattle.std.specs.List.{position_from}
use Rattle.std.proofs.lemmas.Iterator.Adapters.{position_from-zero}
use Rattle.std.proofs.lemmas.List.{length-map}
use Rattle.pn_types.specs.declared.code.Proc.{Proc}
use Rattle.resource_tree.specs.Columns.{AreColumns, code_at, objects_at, procs_at}
use Rattle.resource_tree.specs.Foci.{path_of}
use Rattle.resource_tree.specs.Resources.{ObjectNode, ProcNode, code_of, modules_of, proc_of}

-- ---- lists

module _ {X Y : Type 0} (f : X → Y) where
  map_from : (p : Y → Bool) (i : ℕ) (xs : List X) → position_from p i (map f xs) ≡ position_from (λ x. p (f x)) i xs
  map_from p i [] = refl
  map_from p i (x ∷ xs) = ap (λ (r : Option ℕ). cond (p (f x)) (Some i) r) (map_from p (i + 1) xs)

  -- the first of a kind among what things are mapped to
  pub position_map : (p : Y → Bool) (xs : List X) → position p (map f xs) ≡ position (λ x. p (f x)) xs
  position_map p xs = position_from-zero p (map f xs) ∙ map_from p 0 xs ∙ sym (position_from-zero (λ x. p (f x)) xs)

-- ---- procedures

behind : (m name : List ℕ) → drop (length m + 1) (m ++ 0x2f ∷ name) ≡ name
behind [] name = refl
behind (x ∷ m) name = let k : suc (length m) + 1 ≡ suc (length m + 1) = omega arith in ap (λ (n : ℕ). drop n (x ∷ (m ++ 0x2f ∷ name))) k ∙ behind m name

abbrev node : List ℕ → List ℕ → ProcNode
node m name = record { «module» = m; name = name }

procs_of : (procs : List Proc) → procs_at (map (λ p. p.«module») procs) (map (λ p. path_of (proc_of p)) procs) ≡ map proc_of procs
procs_of [] = refl
procs_of (p ∷ ps) =
    ap (λ (name : List ℕ). node p.«module» name ∷ procs_at (map (λ q. q.«module») ps) (map (λ q. path_of (proc_of q)) ps)) (behind p.«module» p.name)
    ∙ ap (λ (l : List ProcNode). proc_of p ∷ l) (procs_of ps)

-- the columns of procedures are their code
pub code_is : (procs : List Proc) → code_at (map (λ p. p.«module») procs) (map (λ p. path_of (proc_of p)) procs) ≡ code_of procs
code_is procs = ap (λ (l : List ProcNode). record { modules = modules_of (map (λ p. p.«module») procs); procs = l }) (procs_of procs)

pub columns_of : (procs : List Proc) → length procs < 2 ^ 32 → AreColumns (map (λ p. p.«module») procs) (map (λ p. path_of (proc_of p)) procs)
columns_of procs few = record {
  joined = all procs ∙ ap (map path_of) (sym (procs_of procs));
  fits = omega (arith, length-map procs (λ p. path_of (proc_of p)), few);
}
  where
    all : (ps : List Proc) → map (λ p. path_of (proc_of p)) ps ≡ map path_of (map proc_of ps)
    all [] = refl
    all (p ∷ ps) = ap (λ (l : List (List ℕ)). path_of (proc_of p) ∷ l) (all ps)

-- ---- objects

pub names_held : (names : List (List ℕ)) (ats : List ℕ) → length names ≡ length ats → map (λ o. o.name) (objects_at names ats) ≡ names
names_held [] ats h = refl
names_held (name ∷ names) [] h = absurd (omega (arith, h))
names_held (name ∷ names) (at ∷ ats) h = ap (λ (l : List (List ℕ)). name ∷ l) (names_held names ats (omega (arith, h)))

pub ats_held : (names : List (List ℕ)) (ats : List ℕ) → length names ≡ length ats → map (λ o. o.at) (objects_at names ats) ≡ ats
ats_held [] [] h = refl
ats_held [] (at ∷ ats) h = absurd (omega (arith, h))
ats_held (name ∷ names) [] h = absurd (omega (arith, h))
ats_held (name ∷ names) (at ∷ ats) h = ap (λ (l : List ℕ). at ∷ l) (ats_held names ats (omega (arith, h)))

abbrev object : List ℕ → ℕ → ObjectNode
object name at = record { name = name; at = at }

pub objects_more : (names : List (List ℕ)) (ats : List ℕ) (name : List ℕ) (at : ℕ) → length names ≡ length ats → objects_at (names ++ name ∷ []) (ats ++ at ∷ []) ≡ objects_at names ats ++ (record { name = name; at = at }) ∷ []
objects_more [] [] name at h = refl
objects_more [] (b ∷ ats) name at h = absurd (omega (arith, h))
objects_more (n ∷ names) [] name at h = absurd (omega (arith, h))
objects_more (n ∷ names) (b ∷ ats) name at h = ap (λ (l : List ObjectNode). object n b ∷ l) (objects_more names ats name at (omega (arith, h)))
