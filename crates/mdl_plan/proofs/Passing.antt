-- The procedures that sets select.
use Rattle.std.proofs.Common.{◌≡◌, ℕ, ◌==◌, ◌||◌, Bool, false, Option, List, [], ◌∷◌, flat_map, refl, sym, ap, subst, ◌∙◌, bytes_eq}
use Rattle.std.specs.List.{list_any}
use Rattle.std.specs.Option.{option_map, option_map_or}
use Rattle.std.proofs.lemmas.List.Folds.{list_any-append}
use Rattle.std.proofs.lemmas.Option.{slice_get-map}
use Rattle.first_places.specs.Groups.{places_of}
use Rattle.first_places.proofs.AllPlaces.{is_place}
use Rattle.first_places.proofs.Firsts.{swapped}
use Rattle.pn_types.specs.declared.code.Proc.{Proc}
use Rattle.mdl_ast.specs.declared.block.Set.{Set}
use Rattle.mdl_ast.specs.declared.block.Set.TheVariants.{Names}
use Rattle.mdl_plan.specs.Choosing.{in_set}
use Rattle.mdl_plan.specs.Scopes.{ArePassing, Scope, names_of, scope}

-- the procedures of a name
passing_one : (procs : List Proc) (name : List ℕ) → ArePassing procs (λ q p. bytes_eq p.name name) (places_of name (names_of procs))
passing_one procs name q p e =
    is_place name (names_of procs) q
    ∙ ap (λ (o : Option (List ℕ)). option_map_or (bytes_eq name) o false) (slice_get-map (λ r. r.name) procs q ∙ ap (option_map (λ r. r.name)) e)
    ∙ swapped name p.name

-- the procedures of names
passing_named : (procs : List Proc) (names : List (List ℕ)) → ArePassing procs (λ q p. list_any (bytes_eq p.name) names) (flat_map (λ name. places_of name (names_of procs)) names)
passing_named procs [] q p e = refl
passing_named procs (name ∷ names) q p e =
    list_any-append (λ r. r == q) (places_of name (names_of procs)) (flat_map (λ n. places_of n (names_of procs)) names)
    ∙ ap (λ (b : Bool). b || list_any (λ r. r == q) (flat_map (λ n. places_of n (names_of procs)) names)) (passing_one procs name q p e)
    ∙ ap (λ (b : Bool). bytes_eq p.name name || b) (passing_named procs names q p e)

-- the procedures of a set of names
pub passing_set : (selected : List ℕ) (procs : List Proc) (s : Scope) (set : Set) (names given : List (List ℕ)) (qs : List ℕ)
    → scope selected procs ≡ s → set ≡ Names names → given ≡ names → qs ≡ flat_map (λ name. places_of name (names_of procs)) given
    → ArePassing s.procs (in_set s.selected set) qs
passing_set selected procs s set names given qs same is gave found =
    subst (λ (t : Scope). ArePassing t.procs (in_set t.selected set) qs) same
    (subst (λ (x : Set). ArePassing procs (in_set selected x) qs) (sym is)
    (subst (ArePassing procs (λ q p. list_any (bytes_eq p.name) names))
    (sym (found ∙ ap (flat_map (λ name. places_of name (names_of procs))) gave))
    (passing_named procs names)))
