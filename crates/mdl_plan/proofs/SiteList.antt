-- The sites of points, one after another.
use Rattle.std.proofs.Common.{◌≡◌, ℕ, ◌+◌, ◌<◌, Option, Some, None, List, [], ◌∷◌, ◌++◌, length, map, take, drop, get_or, sym, ap, ◌∙◌}
use Rattle.std.specs.List.{filter, find}
use Rattle.std.specs.Option.{option_map, option_or}
use Rattle.std.proofs.lemmas.List.{take_more, drop_more, map-append, take-append-drop}
use Rattle.std.proofs.lemmas.List.Elements.{filter-append}
use Rattle.std.proofs.lemmas.List.Folds.{find-append}
use Rattle.pn_types.specs.declared.code.Point.{Point}
use Rattle.pn_types.specs.declared.plan.Site.{Site}
use Rattle.mdl_plan.specs.Pieces.{Piece}
use Rattle.mdl_plan.specs.Plans.{is_crowded}
use Rattle.mdl_plan.specs.Statements.{Terms}
use Rattle.mdl_plan.specs.ChosenPieces.{PlanRefuses, has_numbers, site_with, sites_with}
use Rattle.mdl_plan.specs.declared.fault.PlanFault.TheVariants.{NoConstraint, TooManySites, TooManyStmts}
use Rattle.mdl_plan.specs.declared.fault.PlanError.{PlanError}
use Rattle.mdl_plan.specs.declared.fault.PlanError.TheVariants as error
use Rattle.mdl_plan.specs.declared.chosen_pieces.ChosenPieces.{ChosenPieces}

module _ (terms : Terms) (pieces : List Piece) (t : ChosenPieces) where
  both : (a b : List Point) → sites_with terms pieces t (a ++ b) ≡ sites_with terms pieces t a ++ sites_with terms pieces t b
  both a b = ap (map (site_with terms pieces t)) (filter-append (has_numbers t) a b) ∙ map-append (site_with terms pieces t) (filter (has_numbers t) a) (filter (has_numbers t) b)

  -- one more point
  pub sites_more : (points : List Point) (i : ℕ) (p : Point) → i < length points → get_or points i p ≡ p
      → sites_with terms pieces t (take i points) ++ sites_with terms pieces t (p ∷ []) ≡ sites_with terms pieces t (take (i + 1) points)
  sites_more points i p lt is =
      sym (both (take i points) (p ∷ []))
      ∙ ap (λ (q : Point). sites_with terms pieces t (take i points ++ q ∷ [])) (sym is)
      ∙ ap (sites_with terms pieces t) (sym (take_more points i p lt))

  -- the sites before a point, of the point and after it
  pub sites_around : (points : List Point) (i : ℕ) (p : Point) → i < length points → get_or points i p ≡ p
      → sites_with terms pieces t (take i points) ++ (sites_with terms pieces t (p ∷ []) ++ sites_with terms pieces t (drop (i + 1) points)) ≡ sites_with terms pieces t points
  sites_around points i p lt is =
      let behind = drop (i + 1) points in
      ap (λ (l : List Site). sites_with terms pieces t (take i points) ++ l) (sym (both (p ∷ []) behind))
      ∙ sym (both (take i points) (p ∷ behind))
      ∙ ap (λ (q : Point). sites_with terms pieces t (take i points ++ q ∷ behind)) (sym is)
      ∙ ap (sites_with terms pieces t) (ap (λ (l : List Point). take i points ++ l) (sym (drop_more points i p lt)) ∙ take-append-drop i points)

-- none of two lists has too many
pub few_both : (a b : List Site) → find is_crowded a ≡ None → find is_crowded b ≡ None → find is_crowded (a ++ b) ≡ None
few_both a b h k = find-append is_crowded a b ∙ ap (λ (o : Option Site). option_or o (find is_crowded b)) h ∙ k

-- what refuses some sites refuses them where others stand around them, if none before them has too many
pub refuses_all : (e : PlanError) (a b c : List Site) → find is_crowded a ≡ None → PlanRefuses e b → PlanRefuses e (a ++ (b ++ c))
refuses_all error.NoMemory a b c h k = tt
refuses_all (error.Fault (NoConstraint axis)) a b c h k = k
refuses_all (error.Fault (TooManySites n)) a b c h k = k
refuses_all (error.Fault (TooManyStmts at)) a b c h k =
    ap (option_map (λ s. s.at)) (find-append is_crowded a (b ++ c) ∙ ap (λ (o : Option Site). option_or o (find is_crowded (b ++ c))) h ∙ find-append is_crowded b c)
    ∙ by (find is_crowded b) k
  where
    by : (o : Option Site) → option_map (λ s. s.at) o ≡ Some at → option_map (λ s. s.at) (option_or o (find is_crowded c)) ≡ Some at
    by None e = cc
    by (Some s) e = e
