-- The procedures of points, one after another.
use Rattle.std.proofs.Common.{◌≡◌, ◌||◌, ℕ, suc, ◌+◌, ◌<◌, cond, Bool, true, false, Option, Some, None, List, [], ◌∷◌, ◌++◌, length, take, flat_map, get_or, slice_get, refl, sym, ap, ◌∙◌, arith, lt-ltb}
use Rattle.std.specs.List.{filter}
use Rattle.std.proofs.lemmas.List.{append-nil, take_more}
use Rattle.std.proofs.lemmas.List.Concat.{flat_map-append}
use Rattle.pn_types.specs.declared.code.Point.{Point}
use Rattle.pn_types.specs.declared.code.Proc.{Proc}
use Rattle.pn_types.specs.declared.plan.Open.{Open}
use Rattle.mdl_plan.specs.Numbers.{stmts_of_number}
use Rattle.mdl_plan.specs.Pieces.{Piece}
use Rattle.mdl_plan.specs.Plans.{open_if}
use Rattle.mdl_plan.specs.Statements.{Terms}
use Rattle.mdl_plan.specs.ChosenPieces.{has_numbers, is_some_number, numbers_if, open_with, opens_with}
use Rattle.mdl_plan.specs.declared.chosen_pieces.ChosenPieces.{ChosenPieces}

pub no_stmts : (o : Option Proc) → open_if [] o ≡ []
no_stmts None = refl
no_stmts (Some p) = refl

-- what gives nothing where a test fails gives the same of those that pass it
passing : {X Y : Type 0} (f : X → List Y) (test : X → Bool) → ((x : X) → test x ≡ false → f x ≡ []) → (xs : List X) → flat_map f (filter test xs) ≡ flat_map f xs
passing f test none [] = refl
passing {X = X} {Y = Y} f test none (x ∷ xs) = by (test x) refl (passing f test none xs)
  where
    by : (b : Bool) → test x ≡ b → flat_map f (filter test xs) ≡ flat_map f xs → flat_map f (cond b (x ∷ filter test xs) (filter test xs)) ≡ f x ++ flat_map f xs
    by true e h = ap (λ (l : List Y). f x ++ l) h
    by false e h = h ∙ ap (λ (l : List Y). l ++ flat_map f xs) (sym (none x e))

module _ (terms : Terms) (pieces : List Piece) (t : ChosenPieces) (procs : List Proc) where
  -- one more point
  pub opens_more : (points : List Point) (i : ℕ) (p : Point) → i < length points → get_or points i p ≡ p
      → opens_with terms pieces t procs (take i points) ++ open_with terms pieces t procs p ≡ opens_with terms pieces t procs (take (i + 1) points)
  opens_more points i p lt is =
      ap (λ (l : List Open). opens_with terms pieces t procs (take i points) ++ l) (sym (append-nil (open_with terms pieces t procs p)))
      ∙ sym (flat_map-append (open_with terms pieces t procs) (take i points) (p ∷ []))
      ∙ ap (λ (q : Point). opens_with terms pieces t procs (take i points ++ q ∷ [])) (sym is)
      ∙ ap (opens_with terms pieces t procs) (sym (take_more points i p lt))

  -- where no piece is chosen there is none
  idle_point : (p : Point) → has_numbers t p ≡ false → open_with terms pieces t procs p ≡ []
  idle_point p e =
      ap (λ (ns : List ℕ). open_if (flat_map (stmts_of_number terms pieces) ns) (slice_get procs p.proc_no)) (by (numbers_if p.entry t.entry p.proc_no) e)
      ∙ no_stmts (slice_get procs p.proc_no)
    where
      others : Bool
      others = is_some_number (numbers_if p.after t.after p.proc_no) || (is_some_number (numbers_if p.ret t.ret p.proc_no) || is_some_number (numbers_if p.call t.call p.proc_no))

      by : (ns : List ℕ) → is_some_number ns || others ≡ false → ns ≡ []
      by [] h = refl
      by (n ∷ ns) h = let some : is_some_number (n ∷ ns) ≡ true = lt-ltb 0 (suc (length ns)) (omega arith) in cc

  -- where the points at which a piece is chosen are reached, all are
  pub opens_reached : (reached points : List Point) → filter (has_numbers t) reached ≡ filter (has_numbers t) points → opens_with terms pieces t procs reached ≡ opens_with terms pieces t procs points
  opens_reached reached points all =
      sym (passing (open_with terms pieces t procs) (has_numbers t) idle_point reached)
      ∙ ap (opens_with terms pieces t procs) all
      ∙ passing (open_with terms pieces t procs) (has_numbers t) idle_point points
