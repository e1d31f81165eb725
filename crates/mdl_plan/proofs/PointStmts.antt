-- The statements of chosen pieces are those of a plan.
use Rattle.std.proofs.Common.{◌≡◌, ℕ, zero, suc, ◌≤◌, ◌||◌, cond, nat_lt, Bool, true, false, Option, Some, None, List, [], ◌∷◌, ◌++◌, length, map, flat_map, get_or, slice_get, refl, sym, ap, ◌∙◌, arith}
use Rattle.std.specs.List.{filter}
use Rattle.std.proofs.lemmas.List.{append-nil, get_or_past}
use Rattle.std.proofs.lemmas.List.Concat.{flat_map-append}
use Rattle.pn_types.specs.declared.code.Point.{Point}
use Rattle.pn_types.specs.declared.code.Proc.{Proc}
use Rattle.pn_types.specs.declared.plan.Open.{Open}
use Rattle.pn_types.specs.declared.plan.Stmt.{Stmt}
use Rattle.mdl_ast.specs.declared.block.EventKind.{EventKind}
use Rattle.mdl_ast.specs.declared.block.EventKind.TheVariants.{Entry, After, Return, Call}
use Rattle.mdl_plan.specs.Busy.{busy}
use Rattle.mdl_plan.specs.Choosing.{is_chosen, kind_if}
use Rattle.mdl_plan.specs.Numbers.{AreNumbers, stmts_of_number}
use Rattle.mdl_plan.specs.Plans.{PlanScope, has_stmts, open_at, open_if, opens_of, site_at, sites_of, stmts_at, stmts_for}
use Rattle.mdl_plan.specs.Scopes.{scope}
use Rattle.mdl_plan.specs.ChosenPieces.{AreChosen, has_numbers, is_some_number, numbers_at, numbers_if, open_with, opens_with, site_with, sites_with}
use Rattle.mdl_plan.specs.declared.chosen_pieces.ChosenPieces.{ChosenPieces}
use Rattle.mdl_plan.proofs.Numbered.{numbered, idle, some_both, counted}
use Rattle.mdl_plan.proofs.OpenList.{no_stmts}

-- the statements of a piece by its number, and those for a kind of points
abbrev by_number : PlanScope → ℕ → List Stmt
by_number s = stmts_of_number s.terms (busy s.pieces)

abbrev by_kind : PlanScope → ℕ → EventKind → List Stmt
by_kind s q = stmts_for s q (slice_get s.procs q)

abbrev is_some_stmt : List Stmt → Bool
is_some_stmt l = nat_lt 0 (length l)

-- ---- at one kind

past : (procs : List Proc) (q : ℕ) → slice_get procs q ≡ None → length procs ≤ q
past [] q h = omega arith
past (x ∷ procs) zero h = cc
past (x ∷ procs) (suc q) h = omega (arith, past procs q h)

module _ (s : PlanScope) (kind : EventKind) (lists : List (List ℕ)) (q : ℕ) (h : AreNumbers s.procs (is_chosen s.selected kind) (busy s.pieces) lists) where
  of_kind : (o : Option Proc) → slice_get s.procs q ≡ o → flat_map (by_number s) (get_or lists q []) ≡ stmts_for s q o kind
  of_kind None e = ap (flat_map (by_number s)) (get_or_past lists q [] (omega (arith, h.len, past s.procs q e)))
  of_kind (Some p) e =
      ap (flat_map (by_number s)) (h.at q p e)
      ∙ numbered s.terms (is_chosen s.selected kind q p) [] (busy s.pieces)
      ∙ idle s.terms (is_chosen s.selected kind q p) s.pieces

  some_kind : (o : Option Proc) → slice_get s.procs q ≡ o → is_some_number (get_or lists q []) ≡ is_some_stmt (stmts_for s q o kind)
  some_kind None e = ap is_some_number (get_or_past lists q [] (omega (arith, h.len, past s.procs q e)))
  some_kind (Some p) e =
      ap is_some_number (h.at q p e)
      ∙ counted s.terms (is_chosen s.selected kind q p) 0 s.pieces
      ∙ ap is_some_stmt (idle s.terms (is_chosen s.selected kind q p) s.pieces)

  -- if the point is one of the kind
  if_kind : (b : Bool) → flat_map (by_number s) (numbers_if b lists q) ≡ flat_map (by_kind s q) (kind_if b kind)
  if_kind true = of_kind (slice_get s.procs q) refl ∙ sym (append-nil (by_kind s q kind))
  if_kind false = refl

  some_if : (b : Bool) → is_some_number (numbers_if b lists q) ≡ is_some_stmt (flat_map (by_kind s q) (kind_if b kind))
  some_if true = some_kind (slice_get s.procs q) refl ∙ ap is_some_stmt (sym (append-nil (by_kind s q kind)))
  some_if false = refl

-- ---- at a point

four : {A B : Type 0} (f : A → List B) (a b c d : List A) → flat_map f (a ++ (b ++ (c ++ d))) ≡ flat_map f a ++ (flat_map f b ++ (flat_map f c ++ flat_map f d))
four {B = B} f a b c d =
    flat_map-append f a (b ++ (c ++ d))
    ∙ ap (λ (l : List B). flat_map f a ++ l) (flat_map-append f b (c ++ d) ∙ ap (λ (l : List B). flat_map f b ++ l) (flat_map-append f c d))

some_four : (a b c d : List Stmt) → is_some_stmt (a ++ (b ++ (c ++ d))) ≡ (is_some_stmt a || (is_some_stmt b || (is_some_stmt c || is_some_stmt d)))
some_four a b c d =
    some_both a (b ++ (c ++ d))
    ∙ ap (λ (x : Bool). is_some_stmt a || x) (some_both b (c ++ d) ∙ ap (λ (x : Bool). is_some_stmt b || x) (some_both c d))

joined : {A : Type 0} {a b c d w x y z : List A} → a ≡ w → b ≡ x → c ≡ y → d ≡ z → a ++ (b ++ (c ++ d)) ≡ w ++ (x ++ (y ++ z))
joined p q r s = cc

either : {a b c d w x y z : Bool} → a ≡ w → b ≡ x → c ≡ y → d ≡ z → (a || (b || (c || d))) ≡ (w || (x || (y || z)))
either {b = b} {c = c} {d = d} {w = w} {x = x} {y = y} p q r s =
    ap (λ (k : Bool). k || (b || (c || d))) p
    ∙ ap (λ (k : Bool). w || (k || (c || d))) q
    ∙ ap (λ (k : Bool). w || (x || (k || d))) r
    ∙ ap (λ (k : Bool). w || (x || (y || k))) s

module _ (s : PlanScope) (t : ChosenPieces) (h : AreChosen (scope s.selected s.procs) (busy s.pieces) t) (p : Point) where
  -- the statements of all kinds of the point
  four_kinds : stmts_at s p ≡ flat_map (by_kind s p.proc_no) (kind_if p.entry Entry)
      ++ (flat_map (by_kind s p.proc_no) (kind_if p.after After) ++ (flat_map (by_kind s p.proc_no) (kind_if p.ret Return) ++ flat_map (by_kind s p.proc_no) (kind_if p.call Call)))
  four_kinds = four (by_kind s p.proc_no) (kind_if p.entry Entry) (kind_if p.after After) (kind_if p.ret Return) (kind_if p.call Call)

  same_stmts : flat_map (by_number s) (numbers_at t p) ≡ stmts_at s p
  same_stmts =
      four (by_number s) (numbers_if p.entry t.entry p.proc_no) (numbers_if p.after t.after p.proc_no) (numbers_if p.ret t.ret p.proc_no) (numbers_if p.call t.call p.proc_no)
      ∙ joined
      (if_kind s Entry t.entry p.proc_no h.entry p.entry)
      (if_kind s After t.after p.proc_no h.after p.after)
      (if_kind s Return t.ret p.proc_no h.ret p.ret)
      (if_kind s Call t.call p.proc_no h.call p.call)
      ∙ sym four_kinds

  same_site : site_with s.terms (busy s.pieces) t p ≡ site_at s p
  same_site = ap (λ (stmts : List Stmt). record { at = p.at; stmts = stmts }) same_stmts

  same_test : has_numbers t p ≡ has_stmts (site_at s p)
  same_test =
      either
      (some_if s Entry t.entry p.proc_no h.entry p.entry)
      (some_if s After t.after p.proc_no h.after p.after)
      (some_if s Return t.ret p.proc_no h.ret p.ret)
      (some_if s Call t.call p.proc_no h.call p.call)
      ∙ sym (some_four
      (flat_map (by_kind s p.proc_no) (kind_if p.entry Entry))
      (flat_map (by_kind s p.proc_no) (kind_if p.after After))
      (flat_map (by_kind s p.proc_no) (kind_if p.ret Return))
      (flat_map (by_kind s p.proc_no) (kind_if p.call Call)))
      ∙ ap is_some_stmt (sym four_kinds)

-- ---- the sites

selected : {X Y : Type 0} (f k : X → Y) (test : Y → Bool) (has : X → Bool) → ((x : X) → has x ≡ test (f x)) → ((x : X) → k x ≡ f x)
    → (xs : List X) → map k (filter has xs) ≡ filter test (map f xs)
selected f k test has same each [] = refl
selected {X = X} {Y = Y} f k test has same each (x ∷ xs) =
    by (has x) (test (f x)) (same x) (selected f k test has same each xs)
  where
    by : (b c : Bool) → b ≡ c → map k (filter has xs) ≡ filter test (map f xs)
        → map k (cond b (x ∷ filter has xs) (filter has xs)) ≡ cond c (f x ∷ filter test (map f xs)) (filter test (map f xs))
    by true true e h = ap (λ (l : List Y). k x ∷ l) h ∙ ap (λ (y : Y). y ∷ filter test (map f xs)) (each x)
    by false false e h = h
    by true false e h = cc
    by false true e h = cc

-- the sites of chosen pieces are those of the plan
pub sites_are : (s : PlanScope) (t : ChosenPieces) → AreChosen (scope s.selected s.procs) (busy s.pieces) t → (points : List Point)
    → sites_with s.terms (busy s.pieces) t points ≡ sites_of s points
sites_are s t h points = selected (site_at s) (site_with s.terms (busy s.pieces) t) has_stmts (has_numbers t) (same_test s t h) (same_site s t h) points

-- ---- what is open

module _ (s : PlanScope) (t : ChosenPieces) (h : AreChosen (scope s.selected s.procs) (busy s.pieces) t) where
  same_open : (p : Point) → open_with s.terms (busy s.pieces) t s.procs p ≡ open_at s p
  same_open p = by p.entry
    where
      by : (b : Bool) → open_if (flat_map (by_number s) (numbers_if b t.entry p.proc_no)) (slice_get s.procs p.proc_no)
          ≡ cond b (open_if (stmts_for s p.proc_no (slice_get s.procs p.proc_no) Entry) (slice_get s.procs p.proc_no)) []
      by true = ap (λ (l : List Stmt). open_if l (slice_get s.procs p.proc_no)) (of_kind s Entry t.entry p.proc_no h.entry (slice_get s.procs p.proc_no) refl)
      by false = no_stmts (slice_get s.procs p.proc_no)

  -- what is open by chosen pieces is so by the plan
  pub opens_are : (points : List Point) → opens_with s.terms (busy s.pieces) t s.procs points ≡ opens_of s points
  opens_are [] = refl
  opens_are (p ∷ points) =
      ap (λ (l : List Open). l ++ opens_with s.terms (busy s.pieces) t s.procs points) (same_open p)
      ∙ ap (λ (l : List Open). open_at s p ++ l) (opens_are points)
