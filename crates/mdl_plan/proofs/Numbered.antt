-- The statements of pieces by their numbers.
use Rattle.std.proofs.Common.{◌≡◌, ℕ, suc, ◌+◌, ◌||◌, cond, ltb, nat_lt, Bool, true, false, Option, List, [], ◌∷◌, ◌++◌, length, map, flat_map, refl, sym, ap, ◌∙◌, append_assoc, arith}
use Rattle.std.specs.List.{filter}
use Rattle.std.specs.Option.{option_map_or}
use Rattle.std.proofs.Common.{lt-ltb}
use Rattle.std.proofs.lemmas.List.{length_push}
use Rattle.pn_types.specs.declared.plan.Stmt.{Stmt}
use Rattle.mdl_ast.specs.declared.action.Statement.{Statement}
use Rattle.mdl_plan.proofs.Elements.{get_behind}
use Rattle.mdl_plan.specs.Busy.{busy, has_some}
use Rattle.mdl_plan.specs.Numbers.{numbers_from, stmts_of_number}
use Rattle.mdl_plan.specs.Pieces.{Piece}
use Rattle.mdl_plan.specs.Statements.{Terms, stmt_of, stmts_of}
use Rattle.mdl_plan.specs.ChosenPieces.{is_some_number}

-- ---- the statements of numbers

-- the pieces of these numbers are those that pass the test
pub numbered : (t : Terms) (test : Piece → Bool) (pre ps : List Piece)
    → flat_map (stmts_of_number t (pre ++ ps)) (numbers_from (length pre) test ps) ≡ flat_map (stmts_of t) (filter test ps)
numbered t test pre [] = refl
numbered t test pre (p ∷ ps) =
    by (test p)
    (ap (λ (l : List Piece). flat_map (stmts_of_number t l) (numbers_from (length pre + 1) test ps)) (sym (append_assoc pre (p ∷ []) ps))
    ∙ ap (λ (n : ℕ). flat_map (stmts_of_number t ((pre ++ p ∷ []) ++ ps)) (numbers_from n test ps)) (sym (length_push pre p))
    ∙ numbered t test (pre ++ p ∷ []) ps)
  where
    by : (b : Bool) → flat_map (stmts_of_number t (pre ++ p ∷ ps)) (numbers_from (length pre + 1) test ps) ≡ flat_map (stmts_of t) (filter test ps)
        → flat_map (stmts_of_number t (pre ++ p ∷ ps)) (cond b (length pre ∷ numbers_from (length pre + 1) test ps) (numbers_from (length pre + 1) test ps))
        ≡ flat_map (stmts_of t) (cond b (p ∷ filter test ps) (filter test ps))
    by true h =
        ap (λ (o : Option Piece). option_map_or (stmts_of t) o [] ++ flat_map (stmts_of_number t (pre ++ p ∷ ps)) (numbers_from (length pre + 1) test ps)) (get_behind pre p ps)
        ∙ ap (λ (l : List Stmt). stmts_of t p ++ l) h
    by false h = h

-- ---- pieces without statements

no_stmts : (f : Statement → Stmt) (l : List Statement) → nat_lt 0 (length l) ≡ false → map f l ≡ []
no_stmts f [] h = refl
no_stmts f (x ∷ l) h = let e : ltb 0 (suc (length l)) ≡ true = lt-ltb 0 (suc (length l)) (omega arith) in cc

chosen_same : (g : Piece → List Stmt) (p : Piece) (b : Bool) (x y : List Piece) → flat_map g x ≡ flat_map g y → flat_map g (cond b (p ∷ x) x) ≡ flat_map g (cond b (p ∷ y) y)
chosen_same g p true x y h = ap (λ (l : List Stmt). g p ++ l) h
chosen_same g p false x y h = h

chosen_idle : (g : Piece → List Stmt) (p : Piece) (b : Bool) (x : List Piece) → g p ≡ [] → flat_map g x ≡ flat_map g (cond b (p ∷ x) x)
chosen_idle g p true x h = ap (λ (l : List Stmt). l ++ flat_map g x) (sym h)
chosen_idle g p false x h = refl

-- to leave them out changes no statements
pub idle : (t : Terms) (test : Piece → Bool) (ps : List Piece) → flat_map (stmts_of t) (filter test (busy ps)) ≡ flat_map (stmts_of t) (filter test ps)
idle t test [] = refl
idle t test (p ∷ ps) = by (has_some p) refl (idle t test ps)
  where
    by : (b : Bool) → has_some p ≡ b → flat_map (stmts_of t) (filter test (busy ps)) ≡ flat_map (stmts_of t) (filter test ps)
        → flat_map (stmts_of t) (filter test (cond b (p ∷ busy ps) (busy ps))) ≡ flat_map (stmts_of t) (cond (test p) (p ∷ filter test ps) (filter test ps))
    by true e h = chosen_same (stmts_of t) p (test p) (filter test (busy ps)) (filter test ps) h
    by false e h = h ∙ chosen_idle (stmts_of t) p (test p) (filter test ps) (no_stmts (stmt_of t p) p.insertion.stmts e)

pub some_both : {A : Type 0} (xs ys : List A) → nat_lt 0 (length (xs ++ ys)) ≡ (nat_lt 0 (length xs) || nat_lt 0 (length ys))
some_both [] ys = refl
some_both (x ∷ xs) ys =
    let e : ltb 0 (suc (length (xs ++ ys))) ≡ true = lt-ltb 0 (suc (length (xs ++ ys))) (omega arith) in
    let f : ltb 0 (suc (length xs)) ≡ true = lt-ltb 0 (suc (length xs)) (omega arith) in
    e ∙ sym (ap (λ (b : Bool). b || nat_lt 0 (length ys)) f)

some_map : (f : Statement → Stmt) (l : List Statement) → nat_lt 0 (length l) ≡ true → nat_lt 0 (length (map f l)) ≡ true
some_map f [] h = h
some_map f (x ∷ l) h = lt-ltb 0 (suc (length (map f l))) (omega arith)

-- there is a number where there is a statement
pub counted : (t : Terms) (test : Piece → Bool) (n : ℕ) (ps : List Piece)
    → is_some_number (numbers_from n test (busy ps)) ≡ nat_lt 0 (length (flat_map (stmts_of t) (filter test (busy ps))))
counted t test n [] = refl
counted t test n (p ∷ ps) = by (has_some p) refl (counted t test n ps) (counted t test (n + 1) ps)
  where
    here : (b : Bool) → has_some p ≡ true → is_some_number (numbers_from (n + 1) test (busy ps)) ≡ nat_lt 0 (length (flat_map (stmts_of t) (filter test (busy ps))))
        → is_some_number (cond b (n ∷ numbers_from (n + 1) test (busy ps)) (numbers_from (n + 1) test (busy ps)))
        ≡ nat_lt 0 (length (flat_map (stmts_of t) (cond b (p ∷ filter test (busy ps)) (filter test (busy ps)))))
    here true e h =
        lt-ltb 0 (suc (length (numbers_from (n + 1) test (busy ps)))) (omega arith)
        ∙ sym (some_both (stmts_of t p) (flat_map (stmts_of t) (filter test (busy ps)))
        ∙ ap (λ (b : Bool). b || nat_lt 0 (length (flat_map (stmts_of t) (filter test (busy ps))))) (some_map (stmt_of t p) p.insertion.stmts e))
    here false e h = h

    by : (b : Bool) → has_some p ≡ b → is_some_number (numbers_from n test (busy ps)) ≡ nat_lt 0 (length (flat_map (stmts_of t) (filter test (busy ps))))
        → is_some_number (numbers_from (n + 1) test (busy ps)) ≡ nat_lt 0 (length (flat_map (stmts_of t) (filter test (busy ps))))
        → is_some_number (numbers_from n test (cond b (p ∷ busy ps) (busy ps))) ≡ nat_lt 0 (length (flat_map (stmts_of t) (filter test (cond b (p ∷ busy ps) (busy ps)))))
    by true e h k = here (test p) e k
    by false e h k = h
