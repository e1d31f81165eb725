-- Openings without arguments, and without Opens.
use Rattle.std.proofs.Common.{◌≡◌, ℕ, List, [], ◌∷◌, ◌++◌, refl, ap, ◌∙◌}
use Rattle.std.specs.Prelude.{Bool, true, false, cond, ◌&&◌, ◌||◌, Option, Some, None}
use Rattle.std.specs.List.{list_any}
use Rattle.pn_types.specs.declared.plan.Cond.{Cond}
use Rattle.pn_types.specs.declared.plan.Left.{Left}
use Rattle.pn_types.specs.declared.plan.Left.TheVariants.{Counter, Argument}
use Rattle.pn_types.specs.declared.plan.Stmt.{Stmt}
use Rattle.tramp_spec.specs.Slots.{initials}
use Rattle.tramp_spec.specs.Values.{meets, left_value, all_hold, values_after_act, values_after}
use Rattle.frame_walk.specs.Walks.{Walk}
use Rattle.frame_walk.specs.Openings.{of_caller, of_calls, of_pc, entry_statements}
use Rattle.frame_walk.specs.Laws.{is_argument, ArgumentsWait, ColdBegins}

and_false : (a : Bool) → (a && false) ≡ false
and_false true = refl
and_false false = refl

fails : (cs : List Cond) (values : List ℕ) → list_any (λ (c : Cond). is_argument c.left) cs ≡ true → all_hold cs [] values ≡ false
fails [] values h = absurd cc
fails (c ∷ cs) values h = by c.left h (fails cs values)
  where
    by : (l : Left) → (is_argument l || list_any (λ (d : Cond). is_argument d.left) cs) ≡ true → (list_any (λ (d : Cond). is_argument d.left) cs ≡ true → all_hold cs [] values ≡ false)
        → (meets c.cmp c.right (left_value l [] values) && all_hold cs [] values) ≡ false
    by (Argument a) k f = refl
    by (Counter v) k f = ap (λ b. meets c.cmp c.right (left_value (Counter v) [] values) && b) (f k) ∙ and_false (meets c.cmp c.right (left_value (Counter v) [] values))

pub arguments_wait : ArgumentsWait
arguments_wait s values h = ap (λ b. cond b (values_after_act s.act values) values) (fails s.conds values h)

no_calls : (places : List ℕ) → of_calls [] places ≡ []
no_calls [] = refl
no_calls (a ∷ rest) = ap (λ (l : List Stmt). l ++ []) (no_calls rest)

no_caller : (pc : ℕ) (o : Option ℕ) → of_caller [] pc o ≡ []
no_caller pc None = refl
no_caller pc (Some a) = refl

none_entered : (o : Option Walk) → entry_statements [] o ≡ []
none_entered None = refl
none_entered (Some w) = ap (λ (l : List Stmt). l ++ (of_caller [] w.pc w.caller ++ of_pc [] w.pc)) (no_calls w.calls) ∙ ap (λ (l : List Stmt). l ++ []) (no_caller w.pc w.caller)

pub cold_begins : ColdBegins
cold_begins w vars = ap (λ (l : List Stmt). values_after l [] (initials vars)) (none_entered w)
