-- Statements that fit a plan's variables name these alone, and are short.
use Rattle.std.proofs.Common.{ℕ, zero, suc, ◌*◌, ◌<◌, ◌≤◌, Bool, List, [], ◌∷◌, length, arith}
use Rattle.std.specs.List.{All, AllByRecursion}
use Rattle.std.proofs.lemmas.List.Sums.{sum_by-cons}
use Rattle.pn_types.specs.declared.plan.Act.{Act}
use Rattle.pn_types.specs.declared.plan.Act.TheVariants.{Up, Down, Put, Start, Stop}
use Rattle.pn_types.specs.declared.plan.Cond.{Cond}
use Rattle.pn_types.specs.declared.plan.Left.{Left}
use Rattle.pn_types.specs.declared.plan.Left.TheVariants.{Counter, Argument}
use Rattle.pn_types.specs.declared.plan.Stmt.{Stmt}
use Rattle.pn_types.specs.declared.plan.Var.{Var}
use Rattle.prim_code.specs.Counts.{stmt_words, word_count}
use Rattle.prim_code.specs.Fitting.{Names, IsLeftOf, IsActOf, IsCondOf, IsStmtOf, AreStmtsOf}
use Rattle.prim_code.specs.Laws.{StatementsCompile}
use Rattle.prim_code.specs.Named.{changed_variable, IsLeftBelow, IsStmtBelow}

-- of each element, and so at each index
to_all : {A : Type 0} (P Q : A → Type 0) → ((x : A) → P x → Q x) → (xs : List A) → AllByRecursion P xs → All Q xs
to_all P Q f [] h k d l = absurd (omega arith)
to_all P Q f (x ∷ xs) h zero d l = f x h.0
to_all P Q f (x ∷ xs) h (suc k) d l = to_all P Q f xs h.1 k d (omega arith)

named_below : (vars : List Var) (v : ℕ) (timer : Bool) → Names vars timer v → v < length vars
named_below [] v timer h = absurd cc
named_below (x ∷ vars) zero timer h = omega arith
named_below (x ∷ vars) (suc v) timer h = let l = named_below vars v timer h in omega arith

left_below : (vars : List Var) (l : Left) → IsLeftOf vars l → IsLeftBelow (length vars) l
left_below vars (Counter v) h = named_below vars v _ h
left_below vars (Argument a) h = tt

act_below : (vars : List Var) (a : Act) → IsActOf vars a → changed_variable a < length vars
act_below vars (Up v) h = named_below vars v _ h
act_below vars (Down v) h = named_below vars v _ h
act_below vars (Put v n) h = named_below vars v _ h.0
act_below vars (Start v) h = named_below vars v _ h
act_below vars (Stop v) h = named_below vars v _ h

stmt_below : (vars : List Var) (s : Stmt) → IsStmtOf vars s → IsStmtBelow (length vars) s
stmt_below vars s h =
    record { conds = to_all (IsCondOf vars) (λ (c : Cond). IsLeftBelow (length vars) c.left) (λ c q. left_below vars c.left q.0) s.conds h.conds; act = act_below vars s.act h.act }

few_words : (vars : List Var) (stmts : List Stmt) → AreStmtsOf vars stmts → word_count stmts ≤ 1023 * length stmts
few_words vars [] h = omega arith
few_words vars (s ∷ ss) h =
    let e = sum_by-cons stmt_words s ss in
    let l = (h.0).short in
    let r = few_words vars ss h.1 in omega arith

pub statements_compile : StatementsCompile
statements_compile vars stmts h = (to_all (IsStmtOf vars) (IsStmtBelow (length vars)) (stmt_below vars) stmts h, few_words vars stmts h)
