-- What is left of a statement after a condition's words.
use Rattle.std.proofs.Common.{◌≡◌, suc, List, ◌∷◌, ◌++◌, length, ap, sym, ◌∙◌, subst, ℕ, arith}
use Rattle.std.specs.List.{All}
use Rattle.pn_types.specs.declared.plan.Cond.{Cond}
use Rattle.rv_word.specs.declared.instr.Instr.{Instr}
use Rattle.tramp_spec.specs.MovedWords.{tools}
use Rattle.tramp_spec.specs.Statements.{guarded, under}
use Rattle.tramp_spec.specs.declared.mark.MarkedWord.{MarkedWord}

-- with the rest of its words after it, a statement stands there whole as before
pub cond_appended : (slots : List ℕ) (code : List Instr) (conds inner : List Cond) (c : Cond) (rest : ℕ) (was is all : List MarkedWord)
    → conds ≡ c ∷ inner → length (under slots inner code) ≡ rest
    → ((after : List Instr) → length after ≡ rest → is ++ tools after ≡ was ++ tools (guarded slots c.left c.cmp c.right after))
    → was ++ tools (under slots conds code) ≡ all → is ++ tools (under slots inner code) ≡ all
cond_appended slots code conds inner c rest was is all e n h w = h (under slots inner code) n ∙ (ap (λ cs. was ++ tools (under slots cs code)) (sym e) ∙ w)

pub All-rest : (P : Cond → Type 0) (conds inner : List Cond) (c : Cond) → conds ≡ c ∷ inner → All P conds → All P inner
All-rest P conds inner c e h k d l = subst (All P) e h (suc k) d (omega arith)
