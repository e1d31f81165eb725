-- The code of statements has as many words as are counted.
use Rattle.std.proofs.Common.{◌≡◌, ℕ, ◌+◌, List, [], ◌∷◌, length, refl, ap, sym, ◌∙◌, arith, add_assoc, length-append}
use Rattle.std.specs.Prelude.{sum_by}
use Rattle.std.proofs.lemmas.List.{length-map}
use Rattle.std.proofs.lemmas.List.Sums.{sum_by-cons}
use Rattle.pn_types.specs.declared.plan.Act.{Act}
use Rattle.pn_types.specs.declared.plan.Act.TheVariants.{Up, Down, Put, Start, Stop}
use Rattle.pn_types.specs.declared.plan.Cond.{Cond}
use Rattle.pn_types.specs.declared.plan.Left.{Left}
use Rattle.pn_types.specs.declared.plan.Left.TheVariants.{Counter, Argument}
use Rattle.pn_types.specs.declared.plan.Stmt.{Stmt}
use Rattle.pn_types.specs.declared.compare.Cmp.{Cmp}
use Rattle.rv_word.specs.declared.instr.Instr.{Instr}
use Rattle.rv_word.specs.Words.{word_of}
use Rattle.tramp_spec.specs.Marks.{tool}
use Rattle.tramp_spec.specs.MovedWords.{tools}
use Rattle.tramp_spec.specs.Statements.{act_code, guarded, under, code_of, body_of}
use Rattle.prim_code.specs.Counts.{act_words, left_words, cond_words, stmt_words, word_count}

pub length_act : (slots : List ℕ) (a : Act) → length (act_code slots a) ≡ act_words a
length_act slots (Up v) = refl
length_act slots (Down v) = refl
length_act slots (Put v n) = refl
length_act slots (Start v) = refl
length_act slots (Stop v) = refl

length_guarded : (slots : List ℕ) (l : Left) (cmp : Cmp) (n : ℕ) (rest : List Instr) → length (guarded slots l cmp n rest) ≡ left_words l + length rest
length_guarded slots (Counter v) cmp n rest = omega arith
length_guarded slots (Argument a) cmp n rest = omega arith

pub length_under : (slots : List ℕ) (cs : List Cond) (rest : List Instr) → length (under slots cs rest) ≡ sum_by cond_words cs + length rest
length_under slots [] rest = omega arith
length_under slots (c ∷ cs) rest =
    length_guarded slots c.left c.cmp c.right (under slots cs rest)
    ∙ (ap (λ n. cond_words c + n) (length_under slots cs rest)
    ∙ (sym (add_assoc (cond_words c) (sum_by cond_words cs) (length rest)) ∙ ap (λ n. n + length rest) (sym (sum_by-cons cond_words c cs))))

pub length_stmt : (slots : List ℕ) (s : Stmt) → length (under slots s.conds (act_code slots s.act)) ≡ stmt_words s
length_stmt slots s = length_under slots s.conds (act_code slots s.act) ∙ ap (λ n. sum_by cond_words s.conds + n) (length_act slots s.act)

length_code : (slots : List ℕ) (stmts : List Stmt) → length (code_of slots stmts) ≡ word_count stmts
length_code slots [] = refl
length_code slots (s ∷ ss) =
    length-append (under slots s.conds (act_code slots s.act)) (code_of slots ss)
    ∙ (ap (λ n. n + length (code_of slots ss)) (length_stmt slots s) ∙ (ap (λ n. stmt_words s + n) (length_code slots ss) ∙ sym (sum_by-cons stmt_words s ss)))

pub length_tools : (is : List Instr) → length (tools is) ≡ length is
length_tools is = length-map is (λ i. tool (word_of i))

pub length_body : (slots : List ℕ) (stmts : List Stmt) → length (body_of slots stmts) ≡ word_count stmts
unfolding body_of
length_body slots stmts = length_tools (code_of slots stmts) ∙ length_code slots stmts
