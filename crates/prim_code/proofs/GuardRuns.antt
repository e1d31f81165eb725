-- The runs of conditions, of statements and of lists of statements.
use Rattle.std.proofs.Common.{◌≡◌, ℕ, zero, suc, ◌+◌, ◌*◌, ◌^◌, ◌<◌, ◌≤◌, Bool, true, false, List, [], ◌∷◌, ◌++◌, length, Some, refl, sym, ap, ◌∙◌, subst, arith, ⊎_elim}
use Rattle.std.specs.Prelude.{slice_get, slice_index, sum_by, nat_lt, nat_le, ◌==◌, not, if◌then◌else◌}
use Rattle.std.specs.List.{AllByRecursion}
use Rattle.std.proofs.lemmas.Bool.{cond-true, cond-false, cases_Bool}
use Rattle.std.proofs.lemmas.Grind.{common_steps}
use Rattle.std.proofs.lemmas.List.{map-append}
use Rattle.std.proofs.lemmas.List.Sums.{sum_by-cons}
use Rattle.rv_word.specs.Exec.{action, asked}
use Rattle.rv_word.specs.Registers.{reg, arguments_of}
use Rattle.rv_word.specs.Table.{decode_of}
use Rattle.rv_word.specs.Values.{wrap}
use Rattle.rv_word.specs.Words.{word_of, IsJump}
use Rattle.rv_word.specs.declared.action.Action.TheVariants.{BranchTo}
use Rattle.rv_word.specs.declared.instr.Instr.{Instr}
use Rattle.pn_types.specs.declared.compare.Cmp.{Cmp}
use Rattle.pn_types.specs.declared.compare.Cmp.TheVariants.{Eq, Ne, Lt, Le, Gt, Ge}
use Rattle.pn_types.specs.declared.plan.Cond.{Cond}
use Rattle.pn_types.specs.declared.plan.Left.{Left}
use Rattle.pn_types.specs.declared.plan.Left.TheVariants.{Counter, Argument}
use Rattle.pn_types.specs.declared.plan.Stmt.{Stmt}
use Rattle.tramp_spec.specs.Banks.{bank_len}
use Rattle.tramp_spec.specs.Bodies.{Stands}
use Rattle.tramp_spec.specs.Jumps.{put_number}
use Rattle.tramp_spec.specs.Marks.{tool}
use Rattle.tramp_spec.specs.MovedWords.{tools}
use Rattle.tramp_spec.specs.Routes.{Route, Effect, BodyDoes}
use Rattle.tramp_spec.specs.Statements.{load_slot, slot_of, act_code, unless, guarded, under, code_of}
use Rattle.tramp_spec.specs.Steps.{Bench}
use Rattle.tramp_spec.specs.Values.{compares, meets}
use Rattle.tramp_spec.specs.declared.mark.MarkedWord.{MarkedWord}
use Rattle.tramp_spec.proofs.Encodings.{beq_reads, bgeu_reads}
use Rattle.tramp_spec.proofs.Routes.{none, keeps, goes_on, does_both}
use Rattle.prim_code.specs.Counts.{left_words, cond_words, stmt_words}
use Rattle.prim_code.proofs.ActRuns.{IsInBank, act_does}
use Rattle.prim_code.proofs.Effects.{guard_bank, under_bank, act_bank, stmts_bank}
use Rattle.prim_code.proofs.Lengths.{length_act, length_under, length_tools}
use Rattle.prim_code.proofs.Reaching.{Reach, Here, begins, high_up, upper_up, lower_up, load_five, taken, passed}
use Rattle.prim_code.proofs.WordsRead.{bne_reads, bltu_reads, over_fits}

twice : (b : Bool) → b ≡ not (not b)
twice true = refl
twice false = refl

lt_is : (a b : ℕ) → nat_lt a b ≡ not (nat_le b a)
lt_is a b = grind (arith, common_steps)

-- the branch is taken where the comparison fails
asks_unless : (c : Cmp) (r over pc : ℕ) (regs : List ℕ) → asked (unless c r over) pc regs ≡ BranchTo (not (compares c (reg regs r) (reg regs 31))) (wrap (pc + over))
unfolding action
asks_unless Eq r over pc regs = refl
asks_unless Ne r over pc regs = ap (λ b. BranchTo b (wrap (pc + over))) (twice (reg regs r == reg regs 31))
asks_unless Lt r over pc regs = refl
asks_unless Le r over pc regs = ap (λ b. BranchTo b (wrap (pc + over))) (lt_is (reg regs 31) (reg regs r))
asks_unless Gt r over pc regs = refl
asks_unless Ge r over pc regs = ap (λ b. BranchTo b (wrap (pc + over))) (lt_is (reg regs r) (reg regs 31))

unless_reads : (c : Cmp) (r over : ℕ) → r < 32 → IsJump 13 over → decode_of (word_of (unless c r over)) ≡ Some (unless c r over)
unless_reads Eq r over l j = bne_reads r 31 over l (omega arith) j
unless_reads Ne r over l j = beq_reads r 31 over l (omega arith) j
unless_reads Lt r over l j = bgeu_reads r 31 over l (omega arith) j
unless_reads Le r over l j = bltu_reads 31 r over (omega arith) l j
unless_reads Gt r over l j = bgeu_reads 31 r over (omega arith) l j
unless_reads Ge r over l j = bltu_reads r 31 over l (omega arith) j

argument_is : (regs : List ℕ) (a : ℕ) → a < 8 → slice_get (arguments_of regs) a ≡ Some (reg regs (10 + a))
argument_is regs zero l = refl
argument_is regs (suc zero) l = refl
argument_is regs (suc (suc zero)) l = refl
argument_is regs (suc (suc (suc zero))) l = refl
argument_is regs (suc (suc (suc (suc zero)))) l = refl
argument_is regs (suc (suc (suc (suc (suc zero))))) l = refl
argument_is regs (suc (suc (suc (suc (suc (suc zero)))))) l = refl
argument_is regs (suc (suc (suc (suc (suc (suc (suc zero))))))) l = refl
argument_is regs (suc (suc (suc (suc (suc (suc (suc (suc a)))))))) l = absurd (omega arith)

-- after the words of a guard, of which the last, word i, is the branch over the m words of the rest
module _ (pre rest : List MarkedWord) (m : ℕ) (many : length rest ≡ m) (near : m + 1 < 1024) (f : Effect) (does : BodyDoes rest f) (at ticks : ℕ) (x : Bench) (st : Stands (pre ++ rest) at x) where
  branches : (i a b : ℕ) (c : Cmp) (rd v n : ℕ) (r : Reach (pre ++ rest) at ticks x st i a b x.bank) → rd < 32 → length pre ≡ i + 1 → length (pre ++ rest) ≡ i + (m + 1)
      → slice_get (pre ++ rest) i ≡ Some (tool (word_of (unless c rd (4 * (m + 1))))) → reg (r.x).regs rd ≡ v → reg (r.x).regs 31 ≡ n
      → (y : Bench) × Route (pre ++ rest) at ticks 0 (length (pre ++ rest)) x y × (y.bank ≡ (if compares c v n then f ticks (arguments_of x.regs) x.bank else x.bank))
  branches i a b c rd v n r low len all e ev en =
      ⊎_elim
      (λ (z : compares c v n ≡ true).
      let p = passed (pre ++ rest) at ticks x st i a b (wrap (at + 4 * i + 4 * (m + 1))) x.bank r (unless c rd (4 * (m + 1))) here (asks true z) in
      let q = goes_on pre rest f does at ticks x p.x st (subst (λ m. Route (pre ++ rest) at ticks 0 m x p.x) (sym len) p.way) in
      (q.0, q.1, q.2 ∙ (ap (f ticks (arguments_of x.regs)) p.bank_is ∙ sym (cond-true (compares c v n) _ x.bank z))))
      (λ (z : compares c v n ≡ false).
      let p = taken (pre ++ rest) at ticks x st i (length (pre ++ rest)) a b (4 * (m + 1)) (wrap (at + 4 * i + 4 * (m + 1))) x.bank r (unless c rd (4 * (m + 1))) here (asks false z)
      refl (omega arith) (omega arith) (omega arith) in
      (p.x, p.way, p.bank_is ∙ sym (cond-false (compares c v n) (f ticks (arguments_of x.regs) x.bank) x.bank z)))
      (cases_Bool (compares c v n))
    where
      here : Here (pre ++ rest) at ticks x st i (unless c rd (4 * (m + 1)))
      here = record { word = e; reads = unless_reads c rd (4 * (m + 1)) low (over_fits (m + 1) near) }

      asks : (t : Bool) → compares c v n ≡ t → asked (unless c rd (4 * (m + 1))) (at + 4 * i) (r.x).regs ≡ BranchTo (not t) (wrap (at + 4 * i + 4 * (m + 1)))
      asks t z =
          asks_unless c rd (4 * (m + 1)) (at + 4 * i) (r.x).regs
          ∙ ap (λ u. BranchTo (not u) (wrap (at + 4 * i + 4 * (m + 1)))) (ap (λ u. compares c u (reg (r.x).regs 31)) ev ∙ (ap (λ u. compares c v u) en ∙ z))

-- the slot of a condition is one, and its number can be put into a register
abbrev pub IsLeftInBank : List ℕ → Left → Type 0
IsLeftInBank slots (Counter v) = (2 ≤ slot_of slots v) × (slot_of slots v < bank_len)
IsLeftInBank slots (Argument a) = a < 8

abbrev pub IsCondInBank : List ℕ → Cond → Type 0
IsCondInBank slots c = IsLeftInBank slots c.left × (c.right < 2 ^ 31)

guard_by : (slots : List ℕ) (l : Left) (c : Cmp) (n : ℕ) (rest : List Instr) (f : Effect) → IsLeftInBank slots l → n < 2 ^ 31 → length rest + 1 < 1024 → BodyDoes (tools rest) f
    → BodyDoes (tools (guarded slots l c n rest)) (guard_bank slots (record { left = l; cmp = c; right = n }) f)
guard_by slots (Counter v) c n rest f h k near d at ticks x st =
    let s = slot_of slots v in
    let pre = tools (load_slot s ++ put_number 31 n ++ unless c 5 (4 * (length rest + 1)) ∷ []) in
    let body = tools (guarded slots (Counter v) c n rest) in
    let many = length_tools rest in
    let r0 = begins body at ticks x st in
    let r1 = high_up body at ticks x st _ _ _ s _ r0 refl h.1 in
    let r2 = load_five body at ticks x st _ _ s _ r1 refl h.0 h.1 in
    let r3 = upper_up body at ticks x st _ _ _ n _ r2 refl in
    let r4 = lower_up body at ticks x st _ _ n _ r3 refl k in
    branches pre (tools rest) (length rest) many near f d at ticks x st 4 _ _ c 5 (slice_index x.bank s) n r4 (omega arith) refl (omega arith) refl r4.five_is r4.up_is
guard_by slots (Argument a) c n rest f h k near d at ticks x st =
    let pre = tools (put_number 31 n ++ unless c (10 + a) (4 * (length rest + 1)) ∷ []) in
    let body = tools (guarded slots (Argument a) c n rest) in
    let many = length_tools rest in
    let r0 = begins body at ticks x st in
    let r1 = upper_up body at ticks x st _ _ _ n _ r0 refl in
    let r2 = lower_up body at ticks x st _ _ n _ r1 refl k in
    let stays = (keeps body at ticks 0 2 x r2.x r2.way).regs (10 + a) (λ e. omega arith) (λ e. omega arith) in
    let q = branches pre (tools rest) (length rest) many near f d at ticks x st 2 _ _ c (10 + a) (reg x.regs (10 + a)) n r2 (omega arith) refl (omega arith) refl stays r2.up_is in
    (q.0, q.1, q.2 ∙ ap (λ o. if meets c n o then f ticks (arguments_of x.regs) x.bank else x.bank) (sym (argument_is x.regs a h)))

some_words : (l : Left) → 1 ≤ left_words l
some_words (Counter v) = omega arith
some_words (Argument a) = omega arith

pub under_does : (slots : List ℕ) (cs : List Cond) (rest : List Instr) (f : Effect) → AllByRecursion (IsCondInBank slots) cs → sum_by cond_words cs + length rest < 1024 → BodyDoes (tools rest) f
    → BodyDoes (tools (under slots cs rest)) (under_bank slots cs f)
under_does slots [] rest f h near d = d
under_does slots (c ∷ cs) rest f h near d =
    let n = sum_by-cons cond_words c cs in
    let l = length_under slots cs rest in
    let few = some_words c.left in
    guard_by slots c.left c.cmp c.right (under slots cs rest) (under_bank slots cs f) (h.0).0 (h.0).1 (omega arith) (under_does slots cs rest f h.1 (omega arith) d)

-- a statement is short, and its slots are some
pub record IsStmtInBank (slots : List ℕ) (s : Stmt) : Type 0 where
  pub short : stmt_words s < 1024
  pub conds : AllByRecursion (IsCondInBank slots) s.conds
  pub act : IsInBank slots s.act

stmt_does : (slots : List ℕ) (s : Stmt) → IsStmtInBank slots s → BodyDoes (tools (under slots s.conds (act_code slots s.act))) (under_bank slots s.conds (act_bank slots s.act))
stmt_does slots s h =
    let l = length_act slots s.act in
    let n = h.short in under_does slots s.conds (act_code slots s.act) (act_bank slots s.act) h.conds (omega arith) (act_does slots s.act h.act)

pub code_does : (slots : List ℕ) (stmts : List Stmt) → AllByRecursion (IsStmtInBank slots) stmts → BodyDoes (tools (code_of slots stmts)) (stmts_bank slots stmts)
code_does slots [] h = λ at ticks x st. (x, none [] at ticks 0 x, refl)
code_does slots (s ∷ ss) h =
    subst (λ b. BodyDoes b (stmts_bank slots (s ∷ ss))) (sym (map-append (λ i. tool (word_of i)) (under slots s.conds (act_code slots s.act)) (code_of slots ss)))
    (does_both (tools (under slots s.conds (act_code slots s.act))) (tools (code_of slots ss)) (under_bank slots s.conds (act_bank slots s.act)) (stmts_bank slots ss)
    (stmt_does slots s h.0) (code_does slots ss h.1))
