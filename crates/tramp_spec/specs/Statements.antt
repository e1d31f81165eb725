-- The tool's code of statements: what each does to the slots of its variables, as words of a mini block's body. It uses x5 and
-- x31 alone. A counter has one slot; a timer has its sum in slot s and its number of starts in slot s + 1.
use Rattle.std.specs.Prelude.{ℕ, ◌+◌, ◌-◌, ◌*◌, ◌^◌, List, [], ◌∷◌, ◌++◌, length, slice_index}
use Rattle.pn_types.specs.declared.compare.Cmp.{Cmp}
use Rattle.pn_types.specs.declared.compare.Cmp.TheVariants.{Eq, Ne, Lt, Le, Gt, Ge}
use Rattle.pn_types.specs.declared.plan.Act.{Act}
use Rattle.pn_types.specs.declared.plan.Act.TheVariants.{Up, Down, Put, Start, Stop}
use Rattle.pn_types.specs.declared.plan.Cond.{Cond}
use Rattle.pn_types.specs.declared.plan.Left.{Left}
use Rattle.pn_types.specs.declared.plan.Left.TheVariants.{Counter, Argument}
use Rattle.pn_types.specs.declared.plan.Stmt.{Stmt}
use Rattle.rv_word.specs.declared.instr.Instr.{Instr}
use Rattle.rv_word.specs.declared.instr.Instr.TheVariants.{Lui, Load, Store, OpImm, Op, Branch}
use Rattle.rv_word.specs.declared.instr.LoadOp.TheVariants.{Ld}
use Rattle.rv_word.specs.declared.instr.StoreOp.TheVariants.{Sd}
use Rattle.rv_word.specs.declared.instr.ImmOp.TheVariants.{Addi}
use Rattle.rv_word.specs.declared.instr.RegOp.TheVariants.{Add, Sub}
use Rattle.rv_word.specs.declared.instr.BranchOp.TheVariants.{Beq, Bne, Bltu, Bgeu}
use Rattle.tramp_spec.specs.Jumps.{rounded, lower, put_number}
use Rattle.tramp_spec.specs.MovedWords.{tools}
use Rattle.tramp_spec.specs.declared.mark.MarkedWord.{MarkedWord}

abbrev pub minus_one : ℕ
minus_one = 2 ^ 64 - 1

-- the byte address of slot s, in two parts
abbrev pub high_part : ℕ → ℕ
high_part s = rounded (8 * s)

abbrev pub low_part : ℕ → ℕ
low_part s = lower (8 * s)

-- slot s into x5, with the high part of its address in x31; and x5 into a slot whose high part is there
abbrev pub load_slot : ℕ → List Instr
load_slot s = Lui 31 (high_part s) ∷ Load Ld 5 31 (low_part s) ∷ []

abbrev pub keep_slot : ℕ → Instr
keep_slot s = Store Sd 31 5 (low_part s)

-- ---- acts

-- c++
abbrev pub up_code : ℕ → List Instr
up_code s = load_slot s ++ OpImm Addi 5 5 1 ∷ keep_slot s ∷ []

-- c--, which passes over the rest where the counter is 0
abbrev pub down_code : ℕ → List Instr
down_code s = load_slot s ++ Branch Beq 5 0 12 ∷ OpImm Addi 5 5 minus_one ∷ keep_slot s ∷ []

-- c = n
abbrev pub put_code : ℕ → ℕ → List Instr
put_code s n = put_number 5 n ++ Lui 31 (high_part s) ∷ keep_slot s ∷ []

-- the ticks are added to a timer's sum, or taken from it
abbrev pub clock_code : Instr → ℕ → List Instr
clock_code i s = Lui 31 (high_part s) ∷ Load Ld 31 31 (low_part s) ∷ Load Ld 5 0 0 ∷ i ∷ Lui 31 (high_part s) ∷ keep_slot s ∷ []

-- start: one start more; where there was none, the ticks are taken from the sum
abbrev pub start_code : ℕ → List Instr
start_code s =
    load_slot (s + 1) ++ OpImm Addi 5 5 1 ∷ keep_slot (s + 1) ∷ OpImm Addi 5 5 minus_one ∷ Branch Bne 5 0 28 ∷ clock_code (Op Sub 5 31 5) s

-- stop: one start less, where there is one; where none is left, the ticks are added to the sum
abbrev pub stop_code : ℕ → List Instr
stop_code s =
    load_slot (s + 1) ++ Branch Beq 5 0 40 ∷ OpImm Addi 5 5 minus_one ∷ keep_slot (s + 1) ∷ Branch Bne 5 0 28 ∷ clock_code (Op Add 5 31 5) s

-- the first slot of a variable
abbrev pub slot_of : List ℕ → ℕ → ℕ
slot_of slots v = slice_index slots v

abbrev pub act_code : List ℕ → Act → List Instr
act_code slots (Up v) = up_code (slot_of slots v)
act_code slots (Down v) = down_code (slot_of slots v)
act_code slots (Put v n) = put_code (slot_of slots v) n
act_code slots (Start v) = start_code (slot_of slots v)
act_code slots (Stop v) = stop_code (slot_of slots v)

-- ---- conditions

-- the branch over what follows, where the comparison of register r with x31 fails
abbrev pub unless : Cmp → ℕ → ℕ → Instr
unless Eq r over = Branch Bne r 31 over
unless Ne r over = Branch Beq r 31 over
unless Lt r over = Branch Bgeu r 31 over
unless Ge r over = Branch Bltu r 31 over
unless Gt r over = Branch Bgeu 31 r over
unless Le r over = Branch Bltu 31 r over

-- the number into x31, and the branch over the rest
abbrev pub compared : Cmp → ℕ → ℕ → List Instr → List Instr
compared cmp r n rest = put_number 31 n ++ unless cmp r (4 * (length rest + 1)) ∷ rest

abbrev pub guarded : List ℕ → Left → Cmp → ℕ → List Instr → List Instr
guarded slots (Counter v) cmp n rest = load_slot (slot_of slots v) ++ compared cmp 5 n rest
guarded slots (Argument a) cmp n rest = compared cmp (10 + a) n rest

-- under all these conditions, the first outermost
abbrev pub under : List ℕ → List Cond → List Instr → List Instr
under slots [] rest = rest
under slots (c ∷ cs) rest = guarded slots c.left c.cmp c.right (under slots cs rest)

-- ---- statements

abbrev pub code_of : List ℕ → List Stmt → List Instr
code_of slots [] = []
code_of slots (s ∷ ss) = under slots s.conds (act_code slots s.act) ++ code_of slots ss

-- The body of a mini block for statements on these slots, one number for each variable.
unfoldable pub body_of : List ℕ → List Stmt → List MarkedWord
body_of slots stmts = tools (code_of slots stmts)
