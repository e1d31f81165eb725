-- What the tool's code of statements does, for the law functions of this crate.
use Rattle.std.specs.Prelude.{◌≡◌, ℕ, ◌+◌, ◌*◌, ◌^◌, ◌<◌, ◌≤◌, List, length, slice_index}
use Rattle.pn_types.specs.declared.plan.Stmt.{Stmt}
use Rattle.pn_types.specs.declared.plan.Var.{Var}
use Rattle.rv_word.specs.Registers.{arguments_of}
use Rattle.tramp_spec.specs.Bodies.{Keeps, Harmless, Stands, bank_at_end}
use Rattle.tramp_spec.specs.Routes.{Route}
use Rattle.tramp_spec.specs.Slots.{places, ArePlaces, IsSlotOf}
use Rattle.tramp_spec.specs.Statements.{body_of}
use Rattle.tramp_spec.specs.Steps.{Bench}
use Rattle.tramp_spec.specs.Values.{values_after}
use Rattle.prim_code.specs.Counts.{word_count}
use Rattle.prim_code.specs.Fitting.{AreStmtsOf}
use Rattle.prim_code.specs.Named.{AreBelow}
use Rattle.prim_code.specs.Standing.{StandFor, SameReadings}

-- The body of statements on the slots of a plan's variables.
pub record DoesStatements (slots : List ℕ) (vars : List Var) (stmts : List Stmt) : Type 0 where
  -- it stops no hart, and reads and writes the bank alone
  pub harmless : Harmless (body_of slots stmts)
  -- a run comes to its end, with all registers but x5 and x31 as they were
  pub ends : (at ticks : ℕ) (x : Bench) → Stands (body_of slots stmts) at x
      → (y : Bench) × Route (body_of slots stmts) at ticks 0 (length (body_of slots stmts)) x y × Keeps x y
      × (y.bank ≡ bank_at_end (body_of slots stmts) at x ticks)
  -- slots that stand for values stand for those after the statements; each statement may take a start of those to spare
  pub values : (at ticks spare : ℕ) (x : Bench) (values : List ℕ) → Stands (body_of slots stmts) at x → ticks < 2 ^ 64
      → length values ≡ length vars
      → StandFor (places slots vars) (length stmts + spare) values x.bank
      → StandFor (places slots vars) spare (values_after stmts (arguments_of x.regs) values) (bank_at_end (body_of slots stmts) at x ticks)
      × SameReadings (places slots vars) ticks x.bank (bank_at_end (body_of slots stmts) at x ticks)
  -- no other doubleword changes
  pub others : (at ticks q : ℕ) (x : Bench) → Stands (body_of slots stmts) at x → (IsSlotOf (places slots vars) q → ⊥)
      → slice_index (bank_at_end (body_of slots stmts) at x ticks) q ≡ slice_index x.bank q

-- So it is for all statements that fit the variables, where no two variables share a slot.
abbrev pub StatementsWork : Type 0
StatementsWork =
    (slots : List ℕ) (vars : List Var) (stmts : List Stmt) → length slots ≡ length vars → ArePlaces (places slots vars)
    → AreStmtsOf vars stmts
    → DoesStatements slots vars stmts

-- Statements that fit a plan's variables can be compiled, and each of them has fewer than 1,024 words.
abbrev pub StatementsCompile : Type 0
StatementsCompile =
    (vars : List Var) (stmts : List Stmt) → AreStmtsOf vars stmts → AreBelow (length vars) stmts × (word_count stmts ≤ 1023 * length stmts)
