-- What holds of walks and openings, for the law functions of this crate.
use Rattle.std.specs.Prelude.{◌≡◌, ℕ, ◌+◌, ◌^◌, ◌<◌, ◌≤◌, Bool, true, false, Option, None, List, [], length}
use Rattle.std.specs.List.{AllByRecursion, list_any}
use Rattle.pn_types.specs.declared.plan.Cond.{Cond}
use Rattle.pn_types.specs.declared.plan.Left.{Left}
use Rattle.pn_types.specs.declared.plan.Left.TheVariants.{Counter, Argument}
use Rattle.pn_types.specs.declared.plan.Stmt.{Stmt}
use Rattle.pn_types.specs.declared.plan.Var.{Var}
use Rattle.rv_word.specs.declared.outcome.Cause.{Cause}
use Rattle.rv_word.specs.Memory.{Memory}
use Rattle.rv_word.specs.Registers.{reg}
use Rattle.tramp_spec.specs.Slots.{initials}
use Rattle.tramp_spec.specs.Values.{values_behind}
use Rattle.pn_types.specs.declared.plan.Open.{Open}
use Rattle.frame_walk.specs.declared.walk_start.WalkStart.{WalkStart}
use Rattle.frame_walk.specs.Walks.{Walk, walk_from, start_of, addresses}
use Rattle.frame_walk.specs.Openings.{opening}
use Rattle.frame_walk.specs.Rooms.{IsSmall, HasRoom}

-- A walk has at most 66 addresses.
abbrev pub WalksEnd : Type 0
WalksEnd = (m : Memory) (start : Option WalkStart) → length (addresses (walk_from m start)) ≤ 66

-- Two harts stopped for the same cause start the same walk, and so do two that aren't stopped and have the same pc, x1 and x8.
abbrev pub SameStarts : Type 0
SameStarts =
    (stop stop' : Option Cause) (pc pc' : ℕ) (regs regs' : List ℕ) → stop ≡ stop'
    → (stop ≡ None → (pc ≡ pc') × (reg regs 1 ≡ reg regs' 1) × (reg regs 8 ≡ reg regs' 8))
    → start_of stop pc regs ≡ start_of stop' pc' regs'

-- a condition on an argument
abbrev pub is_argument : Left → Bool
is_argument (Counter v) = false
is_argument (Argument a) = true

-- At an opening a statement with a condition on an argument doesn't act.
abbrev pub ArgumentsWait : Type 0
ArgumentsWait =
    (s : Stmt) (values : List ℕ) → list_any (λ (c : Cond). is_argument c.left) s.conds ≡ true → values_behind s [] values ≡ values

-- Without Opens the variables begin as they are initially.
abbrev pub ColdBegins : Type 0
ColdBegins = (w : Option Walk) (vars : List Var) → opening [] w vars ≡ initials vars

-- Values of variables that are far below the end of their range: each plus n is below 2^63 for n below 2^61, and below 2^64 for n
-- below 2^63.
pub record AreLow (vars : List Var) (values : List ℕ) : Type 0 where
  pub many : length values ≡ length vars
  pub low : AllByRecursion (λ v. v < 2 ^ 33) values
  pub room : (n : ℕ) → n < 2 ^ 61 → HasRoom n values
  pub spare : (n : ℕ) → n < 2 ^ 63 → AllByRecursion (λ v. v + n < 2 ^ 64) values

-- Opening values are such.
abbrev pub OpensLow : Type 0
OpensLow =
    (opens : List Open) (m : Memory) (start : Option WalkStart) (vars : List Var)
    → AllByRecursion IsSmall opens → AllByRecursion (λ v. v.initially < 2 ^ 32) vars → AreLow vars (opening opens (walk_from m start) vars)
