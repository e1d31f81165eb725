-- What the tool's code of statements leaves in the bank, in the machine's own numbers.
use Rattle.std.proofs.Common.{ℕ, ◌+◌, ◌-◌, ◌^◌, List, [], ◌∷◌}
use Rattle.std.specs.Prelude.{slice_get, slice_index, slice_set, ◌==◌, if◌then◌else◌, Bool, Option, Some}
use Rattle.pn_types.specs.declared.plan.Act.{Act}
use Rattle.pn_types.specs.declared.plan.Act.TheVariants.{Up, Down, Put, Start, Stop}
use Rattle.pn_types.specs.declared.plan.Cond.{Cond}
use Rattle.pn_types.specs.declared.plan.Left.{Left}
use Rattle.pn_types.specs.declared.plan.Left.TheVariants.{Counter, Argument}
use Rattle.pn_types.specs.declared.plan.Stmt.{Stmt}
use Rattle.rv_word.specs.Values.{wrap}
use Rattle.tramp_spec.specs.Routes.{Effect}
use Rattle.tramp_spec.specs.Statements.{minus_one, slot_of}
use Rattle.tramp_spec.specs.Values.{meets}
use Rattle.prim_code.specs.Named.{changed_variable}

-- the acts on slot s
abbrev pub up_bank : ℕ → Effect
up_bank s ticks arguments k = slice_set k s (wrap (slice_index k s + 1))

abbrev pub down_bank : ℕ → Effect
down_bank s ticks arguments k = if slice_index k s == 0 then k else slice_set k s (wrap (slice_index k s + minus_one))

abbrev pub put_bank : ℕ → ℕ → Effect
put_bank s n ticks arguments k = slice_set k s n

-- a timer's number of starts, and then the sum
abbrev pub starts_set : ℕ → List ℕ → ℕ → List ℕ
starts_set s k n = slice_set k (s + 1) n

abbrev pub sum_set : ℕ → List ℕ → ℕ → List ℕ
sum_set s k more = slice_set k s (wrap (slice_index k s + more))

abbrev pub start_bank : ℕ → Effect
start_bank s ticks arguments k =
    if wrap (wrap (slice_index k (s + 1) + 1) + minus_one) == 0 then sum_set s (starts_set s k (wrap (slice_index k (s + 1) + 1))) (2 ^ 64 - ticks)
    else starts_set s k (wrap (slice_index k (s + 1) + 1))

abbrev pub stop_bank : ℕ → Effect
stop_bank s ticks arguments k =
    if slice_index k (s + 1) == 0 then k
    else if wrap (slice_index k (s + 1) + minus_one) == 0 then sum_set s (starts_set s k (wrap (slice_index k (s + 1) + minus_one))) ticks
    else starts_set s k (wrap (slice_index k (s + 1) + minus_one))

-- an act on the first slot of its variable
abbrev pub bank_on : Act → ℕ → Effect
bank_on (Up v) s = up_bank s
bank_on (Down v) s = down_bank s
bank_on (Put v n) s = put_bank s n
bank_on (Start v) s = start_bank s
bank_on (Stop v) s = stop_bank s

abbrev pub act_bank : List ℕ → Act → Effect
act_bank slots a = bank_on a (slot_of slots (changed_variable a))

-- conditions
abbrev pub left_in : List ℕ → Left → List ℕ → List ℕ → Option ℕ
left_in slots (Counter v) arguments k = Some (slice_index k (slot_of slots v))
left_in slots (Argument a) arguments k = slice_get arguments a

abbrev pub met : List ℕ → Cond → List ℕ → List ℕ → Bool
met slots c arguments k = meets c.cmp c.right (left_in slots c.left arguments k)

abbrev pub guard_bank : List ℕ → Cond → Effect → Effect
guard_bank slots c f ticks arguments k = if met slots c arguments k then f ticks arguments k else k

abbrev pub under_bank : List ℕ → List Cond → Effect → Effect
under_bank slots [] f ticks arguments k = f ticks arguments k
under_bank slots (c ∷ cs) f ticks arguments k = guard_bank slots c (under_bank slots cs f) ticks arguments k

abbrev pub stmts_bank : List ℕ → List Stmt → Effect
stmts_bank slots [] ticks arguments k = k
stmts_bank slots (s ∷ ss) ticks arguments k = stmts_bank slots ss ticks arguments (under_bank slots s.conds (act_bank slots s.act) ticks arguments k)
