-- What a hart's bank tells of the values of a plan's variables.
use Rattle.std.proofs.Common.{◌≡◌, ℕ, ◌+◌, ◌-◌, ◌*◌, ◌%◌, ◌^◌, ◌<◌, ◌≤◌, Bool, true, false, List, [], ◌∷◌, length, Some, refl, ap, ◌∙◌, arith}
use Rattle.std.specs.Prelude.{slice_get, slice_index, ◌==◌, if◌then◌else◌}
use Rattle.std.proofs.lemmas.List.{length-set}
use Rattle.pn_types.specs.declared.placed.Placed.{Placed}
use Rattle.pn_types.specs.declared.plan.Act.{Act}
use Rattle.pn_types.specs.declared.plan.Act.TheVariants.{Up, Down, Put, Start, Stop}
use Rattle.pn_types.specs.declared.plan.Stmt.{Stmt}
use Rattle.rv_word.specs.Registers.{arguments_of}
use Rattle.tramp_spec.specs.Bodies.{Stands, bank_at_end}
use Rattle.tramp_spec.specs.Slots.{VariableSlot, places_of, ArePlaces, read_place}
use Rattle.tramp_spec.specs.Statements.{body_of}
use Rattle.tramp_spec.specs.Steps.{Bench}
use Rattle.tramp_spec.specs.Values.{values_after_act, values_behind, values_after, all_hold}
use Rattle.prim_code.specs.Fitting.{AreStmtsOf}
use Rattle.prim_code.specs.Standing.{HasValue, StandFor, SameSlots, one_if}
use Rattle.prim_code.proofs.Keeping.{standing_kept}
use Rattle.prim_code.proofs.Whole.{statements_work}
use Rattle.machine.specs.Measures.{Level, counted}

-- the slots stand for the values, with this many starts to spare, and where the first variable is a timer it reads its runs
pub record Tells (ps : List VariableSlot) (many spare : ℕ) (v : Level) (bank : List ℕ) (ticks : ℕ) : Type 0 where
  pub size : length v.values ≡ many
  pub slots : StandFor ps spare v.values bank
  pub runs : (p : VariableSlot) → slice_get ps 0 ≡ Some p → p.timer ≡ true → read_place true p.slot ticks bank ≡ v.runs % 2 ^ 64

-- the starts that the statements of this many ticks can make
abbrev pub starts : ℕ → ℕ
starts ticks = 32 * ticks

-- before the statements of a position
abbrev pub Stand : Placed → ℕ → Level → List ℕ → ℕ → Type 0
Stand i budget v bank ticks = Tells (places_of i) (length i.vars) (starts (budget - ticks)) v bank ticks

-- after them, before its tick
abbrev pub Stood : Placed → ℕ → Level → List ℕ → ℕ → Type 0
Stood i budget v bank ticks = Tells (places_of i) (length i.vars) (starts (budget - (ticks + 1))) v bank ticks

-- after statements
abbrev pub behind : List Stmt → List ℕ → Level → Level
behind stmts arguments v = record { values = values_after stmts arguments v.values; runs = v.runs }

length_acted : (a : Act) (values : List ℕ) → length (values_after_act a values) ≡ length values
length_acted (Up v) values = length-set values v _
length_acted (Down v) values = length-set values v _
length_acted (Put v n) values = length-set values v n
length_acted (Start v) values = length-set values v _
length_acted (Stop v) values = length-set values v _

length_if : (b : Bool) (xs ys : List ℕ) → length xs ≡ length ys → length (if b then xs else ys) ≡ length ys
length_if true xs ys e = e
length_if false xs ys e = refl

length_after : (stmts : List Stmt) (arguments values : List ℕ) → length (values_after stmts arguments values) ≡ length values
length_after [] arguments values = refl
length_after (s ∷ ss) arguments values =
    length_after ss arguments (values_behind s arguments values) ∙ length_if (all_hold s.conds arguments values) (values_after_act s.act values) values (length_acted s.act values)

-- ---- what keeps it

pub fewer : (ps : List VariableSlot) (many spare less : ℕ) (v : Level) (bank : List ℕ) (ticks : ℕ) → less ≤ spare → Tells ps many spare v bank ticks → Tells ps many less v bank ticks
fewer ps many spare less v bank ticks l k = record { size = k.size; slots = standing_kept.fewer ps spare less v.values bank l k.slots; runs = k.runs }

-- another bank with these slots tells the same
pub same_told : (ps : List VariableSlot) (many spare : ℕ) (v : Level) (bank next : List ℕ) (ticks : ℕ) → SameSlots ps bank next → Tells ps many spare v bank ticks → Tells ps many spare v next ticks
same_told ps many spare v bank next ticks s k = record {
  size = k.size;
  slots = standing_kept.values ps spare v.values bank next s k.slots;
  runs = λ p e t. standing_kept.readings ps ticks bank next s 0 p e t ∙ k.runs p e t;
}

-- a position with no statements
pub unmoved : (i : Placed) (budget : ℕ) (v : Level) (bank : List ℕ) (ticks : ℕ) → Stand i budget v bank ticks → Stood i budget v bank ticks
unmoved i budget v bank ticks k = fewer (places_of i) (length i.vars) (starts (budget - ticks)) (starts (budget - (ticks + 1))) v bank ticks (omega arith) k

-- the statements of one
pub works : (i : Placed) (budget : ℕ) (stmts : List Stmt) (at ticks : ℕ) (x : Bench) (v : Level) → length i.slots ≡ length i.vars → ArePlaces (places_of i) → AreStmtsOf i.vars stmts → length stmts ≤ 32
    → Stands (body_of i.slots stmts) at x → ticks < budget → budget < 2 ^ 64 → Stand i budget v x.bank ticks → Stood i budget (behind stmts (arguments_of x.regs) v) (bank_at_end (body_of i.slots stmts) at x ticks) ticks
works i budget stmts at ticks x v same pl u few st early low k =
    let spare = starts (budget - (ticks + 1)) in
    let l : length stmts + spare ≤ starts (budget - ticks) = omega arith in
    let f = fewer (places_of i) (length i.vars) (starts (budget - ticks)) (length stmts + spare) v x.bank ticks l k in
    let w = (statements_work i.slots i.vars stmts same pl u).values at ticks spare x v.values st (omega arith) k.size f.slots in
    record { size = length_after stmts (arguments_of x.regs) v.values ∙ k.size; slots = w.0; runs = λ p e t. w.1 0 p e t ∙ k.runs p e t }

-- a timer counts the ticks at which it runs
runs_on : (b : Bool) (runs read : ℕ) → read ≡ runs % 2 ^ 64 → (read + (if b then 0 else 1)) % 2 ^ 64 ≡ (if b then runs else runs + 1) % 2 ^ 64
runs_on true runs read e = omega arith
runs_on false runs read e = omega arith

starts_of : (timer : Bool) (s spare v : ℕ) (bank : List ℕ) → timer ≡ true → HasValue timer s spare v bank → slice_index bank (s + 1) ≡ v
starts_of false s spare v bank t h = absurd cc
starts_of true s spare v bank t h = h.0

-- a tick
pub ticks_on : (i : Placed) (budget : ℕ) (v : Level) (bank : List ℕ) (ticks : ℕ) → Stood i budget v bank ticks → Stand i budget (counted v.values v.runs) bank (ticks + 1)
ticks_on i budget v bank ticks k = record {
  size = k.size;
  slots = k.slots;
  runs = λ p e t.
      let n : slice_index bank (p.slot + 1) ≡ slice_index v.values 0 = starts_of p.timer p.slot (starts (budget - (ticks + 1))) (slice_index v.values 0) bank t (k.slots 0 p e) in
      standing_kept.tick p.slot ticks bank
      ∙ (ap (λ m. (read_place true p.slot ticks bank + one_if m) % 2 ^ 64) n ∙ runs_on (slice_index v.values 0 == 0) v.runs (read_place true p.slot ticks bank) (k.runs p e t));
}
