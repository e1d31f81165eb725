-- The body of statements, whole.
use Rattle.std.proofs.Common.{◌≡◌, ℕ, ◌+◌, ◌^◌, ◌<◌, ◌≤◌, Bool, true, false, List, [], ◌∷◌, length, Option, Some, None, refl, sym, ap, ◌∙◌, subst, arith, inl, inr, ⊎_elim}
use Rattle.std.specs.Prelude.{slice_get, slice_index, ◌==◌, if◌then◌else◌}
use Rattle.std.specs.List.{AllByRecursion}
use Rattle.std.proofs.lemmas.Bool.{cases_lt, cond-true, eq-eqb}
use Rattle.pn_types.specs.declared.plan.Act.{Act}
use Rattle.pn_types.specs.declared.plan.Act.TheVariants.{Up, Down, Put, Start, Stop}
use Rattle.pn_types.specs.declared.plan.Cond.{Cond}
use Rattle.pn_types.specs.declared.plan.Left.{Left}
use Rattle.pn_types.specs.declared.plan.Left.TheVariants.{Counter, Argument}
use Rattle.pn_types.specs.declared.plan.Stmt.{Stmt}
use Rattle.pn_types.specs.declared.plan.Var.{Var}
use Rattle.rv_word.specs.Registers.{arguments_of}
use Rattle.rv_word.specs.Values.{wrap}
use Rattle.rv_word.specs.declared.instr.Instr.{Instr}
use Rattle.tramp_spec.specs.Banks.{bank_len}
use Rattle.tramp_spec.specs.Bodies.{AreTool, Stands, bank_at_end}
use Rattle.tramp_spec.specs.MovedWords.{tools}
use Rattle.tramp_spec.specs.Routes.{BodyDoes}
use Rattle.tramp_spec.specs.Slots.{VariableSlot, width, places, ArePlaces, IsSlotOf, running, read_place}
use Rattle.tramp_spec.specs.Statements.{body_of, code_of, slot_of}
use Rattle.tramp_spec.specs.Values.{values_after}
use Rattle.tramp_spec.proofs.Routes.{keeps, finish_of, harmless, leaves}
use Rattle.tramp_spec.specs.Steps.{Bench}
use Rattle.prim_code.specs.Fitting.{Names, IsLeftOf, IsActOf, IsCondOf, AreStmtsOf}
use Rattle.prim_code.specs.Laws.{StatementsWork}
use Rattle.prim_code.specs.Rows.{always}
use Rattle.prim_code.specs.Standing.{HasValue, StandFor, SameReadings}
use Rattle.prim_code.proofs.ActRuns.{IsInBank}
use Rattle.prim_code.proofs.Effects.{stmts_bank}
use Rattle.prim_code.proofs.Fits.{FitsPlace}
use Rattle.prim_code.proofs.GuardRuns.{IsLeftInBank, IsCondInBank, IsStmtInBank, code_does}
use Rattle.prim_code.proofs.Reaching.{bank_size}
use Rattle.prim_code.proofs.Listing.{Fits, IsBeside, place, place_is, length_places, fits, leaves_others}

module _ (slots : List ℕ) (vars : List Var) (same : length slots ≡ length vars) (pl : ArePlaces (places slots vars)) where
  -- the slots of variables
  slot_in : (v : ℕ) (timer : Bool) → Names vars timer v → (2 ≤ slot_of slots v) × (slot_of slots v + (if timer then 2 else 1) ≤ bank_len)
  slot_in v timer h = pl.within v (place (slot_of slots v) timer) (place_is slots vars v timer same h)

  counter_in : (v : ℕ) → Names vars false v → (2 ≤ slot_of slots v) × (slot_of slots v < bank_len)
  counter_in v h = let b = slot_in v false h in let l = b.1 in (b.0, omega arith)

  timer_in : (v : ℕ) → Names vars true v → (2 ≤ slot_of slots v) × (slot_of slots v + 1 < bank_len)
  timer_in v h = let b = slot_in v true h in let l = b.1 in (b.0, omega arith)

  act_in : (a : Act) → IsActOf vars a → IsInBank slots a
  act_in (Up v) h = counter_in v h
  act_in (Down v) h = counter_in v h
  act_in (Put v n) h = let b = counter_in v h.0 in (b.0, b.1, h.1)
  act_in (Start v) h = timer_in v h
  act_in (Stop v) h = timer_in v h

  left_in_bank : (l : Left) → IsLeftOf vars l → IsLeftInBank slots l
  left_in_bank (Counter v) h = counter_in v h
  left_in_bank (Argument a) h = h

  conds_in : (cs : List Cond) → AllByRecursion (IsCondOf vars) cs → AllByRecursion (IsCondInBank slots) cs
  conds_in [] h = tt
  conds_in (c ∷ cs) h = ((left_in_bank c.left (h.0).0, (h.0).1), conds_in cs h.1)

  stmts_in : (stmts : List Stmt) → AreStmtsOf vars stmts → AllByRecursion (IsStmtInBank slots) stmts
  stmts_in [] h = tt
  stmts_in (s ∷ ss) h = (record { short = (h.0).short; conds = conds_in s.conds (h.0).conds; act = act_in s.act (h.0).act }, stmts_in ss h.1)

body_does : (slots : List ℕ) (stmts : List Stmt) → AllByRecursion (IsStmtInBank slots) stmts → BodyDoes (body_of slots stmts) (stmts_bank slots stmts)
unfolding body_of
body_does slots stmts h = code_does slots stmts h

tools_are : (is : List Instr) → AreTool (tools is)
tools_are [] = tt
tools_are (i ∷ is) = (refl, tools_are is)

body_is_tool : (slots : List ℕ) (stmts : List Stmt) → AreTool (body_of slots stmts)
unfolding body_of
body_is_tool slots stmts = tools_are (code_of slots stmts)

-- what a timer's place reads
reads_at : Option VariableSlot → ℕ → List ℕ → ℕ
reads_at None ticks bank = 0
reads_at (Some p) ticks bank = read_place true p.slot ticks bank

reads_some : (o : Option VariableSlot) (p : VariableSlot) (ticks : ℕ) (bank : List ℕ) → o ≡ Some p → reads_at o ticks bank ≡ read_place true p.slot ticks bank
unfolding reads_at
reads_some o p ticks bank e = ap (λ q. reads_at q ticks bank) e

to_fit : (timer : Bool) (s n v r ticks : ℕ) (k : List ℕ) → r ≡ read_place true s ticks k → HasValue timer s n v k → FitsPlace timer s n v r ticks k
to_fit false s n v r ticks k e h = h
to_fit true s n v r ticks k e h = (h.0, h.1, ap (λ m. wrap (slice_index k s + running m ticks)) (sym h.0) ∙ sym e)

from_fit : (timer : Bool) (s n v r ticks : ℕ) (k : List ℕ) → FitsPlace timer s n v r ticks k → HasValue timer s n v k
from_fit false s n v r ticks k f = f
from_fit true s n v r ticks k f = (f.0, f.1)

same_reading : (timer : Bool) (s n v r ticks : ℕ) (k : List ℕ) → timer ≡ true → FitsPlace timer s n v r ticks k → read_place true s ticks k ≡ r
same_reading false s n v r ticks k t f = absurd cc
same_reading true s n v r ticks k t f = ap (λ m. wrap (slice_index k s + running m ticks)) f.0 ∙ f.2

stand_on : (slots : List ℕ) (vars : List Var) (stmts : List Stmt) → length slots ≡ length vars → ArePlaces (places slots vars) → AreStmtsOf vars stmts
    → (ticks spare : ℕ) (arguments values bank : List ℕ) → length bank ≡ bank_len → ticks < 2 ^ 64 → length values ≡ length vars → StandFor (places slots vars) (length stmts + spare) values bank
    → StandFor (places slots vars) spare (values_after stmts arguments values) (stmts_bank slots stmts ticks arguments bank) × SameReadings (places slots vars) ticks bank (stmts_bank slots stmts ticks arguments bank)
stand_on slots vars stmts same pl u ticks spare arguments values bank lk lt lv h =
    let ps = places slots vars in
    let readings = λ (i : ℕ). reads_at (slice_get ps i) ticks bank in
    let before : Fits ps (length stmts + spare) values readings ticks bank = λ i p e.
    to_fit p.timer p.slot (length stmts + spare) (slice_index values i) (readings i) ticks bank (reads_some (slice_get ps i) p ticks bank e) (h i p e) in
    let behind = fits slots vars stmts values readings spare ticks arguments bank same pl u (lv ∙ sym (length_places slots vars same)) lk lt before in
    let new = values_after stmts arguments values in
    let next = stmts_bank slots stmts ticks arguments bank in (
      λ i p e. from_fit p.timer p.slot spare (slice_index new i) (readings i) ticks next (behind i p e),
      λ i p e t. same_reading p.timer p.slot spare (slice_index new i) (readings i) ticks next t (behind i p e) ∙ reads_some (slice_get ps i) p ticks bank e,
    )

beside : (ps : List VariableSlot) (q : ℕ) → (IsSlotOf ps q → ⊥) → IsBeside ps q
beside ps q n i p e =
    ⊎_elim (λ (l : q < p.slot). inl l)
    (λ (l : p.slot ≤ q). ⊎_elim (λ (m : q < p.slot + width p). absurd (n (i, p, e, l, m))) (λ (m : p.slot + width p ≤ q). inr m) (cases_lt q (p.slot + width p)))
    (cases_lt q p.slot)

pub statements_work : StatementsWork
statements_work slots vars stmts same pl u =
    let d = body_does slots stmts (stmts_in slots vars same pl stmts u) in
    let f = stmts_bank slots stmts in
    let body = body_of slots stmts in
    let ps = places slots vars in
    record {
      harmless = harmless body f (body_is_tool slots stmts) d;
      ends = λ at ticks x st.
          let r = d at ticks x st in
          (r.0, r.1, keeps body at ticks 0 (length body) x r.0 r.1, sym (finish_of body at ticks x r.0 r.1));
      values = λ at ticks spare x values st lt lv h.
          subst (λ k. StandFor ps spare (values_after stmts (arguments_of x.regs) values) k × SameReadings ps ticks x.bank k) (sym (leaves body f d at ticks x st))
          (stand_on slots vars stmts same pl u ticks spare (arguments_of x.regs) values x.bank st.bank lt lv h);
      others = λ at ticks q x st n. ap (λ k. slice_index k q) (leaves body f d at ticks x st) ∙ leaves_others slots vars stmts ticks q (arguments_of x.regs) x.bank same u (beside ps q n);
    }

-- a stop of a timer that has no start
abbrev stop_alone : List Stmt
stop_alone = always (Stop 0) ∷ []

stop_alone_fits : AllByRecursion (IsStmtInBank (2 ∷ [])) stop_alone
stop_alone_fits = (record { short = omega arith; conds = tt; act = (omega arith, let n = bank_size in omega arith) }, tt)

pub idle_stop : (at ticks : ℕ) (x : Bench) → Stands (body_of (2 ∷ []) stop_alone) at x → slice_index x.bank 3 ≡ 0 → bank_at_end (body_of (2 ∷ []) stop_alone) at x ticks ≡ x.bank
idle_stop at ticks x st e =
    leaves (body_of (2 ∷ []) stop_alone) (stmts_bank (2 ∷ []) stop_alone) (body_does (2 ∷ []) stop_alone stop_alone_fits) at ticks x st
    ∙ cond-true (slice_index x.bank 3 == 0) x.bank _ (eq-eqb (slice_index x.bank 3) 0 e)
