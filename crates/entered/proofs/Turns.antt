-- The turns of harts that are asked, one after another.
use Rattle.std.proofs.Common.{◌≡◌, ℕ, zero, suc, ◌+◌, ◌-◌, ◌<◌, List, [], ◌∷◌, ◌++◌, replicate, drop, get_or, length, Some, refl, ap, sym, subst, ◌∙◌, arith}
use Rattle.std.proofs.lemmas.Grind.{common_steps}
use Rattle.std.proofs.lemmas.List.{drop_more}
use Rattle.std.specs.Prelude.{if◌then◌else◌, nat_lt, ◌==◌, ◌&&◌, ◌||◌, Bool, true, false, Option, None, slice_get}
use Rattle.rv_word.specs.Plain.{Words, PlainHart, Plain, plain, can, may_go}
use Rattle.rv_exec.specs.Run.{Position, executions, position_of, trace_from}
use Rattle.pn_types.specs.declared.quantum.Quantum.{Quantum}
use Rattle.entered.specs.Along.{asked_along, turns_from}
use Rattle.plain_run.specs.Machines.{Machine}
use Rattle.entered.specs.Steps.{is_at, state_after, asks_at, after_asked, machine_after, begins_at, quantum_begins_at}

-- lists of asked harts, one after another
pub state_after-++ : (t : Words) (budget : ℕ) (xs ys : List ℕ) (s : Plain)
    → state_after t budget (xs ++ ys) s ≡ state_after t budget ys (state_after t budget xs s)
state_after-++ t budget [] ys s = refl
state_after-++ t budget (h ∷ xs) ys s = state_after-++ t budget xs ys (if can budget s h then plain t h s else s)

or-assoc : (a b c : Bool) → (a || (b || c)) ≡ ((a || b) || c)
or-assoc true b c = refl
or-assoc false b c = refl

pub asks_at-++ : (t : Words) (budget a : ℕ) (xs ys : List ℕ) (s : Plain)
    → asks_at t budget a (xs ++ ys) s ≡ (asks_at t budget a xs s || asks_at t budget a ys (state_after t budget xs s))
asks_at-++ t budget a [] ys s = refl
asks_at-++ t budget a (h ∷ xs) ys s =
    let s' = if can budget s h then plain t h s else s in
    let now = can budget s h && is_at a (slice_get s.harts h) in
    ap (λ z. now || z) (asks_at-++ t budget a xs ys s') ∙ or-assoc now (asks_at t budget a xs s') (asks_at t budget a ys (state_after t budget xs s'))

-- one hart more, of those that are asked alike
pub asked-one : (n h : ℕ) → 0 < n → replicate n h ≡ h ∷ replicate (n - 1) h
asked-one zero h l = absurd (omega (arith, l))
asked-one (suc n) h l = let e : suc n - 1 ≡ n = omega arith in rw e refl

-- a position counts where its pc is the address
none-yes : (a : ℕ) (x : PlainHart) (rest : List Position) (h : ℕ)
    → nat_lt 0 (executions a (position_of h (Some x) rest)) ≡ ((x.pc == a) || nat_lt 0 (executions a rest))
none-yes a x rest h = by (x.pc == a) refl
  where
    by : (b : Bool) → (x.pc == a) ≡ b → nat_lt 0 (executions a (position_of h (Some x) rest)) ≡ ((x.pc == a) || nat_lt 0 (executions a rest))
    by true e = grind (arith, common_steps, e)
    by false e = grind (arith, common_steps, e)

-- who can take a turn is there
executed-one : (t : Words) (budget a h : ℕ) (o : Option PlainHart) (rest : List Position) → may_go o budget ≡ true
    → nat_lt 0 (executions a (position_of h o rest)) ≡ (is_at a o || nat_lt 0 (executions a rest))
executed-one t budget a h None rest e = absurd (grind (arith, common_steps, e))
executed-one t budget a h (Some x) rest e = none-yes a x rest h

-- the trace of the turns that are taken has the address exactly where one of them began there
pub is_executed : (t : Words) (budget a : ℕ) (hs : List ℕ) (s : Plain)
    → asks_at t budget a hs s ≡ nat_lt 0 (executions a (trace_from t (turns_from t budget hs s) s))
is_executed t budget a [] s = refl
is_executed t budget a (h ∷ hs) s = by (can budget s h) refl (is_executed t budget a hs (plain t h s)) (is_executed t budget a hs s)
  where
    by : (b : Bool) → can budget s h ≡ b
        → asks_at t budget a hs (plain t h s) ≡ nat_lt 0 (executions a (trace_from t (turns_from t budget hs (plain t h s)) (plain t h s)))
        → asks_at t budget a hs s ≡ nat_lt 0 (executions a (trace_from t (turns_from t budget hs s) s))
        → asks_at t budget a (h ∷ hs) s ≡ nat_lt 0 (executions a (trace_from t (turns_from t budget (h ∷ hs) s) s))
    by true e gone stays =
        rw e (ap (λ z. is_at a (slice_get s.harts h) || z) gone
        ∙ sym (executed-one t budget a h (slice_get s.harts h) (trace_from t (turns_from t budget hs (plain t h s)) (plain t h s)) e))
    by false e gone stays = rw e stays

-- one turn of those that are left
pub state_left : (m n : Machine) (h left : ℕ) → 0 < left → n ≡ after_asked m h
    → state_after n.program n.budget (replicate (left - 1) h) n.state ≡ state_after m.program m.budget (replicate left h) m.state
state_left m n h left some e =
    subst (λ (x : Machine). state_after x.program x.budget (replicate (left - 1) h) x.state ≡ state_after m.program m.budget (replicate left h) m.state) (sym e)
    (ap (λ (hs : List ℕ). state_after m.program m.budget hs m.state) (sym (asked-one left h some)))

pub asked_left : (m n : Machine) (h a left : ℕ) (before now : Bool) → 0 < left → n ≡ after_asked m h → now ≡ begins_at m h a
    → ((before || now) || asks_at n.program n.budget a (replicate (left - 1) h) n.state) ≡ (before || asks_at m.program m.budget a (replicate left h) m.state)
asked_left m n h a left before now some e is =
    subst (λ (x : Machine). ((before || now) || asks_at x.program x.budget a (replicate (left - 1) h) x.state) ≡ (before || asks_at m.program m.budget a (replicate left h) m.state)) (sym e)
    (ap (λ (z : Bool). (before || z) || asks_at m.program m.budget a (replicate (left - 1) h) (after_asked m h).state) is
    ∙ sym (or-assoc before (begins_at m h a) (asks_at m.program m.budget a (replicate (left - 1) h) (after_asked m h).state))
    ∙ ap (λ (hs : List ℕ). before || asks_at m.program m.budget a hs m.state) (sym (asked-one left h some)))

-- the first quantum of those that are left
quantum_step : (t : Words) (budget a : ℕ) (quanta : List Quantum) (i : ℕ) (d : Quantum) (s : Plain) → i < length quanta
    → asks_at t budget a (asked_along (drop i quanta)) s
    ≡ (asks_at t budget a (replicate (get_or quanta i d).owns (get_or quanta i d).hart) s
    || asks_at t budget a (asked_along (drop (i + 1) quanta)) (state_after t budget (replicate (get_or quanta i d).owns (get_or quanta i d).hart) s))
quantum_step t budget a quanta i d s l =
    ap (λ (qs : List Quantum). asks_at t budget a (asked_along qs) s) (drop_more quanta i d l)
    ∙ asks_at-++ t budget a (replicate (get_or quanta i d).owns (get_or quanta i d).hart) (asked_along (drop (i + 1) quanta)) s

pub quantum_left : (p : Words) (b : ℕ) (m n : Machine) (a : ℕ) (quanta : List Quantum) (i : ℕ) (d : Quantum) (result : Bool)
    → m.program ≡ p → m.budget ≡ b → i < length quanta → n ≡ machine_after m (get_or quanta i d) → result ≡ quantum_begins_at m (get_or quanta i d) a
    → asks_at p b a (asked_along (drop i quanta)) m.state ≡ (result || asks_at p b a (asked_along (drop (i + 1) quanta)) n.state)
quantum_left p b m n a quanta i d result program budget l e is =
    subst (λ (p : Words). asks_at p b a (asked_along (drop i quanta)) m.state ≡ (result || asks_at p b a (asked_along (drop (i + 1) quanta)) n.state)) program
    (subst (λ (b : ℕ). asks_at m.program b a (asked_along (drop i quanta)) m.state ≡ (result || asks_at m.program b a (asked_along (drop (i + 1) quanta)) n.state)) budget
    (subst (λ (x : Machine). asks_at m.program m.budget a (asked_along (drop i quanta)) m.state
    ≡ (result || asks_at m.program m.budget a (asked_along (drop (i + 1) quanta)) x.state)) (sym e)
    (quantum_step m.program m.budget a quanta i d m.state l
    ∙ ap (λ (z : Bool). z || asks_at m.program m.budget a (asked_along (drop (i + 1) quanta)) (machine_after m (get_or quanta i d)).state) (sym is))))
