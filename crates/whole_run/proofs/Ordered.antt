-- Quanta in the order of a seed go on by one more.
use Rattle.std.proofs.Common.{◌≡◌, ◌≢◌, ℕ, ◌+◌, ◌<◌, ◌≤◌, List, [], ◌∷◌, ◌++◌, Option, Some, None, refl, sym, ap, ap₂, ◌∙◌, subst, arith, length, inl, inr}
use Rattle.std.specs.Prelude.{Bool, true, false, cond, filter, not, ◌==◌, ◌||◌}
use Rattle.std.proofs.lemmas.Bool.{eqb-false, eqb-true}
use Rattle.std.specs.List.{range_with_len}
use Rattle.std.proofs.lemmas.List.{length-append}
use Rattle.std.proofs.lemmas.List.Elements.{filter-append}
use Rattle.pn_types.specs.declared.limits.TheConstants.{MAX_QUANTA}
use Rattle.turn_order.specs.declared.order.Order.{Order}
use Rattle.turn_order.specs.Orders.{chosen, order_after, order_of_seed, picked, ready_of}
use Rattle.turn_order.proofs.Picks.{filter_same, filter_without, none_may, range_more}
use Rattle.pn_types.specs.declared.quantum.Quantum.{Quantum}
use Rattle.machine.specs.Turns.{is_runnable}
use Rattle.session_spec.specs.Inputs.{Inputs}
use Rattle.session_spec.specs.States.{State}
use Rattle.session_spec.specs.Work.{AreAllowed, Halted, final_state, first_state, quantum_of, after_quantum, after_quanta, after_quanta_from}
use Rattle.session.specs.Sessions.{SessionData, state_of}
use Rattle.whole_run.specs.Seeded.{AreInOrder, IsSeeded}
use Rattle.whole_run.specs.Rounds.{StandAt, order_at}
use Rattle.whole_run.specs.declared.order.Rounds.{Rounds}
use Rattle.whole_run.proofs.Staying.{others_stay}

-- ---- the harts that are runnable

-- of a list of quanta
abbrev pub may_go : Inputs → List Quantum → ℕ → Bool
may_go i quanta = is_runnable (after_quanta i quanta).kept.machine.core

pub going : (s : SessionData) → s.closed ≡ false → state_of s ≡ after_quanta s.inputs s.quanta
going s e = ap (λ b. cond b (final_state s.inputs (after_quanta s.inputs s.quanta)) (after_quanta s.inputs s.quanta)) e

one_ready : (may : ℕ → Bool) (n : ℕ) (b : Bool) → may n ≡ b → ready_of may (n + 1) ≡ ready_of may n ++ cond b (n ∷ []) []
one_ready may n b e =
    ap (filter may) (range_more 0 n) ∙ (filter-append may (range_with_len 0 n) ((0 + n) ∷ []) ∙ ap (λ l. ready_of may n ++ l) (last b e))
  where
    last : (b : Bool) → may n ≡ b → filter may ((0 + n) ∷ []) ≡ cond b (n ∷ []) []
    last b e = let z : 0 + n ≡ n = omega arith in ap (λ m. filter may (m ∷ [])) z ∙ ap (λ b. cond b (n ∷ []) []) e

pub ready_more : (may : ℕ → Bool) (n : ℕ) (old new : List ℕ) → old ≡ ready_of may n → may n ≡ true → new ≡ old ++ n ∷ [] → new ≡ ready_of may (n + 1)
ready_more may n old new e t f = f ∙ (ap (λ l. l ++ n ∷ []) e ∙ sym (one_ready may n true t))

append_nil : (xs : List ℕ) → xs ++ [] ≡ xs
append_nil [] = refl
append_nil (x ∷ xs) = ap (λ l. x ∷ l) (append_nil xs)

pub ready_past : (may : ℕ → Bool) (n : ℕ) (old : List ℕ) → old ≡ ready_of may n → may n ≡ false → old ≡ ready_of may (n + 1)
ready_past may n old e t = e ∙ (sym (append_nil (ready_of may n)) ∙ sym (one_ready may n false t))

-- a hart that isn't stopped by the limit of quanta isn't runnable
pub stuck : (i : Inputs) (quanta : List Quantum) (h : ℕ) → length quanta < MAX_QUANTA → Halted i quanta h → may_go i quanta h ≡ false
unfolding Halted
stuck i quanta h few (inl e) = e
stuck i quanta h few (inr l) = absurd (omega arith)

pub halted : (i : Inputs) (quanta : List Quantum) (h : ℕ) → may_go i quanta h ≡ false → Halted i quanta h
unfolding Halted
halted i quanta h e = inl e

pub full : (i : Inputs) (quanta : List Quantum) (h : ℕ) → MAX_QUANTA ≤ length quanta → Halted i quanta h
unfolding Halted
full i quanta h l = inr l

-- ---- the same after one quantum more

work_from_push : (i : Inputs) (quanta : List Quantum) (q : Quantum) (s : State) → after_quanta_from i (quanta ++ q ∷ []) s ≡ after_quantum i q.hart q.turns (after_quanta_from i quanta s)
work_from_push i [] q s = refl
work_from_push i (x ∷ quanta) q s = work_from_push i quanta q (after_quantum i x.hart x.turns s)

pub work_push : (i : Inputs) (quanta : List Quantum) (q : Quantum) → after_quanta i (quanta ++ q ∷ []) ≡ after_quantum i q.hart q.turns (after_quanta i quanta)
unfolding after_quanta
work_push i quanta q = work_from_push i quanta q (first_state i)

-- hart h, and each that may go
abbrev pub or_hart : (ℕ → Bool) → ℕ → ℕ → Bool
or_hart may h j = (j == h) || may j

or_same : (was may : ℕ → Bool) (h : ℕ) → was h ≡ true → ((j : ℕ) → j ≢ h → may j ≡ was j) → (j : ℕ) → or_hart may h j ≡ was j
or_same was may h t others j = by (j == h) refl
  where
    by : (b : Bool) → (j == h) ≡ b → (b || may j) ≡ was j
    by true e = sym (ap was (eqb-true j h e) ∙ t)
    by false e = others j (eqb-false j h e)

or_other : (may : ℕ → Bool) (h j : ℕ) → j ≢ h → may j ≡ or_hart may h j
or_other may h j other = by (j == h) refl
  where
    by : (b : Bool) → (j == h) ≡ b → may j ≡ (b || may j)
    by true e = absurd (other (eqb-true j h e))
    by false e = refl

-- where no work was done, the harts that could go are its hart and those that can
pub others_kept : (i : Inputs) (quanta : List Quantum) (q : Quantum) (n : ℕ) (ready : List ℕ) → ready ≡ ready_of (may_go i quanta) n → may_go i quanta q.hart ≡ true
    → (after_quanta i (quanta ++ q ∷ [])).kept.worked ≡ false → ready ≡ ready_of (or_hart (may_go i (quanta ++ q ∷ [])) q.hart) n
others_kept i quanta q n ready e t idle =
    let now = work_push i quanta q in
    let still = λ (j : ℕ) (other : j ≢ q.hart). ap (λ (s : State). is_runnable s.kept.machine.core j) now ∙ others_stay i q.hart q.turns j (after_quanta i quanta) other (ap (λ (s : State). s.kept.worked) (sym now) ∙ idle) in
    e ∙ sym (filter_same (may_go i quanta) (or_hart (may_go i (quanta ++ q ∷ [])) q.hart) (range_with_len 0 n) (or_same (may_go i quanta) (may_go i (quanta ++ q ∷ [])) q.hart t still))

-- its hart goes on
pub stays_ready : (may : ℕ → Bool) (h n : ℕ) (ready : List ℕ) → ready ≡ ready_of (or_hart may h) n → may h ≡ true → ready ≡ ready_of may n
stays_ready may h n ready e t = e ∙ filter_same may (or_hart may h) (range_with_len 0 n) (or_same may may h t (λ j other. refl))

-- its hart can't go on
pub leaves_ready : (may : ℕ → Bool) (h n : ℕ) (old new : List ℕ) → old ≡ ready_of (or_hart may h) n → may h ≡ false → new ≡ filter (λ j. not (j == h)) old → new ≡ ready_of may n
leaves_ready may h n old new e out f = f ∙ (ap (filter (λ j. not (j == h))) e ∙ sym (filter_without (or_hart may h) may h (range_with_len 0 n) out (or_other may h)))

-- ---- one quantum more

order_push : (order : Order) (quanta : List Quantum) (q : Quantum) → order_at order (quanta ++ q ∷ []) ≡ order_after (order_at order quanta) q.hart
order_push order [] q = refl
order_push order (p ∷ quanta) q = order_push (order_after order p.hart) quanta q

ordered_push : (i : Inputs) (turns : ℕ) (order : Order) (s : State) (quanta : List Quantum) (q : Quantum) → AreInOrder i turns order s quanta
    → picked (order_at order quanta) (is_runnable (after_quanta_from i quanta s).kept.machine.core) i.settings.harts ≡ Some q.hart → q ≡ quantum_of i 0 q.hart turns (after_quanta_from i quanta s).kept
    → AreInOrder i turns order s (quanta ++ q ∷ [])
ordered_push i turns order s [] q a p e = (p, e, tt)
ordered_push i turns order s (x ∷ quanta) q a p e = (a.0, a.1, ordered_push i turns (order_after order x.hart) (after_quantum i x.hart x.turns s) quanta q a.2 p e)

-- `count` quanta were taken in order, and this order is next
pub record Running (i : Inputs) (seed turns count : ℕ) (quanta : List Quantum) (order : Order) : Type 0 where
  pub ordered : AreInOrder i turns (order_of_seed seed) (first_state i) quanta
  pub number : length quanta ≡ count
  pub order_is : order ≡ order_at (order_of_seed seed) quanta

pub begins : (i : Inputs) (seed turns : ℕ) → Running i seed turns 0 [] (order_of_seed seed)
begins i seed turns = record { ordered = tt; number = refl; order_is = refl }

pub goes_on : (i : Inputs) (seed turns count h : ℕ) (quanta : List Quantum) (order : Order) (q : Quantum) → Running i seed turns count quanta order → picked order (may_go i quanta) i.settings.harts ≡ Some h
    → q ≡ quantum_of i 0 h turns (after_quanta i quanta).kept → Running i seed turns (count + 1) (quanta ++ q ∷ []) (order_after order h)
unfolding after_quanta
goes_on i seed turns count h quanta order q r p e =
    let hart : q.hart ≡ h = ap (λ (x : Quantum). x.hart) e in
    let one : length (q ∷ []) ≡ 1 = refl in
    let sum = length-append quanta (q ∷ []) in
    let number = r.number in
    record {
      ordered = ordered_push i turns (order_of_seed seed) (first_state i) quanta q r.ordered
          (subst (λ o. picked o (may_go i quanta) i.settings.harts ≡ Some q.hart) r.order_is (p ∙ ap Some (sym hart)))
          (subst (λ n. q ≡ quantum_of i 0 n turns (after_quanta i quanta).kept) (sym hart) e);
      number = omega arith;
      order_is = ap (λ o. order_after o h) r.order_is ∙ (ap (order_after (order_at (order_of_seed seed) quanta)) (sym hart) ∙ sym (order_push (order_of_seed seed) quanta q));
    }

-- the next among the harts that are runnable
pub picks : (i : Inputs) (quanta : List Quantum) (harts : ℕ) (order : Order) (ready : List ℕ) (r o : Option ℕ) → harts ≡ i.settings.harts → ready ≡ ready_of (may_go i quanta) harts → r ≡ chosen order ready → r ≡ o
    → picked order (may_go i quanta) i.settings.harts ≡ o
picks i quanta harts order ready r o h e p is = sym (p ∙ ap (chosen order) (e ∙ ap (ready_of (may_go i quanta)) h)) ∙ is

-- a session that was asked for it took one
pub takes : (s new : SessionData) (seed turns count h : ℕ) (order : Order) (q : Quantum) → s.closed ≡ false → Running s.inputs seed turns count s.quanta order
    → picked order (may_go s.inputs s.quanta) s.inputs.settings.harts ≡ Some h → new.quanta ≡ s.quanta ++ q ∷ [] → q ≡ quantum_of s.inputs 0 h turns (state_of s).kept → Running s.inputs seed turns (count + 1) new.quanta (order_after order h)
takes s new seed turns count h order q wide r p taken asked =
    subst (λ l. Running s.inputs seed turns (count + 1) l (order_after order h)) (sym taken)
    (goes_on s.inputs seed turns count h s.quanta order q r p (asked ∙ ap (λ (x : State). quantum_of s.inputs 0 h turns x.kept) (going s wide)))

-- and left the list of those that could go, where no work was done
pub takes_others : (s new : SessionData) (h n turns : ℕ) (ready : List ℕ) (q : Quantum) → new.inputs ≡ s.inputs → may_go s.inputs s.quanta h ≡ true → new.quanta ≡ s.quanta ++ q ∷ [] → q ≡ quantum_of s.inputs 0 h turns (state_of s).kept
    → ready ≡ ready_of (may_go s.inputs s.quanta) n → (after_quanta new.inputs new.quanta).kept.worked ≡ false → ready ≡ ready_of (or_hart (may_go new.inputs new.quanta) h) n
takes_others s new h n turns ready q same t taken asked e idle =
    let hart : q.hart ≡ h = ap (λ (x : Quantum). x.hart) asked in
    let now : after_quanta new.inputs new.quanta ≡ after_quanta s.inputs (s.quanta ++ q ∷ []) = ap₂ after_quanta same taken in
    others_kept s.inputs s.quanta q n ready e (ap (may_go s.inputs s.quanta) hart ∙ t) (ap (λ (x : State). x.kept.worked) (sym now) ∙ idle)
    ∙ ap₂ (λ (x : State) (m : ℕ). ready_of (or_hart (is_runnable x.kept.machine.core) m) n) (sym now) hart

-- ---- the whole list

-- no hart is next
pub ends : (i : Inputs) (seed turns count : ℕ) (quanta : List Quantum) (order : Order) → Running i seed turns count quanta order → AreAllowed i quanta → picked order (may_go i quanta) i.settings.harts ≡ None → IsSeeded i seed turns quanta
ends i seed turns count quanta order r a p = record { ordered = r.ordered; whole = record { allowed = a; ended = λ h l. halted i quanta h (none_may order (may_go i quanta) i.settings.harts h p l) } }

-- there are as many as there may be
pub fills : (i : Inputs) (seed turns : ℕ) (quanta : List Quantum) (order : Order) → Running i seed turns MAX_QUANTA quanta order → AreAllowed i quanta → IsSeeded i seed turns quanta
fills i seed turns quanta order r a = let number = r.number in record { ordered = r.ordered; whole = record { allowed = a; ended = λ h l. full i quanta h (omega arith) } }

-- ---- rounds that stand at a session

pub running : (r : Rounds) (s : SessionData) → StandAt r s → Running s.inputs r.seed r.turns (length s.quanta) s.quanta r.order
running r s a = record { ordered = a.ordered; number = refl; order_is = a.order }

pub next_of : (r : Rounds) (s : SessionData) (result o : Option ℕ) → StandAt r s → length s.quanta < MAX_QUANTA → result ≡ chosen r.order r.ready → result ≡ o → picked r.order (may_go s.inputs s.quanta) s.inputs.settings.harts ≡ o
next_of r s result o a few p is = picks s.inputs s.quanta r.harts r.order r.ready result o a.harts (a.ready few) p is

-- there are as many quanta as there may be
pub stand_full : (r : Rounds) (s : SessionData) → StandAt r s → AreAllowed s.inputs s.quanta → MAX_QUANTA ≤ length s.quanta → IsSeeded s.inputs r.seed r.turns s.quanta
stand_full r s a m l = record { ordered = a.ordered; whole = record { allowed = m; ended = λ h lt. full s.inputs s.quanta h l } }

-- no hart is next
pub stand_last : (r : Rounds) (s : SessionData) → StandAt r s → AreAllowed s.inputs s.quanta → picked r.order (may_go s.inputs s.quanta) s.inputs.settings.harts ≡ None → IsSeeded s.inputs r.seed r.turns s.quanta
stand_last r s a m p = ends s.inputs r.seed r.turns (length s.quanta) s.quanta r.order (running r s a) m p

-- a hart that is next takes its quantum: the rounds stand at the session after it
pub stand_next : (r : Rounds) (s new : SessionData) (order : Order) (ready : List ℕ) (h : ℕ) (q : Quantum) → StandAt r s → picked r.order (may_go s.inputs s.quanta) s.inputs.settings.harts ≡ Some h
    → new.closed ≡ false → new.inputs ≡ s.inputs → new.quanta ≡ s.quanta ++ q ∷ [] → q ≡ quantum_of s.inputs 0 h r.turns (state_of s).kept
    → order_after r.order h ≡ order → (length new.quanta < MAX_QUANTA → ready ≡ ready_of (may_go new.inputs new.quanta) r.harts)
    → StandAt (record { seed = r.seed; turns = r.turns; harts = r.harts; order = order; ready = ready }) new
stand_next r s new order ready h q a p going same taken asked is rest =
    let more = takes s new r.seed r.turns (length s.quanta) h r.order q a.going (running r s a) p taken asked in
    record {
      going = going;
      harts = a.harts ∙ ap (λ (i : Inputs). i.settings.harts) (sym same);
      few = a.few;
      turns = a.turns;
      ordered = subst (λ (i : Inputs). AreInOrder i r.turns (order_of_seed r.seed) (first_state i) new.quanta) (sym same) more.ordered;
      order = sym is ∙ more.order_is;
      ready = rest;
    }

pub seeded_by : (i j : Inputs) (seed other turns some : ℕ) (quanta : List Quantum) → i ≡ j → seed ≡ other → turns ≡ some → IsSeeded i seed turns quanta → IsSeeded j other some quanta
seeded_by i j seed other turns some quanta same a b s = subst (λ (x : Inputs). IsSeeded x other some quanta) same (subst (λ n. IsSeeded i n some quanta) a (subst (λ n. IsSeeded i seed n quanta) b s))
