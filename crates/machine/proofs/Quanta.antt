-- Quanta, the time, and the budget.
use Rattle.std.proofs.Common.{◌≡◌, ℕ, zero, suc, ◌+◌, ◌≤◌, List, [], ◌∷◌, ◌++◌, length, replicate, Option, Some, None, refl, sym, ap, ◌∙◌, subst, arith, ⊎_elim}
use Rattle.std.specs.Prelude.{Bool, true, false, cond, IsTrue, Result, Ok, Err, map, slice_get, slice_set}
use Rattle.std.proofs.lemmas.Bool.{cases_eq}
use Rattle.std.proofs.lemmas.List.{length-append}
use Rattle.pn_types.specs.declared.image.Image.{Image}
use Rattle.rv_word.specs.Exec.{done_of_outcome, exec_of}
use Rattle.rv_word.specs.Plain.{program_word}
use Rattle.rv_word.specs.declared.outcome.Next.{Next}
use Rattle.rv_word.specs.declared.outcome.Next.TheVariants.{Go, Stop}
use Rattle.rv_word.specs.declared.outcome.Cause.{Cause}
use Rattle.rv_exec.specs.Start.{harts_from}
use Rattle.tramp_spec.specs.Banks.{reach_of}
use Rattle.tramp_spec.specs.Harts.{Hart, Solo, own_hart, other_hart, bench_of, marked_step, step_of, is_tick}
use Rattle.tramp_spec.specs.Marks.{is_own}
use Rattle.tramp_spec.specs.Steps.{Stood, step_on}
use Rattle.tramp_spec.specs.declared.mark.Mark.{Mark}
use Rattle.tramp_spec.specs.declared.mark.Mark.TheVariants.{Own, Enter, Tool, Leave}
use Rattle.tramp_spec.specs.declared.mark.MarkedWord.{MarkedWord}
use Rattle.machine.specs.Cores.{Row, Core, first_hart, start_core}
use Rattle.machine.specs.Effects.{after_event, owned, armed_hart, mini_linked, mini_unlinked, point_linked, point_unlinked}
use Rattle.machine.specs.Events.{Event, Turn, Write, LinkMini, UnlinkMini, LinkPoint, UnlinkPoint, Free, Arm, Sample, May, current_base, row_at, before}
use Rattle.machine.specs.Quanta.{IsQuantum, QuantaAreLegal, ticks_in, TimeGoesOn, KeepsBudget, BudgetIsKept}
use Rattle.machine.specs.Reached.{IsReached}
use Rattle.machine.specs.Replays.{replay, Legal, owns}
use Rattle.machine.specs.States.{quantum_turns}
use Rattle.machine.specs.Turns.{fetched, turn, turn_by, turn_alone, ticks_by, ticks_next, is_runnable}
use Rattle.machine.proofs.Arming.{get_map}
use Rattle.machine.proofs.Beginning.{starts}
use Rattle.machine.proofs.HartPlaces.{below_budget}
use Rattle.machine.proofs.Lists.{get_set_same, get_set_other, same_some}
use Rattle.machine.proofs.Reaching.{reaches_more}
use Rattle.machine.proofs.Steps.{fixed}

-- ---- a quantum is legal

turns_owned : (tick : Bool) (h : ℕ) (hs : List ℕ) → hs ≡ replicate (length hs) h → cond tick (h ∷ []) [] ++ hs ≡ replicate (length (cond tick (h ∷ []) [] ++ hs)) h
turns_owned true h hs e = ap (λ l. h ∷ l) e
turns_owned false h hs e = e

is_quantum : (most h : ℕ) (c : Core) → IsQuantum most h (quantum_turns most h c) c
is_quantum zero h c = record { legal = tt; owned = refl; bound = omega arith }
is_quantum (suc most) h c = choose (is_runnable c h) refl (is_quantum most h (turn c h))
  where
    choose : (b : Bool) → is_runnable c h ≡ b → IsQuantum most h (quantum_turns most h (turn c h)) (turn c h) → IsQuantum (suc most) h (cond b (Turn h ∷ quantum_turns most h (turn c h)) []) c
    choose true e k = record { legal = (e, k.legal); owned = turns_owned (ticks_next c h) h (owns (quantum_turns most h (turn c h)) (turn c h)) k.owned; bound = let l = k.bound in omega arith }
    choose false e k = record { legal = tt; owned = refl; bound = omega arith }

pub quanta_are_legal : QuantaAreLegal
quanta_are_legal most h c = is_quantum most h c

-- ---- the ticks of a step

own_ticks : (n : Next) (regs : List ℕ) (word home : ℕ) (x : Hart) → (own_hart n regs word home x).ticks ≡ x.ticks
own_ticks (Go pc) regs word home x = refl
own_ticks (Stop cause) regs word home x = refl

other_ticks : (r : Result Stood Cause) (m : Mark) (word home : ℕ) (x : Hart) → (other_hart r m word home x).ticks ≡ x.ticks
other_ticks (Ok s) m word home x = refl
other_ticks (Err cause) m word home x = refl

marked_ticks : (m : Mark) (word h home : ℕ) (s : Solo) → (marked_step m word h home s).hart.ticks ≡ cond (is_own m) (s.hart.ticks + 1) s.hart.ticks
marked_ticks Own word h home s = let d = done_of_outcome (exec_of word s.hart.pc h s.hart.regs s.prog) s.hart.regs in ap (λ n. n + 1) (own_ticks d.next d.regs word home s.hart)
marked_ticks Enter word h home s = other_ticks (step_on (reach_of Enter) word s.hart.ticks s.hart.pc (bench_of s.hart)) Enter word home s.hart
marked_ticks Tool word h home s = other_ticks (step_on (reach_of Tool) word s.hart.ticks s.hart.pc (bench_of s.hart)) Tool word home s.hart
marked_ticks Leave word h home s = other_ticks (step_on (reach_of Leave) word s.hart.ticks s.hart.pc (bench_of s.hart)) Leave word home s.hart

pub step_ticks : (o : Option MarkedWord) (h home : ℕ) (s : Solo) → (step_of o h home s).hart.ticks ≡ cond (is_tick o) (s.hart.ticks + 1) s.hart.ticks
step_ticks None h home s = refl
step_ticks (Some w) h home s = marked_ticks w.mark w.word h home s

-- ---- the time

ticks_set : (xs : List Hart) (h : ℕ) (x z : Hart) → slice_get xs h ≡ Some x → ticks_in (slice_set xs h z) + x.ticks ≡ ticks_in xs + z.ticks
ticks_set [] h x z e = absurd cc
ticks_set (y ∷ ys) zero x z e = let i : y ≡ x = cc in let t = ap (λ (v : Hart). v.ticks) i in omega arith
ticks_set (y ∷ ys) (suc h) x z e = let r = ticks_set ys h x z e in omega arith

one_tick : (b : Bool) (h n : ℕ) → cond b (n + 1) n ≡ n + length (cond b (h ∷ []) [])
one_tick true h n = refl
one_tick false h n = omega arith

time_turn : (o : Option Hart) (c : Core) (h : ℕ) → slice_get c.harts h ≡ o → ticks_in (turn_by o c h).harts ≡ ticks_in c.harts + length (cond (ticks_by o c) (h ∷ []) [])
time_turn None c h e = omega arith
time_turn (Some x) c h e =
    let z = (turn_alone c h x).hart in
    let s = step_ticks (fetched c.program c.code x) h _ (record { hart = x; prog = c.prog }) in
    let t = one_tick (is_tick (fetched c.program c.code x)) h x.ticks in
    let r = ticks_set c.harts h x z e in
    let all : z.ticks ≡ x.ticks + length (cond (is_tick (fetched c.program c.code x)) (h ∷ []) []) = s ∙ t in
    omega arith

ticks_armed : (f : Hart → Hart) (xs : List Hart) → ((x : Hart) → (f x).ticks ≡ x.ticks) → ticks_in (map f xs) ≡ ticks_in xs
ticks_armed f [] e = refl
ticks_armed f (x ∷ xs) e = let a = e x in let r = ticks_armed f xs e in omega arith

-- the harts stay where a word is put
same_link : (o : Option Row) (m : ℕ) (c : Core) → (mini_linked o m c).harts ≡ c.harts
same_link None m c = refl
same_link (Some b) m c = refl

same_unlink : (o u : Option Row) (m : ℕ) (c : Core) → (mini_unlinked o u m c).harts ≡ c.harts
same_unlink None u m c = refl
same_unlink (Some q) None m c = refl
same_unlink (Some q) (Some r) m c = refl

same_enter : (o : Option Row) (p : ℕ) (c : Core) → (point_linked o p c).harts ≡ c.harts
same_enter None p c = refl
same_enter (Some b) p c = refl

same_own : (o : Option ℕ) (p : ℕ) (c : Core) → (point_unlinked o p c).harts ≡ c.harts
same_own None p c = refl
same_own (Some w) p c = refl

none_more : (xs ys : List Hart) → xs ≡ ys → ticks_in xs ≡ ticks_in ys + 0
none_more xs ys e = let s = ap ticks_in e in omega arith

time_after : (e : Event) (c : Core) → ticks_in (after_event c e).harts ≡ ticks_in c.harts + length (owned c e)
time_after (Turn h) c = time_turn (slice_get c.harts h) c h refl
time_after (Write b) c = none_more c.harts c.harts refl
time_after (LinkMini p m) c = none_more (after_event c (LinkMini p m)).harts c.harts (same_link (current_base c.rows p) m c)
time_after (UnlinkMini p m) c = none_more (after_event c (UnlinkMini p m)).harts c.harts (same_unlink (before c m) (row_at c.rows m) m c)
time_after (LinkPoint p) c = none_more (after_event c (LinkPoint p)).harts c.harts (same_enter (current_base c.rows p) p c)
time_after (UnlinkPoint p) c = none_more (after_event c (UnlinkPoint p)).harts c.harts (same_own (program_word c.program p) p c)
time_after (Free p) c = none_more c.harts c.harts refl
time_after (Arm i) c = let r = ticks_armed (armed_hart c i) c.harts (λ x. refl) in omega arith
time_after (Sample i) c = none_more c.harts c.harts refl

pub time_goes_on : TimeGoesOn
time_goes_on [] c = omega arith
time_goes_on (e ∷ es) c =
    let first = time_after e c in
    let rest = time_goes_on es (after_event c e) in
    let both = length-append (owned c e) (owns es (after_event c e)) in
    omega arith

-- ---- the budget

-- each hart has the ticks of one before
stay_below : (c d : Core) → d.budget ≡ c.budget → ((h : ℕ) (y : Hart) → slice_get d.harts h ≡ Some y → (x : Hart) × (slice_get c.harts h ≡ Some x) × (y.ticks ≡ x.ticks)) → KeepsBudget c → KeepsBudget d
stay_below c d b from k h y e = let q = from h y e in let l = k h q.0 q.1 in let t = q.2 in omega arith

same_below : (c d : Core) → d.budget ≡ c.budget → d.harts ≡ c.harts → KeepsBudget c → KeepsBudget d
same_below c d b e k = stay_below c d b (λ h y i. (y, sym (ap (λ xs. slice_get xs h) e) ∙ i, refl)) k

turn_below : (c : Core) (h : ℕ) → IsReached c → IsTrue (is_runnable c h) → KeepsBudget c → (o : Option Hart) → slice_get c.harts h ≡ o → KeepsBudget (turn_by o c h)
turn_below c h r may k None e = k
turn_below c h r may k (Some x) e = λ j y i. ⊎_elim (λ (same : j ≡ h). here j y same i) (λ (away : j ≡ h → ⊥). k j y (sym (get_set_other c.harts h j (turn_alone c h x).hart away) ∙ i)) (cases_eq j h)
  where
    at : (b : Bool) → is_tick (fetched c.program c.code x) ≡ b → cond b (x.ticks + 1) x.ticks ≤ c.budget
    at true t = let l = below_budget c r h x e may (ap (λ o. ticks_by o c) e ∙ t) in omega arith
    at false t = k h x e

    here : (j : ℕ) (y : Hart) → j ≡ h → slice_get (slice_set c.harts h (turn_alone c h x).hart) j ≡ Some y → y.ticks ≤ c.budget
    here j y same i =
        let z = (turn_alone c h x).hart in
        let is : y ≡ z = same_some (slice_get (slice_set c.harts h z) h) y z (ap (slice_get (slice_set c.harts h z)) (sym same) ∙ i) (get_set_same c.harts h x z e) in
        let ticks : y.ticks ≡ cond (is_tick (fetched c.program c.code x)) (x.ticks + 1) x.ticks = ap (λ (v : Hart). v.ticks) is ∙ step_ticks (fetched c.program c.code x) h _ (record { hart = x; prog = c.prog }) in
        subst (λ n. n ≤ c.budget) (sym ticks) (at (is_tick (fetched c.program c.code x)) refl)

below_after : (e : Event) (c : Core) → IsReached c → May c e → KeepsBudget c → KeepsBudget (after_event c e)
below_after (Turn h) c r m k = turn_below c h r m k (slice_get c.harts h) refl
below_after (Write b) c r m k = k
below_after (LinkMini p n) c r m k = same_below c (after_event c (LinkMini p n)) (fixed c (LinkMini p n)).1 (same_link (current_base c.rows p) n c) k
below_after (UnlinkMini p n) c r m k = same_below c (after_event c (UnlinkMini p n)) (fixed c (UnlinkMini p n)).1 (same_unlink (before c n) (row_at c.rows n) n c) k
below_after (LinkPoint p) c r m k = same_below c (after_event c (LinkPoint p)) (fixed c (LinkPoint p)).1 (same_enter (current_base c.rows p) p c) k
below_after (UnlinkPoint p) c r m k = same_below c (after_event c (UnlinkPoint p)) (fixed c (UnlinkPoint p)).1 (same_own (program_word c.program p) p c) k
below_after (Free p) c r m k = k
below_after (Arm i) c r m k = stay_below c (after_event c (Arm i)) refl (λ h y e. let q = get_map (armed_hart c i) c.harts h y e in (q.0, q.1, ap (λ (v : Hart). v.ticks) q.2)) k
below_after (Sample i) c r m k = k

all_below : (es : List Event) (c : Core) → IsReached c → Legal es c → KeepsBudget c → KeepsBudget (replay es c)
all_below [] c r l k = k
all_below (e ∷ es) c r l k = all_below es (after_event c e) (reaches_more c e r l.0) l.1 (below_after e c r l.0 k)

first_below : (image : Image) (n budget : ℕ) → KeepsBudget (start_core image n budget)
first_below image n budget h x e =
    let q = get_map first_hart (harts_from n 0 image n) h x e in
    let s = starts n 0 n h image q.0 q.1 in
    let none : x.ticks ≡ 0 = ap (λ (v : Hart). v.ticks) (q.2 ∙ ap first_hart s.1) in
    omega arith

pub budget_is_kept : BudgetIsKept
budget_is_kept image n budget es p l =
    all_below es (start_core image n budget) (record { image = image; many = n; events = []; program = p; legal = tt; is = refl }) l (first_below image n budget)

pub keeps_budget : (c : Core) → IsReached c → KeepsBudget c
keeps_budget c r = subst KeepsBudget (sym r.is) (budget_is_kept r.image r.many c.budget r.events r.program r.legal)
