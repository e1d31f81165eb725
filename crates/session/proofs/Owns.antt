-- A quantum has at most as many ticks as turns.
use Rattle.std.proofs.Common.{ℕ, ◌≤◌, List, [], ◌∷◌, length, arith}
use Rattle.std.specs.Prelude.{Bool, true, false, cond}
use Rattle.std.proofs.lemmas.List.{length-append}
use Rattle.machine.specs.Cores.{Core}
use Rattle.machine.specs.Effects.{after_event, owned}
use Rattle.machine.specs.Events.{Event, Turn, Write, LinkMini, UnlinkMini, LinkPoint, UnlinkPoint, Free, Arm, Sample}
use Rattle.machine.specs.Replays.{owns}
use Rattle.machine.specs.States.{quantum_turns}
use Rattle.machine.specs.Turns.{ticks_next}
use Rattle.machine.proofs.Quanta.{quanta_are_legal}
use Rattle.session_spec.specs.Work.{owns_taken}

tick_few : (h : ℕ) (b : Bool) → length (cond b (h ∷ []) []) ≤ 1
tick_few h true = omega arith
tick_few h false = omega arith

owned_few : (c : Core) (e : Event) → length (owned c e) ≤ 1
owned_few c (Turn h) = tick_few h (ticks_next c h)
owned_few c (Write block) = omega arith
owned_few c (LinkMini point at) = omega arith
owned_few c (UnlinkMini point at) = omega arith
owned_few c (LinkPoint point) = omega arith
owned_few c (UnlinkPoint point) = omega arith
owned_few c (Free point) = omega arith
owned_few c (Arm i) = omega arith
owned_few c (Sample i) = omega arith

owns_few : (es : List Event) (c : Core) → length (owns es c) ≤ length es
owns_few [] c = omega arith
owns_few (e ∷ es) c =
    let sum = length-append (owned c e) (owns es (after_event c e)) in
    let one = owned_few c e in
    let rest = owns_few es (after_event c e) in
    omega arith

pub taken_few : (h n : ℕ) (c : Core) → length (owns_taken h n c) ≤ n
taken_few h n c =
    let l = owns_few (quantum_turns n h c) c in
    let bound = (quanta_are_legal n h c).bound in
    omega arith
