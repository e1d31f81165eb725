-- The state of a session is that after its quanta, or after their end.
use Rattle.std.proofs.Common.{◌≡◌, List, ap}
use Rattle.std.specs.Prelude.{Bool, true, false, cond}
use Rattle.pn_types.specs.declared.quantum.Quantum.{Quantum}
use Rattle.session_spec.specs.Inputs.{Inputs}
use Rattle.session_spec.specs.States.{State}
use Rattle.session_spec.specs.Work.{final_state, after_quanta}
use Rattle.session.specs.Sessions.{state_at}

module _ (i : Inputs) (quanta : List Quantum) (over : Bool) where
  pub at_the_end : over ≡ true → state_at i quanta over ≡ final_state i (after_quanta i quanta)
  at_the_end e = ap (λ b. cond b (final_state i (after_quanta i quanta)) (after_quanta i quanta)) e

  pub before_it : over ≡ false → state_at i quanta over ≡ after_quanta i quanta
  before_it e = ap (λ b. cond b (final_state i (after_quanta i quanta)) (after_quanta i quanta)) e

  -- what holds of both holds of it
  pub of_both : (P : State → Type 0) → P (final_state i (after_quanta i quanta)) → P (after_quanta i quanta) → P (state_at i quanta over)
  of_both P ended going = by over
    where
      by : (b : Bool) → P (cond b (final_state i (after_quanta i quanta)) (after_quanta i quanta))
      by true = ended
      by false = going
