-- What an arming makes of the states of instruments.
use Rattle.std.proofs.Common.{◌≡◌, refl, sym}
use Rattle.std.specs.Prelude.{true}
use Rattle.std.proofs.lemmas.Bool.{true≢false, and_parts}
use Rattle.instrument.specs.Placements.{state_of}
use Rattle.instrument.specs.Scenes.{Arms}
use Rattle.instrument.specs.declared.number.State.{State as Stage}
use Rattle.instrument.specs.declared.number.State.TheVariants.{Placing, Armed, Leaving, Gone}
use Rattle.instrumented.specs.Instrumented.{Instrumented, after_act, is_linked}
use Rattle.session_spec.specs.declared.data.MetricFocusPair.{MetricFocusPair}
use Rattle.session_spec.specs.Due.{is_placing, is_ready}
use Rattle.session_spec.specs.Rosters.{AreNumbered}
use Rattle.session_spec.proofs.Standing.{IsArming}
use Rattle.session_spec.proofs.Acting.{arms_placer}

placing_is : (s : Stage) → is_placing s ≡ true → s ≡ Placing
placing_is Placing e = refl
placing_is Armed e = absurd (true≢false (sym e))
placing_is Leaving e = absurd (true≢false (sym e))
placing_is Gone e = absurd (true≢false (sym e))

-- one that is ready is being placed
pub ready_placing : (m : Instrumented) (s : MetricFocusPair) → is_ready m s ≡ true → state_of m.placer s.instrument.n ≡ Placing
ready_placing m s e = placing_is (state_of m.placer s.instrument.n) (and_parts (is_placing (state_of m.placer s.instrument.n)) (is_linked m s.instrument.n) e).0

pub ready_arms : (m : Instrumented) (s : MetricFocusPair) → AreNumbered m.placer → is_ready m s ≡ true → IsArming s.instrument.n m.placer (after_act (Arms s.instrument.n) m).placer
ready_arms m s r e = arms_placer s.instrument.n m r (ready_placing m s e)
