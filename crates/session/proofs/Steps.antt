-- What the steps of an admission change, one after another.
use Rattle.std.proofs.Common.{ℕ, ◌+◌, ◌≤◌, List, [], ◌∷◌, ◌++◌, refl, sym, ap, ◌∙◌, arith, length, append_assoc, append-nil}
use Rattle.pn_types.specs.declared.plan.Plan.{Plan}
use Rattle.session_spec.specs.Inputs.{Inputs}
use Rattle.session_spec.proofs.Lists.{all_append}
use Rattle.session_pairs.specs.declared.pair.SampledPair.{SampledPair}
use Rattle.session_pairs.specs.SampledPairs.{AreLive}
use Rattle.session.specs.Outcomes.{IsAdmissionStep}
use Rattle.session.specs.Tables.{IsMore, IsNew, IsStill, StateTable}

-- ---- pairs

pub none_more : (i : Inputs) (pairs : List SampledPair) → IsMore i pairs pairs
none_more i pairs = record { more = []; is = sym (append-nil pairs); each = tt }

pub one_more : (i : Inputs) (pairs : List SampledPair) (k : SampledPair) → IsNew i k → IsMore i pairs (pairs ++ k ∷ [])
one_more i pairs k n = record { more = k ∷ []; is = refl; each = (n, tt) }

more_on : (i : Inputs) (a b c : List SampledPair) → IsMore i a b → IsMore i b c → IsMore i a c
more_on i a b c m n = record {
  more = m.more ++ n.more;
  is = n.is ∙ (ap (λ l. l ++ n.more) m.is ∙ append_assoc a m.more n.more);
  each = all_append (IsNew i) m.more n.more m.each n.each;
}

-- ---- what stays

pub still_first : (t : StateTable) → IsStill t t
still_first t = record { same = refl; core = refl; rules = refl }

pub still_on : (a b c : StateTable) → IsStill a b → IsStill b c → IsStill a c
still_on a b c s r =
    let f : StateTable → StateTable = λ x. record x { machine = c.machine; refused = c.refused; pairs = c.pairs; live = c.live; search = c.search; room = c.room; worked = c.worked } in
    record { same = r.same ∙ ap f s.same; core = r.core ∙ s.core; rules = r.rules ∙ s.rules }

-- ---- a number of steps

pub record AreSteps (i : Inputs) (old t : StateTable) (n : ℕ) : Type 0 where
  pub pairs : IsMore i old.pairs t.pairs
  pub few : length t.pairs ≤ length old.pairs + n
  pub room : old.room ≤ t.room + n
  pub live : AreLive t.machine.state.placer t.pairs t.live
  pub still : IsStill old t

pub no_steps : (i : Inputs) (t : StateTable) → AreLive t.machine.state.placer t.pairs t.live → AreSteps i t t 0
no_steps i t live = record { pairs = none_more i t.pairs; few = omega arith; room = omega arith; live = live; still = still_first t }

pub next_step : (i : Inputs) (plan : Plan) (old t new : StateTable) (n : ℕ) → AreSteps i old t n → IsAdmissionStep i plan t new → AreSteps i old new (n + 1)
next_step i plan old t new n a s = record {
  pairs = more_on i old.pairs t.pairs new.pairs a.pairs s.pairs;
  few = omega (arith, a.few, s.few);
  room = omega (arith, a.room, s.room);
  live = s.live;
  still = still_on old t new a.still s.still;
}
