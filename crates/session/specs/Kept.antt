-- For proofs alone: what a session keeps.
use Rattle.std.specs.Prelude.{◌≡◌, ℕ, ◌+◌, ◌*◌, ◌<◌, ◌≤◌, ◌^◌, true, false, Bool, IfSome, List, [], length}
use Rattle.std.specs.List.{AllByRecursion}
use Rattle.pn_types.specs.declared.limits.TheConstants.{MAX_QUANTUM}
use Rattle.pn_types.specs.declared.quantum.Quantum.{Quantum}
use Rattle.mdl_check.specs.declared.checked.CheckedWish.{CheckedWish}
use Rattle.machine.specs.Cores.{In}
use Rattle.machine.specs.Events.{IsQuiet}
use Rattle.machine.specs.Laws.{IsProgram}
use Rattle.resource_tree.specs.Foci.{harts_of_node}
use Rattle.session_spec.specs.Inputs.{Inputs, first_wishes, later_wishes}
use Rattle.session_spec.specs.Opening.{wished}
use Rattle.session_spec.specs.Work.{AreAllowed}
use Rattle.session_spec.specs.Plans.{ArePlansGood}
use Rattle.session_spec.specs.Searches.{rules_of}
use Rattle.session_spec.specs.Tests.{taken_at_once, with_tests}
use Rattle.session_pairs.specs.declared.pair.SampledPair.{SampledPair}
use Rattle.session_pairs.specs.SampledPairs.{AreLive}
use Rattle.session.specs.NodeCandidates.{HasCost}
use Rattle.session.specs.Given.{AreGiven, IsWishOf}
use Rattle.session.specs.Sessions.{state_at}
use Rattle.session.specs.Tables.{IsMore, IsStill, IsTableOf, StateTable, first_table, kept_of}

-- the harts of a pair are those of its focus and harts of the machine; it has at most as many samples as were taken
pub record IsSoundPair (i : Inputs) (samples : ℕ) (k : SampledPair) : Type 0 where
  pub harts : (k.first, k.count) ≡ harts_of_node i.tree.harts k.shown.focus.hart
  pub within : k.first + k.count ≤ i.settings.harts
  pub few : IfSome k.hist (λ hist. hist.count ≤ samples)
  pub cost : HasCost i k

-- after these quanta, and after the end where it was closed
pub record IsTableAfter (i : Inputs) (quanta : List Quantum) (over : Bool) (later : List CheckedWish) (t : StateTable) : Type 0 where
  pub given : AreGiven i
  pub good : ArePlansGood i
  pub allowed : AreAllowed i quanta
  pub state : IsTableOf i (state_at i quanta over) later t
  pub live : AreLive t.machine.state.placer t.pairs t.live
  pub pairs : AllByRecursion (IsSoundPair i t.samples) t.pairs
  pub many : length t.pairs + length later ≤ length i.checked.wishes + taken_at_once * (length quanta + 1)
  pub wishes : (w : CheckedWish) → In w later → IsWishOf i w
  pub harts : length t.machine.state.core.harts ≡ i.settings.harts
  pub places : t.places ≡ i.settings.harts
  pub rules : t.search.rules ≡ rules_of i
  pub soon : over ≡ false → t.last < t.due
  pub idle : over ≡ false → t.idle ≤ MAX_QUANTUM * length quanta
  pub samples : t.samples ≤ length quanta + 1
  pub fewer : over ≡ false → t.samples ≤ length quanta
  pub time : t.time ≤ 2 ^ 33 * (length quanta + 1)
  pub sooner : over ≡ false → t.time ≤ 2 ^ 33 * length quanta
  pub quiet : over ≡ true → IsQuiet t.machine.state.core

-- the stored after the admissions of the opening
pub record IsWished (i : Inputs) (t : StateTable) : Type 0 where
  pub program : IsProgram i.image
  pub good : ArePlansGood i
  pub kept : kept_of (later_wishes i) t ≡ with_tests i (wished i)
  pub pairs : IsMore i [] t.pairs
  pub few : length t.pairs ≤ length (first_wishes i) + taken_at_once
  pub live : AreLive t.machine.state.placer t.pairs t.live
  pub still : IsStill (first_table i) t

-- the same, as a whole
unfoldable pub IsAdmitted : Inputs → StateTable → Type 0
IsAdmitted i t = IsWished i t
