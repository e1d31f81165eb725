-- What a report prints of a hart's end and of a node, field by field.
use Rattle.std.specs.Prelude.{ℕ, Option, Some, None, List, codes}
use Rattle.pn_types.specs.declared.pick.PickCause.{PickCause}
use Rattle.pn_types.specs.declared.stop.StopText.{StopText}
use Rattle.pn_types.specs.declared.stop.StopText.TheVariants.{Exit, Illegal, Break, Misaligned, Access, TextAccess, FetchOutside, Budget, Cut}
use Rattle.report.specs.SearchTexts.{pick_of}
use Rattle.w3_search.specs.declared.node.NodeState.{NodeState}
use Rattle.w3_search.specs.declared.node.NodeState.TheVariants.{Waiting, Active, Confirmed, Rejected, Barred, Unfinished}

-- the number in a hart's end: its status, or the address that it touched
abbrev pub stop_code : StopText → Option ℕ
stop_code (Exit status) = Some status
stop_code Illegal = None
stop_code Break = None
stop_code Misaligned = None
stop_code (Access at) = Some at
stop_code (TextAccess at) = Some at
stop_code FetchOutside = None
stop_code Budget = None
stop_code Cut = None

-- what came of a node, in a word
abbrev pub state_word : NodeState → List ℕ
state_word Waiting = codes "waiting"
state_word Active = codes "waiting"
state_word Confirmed = codes "true"
state_word Rejected = codes "false"
state_word (Barred cause) = codes "barred"
state_word (Unfinished seen) = codes "waiting"

-- how many samples a node has that waits, where it took so many
abbrev pub seen_by : NodeState → ℕ → Option ℕ
seen_by Waiting taken = Some taken
seen_by Active taken = Some taken
seen_by Confirmed taken = None
seen_by Rejected taken = None
seen_by (Barred cause) taken = None
seen_by (Unfinished seen) taken = Some seen

-- a number of a node, where it has a verdict
abbrev pub of_verdict : NodeState → ℕ → Option ℕ
of_verdict Waiting n = None
of_verdict Active n = None
of_verdict Confirmed n = Some n
of_verdict Rejected n = Some n
of_verdict (Barred cause) n = None
of_verdict (Unfinished seen) n = None

-- why a node can't be tested
abbrev pub bar_cause : NodeState → Option PickCause
bar_cause Waiting = None
bar_cause Active = None
bar_cause Confirmed = None
bar_cause Rejected = None
bar_cause (Barred cause) = Some (pick_of cause)
bar_cause (Unfinished seen) = None
