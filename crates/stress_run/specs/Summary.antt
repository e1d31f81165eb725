-- The line that sums up a stress run.
use Rattle.std.specs.Prelude.{ℕ, Bool, true, false, Option, None, Some, List, [], ◌++◌, codes, count_by, length, sum_by}
use Rattle.std.specs.Fmt.{decimal}
use Rattle.report.specs.declared.parts.NodePart.{NodePart}
use Rattle.report.specs.declared.parts.ReportParts.{ReportParts}
use Rattle.report.specs.declared.parts.SearchPart.{SearchPart}
use Rattle.w3_search.specs.declared.node.NodeState.{NodeState}
use Rattle.w3_search.specs.declared.node.NodeState.TheVariants.{Waiting, Active, Confirmed, Rejected, Barred, Unfinished}

abbrev pub is_confirmed : NodeState → Bool
is_confirmed Confirmed = true
is_confirmed state = false

abbrev pub is_rejected : NodeState → Bool
is_rejected Rejected = true
is_rejected state = false

abbrev pub is_barred : NodeState → Bool
is_barred (Barred cause) = true
is_barred state = false

-- no test of it came to its end
abbrev pub is_waiting : NodeState → Bool
is_waiting Waiting = true
is_waiting Active = true
is_waiting (Unfinished seen) = true
is_waiting state = false

-- how many nodes have such a state
abbrev pub count_of : (NodeState → Bool) → List NodePart → ℕ
count_of is nodes = count_by (λ p. is p.node.state) nodes

abbrev pub nodes_of : Option SearchPart → List NodePart
nodes_of None = []
nodes_of (Some search) = search.nodes

-- how many nodes there are, and what came of them
abbrev pub nodes_text : List NodePart → List ℕ
nodes_text nodes =
    codes " nodes " ++ decimal (length nodes)
    ++ codes " true " ++ decimal (count_of is_confirmed nodes) ++ codes " false " ++ decimal (count_of is_rejected nodes)
    ++ codes " barred " ++ decimal (count_of is_barred nodes) ++ codes " waiting " ++ decimal (count_of is_waiting nodes) ++ codes "\n"

-- The line: how many procedures were drawn, the ticks of all harts together, how many samples were taken, and the nodes.
abbrev pub summary_text : ℕ → ReportParts → List ℕ
summary_text procs p =
    codes "stress " ++ decimal procs
    ++ codes " ticks " ++ decimal (sum_by (λ part. part.ticks) p.harts) ++ codes " samples " ++ decimal p.samples
    ++ nodes_text (nodes_of p.search)
