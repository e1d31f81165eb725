-- The lines of a report on the search.
use Rattle.std.specs.Prelude.{ℕ, Bool, ◌+◌, if◌then◌else◌, Option, Some, None, List, [], ◌∷◌, ◌++◌, codes, length}
use Rattle.std.specs.Fmt.{decimal}
use Rattle.pn_types.specs.Texts.{cause_text}
use Rattle.pn_types.specs.declared.pick.BarCause.{BarCause}
use Rattle.pn_types.specs.declared.pick.BarCause.TheVariants as bar
use Rattle.pn_types.specs.declared.pick.PickCause.{PickCause}
use Rattle.pn_types.specs.declared.pick.PickCause.TheVariants as pick
use Rattle.w3_search.specs.declared.node.Node.{Node}
use Rattle.w3_search.specs.declared.node.NodeState.{NodeState}
use Rattle.w3_search.specs.declared.node.NodeState.TheVariants.{Waiting, Active, Confirmed, Rejected, Barred, Unfinished}
use Rattle.report.specs.declared.parts.NodePart.{NodePart}
use Rattle.report.specs.declared.parts.SearchPart.{SearchPart}
use Rattle.report.specs.ShownTexts.{pair_text}

-- how many nodes there are, and whether no more could be made
abbrev pub nodes_line : ℕ → Bool → List ℕ
nodes_line count full = codes "search nodes " ++ (decimal count ++ (if full then codes " full\n" else codes "\n"))

abbrev pub search_head : SearchPart → List ℕ
search_head s = nodes_line (length s.nodes) s.full

-- the number of the node that it refines, if it refines one
abbrev pub parent_text : Option ℕ → List ℕ
parent_text None = codes "none"
parent_text (Some parent) = decimal parent

-- a verdict, the sums over the samples, and the interval that they are of
abbrev pub verdict_text : List ℕ → Node → List ℕ
verdict_text verdict n =
    verdict ++ (codes " value " ++ (decimal n.value ++ (codes " ticks " ++ (decimal n.ticks ++ (codes " from " ++ (decimal n.from
    ++ (codes " to " ++ decimal n.to)))))))

-- how many samples were taken, of how many
abbrev pub waiting_text : ℕ → ℕ → List ℕ
waiting_text seen window = codes "waiting seen " ++ (decimal seen ++ (codes " of " ++ decimal window))

-- the cause for which a pair would be refused too
abbrev pub pick_of : BarCause → PickCause
pick_of (bar.NoConstraint axis) = pick.NoConstraint axis
pick_of (bar.TooManySites n) = pick.TooManySites n
pick_of (bar.TooManyStmts at) = pick.TooManyStmts at
pick_of (bar.OverCost n) = pick.OverCost n
pick_of (bar.NoSlot n) = pick.NoSlot n
pick_of (bar.NoRoom n) = pick.NoRoom n
pick_of (bar.Unmovable at) = pick.Unmovable at

-- what came of a node in this state, whose test takes as many samples as the window says
abbrev pub state_text : ℕ → Node → NodeState → List ℕ
state_text window n Waiting = waiting_text n.seen window
state_text window n Active = waiting_text n.seen window
state_text window n Confirmed = verdict_text (codes "true") n
state_text window n Rejected = verdict_text (codes "false") n
state_text window n (Barred cause) = codes "barred " ++ cause_text (pick_of cause)
state_text window n (Unfinished seen) = waiting_text seen window

-- a node's number, its phase, and the node that it refines
abbrev pub origin_text : ℕ → NodePart → List ℕ
origin_text i p = codes "node " ++ (decimal i ++ (codes " phase " ++ (p.phase ++ (codes " parent " ++ parent_text p.node.parent))))

-- where a node comes from, its hypothesis at its focus, and what came of it
abbrev pub node_line : ℕ → ℕ → NodePart → List ℕ
node_line window i p =
    origin_text i p ++ (codes " "
    ++ (pair_text p.hypothesis p.focus ++ (codes " " ++ (state_text window p.node p.node.state ++ codes "\n"))))

-- the lines of nodes that are numbered from i on
abbrev pub node_lines : ℕ → ℕ → List NodePart → List ℕ
node_lines window i [] = []
node_lines window i (p ∷ ps) = node_line window i p ++ node_lines window (i + 1) ps

-- how many nodes the search has, and each node
abbrev pub search_lines : SearchPart → List ℕ
search_lines s = search_head s ++ node_lines s.window 0 s.nodes
