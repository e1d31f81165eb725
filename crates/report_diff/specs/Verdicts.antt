-- Nodes of the searches: what came of them.
use Rattle.std.specs.Prelude.{ℕ, ◌==◌, ◌&&◌, if◌then◌else◌, bytes_eq, Bool, true, false, List, [], ◌++◌, codes, flat_map, is_some, map, not, slice_get}
use Rattle.std.specs.List.{count_by}
use Rattle.std.specs.Option.{option_map_or}
use Rattle.pn_text.specs.Lines.{is_none}
use Rattle.report.specs.ShownTexts.{pair_text}
use Rattle.report.specs.declared.parts.NodePart.{NodePart}
use Rattle.report_view.specs.Harts.{amount_text}
use Rattle.report_view.specs.Trees.{was_true}
use Rattle.report_diff.specs.Labels.{label_at}
use Rattle.report_diff.specs.Matches.{alone_text, both_text, matches_of}
use Rattle.report_diff.specs.Runs.{only_in}
use Rattle.report_diff.specs.declared.matches.Match.{Match}
use Rattle.w3_search.specs.declared.node.NodeState.{NodeState}
use Rattle.w3_search.specs.declared.node.NodeState.TheVariants.{Waiting, Active, Confirmed, Rejected, Barred, Unfinished}

-- the first word of a report on a state
abbrev pub state_word : NodeState → List ℕ
state_word Waiting = codes "waiting"
state_word Active = codes "waiting"
state_word Confirmed = codes "true"
state_word Rejected = codes "false"
state_word (Barred cause) = codes "barred"
state_word (Unfinished seen) = codes "waiting"

abbrev pub node_word : NodePart → List ℕ
node_word part = state_word part.node.state

-- a node is matched by its phase, its hypothesis and its focus
abbrev pub node_names : List NodePart → List (List ℕ)
node_names parts = map (λ part. part.phase ++ codes " " ++ pair_text part.hypothesis part.focus) parts

unfoldable pub node_label : NodePart → List ℕ
node_label part = part.phase ++ codes " " ++ label_at part.hypothesis part.focus

abbrev pub has_same_word : NodePart → NodePart → Bool
has_same_word old new = bytes_eq (node_word old) (node_word new)

-- what came of a node, where that differs
unfoldable pub state_change : NodePart → NodePart → List ℕ
state_change old new =
    if has_same_word old new then [] else node_word old ++ codes " -> " ++ node_word new ++ codes ": " ++ node_label old ++ codes "\n"

abbrev pub state_changes : List NodePart → List NodePart → List Match → List ℕ
state_changes olds news ms = flat_map (both_text state_change olds news) ms

abbrev pub is_same_state : List NodePart → List NodePart → Match → Bool
is_same_state olds news m =
    option_map_or (λ old. option_map_or (λ other. option_map_or (has_same_word old) (slice_get news other) false) m.other false)
    (slice_get olds m.place) false

unfoldable pub same_states_line : ℕ → List ℕ
same_states_line n = if n == 0 then [] else codes "same state: " ++ amount_text n (codes "node\n") (codes "nodes\n")

-- ---- nodes that stand in one report alone

abbrev pub is_alone : Match → Bool
is_alone m = not (is_some m.other)

unfoldable pub lone_count_line : List ℕ → ℕ → List ℕ
lone_count_line report n = if n == 0 then [] else only_in report ++ amount_text n (codes "node") (codes "nodes") ++ codes "\n"

-- one that is true
unfoldable pub lone_true_node : List ℕ → NodePart → List ℕ
lone_true_node report part = if was_true part then only_in report ++ codes "true " ++ node_label part ++ codes "\n" else []

-- how many there are, and those that are true
unfoldable pub lone_nodes : List ℕ → List NodePart → List Match → List ℕ
lone_nodes report parts ms = lone_count_line report (count_by is_alone ms) ++ flat_map (alone_text (lone_true_node report) parts) ms

-- ---- all

-- the changes, how many nodes have the same state, and those that stand in one report alone; nothing where nothing differs
unfoldable pub states_section : List ℕ → ℕ → List ℕ → List ℕ → List ℕ
states_section changes same gone added =
    if is_none changes && (is_none gone && is_none added) then [] else changes ++ same_states_line same ++ gone ++ added

unfoldable pub nodes_diff : List NodePart → List NodePart → List ℕ
nodes_diff olds news =
    states_section (state_changes olds news (matches_of (node_names olds) (node_names news)))
    (count_by (is_same_state olds news) (matches_of (node_names olds) (node_names news)))
    (lone_nodes (codes "OLD") olds (matches_of (node_names olds) (node_names news)))
    (lone_nodes (codes "NEW") news (matches_of (node_names news) (node_names olds)))
