-- What the lines of a report say. A line is without its LF.
use Rattle.std.specs.Prelude.{ℕ, ◌+◌, ◌-◌, if◌then◌else◌, Option, Some, None, List, [], codes, drop, length, take}
use Rattle.fold_hist.specs.declared.bin.Bin.{Bin}
use Rattle.pn_types.specs.declared.focus.CodePart.TheVariants.{All}
use Rattle.pn_types.specs.declared.focus.Focus.{Focus}
use Rattle.report.specs.declared.parts.HartPart.{HartPart}
use Rattle.report.specs.declared.parts.NodePart.{NodePart}
use Rattle.report.specs.declared.parts.RefusedPart.{RefusedPart}
use Rattle.report.specs.declared.parts.ShownPart.{ShownPart}
use Rattle.w3_search.specs.declared.node.Node.{Node}
use Rattle.w3_search.specs.declared.node.NodeState.{NodeState}
use Rattle.w3_search.specs.declared.node.NodeState.TheVariants.{Confirmed, Rejected, Barred, Unfinished}
use Rattle.advice.specs.Words.{number_at, word_at, words}
use Rattle.report_lines.specs.Causes.{bar_of, cause_at, says, stop_at, words_of_stop}
use Rattle.report_lines.specs.Words.{address_at, moment_of, number_before, number_of_word, parent_number, short_at}

-- `hart N ticks T STOP at PC`
abbrev pub hart_of_line : List ℕ → HartPart
hart_of_line line = record {
  ticks = number_at 3 line;
  stop = stop_at 4 line;
  pc = address_at (words_of_stop (stop_at 4 line) + 5) line;
}

-- `refused show|drop METRIC FOCUS at T: CAUSE`
abbrev pub refused_of_line : List ℕ → RefusedPart
refused_of_line line = record {
  show = says 1 line (codes "show");
  metric = word_at 2 line;
  focus = word_at 3 line;
  at = number_before (word_at 5 line);
  cause = cause_at 6 line;
}

-- the word at a place from the end of a line on, the last at 1
abbrev pub last_at : ℕ → List ℕ → List ℕ
last_at place line = word_at (length (words line) - place) line

-- what stands behind ` units `, which may have spaces, and before ` from F bins N width W`
abbrev pub front_length : List ℕ → ℕ
front_length line = length (word_at 1 line) + length (word_at 2 line) + 18

abbrev pub back_length : List ℕ → ℕ
back_length line = length (last_at 5 line) + length (last_at 3 line) + length (last_at 1 line) + 19

abbrev pub units_in_line : List ℕ → List ℕ
units_in_line line = take (length line - back_length line - front_length line) (drop (front_length line) line)

-- `histogram METRIC FOCUS units UNITS from F bins N width W`, so far without bins
abbrev pub histogram_of_line : List ℕ → ShownPart
histogram_of_line line = record {
  metric = word_at 1 line;
  focus = word_at 2 line;
  units = units_in_line line;
  from = moment_of (last_at 5 line);
  width = number_of_word (last_at 1 line);
  bins = [];
}

-- how many bins it has
abbrev pub bins_of_line : List ℕ → ℕ
bins_of_line line = number_of_word (last_at 3 line)

-- `bin I from A to B value V`
abbrev pub bin_of_line : List ℕ → Bin
bin_of_line line = record { from = number_at 3 line; to = number_at 5 line; sum = number_at 7 line }

-- ---- nodes

abbrev pub whole_focus : Focus
whole_focus = record { code = All; hart = None; object = None }

-- a node of which this is told; 0 stands for what a report doesn't print
abbrev pub told_node : Option ℕ → NodeState → ℕ → ℕ → ℕ → ℕ → Node
told_node parent state value ticks from to = record {
  phase = 0;
  parent = parent;
  hypothesis = 0;
  focus = whole_focus;
  state = state;
  seen = 0;
  from = from;
  to = to;
  value = value;
  ticks = ticks;
}

-- `true` or `false`, and `value V ticks T from A to B`
abbrev pub verdict_node : NodeState → List ℕ → Node
verdict_node state line =
    told_node (parent_number (word_at 5 line)) state (number_at 10 line) (number_at 12 line) (number_at 14 line) (number_at 16 line)

-- a node without a verdict
abbrev pub plain_node : NodeState → List ℕ → Node
plain_node state line = told_node (parent_number (word_at 5 line)) state 0 0 0 0

abbrev pub node_in : List ℕ → Node
node_in line =
    if says 8 line (codes "true") then verdict_node Confirmed line
    else if says 8 line (codes "false") then verdict_node Rejected line
    else if says 8 line (codes "barred") then plain_node (Barred (bar_of (cause_at 9 line))) line
    else plain_node (Unfinished (short_at 10 line)) line

-- `node I phase P parent J HYPOTHESIS FOCUS STATE`
abbrev pub node_of_line : List ℕ → NodePart
node_of_line line = record { phase = word_at 3 line; hypothesis = word_at 6 line; focus = word_at 7 line; node = node_in line }

-- the window of a node that waits: `waiting seen S of M`
abbrev pub window_of_line : List ℕ → Option ℕ
window_of_line line = if says 8 line (codes "waiting") then Some (short_at 12 line) else None
