-- What a report shows of a session.
use Rattle.std.specs.Prelude.{ℕ, zero, suc, nat_le, if◌then◌else◌, List, [], ◌∷◌, ◌++◌, Option, None, Some, codes, is_none, length, map, slice_get}
use Rattle.std.specs.Option.{option_map_or}
use Rattle.rv_word.specs.Plain.{PlainHart, Plain, may_go}
use Rattle.rv_exec.specs.Run.{run}
use Rattle.fold_hist.specs.Bins.{Histogram, hist_of}
use Rattle.fold_hist.specs.declared.bin.Bin.{Bin}
use Rattle.mdl_ast.specs.declared.metric.Metric.{Metric}
use Rattle.mdl_ast.specs.declared.items.PhaseDecl.{PhaseDecl}
use Rattle.mdl_ast.specs.declared.items.SearchDecl.{SearchDecl}
use Rattle.resource_tree.specs.Foci.{canonical}
use Rattle.w3_search.specs.Nodes.{most_nodes}
use Rattle.w3_search.specs.declared.node.Node.{Node}
use Rattle.report.specs.HartEnds.{hart_end}
use Rattle.report.specs.declared.parts.HartPart.{HartPart}
use Rattle.report.specs.declared.parts.NodePart.{NodePart}
use Rattle.report.specs.declared.parts.RefusedPart.{RefusedPart}
use Rattle.report.specs.declared.parts.ReportParts.{ReportParts}
use Rattle.report.specs.declared.parts.SearchPart.{SearchPart}
use Rattle.report.specs.declared.parts.ShownPart.{ShownPart}
use Rattle.session_spec.specs.declared.data.RefusedWish.{RefusedWish}
use Rattle.session_spec.specs.declared.data.MetricFocusPair.{MetricFocusPair}
use Rattle.session_spec.specs.Inputs.{Inputs}
use Rattle.session_spec.specs.States.{State}

-- ---- harts

-- a hart: its ticks, how it ended and where
abbrev pub hart_part : ℕ → PlainHart → HartPart
hart_part budget x = record { ticks = x.ticks; stop = hart_end x.stop (may_go (Some x) budget); pc = x.pc }

-- ---- metrics at foci

-- the metric of a number
abbrev pub metric_of : Inputs → ℕ → Option Metric
metric_of i n = slice_get i.checked.metrics n

abbrev pub name_of : Option Metric → List ℕ
name_of None = []
name_of (Some m) = m.name

abbrev pub units_of : Option Metric → List ℕ
units_of None = []
units_of (Some m) = m.units

-- a wish that was refused
abbrev pub refused_part : Inputs → RefusedWish → RefusedPart
refused_part i r = record {
  show = r.show;
  metric = name_of (metric_of i r.metric);
  focus = canonical i.tree r.focus;
  at = r.at;
  cause = r.cause;
}

-- an instrument that shows something, or did, with a histogram
abbrev pub shown_part : Inputs → MetricFocusPair → Histogram → ShownPart
shown_part i s h = record {
  metric = name_of (metric_of i s.metric);
  focus = canonical i.tree s.focus;
  units = units_of (metric_of i s.metric);
  from = s.armed;
  width = h.width;
  bins = h.bins;
}

-- each of these that was wished with the histogram of its samples
abbrev pub shown_parts : Inputs → List MetricFocusPair → List (List Bin) → List ShownPart
shown_parts i [] rs = []
shown_parts i (s ∷ ss) [] = []
shown_parts i (s ∷ ss) (r ∷ rs) = (if is_none s.node then shown_part i s (hist_of i.settings.bins r) ∷ [] else []) ++ shown_parts i ss rs

-- ---- the search

-- the first phase is called global
abbrev pub phase_name : List PhaseDecl → ℕ → List ℕ
phase_name phases zero = codes "global"
phase_name phases (suc n) = option_map_or (λ p. p.name) (slice_get phases n) []

abbrev pub hypothesis_name : Inputs → ℕ → List ℕ
hypothesis_name i n = option_map_or (λ h. h.name) (slice_get i.checked.hypotheses n) []

abbrev pub node_part : Inputs → Node → NodePart
node_part i n = record {
  phase = phase_name i.checked.phases n.phase;
  hypothesis = hypothesis_name i n.hypothesis;
  focus = canonical i.tree n.focus;
  node = n;
}

-- the nodes in the order in which they were made, and whether no more could be
abbrev pub search_part : Inputs → Option SearchDecl → List Node → Option SearchPart
search_part i None nodes = None
search_part i (Some decl) nodes =
    Some (record { full = nat_le most_nodes (length nodes); window = decl.window; nodes = map (node_part i) nodes })

-- ---- the whole

-- the state of the unpatched program after its own run
abbrev pub program_of_run : Inputs → List ℕ → Plain
program_of_run i owns = run i.image i.settings.harts owns

-- What a report shows of a session in this state: the harts and the output of the unpatched program's run, how many samples were
-- taken, what was refused, what was shown, and the search, if one was wanted.
abbrev pub parts_of : Inputs → State → ReportParts
parts_of i s = record {
  harts = map (hart_part i.settings.budget) (program_of_run i s.owns).harts;
  samples = s.kept.samples;
  output = (program_of_run i s.owns).prog.out;
  refused = map (refused_part i) s.kept.refused;
  shown = shown_parts i s.kept.shown s.recorded;
  search = search_part i i.checked.search s.kept.search.nodes;
}
