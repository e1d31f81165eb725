-- For proofs alone: what the code reports of what it holds.
use Rattle.std.specs.Prelude.{ℕ, Option, None, Some, List, [], ◌∷◌, ◌++◌, map, nat_lt}
use Rattle.fold_hist.specs.Bins.{Histogram}
use Rattle.tramp_spec.specs.Harts.{Hart}
use Rattle.machine.specs.Cores.{Core}
use Rattle.machine.specs.Places.{program_pc}
use Rattle.report.specs.declared.parts.HartPart.{HartPart}
use Rattle.report.specs.declared.parts.ReportParts.{ReportParts}
use Rattle.report.specs.declared.parts.ShownPart.{ShownPart}
use Rattle.session_spec.specs.declared.data.MetricFocusPair.{MetricFocusPair}
use Rattle.session_spec.specs.Inputs.{Inputs}
use Rattle.session_pairs.specs.declared.pair.SampledPair.{SampledPair}
use Rattle.report.specs.HartEnds.{hart_end}
use Rattle.session.specs.Parts.{refused_part, search_part, shown_part}
use Rattle.session.specs.Tables.{StateTable}

-- a hart of the patched machine
abbrev pub hart_seen : ℕ → Core → Hart → HartPart
hart_seen budget c x = record { ticks = x.ticks; stop = hart_end x.stop (nat_lt x.ticks budget); pc = program_pc c.code c.rows x }

-- those that have a histogram
abbrev pub parts_by : Inputs → MetricFocusPair → Option Histogram → List ShownPart
parts_by i s None = []
parts_by i s (Some h) = shown_part i s h ∷ []

abbrev pub pair_parts : Inputs → List SampledPair → List ShownPart
pair_parts i [] = []
pair_parts i (k ∷ ks) = parts_by i k.shown k.hist ++ pair_parts i ks

abbrev pub table_parts : Inputs → StateTable → ReportParts
table_parts i t = record {
  harts = map (hart_seen i.settings.budget t.machine.state.core) t.machine.state.core.harts;
  samples = t.samples;
  output = t.machine.state.core.prog.out;
  refused = map (refused_part i) t.refused;
  shown = pair_parts i t.pairs;
  search = search_part i i.checked.search t.search.nodes;
}
