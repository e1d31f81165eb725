-- Parts whose report can be read.
use Rattle.std.specs.Prelude.{ℕ, ◌≤◌, IfSome, length, sum_by}
use Rattle.std.specs.List.{All}
use Rattle.report.specs.declared.parts.ReportParts.{ReportParts}
use Rattle.report.specs.declared.parts.SearchPart.{SearchPart}
use Rattle.report.specs.declared.parts.ShownPart.{ShownPart}
use Rattle.report_lines.specs.Readable.{Is32Bit, Is64Bit, IsBin, IsHartPart, IsHistogramPart, IsNodePart, IsRefusedPart}

pub record IsShownPart (part : ShownPart) : Type 0 where
  pub histogram : IsHistogramPart part
  pub count : Is64Bit (length part.bins)
  pub bins : All IsBin part.bins

pub record IsSearchPart (part : SearchPart) : Type 0 where
  pub window : Is32Bit part.window
  pub count : length part.nodes ≤ 4096
  pub nodes : All IsNodePart part.nodes

-- at most 32 harts, and 4,096 nodes of a search; what the program wrote may be any bytes
pub record IsWritten (parts : ReportParts) (skipped : ℕ) : Type 0 where
  pub count : length parts.harts ≤ 32
  pub harts : All IsHartPart parts.harts
  pub ticks : Is64Bit (sum_by (λ part. part.ticks) parts.harts)
  pub samples : Is64Bit parts.samples
  pub symbols : Is32Bit skipped
  pub output : Is64Bit (length parts.output)
  pub refused : All IsRefusedPart parts.refused
  pub shown : All IsShownPart parts.shown
  pub search : IfSome parts.search IsSearchPart
