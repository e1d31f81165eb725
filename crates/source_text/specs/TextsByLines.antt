-- For proofs alone: what holds of a text whose source lines are prepared.
use Rattle.std.specs.Prelude.{◌≡◌, map}
use Rattle.std.specs.List.Sorted.{IsNonDecreasingBy}
use Rattle.profile_text.specs.ProfiledTexts.{IsProfiledText}
use Rattle.profile_text.specs.Totals.{ticks_of}
use Rattle.source_text.specs.Ordered.{ordered_by}
use Rattle.source_text.specs.Sources.{by_place}
use Rattle.source_text.specs.declared.text_lines.TextLines.{TextLines}

-- it has the units and the rows by place, and all ticks
pub record AreTextLines (t : TextLines) : Type 0 where
  pub text : IsProfiledText t.text.now
  pub units : map (λ u. u.now) t.units.items ≡ ordered_by (λ u. u.unit) t.lines.now.units.now
  pub units_rise : IsNonDecreasingBy (λ u. u.now.unit) t.units.items
  pub rows : t.rows.items ≡ by_place t.lines.now.table.now.rows
  pub rows_rise : IsNonDecreasingBy (λ row. row.address) t.rows.items
  pub all : t.all ≡ ticks_of t.text.now.profile.now
