-- What holds of the text of what differs.
use Rattle.std.specs.Prelude.{ℕ, ◌≡◌, List, codes, is_some, slice_get}
use Rattle.std.specs.Option.{option_map}
use Rattle.first_places.specs.Places.{first_place}
use Rattle.pn_types.specs.Texts.{stop_text}
use Rattle.report.specs.declared.parts.ReportParts.{ReportParts}
use Rattle.report_diff.specs.Diff.{diff_text, nodes_of}
use Rattle.report_diff.specs.Named.{value_named}
use Rattle.report_diff.specs.Sums.{bins_sum, shown_names}
use Rattle.report_diff.specs.Verdicts.{node_names, node_word}
use Rattle.report_diff.specs.Wishes.{wish_names}

-- a report and itself have no difference
abbrev pub DiffOfSame : Type 0
DiffOfSame = (parts : ReportParts) → diff_text parts parts ≡ codes "nothing differs\n"

-- All that is compared is the same: the ticks of each hart, and how it ended; the output; the sum of each pair of a metric and a focus;
-- which wishes were refused; and what the reports say of each node.
pub record AreSame (old new : ReportParts) : Type 0 where
  pub ticks : (n : ℕ) → option_map (λ part. part.ticks) (slice_get old.harts n) ≡ option_map (λ part. part.ticks) (slice_get new.harts n)
  pub ends : (n : ℕ) → option_map (λ part. stop_text part.stop) (slice_get old.harts n) ≡ option_map (λ part. stop_text part.stop) (slice_get new.harts n)
  pub output : old.output ≡ new.output
  pub sums : (name : List ℕ) → value_named bins_sum (shown_names old.shown) old.shown name ≡ value_named bins_sum (shown_names new.shown) new.shown name
  pub wishes : (name : List ℕ) → is_some (first_place name (wish_names old.refused)) ≡ is_some (first_place name (wish_names new.refused))
  pub states : (name : List ℕ)
      → value_named node_word (node_names (nodes_of old)) (nodes_of old) name ≡ value_named node_word (node_names (nodes_of new)) (nodes_of new) name

-- Where it is printed that nothing differs, all that is compared is the same.
abbrev pub NothingDiffers : Type 0
NothingDiffers = (old new : ReportParts) → diff_text old new ≡ codes "nothing differs\n" → AreSame old new
