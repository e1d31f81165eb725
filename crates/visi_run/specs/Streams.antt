-- What contracts see of the publisher and of the views.
use Rattle.std.specs.Prelude.{List, Option, map}
use Rattle.std.specs.declared.alloc.Global.{Global}
use Rattle.atomic_table.specs.declared.badge.Badge.{Badge}
use Rattle.crossbeam_channel.specs.declared.flavors.array.Key.{Key}
use Rattle.crossbeam_channel.specs.declared.flavors.array.Rows.{Rows}
use Rattle.crossbeam_channel.specs.declared.flavors.array.Doing.{Doing}
use Rattle.crossbeam_channel.specs.declared.flavors.array.Rounds.{Rounds}
use Rattle.crossbeam_channel.specs.declared.flavors.array.Lockers.{Lockers}
use Rattle.crossbeam_channel.specs.declared.flavors.array.Whole.{Whole}
use Rattle.session_spec.specs.declared.data.LatestSample.{LatestSample}
use Rattle.visi_run.specs.declared.line.InOrder.{InOrder}
use Rattle.visi_run.specs.declared.line.Log.{Log}

-- a view's channel
abbrev pub ViewChannel : Type 0
ViewChannel = Rows (Badge (Key LatestSample)) (Doing LatestSample Log) (Rounds InOrder) (Option LatestSample) (Key LatestSample) (Lockers Whole) Global

-- what was published, and the views' channels in order
pub record Published : Type 0 where
  pub items : List LatestSample
  pub lines : List ViewChannel

-- what a view took, and its channel
pub record Watch : Type 0 where
  pub taken : List LatestSample
  pub line : ViewChannel

abbrev pub watch_lines : List Watch → List ViewChannel
watch_lines watches = map (λ (watch : Watch). watch.line) watches
