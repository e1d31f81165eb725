-- For proofs alone: the publisher's ends, one for each view.
use Rattle.std.specs.Prelude.{◌≡◌, ℕ, ◌≤◌, true, false, List, [], ◌∷◌, map}
use Rattle.std.specs.List.{AllByRecursion}
use Rattle.crossbeam_channel.specs.Claims.{Pass, view, IsSeatAt}
use Rattle.session_spec.specs.declared.data.LatestSample.{LatestSample}
use Rattle.visi_run.specs.declared.line.Log.{Log}
use Rattle.visi_run.specs.Streams.{ViewChannel}
use Rattle.visi_run.specs.Lines.{log}

-- the publisher's end of one view: all that was published there, the channel, and room for how many more
pub record LaneData : Type 0 where
  pub all : List LatestSample
  pub line : ViewChannel
  pub room : ℕ

abbrev pub sent_by : Pass LatestSample Log → List LatestSample
sent_by p = (view p).sent

-- the pass may send, and has sent this
pub record IsSender (line : ViewChannel) (pass : Pass LatestSample Log) : Type 0 where
  pub at : IsSeatAt line pass
  pub may : (view pass).sends ≡ true

-- the pass may take, and has taken this
pub record IsTaker (line : ViewChannel) (taken : List LatestSample) (pass : Pass LatestSample Log) : Type 0 where
  pub at : IsSeatAt line pass
  pub is : view pass ≡ log false true [] taken

abbrev pub first_list : List LaneData → List LatestSample
first_list [] = []
first_list (d ∷ ds) = d.all

abbrev pub lines_of : List LaneData → List ViewChannel
lines_of ds = map (λ (d : LaneData). d.line) ds

abbrev pub alls_of : List LaneData → List (List LatestSample)
alls_of ds = map (λ (d : LaneData). d.all) ds

-- the lists of all views are one list
abbrev pub HaveOneList : List LaneData → Type 0
HaveOneList ds = AllByRecursion (λ (xs : List LatestSample). xs ≡ first_list ds) (alls_of ds)

-- each lane has room for a number of more items
abbrev pub HaveRoom : ℕ → List LaneData → Type 0
HaveRoom n ds = AllByRecursion (λ (d : LaneData). n ≤ d.room) ds
