use Rattle.std.proofs.Common.{◌≡◌, ◌∙◌, List, ap, length, sym}
use Rattle.std.specs.Prelude.{◌-◌, ◌^◌, false, min}
use Rattle.session_spec.specs.declared.data.LatestSample.{LatestSample}
use Rattle.visi_run.specs.Readings.{last_of}
use Rattle.visi_run.specs.declared.dial.Reading.{Reading}
use Rattle.session.specs.Sessions.{state_of}
use Rattle.visi_run.specs.Feed.{reading_of}
use Rattle.visi_run.proofs.Feeds.{begun_feed, begun_time}
use Rattle.visi_run.proofs.outlet.Outlet.new.Goals as goal

pub returns-clause-told : goal.returns-clause-told
returns-clause-told c =
    let none = sym (begun_feed c.args.session.now c.requires.begun) in
    let early = sym (begun_time c.args.session.now c.requires.begun) in
    let published = ap (λ (l : List LatestSample). min (length l) (2 ^ 64 - 1)) none in
    let same : ◌≡◌ {A = Reading} (record { published = 0; ticks = 0; ended = false }) (reading_of (state_of c.args.session.now) false) =
    λ k. record { published = published k; ticks = early k; ended = false } in
    record {
      feed = c.requires.none ∙ none;
      samples = c.samples.ensures;
      published = published;
      last = ap last_of c.requires.first ∙ same;
    }
