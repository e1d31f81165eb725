-- For proofs alone: what one step of a session adds to its samples, and what was told of them.
use Rattle.std.specs.Prelude.{◌≡◌, ◌≢◌, ℕ, ◌≤◌, ◌++◌, Bool, true, false}
use Rattle.session_spec.specs.Inputs.{Inputs}
use Rattle.session_spec.specs.States.{State}
use Rattle.session.specs.Sessions.{SessionData}
use Rattle.visi_run.specs.Readings.{last_of}
use Rattle.whole_run.specs.Seeded.{IsSeeded}
use Rattle.visi_run.specs.Feed.{feed_of, last_reading, reading_of}
use Rattle.visi_run.specs.declared.outlet.Outlet.{Outlet}

-- Time goes on. Where no samples were taken the feed stays; otherwise the latest are appended to it.
pub record IsSampleStep (s t : State) : Type 0 where
  pub time : s.kept.time ≤ t.kept.time
  pub none : t.kept.samples ≡ s.kept.samples → t.feed ≡ s.feed
  pub some : t.kept.samples ≢ s.kept.samples → t.feed ≡ s.feed ++ t.latest

-- all samples are published, and the gauge was set to where the run is
pub record HasPublished (o : Outlet) (s : State) (ended : Bool) : Type 0 where
  pub feed : o.publisher.items ≡ s.feed
  pub samples : o.samples ≡ s.kept.samples
  pub published : o.published ≡ (reading_of s ended).published
  pub last : last_of o.writer.list ≡ reading_of s ended

-- those before the session's last step are
pub record HasOneStep (o : Outlet) (s : State) : Type 0 where
  pub before : State
  pub told : HasPublished o before false
  pub step : IsSampleStep before s

-- the session took the whole list of quanta of the seed and is closed; all its samples are published to the same views, and the
-- gauge tells its end
pub record HasRun (i : Inputs) (seed turns : ℕ) (old : Outlet) (s : SessionData) (o : Outlet) : Type 0 where
  pub inputs : s.inputs ≡ i
  pub closed : s.closed ≡ true
  pub seeded : IsSeeded i seed turns s.quanta
  pub feed : o.publisher.items ≡ feed_of i s.quanta
  pub last : last_of o.writer.list ≡ last_reading i s.quanta
  pub lines : o.publisher.lines ≡ old.publisher.lines
  pub cell : o.writer.cell ≡ old.writer.cell
