use Rattle.std.proofs.Common.{◌≡◌, ◌∙◌, ap, subst, sym}
use Rattle.session.specs.Sessions.{state_of}
use Rattle.visi_run.specs.Gauges.{Writer}
use Rattle.visi_run.specs.Readings.{MayFollow, first_reading, last_of}
use Rattle.visi_run.specs.Streams.{Published}
use Rattle.visi_run.specs.declared.dial.Reading.{Reading}
use Rattle.visi_run.proofs.Glances.{last_snoc}
use Rattle.visi_run.specs.Feed.{reading_of}
use Rattle.visi_run.proofs.Feeds.{reading_follows}
use Rattle.visi_run.proofs.outlet.Outlet.tell.Goals as goal

pub set-requires-clause-follows : goal.set-requires-clause-follows
set-requires-clause-follows g c =
    let s = c.requires.behind.before in
    let t = state_of c.args.session.now in
    let set : ◌≡◌ {A = Reading} (reading_of t c.args.ended) (record { published = c.publish.new.self.published; ticks = c.time.result; ended = c.args.ended }) =
    λ k. record { published = sym c.in_ok-publish.ensures.published k; ticks = sym c.time.ensures k; ended = c.args.ended } in
    let last = ap (λ (w : Writer). last_of w.list) c.in_ok-publish.ensures.same.1 ∙ c.requires.behind.told.last in
    subst (λ (r : Reading). MayFollow (last_of c.publish.new.self.writer.list) r) set
    (subst (λ (r : Reading). MayFollow r (reading_of t c.args.ended)) (sym last) (reading_follows s t c.args.ended c.requires.behind.step))

pub returns-clause-told : goal.returns-clause-told
returns-clause-told g c =
    let writer = c.publish.new.self.writer in
    let set : ◌≡◌ {A = Reading} (record { published = c.publish.new.self.published; ticks = c.time.result; ended = c.args.ended }) (reading_of (state_of c.args.session.now) c.args.ended) =
    λ k. record { published = c.in_ok-publish.ensures.published k; ticks = c.time.ensures k; ended = c.args.ended } in
    record {
      feed = ap (λ (p : Published). p.items) c.offer.ensures ∙ c.in_ok-publish.ensures.feed;
      samples = c.in_ok-publish.ensures.samples;
      published = c.in_ok-publish.ensures.published;
      last = ap (λ (w : Writer). last_of w.list) c.set.ensures ∙ last_snoc first_reading writer.list _ ∙ set;
    }
