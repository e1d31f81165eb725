use Rattle.std.proofs.Common.{◌∙◌, ap, subst, sym}
use Rattle.session.specs.Sessions.{SessionData}
use Rattle.session_spec.specs.Inputs.{Inputs}
use Rattle.whole_run.specs.Seeded.{IsSeeded}
use Rattle.session.specs.Sessions.{state_of}
use Rattle.visi_run.specs.Feed.{feed_of, last_reading}
use Rattle.visi_run.proofs.Feeds.{close_step, feed_is, last_is}
use Rattle.visi_run.proofs.run.run.Goals as goal

pub tell-requires-clause-behind : goal.tell-requires-clause-behind
tell-requires-clause-behind g c =
    let s = c.take_all.new.session in
    record { before = state_of s; told = c.in_ok-take_all.ensures.told; step = close_step s c.close.new.self c.in_ok-take_all.ensures.going c.close.ensures }

pub returns : goal.returns
returns g c =
    let s = c.take_all.new.session in
    let t = c.close.new.self in
    let e = c.in_ok-take_all.ensures in
    let closed = ap (λ (x : SessionData). x.closed) c.close.ensures in
    let inputs = ap (λ (x : SessionData). x.inputs) c.close.ensures ∙ e.inputs in
    let quanta = ap (λ (x : SessionData). x.quanta) c.close.ensures in
    record {
      inputs = inputs;
      closed = closed;
      seeded = subst (λ l. IsSeeded c.args.session.inputs c.args.rounds.seed c.args.rounds.turns l) (sym quanta) e.seeded;
      feed = c.in_ok-tell.ensures.told.feed ∙ (feed_is t closed ∙ ap (λ (i : Inputs). feed_of i t.quanta) inputs);
      last = c.in_ok-tell.ensures.told.last ∙ (last_is t closed ∙ ap (λ (i : Inputs). last_reading i t.quanta) inputs);
      lines = c.in_ok-tell.ensures.same.0 ∙ e.same.0;
      cell = c.in_ok-tell.ensures.same.1 ∙ e.same.1;
    }
