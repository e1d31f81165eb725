use Rattle.std.proofs.Common.{◌≡◌, ◌∙◌, List, length, map, ap, subst, sym}
use Rattle.std.proofs.lemmas.List.{length-map}
use Rattle.std.specs.List.{AllByRecursion}
use Rattle.session_spec.specs.declared.data.LatestSample.{LatestSample}
use Rattle.atomic_table.specs.Seated.{TableId}
use Rattle.visi_run.specs.Gauges.{AreOf, Dial}
use Rattle.visi_run.specs.Streams.{Watch}
use Rattle.visi_run.proofs.Desks.{same_length}
use Rattle.whole_run.proofs.Ordered.{seeded_by}
use Rattle.visi_run.specs.declared.view.Seat.{Seat}
use Rattle.visi_run.specs.Steps.{HasRun}
use Rattle.visi_run.specs.Watching.{AreSeatsOf, seat_lines}
use Rattle.visi_run.proofs.run.stream.Goals as goal

pub join-seats-requires-after_bounds : goal.join-seats-requires-after_bounds
join-seats-requires-after_bounds g c κs within =
    let d = c.in_ok-gauge.ensures in
    let o = c.new-outlet.ensures in
    let cell = ap (λ (g : Dial). g.cell) c.in_ok-board.ensures.gauge in
    ((c.in_ok-seats.ensures.cell c.in_ok-board.board.gauge.cell (subst (λ (t : TableId). AreOf t c.in_ok-gauge.readers.items) (sym cell) d.fresh.0), (record { shared = c.type_bounds.sync-R.shared }, record { shared = c.type_bounds.sync-G.shared })), (c.in_ok-rounds.ensures.at, o.same.1 ∙ (d.writer.0 ∙ sym cell), o.told))

pub close-last-requires-clause-readers : goal.close-last-requires-clause-readers
close-last-requires-clause-readers g c =
    let second : (seat_lines c.in_ok-seats-2.field-0.items ≡ seat_lines c.in_ok-seats.seats.items) × AreSeatsOf c.in_ok-board.board.gauge.cell c.in_ok-seats-2.field-0.items = rw c.in_ok-seats-2.was at c.join-seats.ensures.first in
    let line = λ (s : Seat). s.view.line in
    let views = c.in_ok-publisher.views.items in (
      c.in_ok-views.ensures.count ∙ same_length line line _ _ second.0 ∙ same_length line (λ (w : Watch). w.line) _ _ c.in_ok-seats.ensures.lines
          ∙ (sym (length-map views (λ (w : Watch). w.line)) ∙ ap length c.in_ok-publisher.ensures.lines ∙ c.in_ok-publisher.ensures.count)
          ∙ (sym c.in_ok-gauge.ensures.readers.0 ∙ ap (λ (g : Dial). g.readers) (sym c.in_ok-board.ensures.gauge)),
      c.in_ok-views.ensures.cell c.in_ok-board.board.gauge.cell second.1,
    )

pub returns-clause-seeded : goal.returns-clause-seeded
returns-clause-seeded g c =
    let first : HasRun c.args.session.inputs c.in_ok-rounds.rounds.seed c.in_ok-rounds.rounds.turns c.new-outlet.result c.in_ok-session.session c.in_ok-session.outlet = rw c.in_ok-session.was at c.join-seats.ensures.second in
    seeded_by _ _ _ _ _ _ c.in_ok-session.session.quanta (λ k. c.args.session.inputs) c.in_ok-rounds.ensures.same.0 c.in_ok-rounds.ensures.same.1 first.seeded

pub returns-clause-last : goal.returns-clause-last
returns-clause-last g c =
    let first : HasRun c.args.session.inputs c.in_ok-rounds.rounds.seed c.in_ok-rounds.rounds.turns c.new-outlet.result c.in_ok-session.session c.in_ok-session.outlet = rw c.in_ok-session.was at c.join-seats.ensures.second in
    c.close-last.ensures.last ∙ first.last

pub returns-clause-feed : goal.returns-clause-feed
returns-clause-feed g c =
    let first : HasRun c.args.session.inputs c.in_ok-rounds.rounds.seed c.in_ok-rounds.rounds.turns c.new-outlet.result c.in_ok-session.session c.in_ok-session.outlet = rw c.in_ok-session.was at c.join-seats.ensures.second in
    subst (λ (l : List LatestSample). AllByRecursion (λ (xs : List LatestSample). xs ≡ l) (map (λ v. v.items) c.in_ok-lists.lists.items)) first.feed c.in_ok-lists.ensures.whole
