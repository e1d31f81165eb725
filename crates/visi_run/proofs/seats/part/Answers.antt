use Rattle.std.proofs.Common.{rules, ◌≡◌, ◌++◌, [], ◌∷◌, length, length-append, vec_len, sym, ap, ◌∙◌, subst, arith}
use Rattle.std.proofs.lemmas.List.{map-id}
use Rattle.std.proofs.lemmas.Iterator.Adapters.{YieldsList-from_vec}
use Rattle.std.proofs.lemmas.Iterator.Consumers.{YieldsList-end}
use Rattle.visi_run.specs.Streams.{Watch}
use Rattle.visi_run.specs.Gauges.{AreOf, Reader}
use Rattle.visi_run.proofs.Desks.{each_append, snoc_map}
use Rattle.visi_run.specs.declared.view.Seat.{Seat}
use Rattle.visi_run.specs.Watching.{AreSeatsOf}
use Rattle.visi_run.proofs.SeatLists.{each_front, each_last}
use Rattle.visi_run.proofs.seats.part.Goals as goal

pub loop-seat-preserved : goal.loop-seat-preserved
loop-seat-preserved c =
    let i = c.loop-seat.invariant in
    let p = c.push_reserved.ensures in
    let q = c.push_reserved-in-loop-seat.ensures in
    record {
      lines = ap (Rattle.visi_run.specs.Streams.watch_lines) p.items ∙ snoc_map (λ (w : Watch). w.line) c.loop-seat.views.items c.in-Some.seat.view ∙ ap (λ l. l ++ c.in-Some.seat.view.line ∷ []) i.lines ∙ sym (snoc_map (λ (s : Seat). s.view.line) c.loop-seat.yielded c.in-Some.seat);
      readers = λ cell h.
          subst (AreOf cell) (sym q.items) (each_append (λ (r : Reader). r.cell ≡ cell) c.loop-seat.readers.items (c.in-Some.seat.reader ∷ []) (i.readers cell (each_front (λ (s : Seat). s.reader.cell ≡ cell) c.loop-seat.yielded (c.in-Some.seat ∷ []) h))
          (each_last (λ (s : Seat). s.reader.cell ≡ cell) c.loop-seat.yielded c.in-Some.seat h, tt));
      len = let n = i.len in let l = ap length q.items in omega (arith, length-append c.loop-seat.yielded (c.in-Some.seat ∷ []), length-append c.loop-seat.readers.items (c.in-Some.seat.reader ∷ []));
      views_count = let n = i.views_count in let l = p.len in omega (arith, length-append c.loop-seat.yielded (c.in-Some.seat ∷ []));
      readers_count = let n = i.readers_count in let l = q.len in omega (arith, length-append c.loop-seat.yielded (c.in-Some.seat ∷ []));
      views_room = let n = i.views_room in let l = p.capacity in omega arith;
      readers_room = let n = i.readers_room in let l = q.capacity in omega arith;
    }

pub returns-clause-cell : goal.returns-clause-cell
returns-clause-cell c cell h =
    let gives = c.into_iter-seat-iterator.ensures.into_iter_gives in
    let count : vec_len c.args.seats ≡ length c.args.seats.items = search rules in
    let seen = YieldsList-end (YieldsList-from_vec c.args.seats.items gives.0 (gives.1 ∙ count)) c.loop-seat.yielded c.loop-seat.seat-iterator c.loop-seat.yielded_by c.next.result c.next.new.self c.in-None.is c.next.ensures.steps in
    let whole : c.loop-seat.yielded ≡ c.args.seats.items = sym (map-id c.loop-seat.yielded) ∙ seen.0 in
    c.loop-seat.invariant.readers cell (subst (AreSeatsOf cell) (sym whole) h)
