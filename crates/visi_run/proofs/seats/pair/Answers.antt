use Rattle.std.proofs.Common.{◌≡◌, ◌++◌, [], ◌∷◌, length, length-append, sym, ap, ◌∙◌, subst, arith}
use Rattle.visi_run.specs.Streams.{Watch}
use Rattle.visi_run.specs.Gauges.{AreOf, Reader}
use Rattle.visi_run.proofs.Desks.{each_append, snoc_map}
use Rattle.visi_run.specs.declared.view.Seat.{Seat}
use Rattle.visi_run.specs.Watching.{seat_lines, AreSeatsOf}
use Rattle.visi_run.proofs.SeatLists.{each_front, each_last}
use Rattle.visi_run.proofs.seats.pair.Goals as goal

pub loop-view-preserved : goal.loop-view-preserved
loop-view-preserved c =
    let i = c.loop-view.invariant in
    let p = c.push_reserved.ensures in
    let popped : c.loop-view.readers.items ≡ c.pop.new.self.items ++ c.in-Some-pop.reader ∷ [] = c.in-Some-pop.ensures.items in
    let s : Seat = record { number = c.loop-view.number; view = c.in-Some.view; reader = c.in-Some-pop.reader; parker = c.in-Some-pop-2.parker } in
    let lens = ap length popped in
    record {
      lines = ap seat_lines p.items ∙ snoc_map (λ (s : Seat). s.view.line) c.loop-view.seats.items s ∙ ap (λ l. l ++ c.in-Some.view.line ∷ []) i.lines ∙ sym (snoc_map (λ (w : Watch). w.line) c.loop-view.yielded c.in-Some.view);
      seats = λ cell h.
          let all : AreOf cell (c.pop.new.self.items ++ c.in-Some-pop.reader ∷ []) = subst (AreOf cell) popped (i.left cell h) in
          subst (AreSeatsOf cell) (sym p.items) (each_append (λ (s : Seat). s.reader.cell ≡ cell) c.loop-view.seats.items (s ∷ []) (i.seats cell h) (each_last (λ (r : Reader). r.cell ≡ cell) c.pop.new.self.items c.in-Some-pop.reader all, tt));
      left = λ cell h. each_front (λ (r : Reader). r.cell ≡ cell) c.pop.new.self.items (c.in-Some-pop.reader ∷ []) (subst (AreOf cell) popped (i.left cell h));
      readers = let n = i.readers in omega (arith, length-append c.loop-view.yielded (c.in-Some.view ∷ []), length-append c.pop.new.self.items (c.in-Some-pop.reader ∷ []));
      parkers = let n = i.parkers in let l = ap length c.in-Some-pop-2.ensures.items in omega (arith, length-append c.loop-view.yielded (c.in-Some.view ∷ []), length-append c.pop-in-loop-view.new.self.items (c.in-Some-pop-2.parker ∷ []));
      count = let n = i.count in let l = p.len in omega (arith, length-append c.loop-view.yielded (c.in-Some.view ∷ []));
      room = let n = i.room in let l = p.capacity in omega arith;
    }
