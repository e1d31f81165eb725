use Rattle.std.proofs.Common.{rules, ◌≡◌, ◌++◌, [], ◌∷◌, List, length, length-append, vec_len, map, arith, sym, ap, ◌∙◌, subst}
use Rattle.live_run.specs.Locked.{IsGathered}
use Rattle.live_run.specs.Seats.{SeatData}
use Rattle.live_run.proofs.Keeping.{meets}
use Rattle.live_run.proofs.Locks.{gathered_more, lists_grow, map_same}
use Rattle.std.proofs.lemmas.Iterator.Adapters.{YieldsList-from_vec}
use Rattle.std.proofs.lemmas.Iterator.Consumers.{YieldsList-end}
use Rattle.live_run.proofs.shared.gather.Goals as goal

pub join_seat-requires : goal.join_seat-requires
join_seat-requires g c =
    let i = c.loop-seat.invariant in
    let w = c.args.word.now in
    let s = c.seat.invariant in
    (i.table ∙ sym w.named, s.table_is ∙ sym w.named, ap (λ m. m.1) s.me_is, let one = w.one in omega arith, meets _ _ _ _ _ _)

pub loop-seat-preserved : goal.loop-seat-preserved
loop-seat-preserved g c =
    let i = c.loop-seat.invariant in
    let j = c.join_seat.ensures in
    let s = c.seat.invariant in
    let p = c.push_reserved.ensures in
    record {
      table = j.0 ∙ i.table;
      free = ap (λ m. m.1) j.2 ∙ i.free;
      gathered = λ b e.
          subst (IsGathered b (c.loop-seat.yielded ++ c.in-Some.seat ∷ [])) (sym (ap (λ m. m.0) j.2))
          (gathered_more b c.loop-seat.yielded c.in-Some.seat c.loop-seat.book.me.0 c.seat.inside.seat.me.0 c.seat.inside.worker c.seat.inside.receipts.items (i.gathered b e) (ap (λ m. m.0) s.me_is) c.seat.view_is);
      answer =
          ap (map (λ v. v.items)) p.items ∙ lists_grow (λ v. v.items) c.loop-seat.answer.items c.seat.inside.receipts
          ∙ (λ k. i.answer k ++ (c.seat.view_is k).receipts ∷ [])
          ∙ sym (lists_grow (λ (x : SeatData). x.receipts) c.loop-seat.yielded c.in-Some.seat);
      count = omega (arith, length-append c.loop-seat.yielded (c.in-Some.seat ∷ []));
      room = omega arith;
    }

pub returns-clause-book : goal.returns-clause-book
returns-clause-book g c b e =
    let gives = c.into_iter-seat-iterator.ensures.into_iter_gives in
    let count : vec_len c.args.seats ≡ length c.args.seats.items = search rules in
    let seen = YieldsList-end (YieldsList-from_vec c.args.seats.items gives.0 (gives.1 ∙ count)) c.loop-seat.yielded c.loop-seat.seat-iterator c.loop-seat.yielded_by c.next.result c.next.new.self c.in-None.is c.next.ensures.steps in
    let whole : c.loop-seat.yielded ≡ c.args.seats.items = sym (map_same c.loop-seat.yielded) ∙ seen.0 in
    subst (λ (l : List SeatData). IsGathered b l c.loop-seat.book.me.0) whole (c.loop-seat.invariant.gathered b e)
