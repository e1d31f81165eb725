use Rattle.std.proofs.Common.{◌<◌, ◌++◌, [], ◌∷◌, length, length-append, sym, ap, ◌∙◌, subst, arith}
use Rattle.live_run.specs.declared.view.Receipt.{Receipt as ReceiptOf}
use Rattle.live_run.specs.declared.view.View.{View}
use Rattle.std.specs.List.{AllByRecursion}
use Rattle.live_run.specs.Receipts.{receipt}
use Rattle.live_run.specs.Seats.{SeatData}
use Rattle.live_run.specs.Views.{a_book, own_list}
use Rattle.live_run.proofs.Locks.{resting, made_of, halted_along, seat_entered, below_of, seat_grows}
use Rattle.live_run.proofs.lock.LockedSession.quantum.Goals as goal

pub enter-book-requires-clause-can : goal.enter-book-requires-clause-can
enter-book-requires-clause-can g c =
    let inv = c.self.invariant in
    let s = c.into_seat-book.ensures in
    let ran = rw c.in-Some.is at c.in_ok-quantum.ensures.asked in (
      a_book (length g.I.RunName.first) inv.entries g.I.RunName.workers,
      own_list c.seat.inside.worker c.seat.inside.receipts.items,
      c.seat.inside.seat.me.0.notes,
      record {
        book_is = resting _ _ _ (ap (λ b. b.views) c.replace.ensures.value ∙ inv.views_are) s.2 s.3;
        seat_is = c.seat.invariant.me_is;
        made_is = made_of _ _ _ _ _ (ap length c.quanta-number.ensures) inv.quanta_are inv.from_is;
      },
      ap (λ q. q.worker) ran,
    )

pub note-book-requires-clause-can : goal.note-book-requires-clause-can
note-book-requires-clause-can g c =
    let inv = c.self.invariant in
    let s = c.into_seat-book-in-None.ensures in
    let none = rw c.in-None.is at c.in_ok-quantum.ensures.halted in (
      a_book (length g.I.RunName.first) inv.entries g.I.RunName.workers,
      own_list c.seat.inside.worker c.seat.inside.receipts.items,
      c.seat.inside.seat.me.0.notes,
      record {
        book_is = resting _ _ _ (ap (λ b. b.views) c.replace-in-None.ensures.value ∙ inv.views_are) s.2 s.3;
        seat_is = c.seat.invariant.me_is;
        made_is = made_of _ _ _ _ _ (ap length c.quanta-number.ensures) inv.quanta_are inv.from_is;
      },
      halted_along _ _ _ _ _ (inv.inputs_are ∙ sym c.args.word.now.inputs) (inv.quanta_are ∙ ap (λ l. l ++ inv.entries) (sym c.args.word.now.first)) none,
    )

pub returns-in-Some-clause-receipts : goal.returns-in-Some-clause-receipts
returns-in-Some-clause-receipts g c =
    let inv = c.self.invariant in
    let s = c.into_seat-book.ensures in
    let b = a_book (length g.I.RunName.first) inv.entries g.I.RunName.workers in
    let o = own_list c.seat.inside.worker c.seat.inside.receipts.items in
    let book = resting _ _ _ (ap (λ b. b.views) c.replace.ensures.value ∙ inv.views_are) s.2 s.3 in
    let e = c.enter-book.ensures in (
      seat_grows _ _ _ _ _ _ _ c.seat.view_is (c.push_reserved.ensures.items ∙ ap (λ l. l ++ receipt (length c.quanta-number.result.now) c.in-Some.quantum ∷ []) c.in_ok-reserve.ensures.items)
          (ap (λ m. m.0.notes) e.seat ∙ ap (λ (v : View). v.notes) (seat_entered _ _ b o _ c.in-Some.quantum book c.seat.invariant.me_is)),
      subst (λ (k : SeatData). AllByRecursion (λ (r : ReceiptOf). r.number < length c.quanta-number.result.now) k.receipts) c.seat.view_is
          (subst (λ n. AllByRecursion (λ (r : ReceiptOf). r.number < n) c.seat.inside.receipts.items)
          (let q = ap length (c.quanta-number.ensures ∙ inv.quanta_are) in omega (arith, length-append g.I.RunName.first inv.entries))
          (below_of _ _ b o _ book c.seat.invariant.me_is e.below)),
    )
