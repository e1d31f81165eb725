use Rattle.std.proofs.Common.{List, length, drop, sym, ap, ◌∙◌, subst}
use Rattle.pn_types.specs.declared.quantum.Quantum.{Quantum}
use Rattle.live_run.specs.Seats.{AreAllFoundIn, AreDealt, AreHalted}
use Rattle.live_run.specs.Views.{a_book}
use Rattle.live_run.proofs.Locks.{dealt_by, drop_first, ended, halted_by, resting, stands_by}
use Rattle.live_run.proofs.shared.Shared.finish.Goals as goal

pub gather-book-requires-clause-book : goal.gather-book-requires-clause-book
gather-book-requires-clause-book g c =
    let inv = c.session.invariant in
    let s = c.into_seat.ensures in
    (s.0 ∙ inv.table_is, a_book (length g.I.RunName.first) inv.entries g.I.RunName.workers, resting _ _ _ inv.views_are s.2 s.3)

pub returns-clause-dealt : goal.returns-clause-dealt
returns-clause-dealt g c =
    let inv = c.session.invariant in
    let s = c.into_seat.ensures in
    let e = ended _ _ _ _ _ _ _ _ _ inv.views_are s.2 s.3 c.gather-book.ensures.book c.args.self.word.inputs c.args.self.word.first c.settle.ensures in
    subst (λ (l : List Quantum). AreDealt (length g.I.RunName.first) l c.args.seats.items) (sym (ap (drop (length g.I.RunName.first)) inv.quanta_are ∙ drop_first g.I.RunName.first inv.entries))
    (dealt_by g.I.RunName.inputs g.I.RunName.first inv.entries g.I.RunName.workers c.args.seats.items _ c.requires.all e.0 e.1)

pub returns-clause-found : goal.returns-clause-found
returns-clause-found g c =
    let inv = c.session.invariant in
    let s = c.into_seat.ensures in
    let e = ended _ _ _ _ _ _ _ _ _ inv.views_are s.2 s.3 c.gather-book.ensures.book c.args.self.word.inputs c.args.self.word.first c.settle.ensures in
    subst (λ (l : List Quantum). AreAllFoundIn l c.args.seats.items) (sym inv.quanta_are)
    (stands_by g.I.RunName.first inv.entries c.args.seats.items (dealt_by g.I.RunName.inputs g.I.RunName.first inv.entries g.I.RunName.workers c.args.seats.items _ c.requires.all e.0 e.1))

pub returns-clause-halted : goal.returns-clause-halted
returns-clause-halted g c =
    let inv = c.session.invariant in
    let s = c.into_seat.ensures in
    let e = ended _ _ _ _ _ _ _ _ _ inv.views_are s.2 s.3 c.gather-book.ensures.book c.args.self.word.inputs c.args.self.word.first c.settle.ensures in
    subst (λ (l : List Quantum). AreHalted g.I.RunName.inputs l c.args.seats.items) (sym inv.quanta_are)
    (halted_by g.I.RunName.inputs g.I.RunName.first inv.entries g.I.RunName.workers c.args.seats.items _ e.0 e.1)
