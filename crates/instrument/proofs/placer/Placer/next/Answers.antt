use Rattle.std.proofs.Common.{arith, subst, sym}
use Rattle.instrument.specs.Books.{Book}
use Rattle.instrument.specs.Freed.{AreHere}
use Rattle.instrument.specs.Placements.{book_after}
use Rattle.instrument.specs.Placers.{AreAdmitted}
use Rattle.instrument.proofs.Freed.{here_same, owners_behind}
use Rattle.instrument.proofs.Owners.{admitted_behind}
use Rattle.instrument.proofs.Ready.{placer_kept}
use Rattle.instrument.proofs.placer.Placer.next.Goals as goal

pub invariant_of-self : goal.invariant_of-self
invariant_of-self c =
    let t = c.self.inside.text in
    let k = c.self.invariant in
    let is = c.self.inside.roster.instruments in
    let e = c.hand_out.ensures in
    placer_kept t c.hand_out.new.self c.self.inside.roster c.self.inside.roster c.self.inside.count c.self.inside.kits.items k
    (subst (λ (b : Book). AreAdmitted c.self.inside.count b.rooms) (sym e.book) (admitted_behind c.self.inside.count t.book.agenda t.book k.admitted))
    k.listed (subst (λ (b : Book). AreHere b.rooms is) (sym e.book) (here_same t.book.rooms (book_after t.book.agenda t.book).rooms is (owners_behind t.book.agenda t.book) k.here))
    (omega (arith, e.spare)) (omega (arith, e.takes)) (omega (arith, e.entries, k.memory.entries)) (omega arith) (omega arith)
