use Rattle.std.proofs.Common.{List, ap, arith, filter, subst, sym}
use Rattle.instrument.specs.Books.{Book, stays}
use Rattle.instrument.specs.Freed.{AreHere}
use Rattle.instrument.specs.Listed.{AreNumberedBelow}
use Rattle.instrument.specs.Placements.{is_here}
use Rattle.instrument.specs.Placers.{AreAdmitted}
use Rattle.instrument.specs.Rosters.{RosterData}
use Rattle.instrument.specs.declared.instrument.Instrument.{Instrument}
use Rattle.instrument.proofs.Freed.{here_filter}
use Rattle.instrument.proofs.Listed.{below_filter}
use Rattle.instrument.proofs.Owners.{admitted_filter}
use Rattle.instrument.proofs.Ready.{placer_kept}
use Rattle.instrument.proofs.placer.Placer.freed.Goals as goal

pub invariant_of-self : goal.invariant_of-self
invariant_of-self c =
    let t = c.self.inside.text in
    let is = c.self.inside.roster.instruments in
    let left = filter (stays c.args.point) t.book.rooms in
    let k = c.self.invariant in
    let e = c.free.ensures in
    let room = ap (λ (r : RosterData). r.room) e.roster in
    let takes = ap (λ (r : RosterData). r.takes) e.roster in
    let instruments = ap (λ (r : RosterData). r.instruments) e.roster in
    let listed = subst (λ (js : List Instrument). AreNumberedBelow c.self.inside.count js) (sym instruments) (below_filter c.self.inside.count (is_here left) is k.listed) in
    let here = subst (λ (js : List Instrument). AreHere left js) (sym instruments) (here_filter left is) in
    placer_kept t c.free.new.text c.self.inside.roster c.free.new.roster c.self.inside.count c.self.inside.kits.items k
    (subst (λ (b : Book). AreAdmitted c.self.inside.count b.rooms) (sym e.book) (admitted_filter (stays c.args.point) c.self.inside.count t.book.rooms k.admitted))
    listed (subst (λ (b : Book). AreHere b.rooms c.free.new.roster.instruments) (sym e.book) here)
    (omega (arith, e.spare)) (omega (arith, e.takes)) (omega (arith, e.entries, k.memory.entries)) (omega (arith, room)) (omega (arith, takes))
