use Rattle.std.proofs.Common.{◌<◌, arith, subst, sym}
use Rattle.instrument.specs.Books.{Book}
use Rattle.instrument.specs.Freed.{AreHere}
use Rattle.instrument.specs.Placers.{PlacerData, AreAdmitted}
use Rattle.instrument.proofs.Ready.{placer_kept}
use Rattle.instrument.proofs.placer.Placer.put_back.Goals as goal

pub invariant_of-self : goal.invariant_of-self
invariant_of-self c =
    let k = c.self.invariant in
    let e = c.put_back.ensures in
    let some = subst (λ (d : PlacerData). 0 < d.entries) (sym c.self.view_is) c.requires.entries in
    placer_kept c.self.inside.text c.put_back.new.self c.self.inside.roster c.self.inside.roster c.self.inside.count c.self.inside.kits.items k
    (subst (λ (b : Book). AreAdmitted c.self.inside.count b.rooms) (sym e.book) k.admitted)
    k.listed (subst (λ (b : Book). AreHere b.rooms c.self.inside.roster.instruments) (sym e.book) k.here)
    (omega (arith, e.spare)) (omega (arith, e.takes)) (omega (arith, e.entries, some)) (omega arith) (omega arith)
