use Rattle.std.proofs.Common.{List, ap, arith, subst, sym}
use Rattle.instrument.specs.Freed.{AreHere}
use Rattle.instrument.specs.Listed.{AreNumberedBelow}
use Rattle.instrument.specs.Rosters.{RosterData}
use Rattle.instrument.specs.declared.instrument.Instrument.{Instrument}
use Rattle.instrument.specs.declared.number.State.TheVariants.{Armed}
use Rattle.instrument.proofs.Freed.{here_armed}
use Rattle.instrument.proofs.Listed.{below_states}
use Rattle.instrument.proofs.Ready.{placer_kept}
use Rattle.instrument.proofs.placer.Placer.armed.Goals as goal

pub invariant_of-self : goal.invariant_of-self
invariant_of-self c =
    let t = c.self.inside.text in
    let k = c.self.invariant in
    let instruments = ap (λ (r : RosterData). r.instruments) c.set_state.ensures in
    let listed = subst (λ (is : List Instrument). AreNumberedBelow c.self.inside.count is) (sym instruments) (below_states c.self.inside.count c.args.number.n Armed _ k.listed) in
    let here = subst (λ (is : List Instrument). AreHere t.book.rooms is) (sym instruments) (here_armed t.book.rooms c.args.number.n c.self.inside.roster.instruments k.here) in
    let room = ap (λ (r : RosterData). r.room) c.set_state.ensures in
    let takes = ap (λ (r : RosterData). r.takes) c.set_state.ensures in
    placer_kept t t c.self.inside.roster c.set_state.new.self c.self.inside.count c.self.inside.kits.items k k.admitted listed here
    (omega arith) (omega arith) k.memory.entries (omega (arith, room)) (omega (arith, takes))
