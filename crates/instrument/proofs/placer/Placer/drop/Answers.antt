use Rattle.std.proofs.Common.{◌∙◌, List, ap, arith, filter, map, subst, sym}
use Rattle.instrument.specs.Books.{Book}
use Rattle.instrument.specs.Freed.{AreHere, is_settled}
use Rattle.instrument.specs.Listed.{AreNumberedBelow}
use Rattle.instrument.specs.Placements.{dropped, is_here, is_site_of, with_state}
use Rattle.instrument.specs.Placers.{AreAdmitted, PlacerData}
use Rattle.instrument.specs.Rosters.{RosterData}
use Rattle.instrument.specs.declared.instrument.Instrument.{Instrument}
use Rattle.instrument.specs.declared.number.State.TheVariants.{Leaving}
use Rattle.instrument.proofs.Freed.{dropped_left, here_filter}
use Rattle.instrument.proofs.Listed.{below_filter, below_states}
use Rattle.instrument.proofs.Owners.{admitted_dropped}
use Rattle.instrument.proofs.Ready.{placer_kept}
use Rattle.instrument.proofs.placer.Placer.drop.Goals as goal

pub invariant_of-self : goal.invariant_of-self
invariant_of-self c =
    let t = c.self.inside.text in
    let n = c.args.number.n in
    let is = map (with_state n Leaving) c.self.inside.roster.instruments in
    let rooms = c.drop_sites.new.self.book.rooms in
    let k = c.self.invariant in
    let e = c.drop_sites.ensures in
    let room = ap (λ (r : RosterData). r.room) c.settle.ensures ∙ ap (λ (r : RosterData). r.room) c.set_state.ensures in
    let takes = ap (λ (r : RosterData). r.takes) c.settle.ensures ∙ ap (λ (r : RosterData). r.takes) c.set_state.ensures in
    let settled = ap (λ (r : RosterData). r.instruments) c.settle.ensures ∙ ap (λ (r : RosterData). filter (is_settled rooms n) r.instruments) c.set_state.ensures in
    let left = dropped_left t c.drop_sites.new.self n c.self.inside.roster c.settle.new.roster k.here e.book settled in
    let listed = subst (λ (js : List Instrument). AreNumberedBelow c.self.inside.count js) (sym left) (below_filter c.self.inside.count (is_here rooms) is (below_states c.self.inside.count n Leaving _ k.listed)) in
    let here = subst (λ (js : List Instrument). AreHere rooms js) (sym left) (here_filter rooms is) in
    placer_kept t c.drop_sites.new.self c.self.inside.roster c.settle.new.roster c.self.inside.count c.self.inside.kits.items k
    (subst (λ (b : Book). AreAdmitted c.self.inside.count b.rooms) (sym e.book) (admitted_dropped c.self.inside.count (filter (is_site_of n) t.book.rooms) t.book k.admitted))
    listed here (omega (arith, e.spare)) (omega (arith, e.takes)) (omega (arith, e.entries, k.memory.entries)) (omega (arith, room)) (omega (arith, takes))

pub returns-clause-placements : goal.returns-clause-placements
returns-clause-placements c =
    let t = c.self.inside.text in
    let n = c.args.number.n in
    let is = map (with_state n Leaving) c.self.inside.roster.instruments in
    let rooms = c.drop_sites.new.self.book.rooms in
    let e = c.drop_sites.ensures in
    let settled = ap (λ (r : RosterData). r.instruments) c.settle.ensures ∙ ap (λ (r : RosterData). filter (is_settled rooms n) r.instruments) c.set_state.ensures in
    let left = dropped_left t c.drop_sites.new.self n c.self.inside.roster c.settle.new.roster c.self.invariant.here e.book settled in
    let instruments = left ∙ ap (λ (b : Book). filter (is_here b.rooms) is) e.book in
    (λ i. record { program = e.program i; limit = c.self.inside.limit; book = e.book i; instruments = instruments i; count = c.self.inside.count })
    ∙ ap (λ (d : PlacerData). dropped n d.placements) c.self.view_is
