use Rattle.std.proofs.Common.{◌≡◌, ◌+◌, List, [], ◌∷◌, ◌++◌, take, ap, sym, ◌∙◌, subst}
use Rattle.mdl_check.specs.Placed.{Entry, entry}
use Rattle.mdl_check.specs.Checking.{AreEntries, HasFocus}
use Rattle.mdl_check.proofs.Entries.{one_more}
use Rattle.mdl_check.proofs.places.entries_at.Goals as goal

pub loop-placed-preserved : goal.loop-placed-preserved
loop-placed-preserved c =
    let s = c.placed-item.result in
    let t = c.args.tree.now in
    let i = c.loop-placed.placed-index in
    let places = c.args.placed_items.now in
    let focus = c.focus_of.result in
    let has : HasFocus t s.item focus = subst (λ it. HasFocus t it focus) c.item.ensures c.focus_of.ensures in
    let added : c.push.new.self.items ≡ c.loop-placed.entries.items ++ (entry s.line s.item focus ∷ []) =
    ◌∙◌ {A = List Entry} c.in_ok-push.ensures.items (ap (λ (e : Entry). c.loop-placed.entries.items ++ (e ∷ [])) c.new.ensures) in
    subst (AreEntries t (take (i + 1) places)) (sym added)
    (one_more t places i s focus c.loop-placed.entries.items c.loop-placed-test.true c.placed-item.is c.loop-placed.invariant has)
