use Rattle.std.proofs.Common.{List, length, ap, ap₂, subst, arith}
use Rattle.mdl_check.specs.Placed.{PlacedItem, Entry, placed_items}
use Rattle.mdl_check.specs.Checking.{AreEntries}
use Rattle.mdl_check.specs.Judged.{IsJudged}
use Rattle.mdl_check.proofs.Entries.{entries_length}
use Rattle.mdl_check.proofs.Judged.{answered, refused, metrics_few, judged_sound}
use Rattle.mdl_check.proofs.configuration.check.Goals as goal

pub judged-requires : goal.judged-requires
judged-requires c =
    let places = ap₂ placed_items c.as_slice.ensures c.as_slice-2.ensures in
    omega (arith, ap length c.deref.ensures.value, ap length places, entries_length _ _ c.in_ok-all.all.items c.in_ok-all.ensures, c.requires)

pub returns-clause-checked : goal.returns-clause-checked
returns-clause-checked c =
    let t = c.args.tree.now in
    let all = c.in_ok-all.all.items in
    let places = ap₂ placed_items c.as_slice.ensures c.as_slice-2.ensures in
    answered t c.args.shipped.now.items c.args.conf.now.items all c.judged.result (subst (λ (s : List PlacedItem). AreEntries t s all) places c.in_ok-all.ensures)
    (subst (λ (es : List Entry). IsJudged es c.judged.result) c.deref.ensures.value c.judged.ensures)

pub returns-clause-fault : goal.returns-clause-fault
returns-clause-fault c =
    let t = c.args.tree.now in
    let all = c.in_ok-all.all.items in
    let places = ap₂ placed_items c.as_slice.ensures c.as_slice-2.ensures in
    refused t c.args.shipped.now.items c.args.conf.now.items all c.judged.result (subst (λ (s : List PlacedItem). AreEntries t s all) places c.in_ok-all.ensures)
    (subst (λ (es : List Entry). IsJudged es c.judged.result) c.deref.ensures.value c.judged.ensures)

pub returns-clause-few : goal.returns-clause-few
returns-clause-few c =
    let all = c.in_ok-all.all.items in
    let places = ap₂ placed_items c.as_slice.ensures c.as_slice-2.ensures in
    metrics_few all c.judged.result (omega (arith, ap length places, entries_length _ _ all c.in_ok-all.ensures, c.requires))
    (subst (λ (es : List Entry). IsJudged es c.judged.result) c.deref.ensures.value c.judged.ensures)

pub returns-clause-sound : goal.returns-clause-sound
returns-clause-sound c =
    let t = c.args.tree.now in
    let all = c.in_ok-all.all.items in
    let places = ap₂ placed_items c.as_slice.ensures c.as_slice-2.ensures in
    judged_sound t c.args.shipped.now.items c.args.conf.now.items all c.judged.result (subst (λ (s : List PlacedItem). AreEntries t s all) places c.in_ok-all.ensures)
    (subst (λ (es : List Entry). IsJudged es c.judged.result) c.deref.ensures.value c.judged.ensures)
