use Rattle.std.proofs.Common.{◌≡◌, ◌+◌, List, [], ◌∷◌, ◌++◌, take, sym, ap, ◌∙◌, subst}
use Rattle.std.proofs.lemmas.List.{take_more}
use Rattle.mdl_check.specs.Placed.{Entry}
use Rattle.mdl_check.specs.Indexes.{AreByKind}
use Rattle.mdl_check.proofs.ByKind.{one_more_item}
use Rattle.mdl_check.proofs.collect.ByKind.fill.Goals as goal

pub loop-entry-preserved : goal.loop-entry-preserved
loop-entry-preserved c =
    let es = c.all-entry-items.result.now in
    let i = c.loop-entry.entry-index in
    let e = c.entry-item.result in
    let next : take i es ++ e ∷ [] ≡ take (i + 1) es = ap (λ (x : Entry). take i es ++ x ∷ []) c.entry-item.is ∙ sym (take_more es i e c.loop-entry-test.true) in
    subst (λ (l : List Entry). AreByKind c.args.index.now l c.add.new.self) next
    (one_more_item c.args.index.now (take i es) e c.loop-entry.self c.add.new.self c.loop-entry.invariant c.in_ok-add.ensures)
