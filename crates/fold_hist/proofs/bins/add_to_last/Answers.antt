use Rattle.std.proofs.Common.{◌≢◌, ◌-◌, vec_len, ap, sym, ◌∙◌, arith, set}
use Rattle.std.proofs.lemmas.Bool.{eqb-false}
use Rattle.fold_hist.specs.Steps.{bins_joined}
use Rattle.fold_hist.proofs.Folds.{set_last}
use Rattle.fold_hist.proofs.bins.add_to_last.Goals as goal

pub returns-clause-items : goal.returns-clause-items
returns-clause-items c =
    let bins = c.args.bins.now.items in
    let last = c.len-last.result - 1 in
    let some : vec_len c.args.bins.now ≢ 0 = eqb-false (vec_len c.args.bins.now) 0 (sym c.is_empty.ensures ∙ c.if-is_empty.false) in
    ap (set bins last) (c.joined.ensures ∙ ap (λ b. bins_joined b c.args.sample) c.index.ensures)
    ∙ set_last bins last c.index.result.now c.args.sample (omega arith)
