use Rattle.std.proofs.Common.{◌<◌, ◌≤◌, refl, sym, subst, length, arith}
use Rattle.mdl_check.specs.declared.checked.CheckedWish.{CheckedWish}
use Rattle.std.proofs.lemmas.Option.{slice_get_read}
use Rattle.std.proofs.lemmas.Bool.{le-leb, lt-leb}
use Rattle.session.proofs.Counting.{counts_end, counts_next, counts_stop}
use Rattle.session.proofs.preparing.count_due.Goals as goal

pub loop-count-preserved : goal.loop-count-preserved
loop-count-preserved c =
    let low = c.loop-count-test.true in
    let at = slice_get_read c.args.wishes.now (length c.args.wishes.now) c.loop-count.count c.index-wishes-count.result refl low c.index-wishes-count.is in
    record { few = omega arith; counts = counts_next c.args.time c.args.wishes.now c.loop-count.count c.index-wishes-count.result at (le-leb _ _ (subst (λ (w : CheckedWish). w.at ≤ c.args.time) (sym c.index-wishes-count.is) c.if-wishes-count.true)) c.loop-count.invariant.counts }

pub returns-else-wishes-count : goal.returns-else-wishes-count
returns-else-wishes-count c =
    let low = c.loop-count-test.true in
    let at = slice_get_read c.args.wishes.now (length c.args.wishes.now) c.loop-count.count c.index-wishes-count.result refl low c.index-wishes-count.is in
    counts_stop c.args.time c.args.wishes.now c.loop-count.count c.index-wishes-count.result at (lt-leb _ _ (subst (λ (w : CheckedWish). c.args.time < w.at) (sym c.index-wishes-count.is) c.if-wishes-count.false)) c.loop-count.invariant.counts

pub returns-after-loop-count : goal.returns-after-loop-count
returns-after-loop-count c = let high = c.loop-count-test.false in counts_end c.args.time c.args.wishes.now c.loop-count.count (omega arith) c.loop-count.invariant.counts
