use Rattle.std.proofs.Common.{rules, ◌≡◌, length, vec_len, arith, ap, sym, ◌∙◌}
use Rattle.std.proofs.lemmas.Iterator.Adapters.{YieldsList-from_vec}
use Rattle.std.proofs.lemmas.Iterator.Consumers.{YieldsList-turn}
use Rattle.visi_run.specs.declared.sight.Sight.{Sight}
use Rattle.visi_run.specs.Gauges.{Reader}
use Rattle.visi_run.proofs.Glances.{leaves, meets, each_at}
use Rattle.visi_run.proofs.dial.take_in.Goals as goal

pub split_pass-whole-requires : goal.split_pass-whole-requires
split_pass-whole-requires c =
    let gives = c.into_iter-reader-iterator.ensures.into_iter_gives in
    let count : vec_len c.args.readers ≡ length c.args.readers.items = search rules in
    let turn = YieldsList-turn (YieldsList-from_vec c.args.readers.items gives.0 (gives.1 ∙ count)) c.loop-reader.yielded c.loop-reader.reader-iterator c.loop-reader.yielded_by c.next.result c.next.new.self c.in-Some.reader c.in-Some.is c.next.ensures.steps in
    let of : c.in-Some.reader.cell ≡ c.args.cell.now.table.shared.table_id = each_at (λ (r : Reader). r.cell ≡ c.args.cell.now.table.shared.table_id) c.args.readers.items (length c.loop-reader.yielded) c.in-Some.reader turn.0 turn.1 c.requires.readers in
    (omega arith, (omega arith, (ap (λ (r : Reader). r.cell) c.reader.view_is ∙ of, leaves _ _ (ap (λ (s : Sight). s.sets) c.reader.invariant))))

pub join_pass-requires : goal.join_pass-requires
join_pass-requires c =
    let gives = c.into_iter-reader-iterator.ensures.into_iter_gives in
    let count : vec_len c.args.readers ≡ length c.args.readers.items = search rules in
    let turn = YieldsList-turn (YieldsList-from_vec c.args.readers.items gives.0 (gives.1 ∙ count)) c.loop-reader.yielded c.loop-reader.reader-iterator c.loop-reader.yielded_by c.next.result c.next.new.self c.in-Some.reader c.in-Some.is c.next.ensures.steps in
    let of : c.in-Some.reader.cell ≡ c.args.cell.now.table.shared.table_id = each_at (λ (r : Reader). r.cell ≡ c.args.cell.now.table.shared.table_id) c.args.readers.items (length c.loop-reader.yielded) c.in-Some.reader turn.0 turn.1 c.requires.readers in
    let i = c.loop-reader.invariant in
    let given = c.split_pass-whole.ensures.given in
    (omega arith, (omega arith, ((i.table, given.0 ∙ ap (λ (r : Reader). r.cell) c.reader.view_is ∙ of ∙ sym i.table, given.2), meets _ _ _ _)))
