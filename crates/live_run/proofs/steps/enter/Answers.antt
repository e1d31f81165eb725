use Rattle.std.proofs.Common.{◌++◌, [], arith, ap, ◌∙◌}
use Rattle.live_run.specs.Views.{with_quantum_entry, gains, longer}
use Rattle.live_run.proofs.Keeping.{meets}
use Rattle.live_run.proofs.Entering.{enters_as, met, parts_as}
use Rattle.live_run.proofs.steps.enter.Goals as goal

pub join_seat-requires : goal.join_seat-requires
join_seat-requires c =
    let t = c.requires.tables in
    (t.0, t.1, ap (λ m. m.1) c.requires.can.3.book_is, omega arith, meets _ _ _ _ _ _)

pub compare_exchange_with-requires : goal.compare_exchange_with-requires
compare_exchange_with-requires c =
    let t = c.requires.tables in
    let v = c.requires.can in
    let j = c.join_seat.ensures in
    (j.0 ∙ t.0, omega arith, enters_as _ _ _ _ v.0 v.1 (v.2 ++ []) c.args.quantum.now c.args.made _ (j.2 ∙ met _ _ v.0 v.1 v.2 v.3.book_is v.3.seat_is) v.3.made_is v.4)

pub split_seat-requires : goal.split_seat-requires
split_seat-requires c =
    let t = c.requires.tables in
    let v = c.requires.can in
    let j = c.join_seat.ensures in
    let x = c.compare_exchange_with.ensures in
    let me = j.2 ∙ met _ _ v.0 v.1 v.2 v.3.book_is v.3.seat_is in
    (x.0 ∙ j.0 ∙ t.0, omega arith, parts_as _ _ _ (longer c.args.quantum.now v.0) (gains c.args.quantum.now v.0 v.1) (v.2 ++ []) _ (ap (λ m. m.0) x.2.0 ∙ ap (λ m. with_quantum_entry c.args.quantum.now m.0) me))
