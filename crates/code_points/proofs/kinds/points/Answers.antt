use Rattle.std.proofs.Common.{◌≤◌, ◌/◌, ◌++◌, length, map, subst, sym, ap, ◌∙◌}
use Rattle.std.specs.List.Sorted.{IsStrictlyIncreasing}
use Rattle.std.proofs.lemmas.List.{append-nil, at_drop_all}
use Rattle.rv_mem.specs.Start.{program_of}
use Rattle.code_points.specs.Points.{points_from}
use Rattle.code_points.proofs.Ascending.{ascending, few_points}
use Rattle.code_points.proofs.kinds.points.Goals as goal

pub returns-clause-points : goal.returns-clause-points
returns-clause-points c =
    let items = c.loop-number.points.items in
    let n = c.loop-number.number in
    sym (append-nil items)
    ∙ (ap (λ z. items ++ z) (sym (at_drop_all (points_from (program_of c.args.image.now) n) c.args.procs.now n c.loop-number-test.false)) ∙ c.loop-number.invariant)

pub returns-clause-ascending : goal.returns-clause-ascending
returns-clause-ascending c =
    subst (λ z. IsStrictlyIncreasing (map (λ q. q.at) z)) (sym (returns-clause-points c)) (ascending c.args.image.now (program_of c.args.image.now) c.args.procs.now c.requires.procs)

pub returns-clause-few : goal.returns-clause-few
returns-clause-few c =
    subst (λ z. length z ≤ c.args.image.now.text_len / 4) (sym (returns-clause-points c)) (few_points c.args.image.now (program_of c.args.image.now) c.args.procs.now c.requires.procs)
