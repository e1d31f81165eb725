use Rattle.std.proofs.Common.{ap, ◌∙◌, rules}
use Rattle.std.specs.Cmp.{IsStrictWeakOrder, nat_cmp_total}
use Rattle.std.proofs.lemmas.List.MinMax.{IsStrictWeakOrder-flip, ranks_by}
use Rattle.std.proofs.lemmas.List.Sorted.{All-permutation, answers_always}
use Rattle.std.specs.Ordering.{is_lt, nat_cmp}
use Rattle.code_points.specs.Procedures.{IsProcOf}
use Rattle.profile_text.specs.Rows.{by_ticks}
use Rattle.profile_text.specs.declared.procedure_row.ProcedureRow.{ProcedureRow}
use Rattle.profile_text.proofs.Sorting.{goes_before, sorted_is}
use Rattle.profile_text.proofs.ordering.rows_by_ticks.Goals as goal

order : IsStrictWeakOrder goes_before
order = IsStrictWeakOrder-flip (λ x y. is_lt (nat_cmp x.ticks y.ticks)) (ranks_by nat_cmp_total (λ (x : ProcedureRow). x.ticks))

pub returns-clause-rows : goal.returns-clause-rows
returns-clause-rows c =
    sorted_is c.in_ok-rows.rows.items c.sort_by.new.self.items
    (c.in_ok-sort_by.ensures.sorted goes_before order (answers_always _ _ _ (λ f a r g h. search rules)))
    (c.in_ok-sort_by.ensures.stable goes_before order (answers_always _ _ _ (λ f a r g h. search rules)))
    ∙ ap by_ticks c.in_ok-rows.ensures.rows

pub returns-clause-procs : goal.returns-clause-procs
returns-clause-procs c =
    All-permutation (λ (x : ProcedureRow). IsProcOf c.args.text.now.image.now x.proc.now) c.in_ok-rows.rows.items c.sort_by.new.self.items
    c.in_ok-sort_by.ensures.permutation c.in_ok-rows.ensures.procs
