use Rattle.std.proofs.Common.{◌≡◌, ℕ, ◌+◌, ◌-◌, ◌<◌, ◌≤◌, List, Bool, true, false, None, leb, sym, length, arith, rules}
use Rattle.std.specs.List.Sorted.{IsPartitionPoint, IsNonDecreasingBy}
use Rattle.std.proofs.lemmas.List.Sorted.{IsPartitionPoint-from_clause, IsPartitionedBy-leb}
use Rattle.line_table.specs.declared.registers.Row.{Row}
use Rattle.source_text.proofs.Found.{last_pass, none_pass}
use Rattle.source_text.proofs.rows.row_until.Goals as goal

pub returns-then-place-eq0 : goal.returns-then-place-eq0
returns-then-place-eq0 c =
    let rows = c.args.rows.now in
    let point = IsPartitionPoint-from_clause (λ (r : Row). leb r.address c.args.at) rows c.partition_point-place.result c.partition_point-place.ensures.partitioned (IsPartitionedBy-leb (λ (r : Row). r.address) rows c.args.at c.requires) (λ a r q k. search rules) in
    sym (none_pass (λ (r : Row). leb r.address c.args.at) None rows (λ k d l. point.1 k d (omega arith) l))

pub returns : goal.returns
returns c =
    let rows = c.args.rows.now in
    let point = IsPartitionPoint-from_clause (λ (r : Row). leb r.address c.args.at) rows c.partition_point-place.result c.partition_point-place.ensures.partitioned (IsPartitionedBy-leb (λ (r : Row). r.address) rows c.args.at c.requires) (λ a r q k. search rules) in
    sym (last_pass (λ (r : Row). leb r.address c.args.at) None (c.partition_point-place.result - 1) rows _ (omega arith)
    (λ k d l. point.0 k d (omega arith) (omega arith)) (λ k d l m. point.1 k d (omega arith) m))
