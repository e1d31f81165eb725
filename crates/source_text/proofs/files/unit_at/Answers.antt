use Rattle.std.proofs.Common.{◌≡◌, ℕ, ◌+◌, ◌-◌, ◌<◌, ◌≤◌, List, Bool, true, false, Some, None, leb, ltb, eqb, get_or, sym, ap, ◌∙◌, length, map, arith, rules}
use Rattle.std.specs.List.{find}
use Rattle.std.specs.List.Sorted.{IsPartitionPoint, IsNonDecreasingBy}
use Rattle.std.proofs.lemmas.Bool.Decides.{nat_tests}
use Rattle.std.proofs.lemmas.List.Sorted.{IsPartitionPoint-from_clause, IsPartitionedBy-ltb}
use Rattle.line_table.specs.declared.paths.UnitPaths.{UnitPaths}
use Rattle.source_text.proofs.Units.{found_there, none_found_below, not_there}
use Rattle.source_text.proofs.files.unit_at.Goals as goal
use denote.Ref.{Bor}

pub returns-then-first-units : goal.returns-then-first-units
returns-then-first-units c =
    let units = c.args.units.now in
    let first = c.partition_point-first.result in
    let at = c.args.place in
    let point = IsPartitionPoint-from_clause (λ (r : Bor UnitPaths). ltb r.now.unit at) units first c.partition_point-first.ensures.partitioned (IsPartitionedBy-ltb (λ (r : Bor UnitPaths). r.now.unit) units at c.requires) (λ a r q k. search rules) in
    sym (none_found_below at units (λ k d l. point.0 k d (omega arith) (omega arith)))

pub returns-then-unit-place : goal.returns-then-unit-place
returns-then-unit-place c =
    let units = c.args.units.now in
    let first = c.partition_point-first.result in
    let at = c.args.place in
    let r = c.index-units-first.result in
    let point = IsPartitionPoint-from_clause (λ (r : Bor UnitPaths). ltb r.now.unit at) units first c.partition_point-first.ensures.partitioned (IsPartitionedBy-ltb (λ (r : Bor UnitPaths). r.now.unit) units at c.requires) (λ a r q k. search rules) in
    found_there at first units r c.index-units-first.is (omega (arith, c.partition_point-first.ensures.bound)) (λ k d l. point.0 k d (omega arith) l) (sym c.if-unit-place.true)

pub returns-else-unit-place : goal.returns-else-unit-place
returns-else-unit-place c =
    let units = c.args.units.now in
    let first = c.partition_point-first.result in
    let at = c.args.place in
    let r = c.index-units-first.result in
    let point = IsPartitionPoint-from_clause (λ (r : Bor UnitPaths). ltb r.now.unit at) units first c.partition_point-first.ensures.partitioned (IsPartitionedBy-ltb (λ (r : Bor UnitPaths). r.now.unit) units at c.requires) (λ a r q k. search rules) in
    sym (not_there at first units r c.index-units-first.is c.requires (λ k d l. point.0 k d (omega arith) l) (λ k d l m. point.1 k d l m) c.if-unit-place.false)
