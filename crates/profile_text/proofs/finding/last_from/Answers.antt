use Rattle.std.proofs.Common.{◌≡◌, ◌==◌, ℕ, ◌-◌, ◌≤◌, get_or, leb, arith, rules}
use Rattle.std.proofs.lemmas.Bool.{leb-true}
use Rattle.std.proofs.lemmas.Bool.Decides.{nat_tests}
use Rattle.std.proofs.lemmas.List.Sorted.{IsPartitionPoint-from_clause, IsPartitionedBy-leb}
use Rattle.pn_types.specs.declared.code.Proc.{Proc}
use Rattle.rv_word.specs.Memory.{in_range}
use Rattle.profile_text.proofs.Ascending.{Has, follows, last_found, none_found, starts_rise}
use Rattle.profile_text.proofs.finding.last_from.Goals as goal

has_range : (at : ℕ) → Has (λ p. in_range p.start p.len at) at
has_range at q l e = (grind (arith, nat_tests), grind (arith, nat_tests))

has_start : (at : ℕ) → Has (λ p. p.start == at) at
has_start at q l e = (grind (arith, nat_tests), grind (arith, nat_tests))

pub returns-then-place-eq0-clause-has : goal.returns-then-place-eq0-clause-has
returns-then-place-eq0-clause-has c =
    let ps = c.args.procs.now in
    let point = IsPartitionPoint-from_clause (λ (p : Proc). leb p.start c.args.at) ps c.partition_point-place.result c.partition_point-place.ensures.partitioned (IsPartitionedBy-leb (λ (p : Proc). p.start) ps c.args.at (starts_rise ps c.requires)) (λ a r q k. search rules) in
    none_found (λ p. in_range p.start p.len c.args.at) c.args.at 0 ps (has_range c.args.at) (follows ps c.requires)
    (λ k d l. let e = point.1 k d (omega arith) l in grind (arith, nat_tests))

pub returns-then-place-eq0-clause-starts : goal.returns-then-place-eq0-clause-starts
returns-then-place-eq0-clause-starts c =
    let ps = c.args.procs.now in
    let point = IsPartitionPoint-from_clause (λ (p : Proc). leb p.start c.args.at) ps c.partition_point-place.result c.partition_point-place.ensures.partitioned (IsPartitionedBy-leb (λ (p : Proc). p.start) ps c.args.at (starts_rise ps c.requires)) (λ a r q k. search rules) in
    none_found (λ p. p.start == c.args.at) c.args.at 0 ps (has_start c.args.at) (follows ps c.requires)
    (λ k d l. let e = point.1 k d (omega arith) l in grind (arith, nat_tests))

pub returns-clause-has : goal.returns-clause-has
returns-clause-has c =
    let ps = c.args.procs.now in
    let p = c.index-procs-place.result in
    let place = c.partition_point-place.result in
    let point = IsPartitionPoint-from_clause (λ (p : Proc). leb p.start c.args.at) ps place c.partition_point-place.ensures.partitioned (IsPartitionedBy-leb (λ (p : Proc). p.start) ps c.args.at (starts_rise ps c.requires)) (λ a r q k. search rules) in
    let before : (get_or ps (place - 1) p).start ≤ c.args.at = leb-true _ _ (point.0 (place - 1) p (omega arith) (omega arith)) in
    let same : p ≡ get_or ps (place - 1) p = c.index-procs-place.is in
    last_found (λ p. in_range p.start p.len c.args.at) c.args.at 0 ps (has_range c.args.at) (follows ps c.requires) (place - 1) p (omega arith)
    c.index-procs-place.is (grind arith) (λ k d l m. let e = point.1 k d (omega arith) m in grind (arith, nat_tests))

pub returns-clause-starts : goal.returns-clause-starts
returns-clause-starts c =
    let ps = c.args.procs.now in
    let p = c.index-procs-place.result in
    let place = c.partition_point-place.result in
    let point = IsPartitionPoint-from_clause (λ (p : Proc). leb p.start c.args.at) ps place c.partition_point-place.ensures.partitioned (IsPartitionedBy-leb (λ (p : Proc). p.start) ps c.args.at (starts_rise ps c.requires)) (λ a r q k. search rules) in
    let before : (get_or ps (place - 1) p).start ≤ c.args.at = leb-true _ _ (point.0 (place - 1) p (omega arith) (omega arith)) in
    let same : p ≡ get_or ps (place - 1) p = c.index-procs-place.is in
    last_found (λ p. p.start == c.args.at) c.args.at 0 ps (has_start c.args.at) (follows ps c.requires) (place - 1) p (omega arith)
    c.index-procs-place.is (grind arith) (λ k d l m. let e = point.1 k d (omega arith) m in grind (arith, nat_tests))
