use Rattle.std.proofs.Common.{◌≡◌, drop, map}
use Rattle.std.specs.Prelude.{is_some}
use Rattle.std.specs.List.{list_all}
use Rattle.commands.specs.Plans.{metric_named}
use Rattle.commands.proofs.asking.are_metrics.Given as goal

-- all are metrics where those are that are left
abbrev pub invariant-loop-name : goal.invariant-loop-name
invariant-loop-name l =
    list_all (λ name. is_some (metric_named l.metrics name)) (map (λ name. name.now) (drop l.name-index l.names))
    ≡ list_all (λ name. is_some (metric_named l.metrics name)) (map (λ name. name.now) l.names)
