use Rattle.std.proofs.Common.{◌≡◌, drop}
use Rattle.directives.specs.Acts.{expanded, directed}
use Rattle.directives.proofs.applying.apply.Given as goal

abbrev pub invariant-loop-directive : goal.invariant-loop-directive
invariant-loop-directive l =
    directed l.directives (expanded l.shipped.items l.conf.items) ≡ directed (drop l.directive-index l.directives) l.standing
