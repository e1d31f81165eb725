use Rattle.std.proofs.Common.{◌≡◌, ◌≤◌, take}
use Rattle.std.specs.List.{list_any}
use Rattle.instrument.specs.Books.{unlinks}
use Rattle.instrument.proofs.freeing.is_unlinked_before.Given as goal

abbrev pub invariant-loop-left : goal.invariant-loop-left
invariant-loop-left l = (l.left ≤ l.place) × (list_any (unlinks l.point) (take l.left l.entries.items) ≡ list_any (unlinks l.point) (take l.place l.entries.items))

abbrev pub decreases-loop-left : goal.decreases-loop-left
decreases-loop-left l = l.left
