use Rattle.std.proofs.Common.{◌≡◌, [], take, drop}
use Rattle.instrument.specs.Books.{first_free}
use Rattle.instrument.proofs.freeing.find_free.Given as goal

abbrev pub invariant-loop-place : goal.invariant-loop-place
invariant-loop-place l = first_free [] l.entries.items ≡ first_free (take l.place l.entries.items) (drop l.place l.entries.items)
