use Rattle.std.proofs.Common.{◌≡◌, ◌-◌, ◌≤◌, length}
use Rattle.line_table.specs.Reading.{many}
use Rattle.line_table.specs.Paths.{path_at}
use Rattle.line_table.proofs.ListLemmas.{with_items}
use Rattle.line_table.proofs.paths.paths_in.Given as goal

-- the entries so far and those that are left are all
abbrev pub invariant-loop : goal.invariant-loop
invariant-loop l = record {
  within : l.next ≤ length l.bytes;
  left : with_items l.paths.items (many (path_at l.ends l.formats l.bytes) (l.count - l.counter) l.next)
      ≡ many (path_at l.ends l.formats l.bytes) l.count l.at;
}
