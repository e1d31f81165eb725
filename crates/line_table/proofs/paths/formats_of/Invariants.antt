use Rattle.std.proofs.Common.{◌≡◌, ◌-◌, ◌≤◌, length}
use Rattle.line_table.specs.Reading.{many}
use Rattle.line_table.specs.Paths.{format_at}
use Rattle.line_table.proofs.ListLemmas.{with_items}
use Rattle.line_table.proofs.paths.formats_of.Given as goal

-- the formats so far and those that are left are all
abbrev pub invariant-loop : goal.invariant-loop
invariant-loop l = record {
  within : l.next ≤ length l.bytes;
  left : with_items l.formats.items (many (format_at l.bytes) (l.count - l.counter) l.next) ≡ many (format_at l.bytes) l.count l.at;
}
