use Rattle.std.proofs.Common.{◌≡◌, ◌+◌, ◌≤◌, drop}
use Rattle.std.specs.Prelude.{slice_get}
use Rattle.std.specs.List.{filter}
use Rattle.pd_words.specs.Options.{takes_place}
use Rattle.pd_words.specs.Seen.{command_seen, row_seen}
use Rattle.pd_words.proofs.lookup.place_at.Given as goal

-- the rows that are left have the place at the number that is left; no more were passed than there are
abbrev pub invariant-loop-row : goal.invariant-loop-row
invariant-loop-row l = record {
  left : slice_get (filter (λ row. takes_place (command_seen l.command) (row_seen row)) l.words) l.number
      ≡ slice_get (filter (λ row. takes_place (command_seen l.command) (row_seen row)) (drop l.row-index l.words)) l.left;
  passed : l.number ≤ l.left + l.row-index;
}
