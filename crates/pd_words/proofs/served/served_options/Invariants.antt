use Rattle.std.proofs.Common.{◌≡◌, map, take}
use Rattle.std.specs.Prelude.{string_bytes}
use Rattle.std.specs.List.{filter_map}
use Rattle.pd_words.specs.Seen.{given_seen, row_seen}
use Rattle.pd_words.specs.Wishes.{served_option}
use Rattle.pd_words.proofs.served.served_options.Given as goal

-- the options of the rows so far
abbrev pub invariant-loop-row : goal.invariant-loop-row
invariant-loop-row l = map string_bytes l.options.items ≡ filter_map (served_option (given_seen l.given)) (map row_seen (take l.row-index l.rows))
