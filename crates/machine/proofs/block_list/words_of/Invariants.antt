use Rattle.std.proofs.Common.{◌≡◌, ◌+◌, drop}
use Rattle.std.specs.Prelude.{map}
use Rattle.bucket_chains.specs.Left.{present_entries}
use Rattle.machine.specs.States.{words_in}
use Rattle.machine.specs.Views.{row_of}
use Rattle.machine.proofs.block_list.words_of.Given as goal

-- the words so far, and those of what is left, are all words
abbrev pub invariant-loop-row : goal.invariant-loop-row
invariant-loop-row l = l.words + words_in (map row_of (present_entries (drop l.row-index l.rows))) ≡ words_in (map row_of (present_entries l.fn.rows))
