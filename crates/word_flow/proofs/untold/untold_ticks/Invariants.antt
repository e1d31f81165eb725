use Rattle.std.proofs.Common.{◌≡◌, ◌+◌, ◌-◌, ◌<◌, ◌^◌, take}
use Rattle.std.specs.Prelude.{count_by, sum}
use Rattle.word_flow.specs.HartEnds.{is_stopped_outside}
use Rattle.word_flow.proofs.untold.untold_ticks.Given as goal

-- the rest is what the numbers so far and the harts that stopped outside don't tell
abbrev pub invariant-loop-number : goal.invariant-loop-number
invariant-loop-number l =
    (l.rest
    ≡ l.ticks - (sum (take l.number-index l.numbers) + count_by (is_stopped_outside (record { at = l.at; words = l.words })) l.ends))
    × (l.rest < 2 ^ 64)
