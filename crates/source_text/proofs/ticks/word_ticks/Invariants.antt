use Rattle.std.proofs.Common.{◌≡◌, map, take}
use Rattle.source_text.specs.Ticks.{ticks_at}
use Rattle.source_text.proofs.ticks.word_ticks.Given as goal

abbrev pub invariant-loop-word : goal.invariant-loop-word
invariant-loop-word l = l.parts.items ≡ map (ticks_at l.rows) (take l.word-index l.words)
