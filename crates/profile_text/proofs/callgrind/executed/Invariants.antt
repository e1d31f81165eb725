use Rattle.std.proofs.Common.{◌≡◌, take}
use Rattle.profile_text.specs.Callgrind.{executed}
use Rattle.profile_text.proofs.callgrind.executed.Given as goal

-- the executed ones of the words so far
abbrev pub invariant-loop-word : goal.invariant-loop-word
invariant-loop-word l = l.found.items ≡ executed (take l.word-index l.words)
