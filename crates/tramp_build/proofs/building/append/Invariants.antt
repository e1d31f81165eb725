use Rattle.std.proofs.Common.{◌≡◌, ◌+◌, ◌++◌, length, take}
use Rattle.tramp_build.proofs.building.append.Given as goal

abbrev pub invariant-loop-word : goal.invariant-loop-word
invariant-loop-word l = record {
  words : l.out.items ≡ l.initial.out.items ++ take l.word-index l.words;
  len : length l.out.items ≡ length l.initial.out.items + l.word-index;
  room : l.out.cap ≡ l.initial.out.cap;
}
