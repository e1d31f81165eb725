use Rattle.std.proofs.Common.{◌≡◌, map, drop}
use Rattle.rv_asm.specs.SecondPass.{code, joined}
use Rattle.rv_asm.specs.DraftSeen.{placed_seen}
use Rattle.rv_asm.proofs.second_pass.code.Given as goal

abbrev pub invariant-loop-placed : goal.invariant-loop-placed
invariant-loop-placed l = joined l.out.items (code l.labels (map placed_seen (drop l.placed-index l.text_part))) ≡ code l.labels (map placed_seen l.text_part)
