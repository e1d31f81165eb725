use Rattle.std.proofs.Common.{◌≡◌, map, drop}
use Rattle.rv_asm.specs.FirstPass.{define_all}
use Rattle.rv_asm.proofs.first_pass.define_all.Given as goal

abbrev pub invariant-loop-name : goal.invariant-loop-name
invariant-loop-name l = define_all l.line l.at (map (λ name. name.now) (drop l.name-index l.names)) l.labels ≡ define_all l.line l.at (map (λ name. name.now) l.names) l.fn.labels
