use Rattle.std.proofs.Common.{◌≡◌, ◌++◌, drop, map}
use Rattle.rv_asm.specs.Assembly.{belonging, symbols_from}
use Rattle.rv_asm.specs.DraftSeen.{declaration_seen}
use Rattle.rv_asm.proofs.image.add_belonging.Given as goal

abbrev pub invariant-loop-declaration : goal.invariant-loop-declaration
invariant-loop-declaration l = l.symbols.items ++ belonging l.own (symbols_from l.left (map declaration_seen (drop l.declaration-index l.declarations))) ≡ l.fn.symbols.items ++ belonging l.own (symbols_from l.ends (map declaration_seen l.declarations))
