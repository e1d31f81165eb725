-- For proofs alone: the instructions whose words two functions of their own make.
use Rattle.rv_word.specs.declared.instr.Instr.{Instr}
use Rattle.rv_word.specs.declared.instr.Instr.TheVariants.{Branch, Load, Store, Lr, Sc, Amo}

abbrev pub HasOffset : Instr → Type 0
HasOffset (Branch op rs1 rs2 offset) = Unit {0}
HasOffset (Load op rd rs1 offset) = Unit {0}
HasOffset (Store op rs1 rs2 offset) = Unit {0}
HasOffset i = ⊥

abbrev pub IsAtomic : Instr → Type 0
IsAtomic (Lr width rd rs1 order) = Unit {0}
IsAtomic (Sc width rd rs1 rs2 order) = Unit {0}
IsAtomic (Amo op width rd rs1 rs2 order) = Unit {0}
IsAtomic i = ⊥
