-- The registers of an instruction.
use Rattle.std.specs.Prelude.{ℕ, Option, Some, None}
use Rattle.rv_word.specs.declared.instr.Instr.{Instr}
use Rattle.rv_word.specs.declared.instr.Instr.TheVariants.{Lui, Auipc, Jal, Jalr, Branch, Load, Store, OpImm, ShiftImm, Addiw, ShiftImm32, Op, Op32, Fence, Ecall, Ebreak, Lr, Sc, Amo}

-- that of the result, and those of the two operands
pub record InstrRegisters : Type 0 where
  pub rd : Option ℕ
  pub rs1 : Option ℕ
  pub rs2 : Option ℕ

abbrev pub registers : Option ℕ → Option ℕ → Option ℕ → InstrRegisters
registers rd rs1 rs2 = record { rd = rd; rs1 = rs1; rs2 = rs2 }

-- a fence has none: its fields are free bits
abbrev pub registers_of : Instr → InstrRegisters
registers_of (Lui rd imm) = registers (Some rd) None None
registers_of (Auipc rd imm) = registers (Some rd) None None
registers_of (Jal rd offset) = registers (Some rd) None None
registers_of (Jalr rd rs1 offset) = registers (Some rd) (Some rs1) None
registers_of (Branch op rs1 rs2 offset) = registers None (Some rs1) (Some rs2)
registers_of (Load op rd rs1 offset) = registers (Some rd) (Some rs1) None
registers_of (Store op rs1 rs2 offset) = registers None (Some rs1) (Some rs2)
registers_of (OpImm op rd rs1 imm) = registers (Some rd) (Some rs1) None
registers_of (ShiftImm op rd rs1 by) = registers (Some rd) (Some rs1) None
registers_of (Addiw rd rs1 imm) = registers (Some rd) (Some rs1) None
registers_of (ShiftImm32 op rd rs1 by) = registers (Some rd) (Some rs1) None
registers_of (Op op rd rs1 rs2) = registers (Some rd) (Some rs1) (Some rs2)
registers_of (Op32 op rd rs1 rs2) = registers (Some rd) (Some rs1) (Some rs2)
registers_of (Fence rd rs1 high) = registers None None None
registers_of Ecall = registers None None None
registers_of Ebreak = registers None None None
registers_of (Lr width rd rs1 order) = registers (Some rd) (Some rs1) None
registers_of (Sc width rd rs1 rs2 order) = registers (Some rd) (Some rs1) (Some rs2)
registers_of (Amo op width rd rs1 rs2 order) = registers (Some rd) (Some rs1) (Some rs2)
