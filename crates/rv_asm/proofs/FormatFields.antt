-- The fields of a word that a format makes.
use Rattle.std.proofs.Common.{◌≡◌, ℕ, ◌/◌, ◌%◌, ◌^◌, ◌<◌, arith}
use Rattle.rv_word.specs.Fields.{opcode_of, rd_of, funct3_of, rs1_of, rs2_of, funct7_of}
use Rattle.rv_word.specs.Words.{r_form, i_form, u_form, j_form}

pub u_opcode : (o rd n : ℕ) → o < 128 → opcode_of (u_form o rd n) ≡ o
u_opcode o rd n h = omega arith

pub u_rd : (o rd n : ℕ) → o < 128 → rd_of (u_form o rd n) ≡ rd % 32
u_rd o rd n h = omega arith

pub j_opcode : (o rd n : ℕ) → o < 128 → opcode_of (j_form o rd n) ≡ o
j_opcode o rd n h = omega arith

pub j_rd : (o rd n : ℕ) → o < 128 → rd_of (j_form o rd n) ≡ rd % 32
j_rd o rd n h = omega arith

pub i_opcode : (o rd c rs1 n : ℕ) → o < 128 → opcode_of (i_form o rd c rs1 n) ≡ o
i_opcode o rd c rs1 n h = omega arith

pub i_rd : (o rd c rs1 n : ℕ) → o < 128 → rd_of (i_form o rd c rs1 n) ≡ rd % 32
i_rd o rd c rs1 n h = omega arith

pub i_funct3 : (o rd c rs1 n : ℕ) → o < 128 → c < 8 → funct3_of (i_form o rd c rs1 n) ≡ c
i_funct3 o rd c rs1 n h l = omega arith

pub i_rs1 : (o rd c rs1 n : ℕ) → o < 128 → c < 8 → rs1_of (i_form o rd c rs1 n) ≡ rs1 % 32
i_rs1 o rd c rs1 n h l = omega arith

pub i_top : (o rd c rs1 n : ℕ) → o < 128 → c < 8 → i_form o rd c rs1 n / 2 ^ 26 ≡ n % 4096 / 64
i_top o rd c rs1 n h l = omega arith

pub r_opcode : (o rd c rs1 rs2 t : ℕ) → o < 128 → opcode_of (r_form o rd c rs1 rs2 t) ≡ o
r_opcode o rd c rs1 rs2 t h = omega arith

pub r_rd : (o rd c rs1 rs2 t : ℕ) → o < 128 → rd_of (r_form o rd c rs1 rs2 t) ≡ rd % 32
r_rd o rd c rs1 rs2 t h = omega arith

pub r_funct3 : (o rd c rs1 rs2 t : ℕ) → o < 128 → c < 8 → funct3_of (r_form o rd c rs1 rs2 t) ≡ c
r_funct3 o rd c rs1 rs2 t h l = omega arith

pub r_rs1 : (o rd c rs1 rs2 t : ℕ) → o < 128 → c < 8 → rs1_of (r_form o rd c rs1 rs2 t) ≡ rs1 % 32
r_rs1 o rd c rs1 rs2 t h l = omega arith

pub r_rs2 : (o rd c rs1 rs2 t : ℕ) → o < 128 → c < 8 → rs2_of (r_form o rd c rs1 rs2 t) ≡ rs2 % 32
r_rs2 o rd c rs1 rs2 t h l = omega arith

pub r_funct7 : (o rd c rs1 rs2 t : ℕ) → o < 128 → c < 8 → funct7_of (r_form o rd c rs1 rs2 t) ≡ t
r_funct7 o rd c rs1 rs2 t h l = omega arith
