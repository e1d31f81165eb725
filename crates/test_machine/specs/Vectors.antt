-- What a vector says of a word, and when that holds here.
use Rattle.std.specs.Prelude.{◌≡◌, ℕ, ◌+◌, ◌/◌, ◌%◌, ◌^◌, ◌==◌, if◌then◌else◌, Bool, true, false, Option, Some, None, List, replicate, option_map}
use Rattle.std.specs.Result.{result_ok}
use Rattle.rv_asm.specs.Tokens.{◌>>=◌}
use Rattle.rv_word.specs.Exec.{Prog, Outcome, Stops, Goes, set_mem, without_reservation, exec_of}
use Rattle.rv_word.specs.Memory.{Memory, load, store}
use Rattle.rv_word.specs.Registers.{reg, with_reg}
use Rattle.rv_word.specs.Table.{decode_of}
use Rattle.rv_word.specs.Values.{wrap}
use Rattle.rv_word.specs.Words.{word_of}
use Rattle.rv_word.specs.declared.instr.Instr.{Instr}
use Rattle.rv_word.specs.declared.instr.Instr.TheVariants.{Branch, Load, Store, Lr, Sc, Amo}
use Rattle.test_machine.specs.declared.conformance.setting.TheConstants.{UNWRITTEN, RD, RS1, RS2}
use Rattle.test_machine.specs.declared.conformance.vector.Outcome.{Outcome as Left}
use Rattle.test_machine.specs.declared.conformance.vector.Setting.{Setting}
use Rattle.test_machine.specs.declared.conformance.vector.Vector.{Vector}

-- ---- before the word

-- the register whose number stands in a word from this bit on
abbrev pub register : ℕ → ℕ → ℕ
register word bit = word / 2 ^ bit % 32

-- the operands' registers hold their values, and rd a number that no word leaves there; all others hold 0
abbrev pub registers : ℕ → Setting → List ℕ
registers word s =
    with_reg (with_reg (with_reg (replicate 32 0) (register word RD) UNWRITTEN) (register word RS2) s.second) (register word RS1) s.first

-- the address that an instruction accesses whose first operand holds this value
abbrev pub accessed : Instr → ℕ → Option ℕ
accessed (Load op rd rs1 offset) first = Some (wrap (first + offset))
accessed (Store op rs1 rs2 offset) first = Some (wrap (first + offset))
accessed (Lr width rd rs1 order) first = Some first
accessed (Sc width rd rs1 rs2 order) first = Some first
accessed (Amo op width rd rs1 rs2 order) first = Some first
accessed other first = None

-- these eight bytes stand at the address that is accessed
abbrev pub prepared : Prog → Option ℕ → Option ℕ → Option Prog
prepared p None bytes = Some p
prepared p (Some at) None = None
prepared p (Some at) (Some bytes) = option_map (λ m. set_mem p m p.resv) (result_ok (store 8 p.mem at bytes))

-- ---- the word

-- where a hart goes on, and what it leaves, if it doesn't stop
pub record State : Type 0 where
  pub pc : ℕ
  pub regs : List ℕ
  pub prog : Prog

abbrev pub gone : Outcome → Option State
gone (Stops cause prog) = None
gone (Goes pc regs prog) = Some (record { pc = pc; regs = regs; prog = prog })

-- the load that reserves what an atomic instruction accesses
abbrev pub reserving : Instr → Option Instr
reserving (Lr width rd rs1 order) = Some (Lr width 0 rs1 0)
reserving (Sc width rd rs1 rs2 order) = Some (Lr width 0 rs1 0)
reserving (Amo op width rd rs1 rs2 order) = Some (Lr width 0 rs1 0)
reserving other = None

-- the hart has reserved what the instruction at pc accesses, if it is to
abbrev pub reserved : Bool → Instr → ℕ → ℕ → List ℕ → Prog → Option State
reserved false i pc h regs p = Some (record { pc = pc; regs = regs; prog = p })
reserved true i pc h regs p = do
  lr ← reserving i
  gone (exec_of (word_of lr) pc h regs p)

-- ---- after the word

-- the eight bytes at the address that was accessed, if one was
abbrev pub bytes_left : Memory → Option ℕ → Option (Option ℕ)
bytes_left m None = Some None
bytes_left m (Some at) = option_map (λ bytes. Some bytes) (result_ok (load 8 m at))

-- the result: of a branch at pc 1 where it is taken, else 0; of a store the eight bytes; else what rd holds
abbrev pub result_left : Instr → ℕ → ℕ → ℕ → List ℕ → Option ℕ → Option ℕ
result_left (Branch op rs1 rs2 offset) word pc next_pc regs bytes = Some (if next_pc == wrap (pc + offset) then 1 else 0)
result_left (Store op rs1 rs2 offset) word pc next_pc regs bytes = bytes
result_left other word pc next_pc regs bytes = Some (reg regs (register word RD))

-- what a word leaves that hart h executes in this setting, if it is an instruction and the hart doesn't stop
abbrev pub left_by : Prog → ℕ → ℕ → Setting → Option Left
left_by p h word s = do
  i ← decode_of word
  ready ← prepared (without_reservation h p) (accessed i s.first) s.memory
  before ← reserved s.reserved i s.pc h (registers word s) ready
  after ← gone (exec_of word s.pc h before.regs before.prog)
  bytes ← bytes_left after.prog.mem (accessed i s.first)
  result ← result_left i word s.pc after.pc after.regs bytes
  Some (record { result = result; next_pc = after.pc; memory = bytes })

-- A vector agrees: its word leaves here what it left there.
abbrev pub Agrees : Prog → ℕ → Vector → Type 0
Agrees p h v = left_by p h v.word v.before ≡ Some v.after
