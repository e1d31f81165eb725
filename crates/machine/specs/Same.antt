-- When the patched machine is the unpatched program's.
use Rattle.std.specs.Prelude.{◌≡◌, ◌≢◌, ℕ, ◌<◌, Some, None, length, slice_get}
use Rattle.rv_word.specs.Registers.{reg}
use Rattle.rv_word.specs.Plain.{PlainHart, Plain}
use Rattle.tramp_spec.specs.Harts.{Hart}
use Rattle.machine.specs.Cores.{Core}
use Rattle.machine.specs.Places.{program_pc, rebuilding_of, program_register}

-- A hart beside the program's: as many ticks, stopped for the same cause at the same pc, or not stopped at the home of its pc.
-- Where it isn't stopped, x1 to x30 are equal, x5 being taken from where it is saved, but for the one that is being rebuilt.
pub record SameHart (c : Core) (x : Hart) (y : PlainHart) : Type 0 where
  pub ticks : x.ticks ≡ y.ticks
  pub stop : x.stop ≡ y.stop
  pub pc : program_pc c.code c.rows x ≡ y.pc
  pub regs : x.stop ≡ None → (r : ℕ) → 0 < r → r < 31 → rebuilding_of c.program c.rows x ≢ Some r → program_register c.rows x r ≡ reg y.regs r

-- Equal memory, reservations and output, and each hart the program's.
pub record SameProgram (c : Core) (s : Plain) : Type 0 where
  pub prog : c.prog ≡ s.prog
  pub many : length c.harts ≡ length s.harts
  pub harts : (h : ℕ) (x : Hart) (y : PlainHart) → slice_get c.harts h ≡ Some x → slice_get s.harts h ≡ Some y → SameHart c x y
