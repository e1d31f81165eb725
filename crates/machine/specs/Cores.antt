-- The state of the patched machine.
use Rattle.std.specs.Prelude.{◌≡◌, ℕ, ◌⊎◌, Bool, true, false, List, [], ◌∷◌, map, replicate}
use Rattle.pn_types.specs.declared.image.Image.{Image}
use Rattle.rv_word.specs.Exec.{Prog}
use Rattle.rv_word.specs.Plain.{Words, PlainHart}
use Rattle.rv_mem.specs.Start.{program_of}
use Rattle.rv_exec.specs.Start.{start}
use Rattle.tramp_spec.specs.Codes.{Code, text_code}
use Rattle.tramp_spec.specs.Banks.{bank_len}
use Rattle.tramp_spec.specs.Harts.{Hart}

-- an element of a list
abbrev pub In : {A : Type 0} → A → List A → Type 0
In x [] = ⊥
In x (y ∷ ys) = (x ≡ y) ⊎ In x ys

-- ---- blocks

-- A block is written, and can then be linked; it is live while it is, and retired once it is unlinked.
pub data Status : Type 0 where
  Written : Status
  Live : Status
  Retired : Status

-- a block that isn't freed: its point, its first address, its number of words, whether it is a base block, and its status
pub record Row : Type 0 where
  pub point : ℕ
  pub at : ℕ
  pub len : ℕ
  pub base : Bool
  pub status : Status

-- not retired
abbrev pub is_current : Status → Bool
is_current Written = true
is_current Live = true
is_current Retired = false

abbrev pub is_live : Status → Bool
is_live Live = true
is_live Written = false
is_live Retired = false

abbrev pub is_written : Status → Bool
is_written Written = true
is_written Live = false
is_written Retired = false

-- ---- the state

-- The program's words and the budget, which stay; the harts and what they share; the marked word at each address of text and
-- tool text; and the blocks that aren't freed.
pub record Core : Type 0 where
  pub program : Words
  pub budget : ℕ
  pub harts : List Hart
  pub prog : Prog
  pub code : Code
  pub rows : List Row

-- ---- the beginning

-- a hart of the unpatched program, outside, with a bank of zeros
abbrev pub first_hart : PlainHart → Hart
first_hart x = record { pc = x.pc; regs = x.regs; ticks = x.ticks; stop = x.stop; inside = false; bank = replicate bank_len 0 }

-- The state in which an image starts on n harts: that of the unpatched program, with no block.
abbrev pub start_core : Image → ℕ → ℕ → Core
start_core image n budget =
    record {
      program = program_of image;
      budget = budget;
      harts = map first_hart (start image n).harts;
      prog = (start image n).prog;
      code = text_code (program_of image);
      rows = [];
    }
