-- The state in which a program starts.
use Rattle.std.specs.Prelude.{ℕ, zero, suc, ◌+◌, List, [], ◌∷◌, replicate, None}
use Rattle.pn_types.specs.declared.image.Image.{Image}
use Rattle.rv_word.specs.Registers.{with_reg}
use Rattle.rv_word.specs.Exec.{prog_of}
use Rattle.rv_word.specs.Plain.{PlainHart, Plain}
use Rattle.rv_mem.specs.Start.{start_memory, heap_at, heap_len, stack_at, stack_len}

-- the registers of hart h of n: a0 is h, a1 is n, a2 and a3 are the heap's address and length, and sp is the end of the
-- hart's stack; every other register is 0
abbrev pub start_regs : ℕ → ℕ → List ℕ
start_regs h n =
    with_reg (with_reg (with_reg (with_reg (with_reg (replicate 32 0) 10 h) 11 n) 12 heap_at) 13 heap_len) 2 (stack_at h + stack_len)

abbrev pub start_hart : Image → ℕ → ℕ → PlainHart
start_hart image n h = record { pc = image.entry; regs = start_regs h n; ticks = 0; stop = None }

-- the harts h, h + 1 and so on, this many of the n
abbrev pub harts_from : ℕ → ℕ → Image → ℕ → List PlainHart
harts_from zero h image n = []
harts_from (suc more) h image n = start_hart image n h ∷ harts_from more (h + 1) image n

-- The state in which an image starts on n harts.
abbrev pub start : Image → ℕ → Plain
start image n = record { harts = harts_from n 0 image n; prog = prog_of (start_memory image n) (replicate n None) [] }
