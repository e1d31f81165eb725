-- Thirteen turns of three words, `addi a0, a0, 1`, `li a7, 93` and `ecall`, where a mini block at the first one counts on slot 2.
use Rattle.std.specs.Prelude.{◌≡◌, ℕ, true, false, Some, None, List, [], ◌∷◌, replicate, map, slice_index}
use Rattle.pn_types.specs.declared.plan.Act.TheVariants.{Up}
use Rattle.rv_word.specs.Exec.{prog_of}
use Rattle.rv_word.specs.Memory.{memory_of}
use Rattle.rv_word.specs.Plain.{Words}
use Rattle.rv_word.specs.Registers.{reg, with_reg}
use Rattle.rv_word.specs.declared.outcome.Cause.TheVariants.{Exit}
use Rattle.tramp_spec.specs.Codes.{text_code}
use Rattle.tramp_spec.specs.Marks.{own, leave}
use Rattle.tramp_spec.specs.Blocks.{base_words, mini_words}
use Rattle.tramp_spec.specs.Statements.{body_of}
use Rattle.tramp_spec.specs.declared.block.Block.{Block}
use Rattle.machine.specs.Cores.{Core}
use Rattle.machine.specs.Events.{Event, Turn, Write, LinkMini, LinkPoint}
use Rattle.machine.specs.Replays.{replay, owns}

abbrev pub three_words : Words
three_words = record { at = 0x10000; words = 0x00150513 ∷ 0x05d00893 ∷ 0x00000073 ∷ [] }

-- one hart with no memory, 7 in x5, and a bank of four doublewords
abbrev pub small_core : Core
small_core =
    record {
      program = three_words;
      budget = 1000;
      harts = record {
        pc = 0x10000;
        regs = with_reg (replicate 32 0) 5 7;
        ticks = 0;
        stop = None;
        inside = false;
        bank = replicate 4 0;
      } ∷ [];
      prog = prog_of (memory_of 0x10000 12 []) (None ∷ []) [];
      code = text_code three_words;
      rows = [];
    }

abbrev pub first_base : Block
first_base =
    record { point = 0x10000; at = 0x11000; words = base_words 0x11000 0x11008 (own 0x00150513 ∷ leave 0xff5fe06f ∷ []); base = true }

abbrev pub first_mini : Block
first_mini =
    record {
      point = 0x10000;
      at = 0x11014;
      words = mini_words 0x11014 (body_of (2 ∷ []) (record { conds = []; act = Up 0 } ∷ [])) 0x11008;
      base = false;
    }

-- both blocks are written and linked
abbrev pub first_linking : List Event
first_linking = Write first_base ∷ Write first_mini ∷ LinkMini 0x10000 0x11014 ∷ LinkPoint 0x10000 ∷ []

abbrev pub linked_core : Core
linked_core = replay first_linking small_core

abbrev pub turns : ℕ → List Event
turns n = replicate n (Turn 0)

pub record FirstTurns : Type 0 where
  -- the first nine turns are no ticks, and the tenth is
  pub nine : owns (turns 9) linked_core ≡ []
  pub ten : owns (turns 10) linked_core ≡ 0 ∷ []
  pub eleven : owns (turns 11) linked_core ≡ 0 ∷ []
  pub thirteen : owns (turns 13) linked_core ≡ 0 ∷ 0 ∷ 0 ∷ []
  -- the hart has exited, and the counter is 1
  pub ticks : map (λ x. x.ticks) (replay (turns 13) linked_core).harts ≡ 3 ∷ []
  pub stop : map (λ x. x.stop) (replay (turns 13) linked_core).harts ≡ Some (Exit 1) ∷ []
  pub pc : map (λ x. x.pc) (replay (turns 13) linked_core).harts ≡ 0x10008 ∷ []
  pub kept : map (λ x. reg x.regs 5) (replay (turns 11) linked_core).harts ≡ 7 ∷ []
  pub slot : map (λ x. slice_index x.bank 2) (replay (turns 13) linked_core).harts ≡ 1 ∷ []
