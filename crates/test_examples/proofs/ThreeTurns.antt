-- The turns of the hart through the blocks of the three counters.
use Rattle.std.proofs.Common.{◌≡◌, ℕ, List, [], ◌∷◌, Some, None, refl}
use Rattle.std.specs.FinMap.{get}
use Rattle.std.specs.Prelude.{Bool, true, false}
use Rattle.rv_word.specs.Exec.{action, perform}
use Rattle.rv_word.specs.Registers.{reg, with_reg}
use Rattle.rv_word.specs.Table.{decode_of}
use Rattle.rv_mem.specs.Start.{program_of}
use Rattle.rv_exec.specs.Start.{start, start_regs}
use Rattle.tramp_spec.specs.Banks.{bank_len}
use Rattle.tramp_spec.specs.Codes.{Code}
use Rattle.tramp_spec.specs.Harts.{Hart, Solo}
use Rattle.tramp_spec.specs.Marks.{own, tool}
use Rattle.tramp_spec.specs.Steps.{perform_on}
use Rattle.tramp_spec.specs.declared.mark.MarkedWord.{MarkedWord}
use Rattle.machine.specs.Cores.{Row}
use Rattle.machine.specs.Places.{program_pc}
use Rattle.test_examples.specs.FirstTurns.{turns}
use Rattle.test_examples.specs.LoopCounted.{loop}
use Rattle.machine.specs.States.{leaving}
use Rattle.test_examples.proofs.ThreeLinked.{Three, entering, mini_of, at}
use Rattle.test_examples.proofs.Traces.{Trace, placed, AllStand, stand_placed, Run, and_then, follows, leaving_so}

-- the hart by its pc, x5, ticks, inside, and the doublewords 2 to 4 of its bank
abbrev pub hart : List ℕ → ℕ → ℕ → ℕ → Bool → ℕ → ℕ → ℕ → Hart
hart rest pc t0 ticks inside a b c = record { pc = pc; regs = with_reg (start_regs 0 1) 5 t0; ticks = ticks; stop = None; inside = inside; bank = 0 ∷ 0 ∷ a ∷ b ∷ c ∷ rest }

abbrev solo : Hart → Solo
solo x = record { hart = x; prog = (start loop 1).prog }

abbrev entry : ℕ → List MarkedWord
entry head = tool 0x00503423 ∷ tool head ∷ []

abbrev tail : List MarkedWord
tail = tool 0x00803283 ∷ own 0xff5fe06f ∷ []

-- from the point to the third's mini block
abbrev to_third : Trace → Trace
to_third t = placed 0x10000 (entering ∷ []) (placed 0x11000 (entry 0x0340006f) t)

abbrev through_tail : Trace
through_tail = placed 0x11008 tail []

abbrev through_first : ℕ → Trace → Trace
through_first last t = placed 0x11010 (mini_of 0x010fb283 0x005fb823 last) t

abbrev through_third : ℕ → Trace → Trace
through_third last t = placed 0x11038 (mini_of 0x020fb283 0x025fb023 last) t

-- from the second's mini block through the first's and the tail
abbrev through_second : Trace
through_second = placed 0x11024 (mini_of 0x018fb283 0x005fbc23 0xfddff06f) (through_first 0xfe9ff06f through_tail)

-- from the point through the fourth's and the third's and the tail
abbrev a_round : Trace
a_round = placed 0x10000 (entering ∷ []) (placed 0x11000 (entry 0x00c0006f) (through_first 0x0180006f (through_third 0xfc1ff06f through_tail)))

module _ (code : Code) (rows : List Row) (rest : List ℕ) where
  abbrev homes : Hart → ℕ
  homes = program_pc code rows

  abbrev Turns : ℕ → Hart → Hart → List ℕ → Type 0
  Turns n x y ticks = Run (turns n) (at code rows x) (at code rows y) ticks

  -- what stands on each way
  stands_through_second : (point : MarkedWord) (head third : ℕ) → Three code point head 0xfe9ff06f third → AllStand code through_second
  stands_through_second point head third s =
      stand_placed code 0x11024 (mini_of 0x018fb283 0x005fbc23 0xfddff06f) (through_first 0xfe9ff06f through_tail) s.on_3
      (stand_placed code 0x11010 (mini_of 0x010fb283 0x005fb823 0xfe9ff06f) through_tail s.on_2 (s.base.1.1.0, (s.base.1.1.1.0, tt)))

  stands_round : Three code entering 0x00c0006f 0x0180006f 0xfc1ff06f → AllStand code a_round
  stands_round s = (
    s.point,
    (
      s.base.0,
      (
        s.base.1.0,
        stand_placed code 0x11010 (mini_of 0x010fb283 0x005fb823 0x0180006f) (through_third 0xfc1ff06f through_tail) s.on_2
            (stand_placed code 0x11038 (mini_of 0x020fb283 0x025fb023 0xfc1ff06f) through_tail s.on_4 (s.base.1.1.0, (s.base.1.1.1.0, tt))),
      ),
    ),
  )

  pub comes_to_third : (first third : ℕ) → Three code entering 0x0340006f first third → Turns 3 (hart rest 0x10000 0 0 false 0 0 0) (hart rest 0x11038 0 0 true 0 0 0) []
  unfolding decode_of action perform perform_on reg with_reg bank_len
  comes_to_third first third s =
      follows (program_of loop) 1000 code rows (to_third []) (solo (hart rest 0x10000 0 0 false 0 0 0)) refl
      (s.point, (s.base.0, (s.base.1.0, tt)))

  pub comes_to_second : (first : ℕ) → Three code entering 0x0340006f first 0xfddff06f → Turns 8 (hart rest 0x10000 0 0 false 0 0 0) (hart rest 0x11024 1 0 true 0 0 1) []
  unfolding decode_of action perform perform_on reg with_reg bank_len
  comes_to_second first s =
      follows (program_of loop) 1000 code rows (to_third (through_third 0xfddff06f [])) (solo (hart rest 0x10000 0 0 false 0 0 0)) refl
      (s.point, (s.base.0, (s.base.1.0, stand_placed code 0x11038 (mini_of 0x020fb283 0x025fb023 0xfddff06f) [] s.on_4 tt)))

  module _ (point : MarkedWord) (head third : ℕ) (s : Three code point head 0xfe9ff06f third) where
    pub goes_on : Turns 12 (hart rest 0x11024 1 0 true 0 0 1) (hart rest 0x10000 0 1 false 1 1 1) (0 ∷ [])
    unfolding decode_of action perform perform_on reg with_reg bank_len
    goes_on = follows (program_of loop) 1000 code rows through_second (solo (hart rest 0x11024 1 0 true 0 0 1)) refl (stands_through_second point head third s)

    pub leaving_second : leaving 19 0 (at code rows (hart rest 0x11024 1 0 true 0 0 1)) ≡ turns 12
    unfolding decode_of action perform perform_on reg with_reg bank_len
    leaving_second = leaving_so (program_of loop) 1000 code rows through_second (solo (hart rest 0x11024 1 0 true 0 0 1)) 7 refl (stands_through_second point head third s) refl

  module _ (point : MarkedWord) (head : ℕ) (s : Three code point head 0xfe9ff06f 0xfddff06f) where
    stands_through_all : AllStand code (through_third 0xfddff06f through_second)
    stands_through_all = stand_placed code 0x11038 (mini_of 0x020fb283 0x025fb023 0xfddff06f) through_second s.on_4 (stands_through_second point head 0xfddff06f s)

    pub goes_out : Turns 17 (hart rest 0x11038 0 0 true 0 0 0) (hart rest 0x10000 0 1 false 1 1 1) (0 ∷ [])
    unfolding decode_of action perform perform_on reg with_reg bank_len
    goes_out = follows (program_of loop) 1000 code rows (through_third 0xfddff06f through_second) (solo (hart rest 0x11038 0 0 true 0 0 0)) refl stands_through_all

    pub leaving_third : leaving 19 0 (at code rows (hart rest 0x11038 0 0 true 0 0 0)) ≡ turns 17
    unfolding decode_of action perform perform_on reg with_reg bank_len
    leaving_third = leaving_so (program_of loop) 1000 code rows (through_third 0xfddff06f through_second) (solo (hart rest 0x11038 0 0 true 0 0 0)) 2 refl stands_through_all refl

  pub goes_round : get code 0x10000 ≡ Some (own 0x6f) → Turns 1 (hart rest 0x10000 0 1 false 1 1 1) (hart rest 0x10000 0 2 false 1 1 1) (0 ∷ [])
  unfolding decode_of action perform perform_on reg with_reg bank_len
  goes_round w = follows (program_of loop) 1000 code rows ((0x10000, own 0x6f) ∷ []) (solo (hart rest 0x10000 0 1 false 1 1 1)) refl (w, tt)

  -- a round counts once on slot 2, which the fourth has, and once on slot 4
  pub three_rounds : Three code entering 0x00c0006f 0x0180006f 0xfc1ff06f → Turns 45 (hart rest 0x10000 0 1 false 0 1 1) (hart rest 0x10000 0 4 false 3 1 4) (0 ∷ 0 ∷ 0 ∷ [])
  unfolding decode_of action perform perform_on reg with_reg bank_len
  three_rounds s =
      let on = stands_round s in
      and_then (follows (program_of loop) 1000 code rows a_round (solo (hart rest 0x10000 0 1 false 0 1 1)) refl on)
      (and_then (follows (program_of loop) 1000 code rows a_round (solo (hart rest 0x10000 0 2 false 1 1 2)) refl on)
      (follows (program_of loop) 1000 code rows a_round (solo (hart rest 0x10000 0 3 false 2 1 3)) refl on))
