-- Harmless bodies of mini blocks, by their runs, and what a body does to the bank.
use Rattle.std.specs.Prelude.{◌≡◌, ◌≢◌, ℕ, zero, suc, ◌+◌, ◌-◌, ◌*◌, ◌/◌, ◌%◌, ◌^◌, ◌<◌, ◌≤◌, ◌⊎◌, List, length, Option, Some, None, Result, Ok, Err, slice_get, slice_index}
use Rattle.std.specs.List.{AllByRecursion}
use Rattle.rv_word.specs.Registers.{reg}
use Rattle.rv_word.specs.declared.outcome.Cause.{Cause}
use Rattle.tramp_spec.specs.Marks.{tool}
use Rattle.tramp_spec.specs.Banks.{bank_len, saved_x5}
use Rattle.tramp_spec.specs.Steps.{Bench, Stood, stand, step_on}
use Rattle.tramp_spec.specs.declared.mark.Mark.TheVariants.{Tool}
use Rattle.tramp_spec.specs.declared.mark.MarkedWord.{MarkedWord}

-- all registers stay but x5 and x31, and so do the saved x5 and the sizes
pub record Keeps (x y : Bench) : Type 0 where
  pub regs : (r : ℕ) → r ≢ 5 → r ≢ 31 → reg y.regs r ≡ reg x.regs r
  pub saved : saved_x5 y.bank ≡ saved_x5 x.bank
  pub size : length y.regs ≡ length x.regs
  pub room : length y.bank ≡ length x.bank

-- the turn at word i of a body that stands at `at` goes forward to word j, or to the word after the last
pub record Leap (body : List MarkedWord) (at ticks i : ℕ) (x : Bench) (j : ℕ) (y : Bench) : Type 0 where
  pub word : ℕ
  pub here : slice_get body i ≡ Some (tool word)
  pub on : i < j
  pub within : j ≤ length body
  pub step : step_on bank_len word ticks (at + 4 * i) x ≡ Ok (stand (at + 4 * j) y)
  pub keeps : Keeps x y

-- from word i on the body comes to its end in at most this many turns, and does no harm
abbrev pub Safe : ℕ → List MarkedWord → (at i : ℕ) → Bench → ℕ → Type 0
Safe zero body at i x ticks = i ≡ length body
Safe (suc most) body at i x ticks = (i ≡ length body) ⊎ ((j : ℕ) × (y : Bench) × Leap body at ticks i x j y × Safe most body at j y ticks)

-- a body can stand there before such a hart
pub record Stands (body : List MarkedWord) (at : ℕ) (x : Bench) : Type 0 where
  pub aligned : at % 4 ≡ 0
  pub fits : at + 4 * length body < 2 ^ 64
  pub file : length x.regs ≡ 32
  pub bank : length x.bank ≡ bank_len

-- all words are the tool's
abbrev pub AreTool : List MarkedWord → Type 0
AreTool words = AllByRecursion (λ (w : MarkedWord). w.mark ≡ Tool) words

pub record Harmless (body : List MarkedWord) : Type 0 where
  pub tools : AreTool body
  -- wherever the body stands, whatever the registers, the bank and the ticks are: it stops no hart, reads and writes the bank
  -- alone, changes nothing but the pc, x5, x31 and slots, and goes forward only
  pub safe : (at ticks : ℕ) (x : Bench) → Stands body at x → Safe (length body) body at 0 x ticks

-- ---- the bank at the end of a body

abbrev pub if_stood : Result Stood Cause → List ℕ → (Stood → List ℕ) → List ℕ
if_stood (Err cause) bank go = bank
if_stood (Ok s) bank go = go s

abbrev pub at_word : Option MarkedWord → List ℕ → (ℕ → List ℕ) → List ℕ
at_word None bank go = bank
at_word (Some w) bank go = go w.word

-- the bank after at most this many turns from word i on
abbrev pub finish : ℕ → List MarkedWord → (at i : ℕ) → Bench → ℕ → List ℕ
finish zero body at i x ticks = x.bank
finish (suc most) body at i x ticks =
    at_word (slice_get body i) x.bank
    (λ word. if_stood (step_on bank_len word ticks (at + 4 * i) x) x.bank (λ s. finish most body at ((s.pc - at) / 4) s.bench ticks))

-- The bank at the end of the body.
abbrev pub bank_at_end : List MarkedWord → ℕ → Bench → ℕ → List ℕ
bank_at_end body at x ticks = finish (length body) body at 0 x ticks

-- The body leaves a slot as it was, at its end; else it names the slot.
abbrev pub LeavesSlot : List MarkedWord → ℕ → Type 0
LeavesSlot body slot = (at ticks : ℕ) (x : Bench) → Stands body at x → slice_index (bank_at_end body at x ticks) slot ≡ slice_index x.bank slot
