-- For proofs alone: words of the tool that a hart inside runs one after another.
use Rattle.std.specs.Prelude.{◌≡◌, ℕ, zero, suc, true, Option, Some, None, List, Ok}
use Rattle.tramp_spec.specs.Banks.{bank_len}
use Rattle.tramp_spec.specs.Codes.{fetched_at}
use Rattle.tramp_spec.specs.Steps.{Stood, stand, step_on}
use Rattle.tramp_spec.specs.declared.mark.Mark.TheVariants.{Tool}
use Rattle.tramp_spec.specs.declared.mark.MarkedWord.{MarkedWord}
use Rattle.code_store.specs.Stores.{StoredCode}
use Rattle.machine.specs.Performing.{bench_from}

-- where a hart stands, with its registers and its bank
abbrev pub stood_at : ℕ → List ℕ → List ℕ → Stood
stood_at pc regs bank = stand pc (bench_from regs bank)

-- a word of the tool
abbrev pub HasTool : Option MarkedWord → (ℕ → Type 0) → Type 0
HasTool None claim = ⊥
HasTool (Some w) claim = (w.mark ≡ Tool) × claim w.word

-- This many words of the tool, each of which a hart inside with these ticks fetches and goes on after, lead from the one to the other.
abbrev pub AreToolRun : StoredCode → ℕ → ℕ → Stood → Stood → Type 0
AreToolRun s ticks zero x z = z ≡ x
AreToolRun s ticks (suc n) x z =
    HasTool (fetched_at s.program s.code x.pc true) (λ word. (y : Stood) × (step_on bank_len word ticks x.pc x.bench ≡ Ok y) × AreToolRun s ticks n y z)
