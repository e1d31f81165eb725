-- Runs of a body from one word to another, and what bodies do as a whole.
use Rattle.std.specs.Prelude.{◌≡◌, ℕ, zero, suc, ◌⊎◌, ◌++◌, List, length}
use Rattle.rv_word.specs.Registers.{arguments_of}
use Rattle.tramp_spec.specs.Steps.{Bench}
use Rattle.tramp_spec.specs.Bodies.{AreTool, Leap, Stands, Harmless, LeavesSlot}
use Rattle.tramp_spec.specs.declared.mark.MarkedWord.{MarkedWord}

-- exactly this many turns lead from word i to word e
abbrev pub Path : List MarkedWord → (at ticks : ℕ) → ℕ → (i e : ℕ) → Bench → Bench → Type 0
Path body at ticks zero i e x y = (i ≡ e) × (x ≡ y)
Path body at ticks (suc n) i e x y = (j : ℕ) × (z : Bench) × Leap body at ticks i x j z × Path body at ticks n j e z y

abbrev pub Route : List MarkedWord → (at ticks : ℕ) → (i e : ℕ) → Bench → Bench → Type 0
Route body at ticks i e x y = (n : ℕ) × Path body at ticks n i e x y

-- what a body leaves in the bank: from the ticks, the arguments and the bank
abbrev pub Effect : Type 0
Effect = ℕ → List ℕ → List ℕ → List ℕ

-- the body comes to its end, and leaves this in the bank
abbrev pub BodyDoes : List MarkedWord → Effect → Type 0
BodyDoes body f =
    (at ticks : ℕ) (x : Bench) → Stands body at x
    → (y : Bench) × Route body at ticks 0 (length body) x y × (y.bank ≡ f ticks (arguments_of x.regs) x.bank)

-- the words of a guard are the tool's, lead to the rest, or over it, and leave the bank
pub record Guards (guard rest : List MarkedWord) : Type 0 where
  pub tools : AreTool guard
  pub leads : (at ticks : ℕ) (x : Bench) → Stands (guard ++ rest) at x
      → (y : Bench) × (y.bank ≡ x.bank)
      × (Route (guard ++ rest) at ticks 0 (length guard) x y ⊎ Route (guard ++ rest) at ticks 0 (length (guard ++ rest)) x y)

-- bodies may follow each other, and may follow guards
pub record BodiesGoOn : Type 0 where
  pub append : (a b : List MarkedWord) → Harmless a → Harmless b → Harmless (a ++ b)
  pub append_leaves : (a b : List MarkedWord) (slot : ℕ) → Harmless a → Harmless b → LeavesSlot a slot → LeavesSlot b slot
      → LeavesSlot (a ++ b) slot
  pub guard : (g rest : List MarkedWord) → Guards g rest → Harmless rest → Harmless (g ++ rest)
  pub guard_leaves : (g rest : List MarkedWord) (slot : ℕ) → Guards g rest → Harmless rest → LeavesSlot rest slot
      → LeavesSlot (g ++ rest) slot
