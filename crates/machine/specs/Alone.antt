-- For proofs alone: several turns of one hart by itself.
use Rattle.std.specs.Prelude.{◌≡◌, ℕ, zero, suc, ◌<◌, ◌≤◌, ◌⊎◌, IsTrue, Bool, true, false, Option, Some}
use Rattle.tramp_spec.specs.Codes.{fetched_at, is_tool_word}
use Rattle.rv_word.specs.Exec.{Prog}
use Rattle.tramp_spec.specs.Harts.{Hart, Solo, is_tick, step_of}
use Rattle.tramp_spec.specs.declared.mark.MarkedWord.{MarkedWord}
use Rattle.code_store.specs.Stores.{StoredCode}
use Rattle.machine.specs.Performing.{home_in_store}
use Rattle.machine.specs.Turns.{may_turn}
use Rattle.machine.specs.declared.turning.Progress.{Progress}

-- what the hart fetches
abbrev pub fetched_alone : StoredCode → Solo → Option MarkedWord
fetched_alone s x = fetched_at s.program s.code x.hart.pc x.hart.inside

-- one turn of hart h
abbrev pub turned_alone : StoredCode → ℕ → Solo → Solo
turned_alone s h x = step_of (fetched_alone s x) h (home_in_store s x.hart.pc x.hart.inside) x

abbrev pub may_alone : ℕ → Solo → Bool
may_alone budget x = may_turn (Some x.hart) budget

-- a hart by itself, with this progress and else the parts of `x`
abbrev pub alone_of : Progress → Hart → Prog → Solo
alone_of a x p = record { hart = record x { pc = a.pc; ticks = a.ticks; inside = a.inside }; prog = p }

-- this many turns, each of which the hart could take, lead from the one to the other
abbrev pub TurnsLead : StoredCode → ℕ → ℕ → ℕ → Solo → Solo → Type 0
TurnsLead s budget h zero x z = z ≡ x
TurnsLead s budget h (suc k) x z = IsTrue (may_alone budget x) × TurnsLead s budget h k (turned_alone s h x) z

-- what is known of a hart that takes turns: where it stands, and that a tick is below the budget
pub record IsSoloPlaced (s : StoredCode) (budget : ℕ) (x : Solo) : Type 0 where
  pub tool : x.hart.inside ≡ true → is_tool_word s.program x.hart.pc ≡ true
  pub below : IsTrue (may_alone budget x) → is_tick (fetched_alone s x) ≡ true → x.hart.ticks < budget

-- this holds wherever turns lead
abbrev pub ArePlaced : StoredCode → ℕ → ℕ → Solo → Type 0
ArePlaced s budget h x = (k : ℕ) (z : Solo) → TurnsLead s budget h k x z → IsSoloPlaced s budget z

-- the hart took this many turns, at most `most`, and could take no more where these are fewer
pub record TakesAlone (s : StoredCode) (budget h most : ℕ) (x z : Solo) (turns : ℕ) : Type 0 where
  pub leads : TurnsLead s budget h turns x z
  pub bound : turns ≤ most
  pub full : (turns ≡ most) ⊎ (may_alone budget z ≡ false)
