-- For proofs alone: what one worker does with its harts.
use Rattle.std.specs.Prelude.{◌≡◌, ◌≢◌, ◌⊎◌, ℕ, suc, ◌+◌, ◌%◌, ◌<◌, ◌==◌, List, [], ◌∷◌, ◌++◌, map}
use Rattle.std.specs.List.{AllByRecursion}
use Rattle.machine.specs.Cores.{In}
use Rattle.live_run.specs.declared.view.Receipt.{Receipt}
use Rattle.live_run.specs.Seats.{SeatData}
use Rattle.live_run.specs.ByWorkers.{one_if}

-- no number stands twice
abbrev pub AreApart : List ℕ → Type 0
AreApart [] = Unit {0}
AreApart (x ∷ xs) = AllByRecursion (λ (y : ℕ). y ≢ x) xs × AreApart xs

abbrev pub count : ℕ → List ℕ → ℕ
count x [] = 0
count x (y ∷ ys) = one_if (y == x) + count x ys

-- between two consecutive places of one number stands exactly one place of each other number that also stands after them
abbrev pub AreInTurn : List ℕ → Type 0
AreInTurn past =
    (a b c : List ℕ) (x : ℕ) → past ≡ (a ++ x ∷ b) ++ x ∷ c → count x b ≡ 0 → (h : ℕ) → h ≢ x → 0 < count h c → count h b ≡ 1

-- the numbers that took their turns, and those that wait for one, in order
pub record AreTakingTurns (past waits : List ℕ) : Type 0 where
  pub apart : AreApart waits
  pub turns : AreInTurn past
  pub alive : (a b c : List ℕ) (x : ℕ) → past ≡ (a ++ x ∷ b) ++ x ∷ c → count x b ≡ 0 → (h : ℕ) → In h waits → h ≢ x → count h b ≡ 1
  pub order : (u v : List ℕ) (x : ℕ) → waits ≡ u ++ x ∷ v → (a b : List ℕ) → past ≡ a ++ x ∷ b → count x b ≡ 0
      → AllByRecursion (λ (g : ℕ). count g b ≡ 0) u × AllByRecursion (λ (g : ℕ). count g b ≡ 1) v

abbrev pub harts_in : List Receipt → List ℕ
harts_in rs = map (λ (r : Receipt). r.quantum.hart) rs

-- a receipt for a quantum of these turns of a hart of the worker
abbrev pub IsFor : ℕ → ℕ → ℕ → Receipt → Type 0
IsFor workers turns worker r = (r.quantum.turns ≡ turns) × (r.quantum.hart % workers ≡ worker)

-- the worker took its harts in turn, each until it was halted
pub record HasServed (harts workers turns worker : ℕ) (s : SeatData) : Type 0 where
  pub worker_is : s.worker ≡ worker
  pub receipts : AllByRecursion (IsFor workers turns worker) s.receipts
  pub in_turn : AreInTurn (harts_in s.receipts)
  pub all : (hart : ℕ) → hart < harts → hart % workers ≡ worker → In hart s.noted

-- the worker is about to take the first of these harts
pub record IsServing (harts workers turns worker : ℕ) (waits : List ℕ) (s : SeatData) : Type 0 where
  pub worker_is : s.worker ≡ worker
  pub receipts : AllByRecursion (IsFor workers turns worker) s.receipts
  pub in_turn : AreTakingTurns (harts_in s.receipts) waits
  pub waits_are : AllByRecursion (λ (hart : ℕ). (hart < harts) × (hart % workers ≡ worker)) waits
  pub all : (hart : ℕ) → hart < harts → hart % workers ≡ worker → In hart waits ⊎ In hart s.noted

-- the harts of the worker below n, each once
pub record AreHartsBelow (n workers worker : ℕ) (harts : List ℕ) : Type 0 where
  pub apart : AreApart harts
  pub each : AllByRecursion (λ (hart : ℕ). (hart < n) × (hart % workers ≡ worker)) harts
  pub all : (hart : ℕ) → hart < n → hart % workers ≡ worker → In hart harts

-- the seats of the workers n, n + 1 and so on, which served
abbrev pub AreServed : ℕ → ℕ → ℕ → ℕ → List SeatData → Type 0
AreServed harts workers turns n [] = Unit {0}
AreServed harts workers turns n (s ∷ seats) = HasServed harts workers turns n s × AreServed harts workers turns (suc n) seats
