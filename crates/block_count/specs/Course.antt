-- What happens while the blocks of a program are counted, as a list of the machine's events.
use Rattle.std.specs.Prelude.{ℕ, zero, suc, Some, None, List, [], ◌∷◌, ◌++◌, map}
use Rattle.std.specs.List.{flat_map}
use Rattle.pn_types.specs.declared.code.Proc.{Proc}
use Rattle.pn_types.specs.declared.image.Image.{Image}
use Rattle.pn_types.specs.declared.limits.TheConstants.{MAX_QUANTA}
use Rattle.turn_order.specs.declared.order.Order.{Order}
use Rattle.turn_order.specs.Orders.{order_after, order_of_seed, picked}
use Rattle.machine.specs.Cores.{Core, start_core}
use Rattle.machine.specs.Events.{Event, Write, LinkMini, LinkPoint, Arm, Sample}
use Rattle.machine.specs.Replays.{replay}
use Rattle.machine.specs.States.{quantum_turns, settling}
use Rattle.machine.specs.Turns.{is_runnable}
use Rattle.block_count.specs.Counters.{Counter, base_of, mini_at, mini_of, placed_of}
use Rattle.block_count.specs.CountedBlocks.{counters_of}

-- these events, and then those of the state after them
abbrev pub and_then : List Event → (Core → List Event) → Core → List Event
and_then es more c = es ++ more (replay es c)

-- ---- the counters

-- a counter's blocks are written and linked
unfoldable pub placing : Counter → List Event
placing c = Write (base_of c) ∷ Write (mini_of c) ∷ LinkMini c.point (mini_at c) ∷ LinkPoint c.point ∷ []

abbrev pub arming : Counter → Event
arming c = Arm (placed_of c)

abbrev pub sampling : Counter → Event
sampling c = Sample (placed_of c)

-- all are written and linked, and then armed
abbrev pub beginning : List Counter → List Event
beginning counters = flat_map placing counters ++ map arming counters

-- ---- the turns

-- how harts take quanta: how many there are, the turns of a quantum, and the seed of the order
pub record Pace : Type 0 where
  pub harts : ℕ
  pub turns : ℕ
  pub seed : ℕ

-- at most a number of quanta: each is of the hart that is next among those that are runnable when it comes
abbrev pub quanta_from : ℕ → Pace → Order → Core → List Event
quanta_from zero p order c = []
quanta_from (suc more) p order c = elim (picked order (is_runnable c) p.harts) [
  | None ↦ []
  | Some h ↦ and_then (quantum_turns p.turns h c) (quanta_from more p (order_after order h)) c
]

-- in the order of the seed, until no hart is runnable or there are as many as there may be
unfoldable pub all_quanta : Pace → Core → List Event
all_quanta p c = quanta_from MAX_QUANTA p (order_of_seed p.seed) c

-- the turns, then those of settling
abbrev pub turns_of : Pace → Core → List Event
turns_of p c = and_then (all_quanta p c) settling c

-- ---- all

-- The counters are placed and armed, the harts take their turns, the machine settles, and each counter is sampled.
abbrev pub course_of : Pace → List Counter → Core → List Event
course_of p counters c = and_then (beginning counters) (λ begun. and_then (turns_of p begun) (λ settled. map sampling counters) begun) c

abbrev pub block_events : Image → List Proc → ℕ → Pace → List Event
block_events image procs budget p = course_of p (counters_of image procs) (start_core image p.harts budget)
