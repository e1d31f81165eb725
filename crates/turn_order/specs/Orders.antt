-- Which hart is next, of n of which each may go or not.
use Rattle.std.specs.Prelude.{ℕ, zero, suc, ◌+◌, ◌*◌, ◌/◌, ◌%◌, ◌^◌, nat_le, Bool, Option, List, length, find, slice_get}
use Rattle.std.specs.List.{filter, range_with_len}
use Rattle.std.specs.Option.{option_or}
use Rattle.turn_order.specs.declared.order.Order.{Order}
use Rattle.turn_order.specs.declared.order.Order.TheVariants.{RoundRobin, Random}

-- the harts that may go, by number
abbrev pub ready_of : (ℕ → Bool) → ℕ → List ℕ
ready_of may n = filter may (range_with_len 0 n)

-- the next value of the generator
abbrev pub generated : ℕ → ℕ
generated x = (x * 6364136223846793005 + 1442695040888963407) % 2 ^ 64

-- The next among the harts that may go: the first whose number is at least `next`, or else the first of all; or the one at
-- the generator's place.
abbrev pub chosen : Order → List ℕ → Option ℕ
chosen (RoundRobin next) ready = option_or (find (nat_le next) ready) (slice_get ready 0)
chosen (Random x) ready = slice_get ready (generated x / 2 ^ 33 % length ready)

-- The hart that is next; none where none may go.
abbrev pub picked : Order → (ℕ → Bool) → ℕ → Option ℕ
picked order may n = chosen order (ready_of may n)

-- the order after hart h was picked
abbrev pub order_after : Order → ℕ → Order
order_after (RoundRobin next) h = RoundRobin (h + 1)
order_after (Random x) h = Random (generated x)

-- the order of a seed: 0 goes round, another begins the generator
abbrev pub order_of_seed : ℕ → Order
order_of_seed zero = RoundRobin 0
order_of_seed (suc seed) = Random (suc seed)
