-- For proofs alone: seats of the view threads.
use Rattle.std.specs.Prelude.{◌≡◌, List, map}
use Rattle.std.specs.List.{AllByRecursion}
use Rattle.atomic_table.specs.Seated.{TableId}
use Rattle.visi_run.specs.Streams.{ViewChannel}
use Rattle.visi_run.specs.declared.view.Seat.{Seat}

-- the same channel and the same gauge
abbrev pub IsSameSeat : Seat → Seat → Type 0
IsSameSeat a b = (b.view.line ≡ a.view.line) × (b.reader.cell ≡ a.reader.cell)

abbrev pub seat_lines : List Seat → List ViewChannel
seat_lines seats = map (λ (seat : Seat). seat.view.line) seats

-- all at one gauge
abbrev pub AreSeatsOf : TableId → List Seat → Type 0
AreSeatsOf cell seats = AllByRecursion (λ (seat : Seat). seat.reader.cell ≡ cell) seats
