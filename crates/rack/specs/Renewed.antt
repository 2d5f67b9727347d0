-- A seat that keeps another instant.
use Rattle.std.specs.Prelude.{ℕ, List, slice_index_or, slice_set}
use Rattle.tasks.specs.declared.units.Ticks.{Ticks}
use Rattle.seating.specs.declared.seat.Seat.{Seat}
use Rattle.seating.specs.Seats.{no_seat, with_instant}

-- the seat at a place with another kept instant
abbrev pub renewed : List Seat → ℕ → Ticks → List Seat
renewed ss at t = slice_set ss at (with_instant (slice_index_or ss at no_seat) t)
