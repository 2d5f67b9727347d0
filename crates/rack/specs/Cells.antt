-- The cells of a table of seats, of which the first hold tasks.
use Rattle.std.specs.Prelude.{◌≡◌, ℕ, ◌≤◌, List, slice_index_or}
use Rattle.seating.specs.declared.seat.Seat.{Seat}
use Rattle.seating.specs.Seats.{no_seat}

-- from this place on every seat is blank
abbrev pub BlankFrom : ℕ → List Seat → Type 0
BlankFrom n ss = (i : ℕ) → n ≤ i → slice_index_or ss i no_seat ≡ no_seat
