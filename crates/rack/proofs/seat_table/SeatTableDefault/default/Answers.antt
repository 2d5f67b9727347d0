use Rattle.std.proofs.Common.{◌<◌, ◌≤◌, get_or, ⊎_elim, arith}
use Rattle.std.proofs.lemmas.List.{get_or_past}
use Rattle.std.proofs.lemmas.Bool.{cases_lt}
use Rattle.seating.specs.Seats.{no_seat}
use Rattle.rack.proofs.Cells.{blank_seat}
use Rattle.rack.proofs.seat_table.SeatTableDefault.default.Goals as goal

pub invariant_of-result : goal.invariant_of-result
invariant_of-result c = (
  c.default.ensures.long,
  omega arith,
  λ i h. ⊎_elim
      (λ (lt : i < 32). let d = c.default.ensures.at i no_seat lt in blank_seat (get_or c.default.result i no_seat) d.0.0 d.0.1.0 d.0.1.1 d.1)
      (λ (past : 32 ≤ i). get_or_past c.default.result i no_seat (omega (arith, c.default.ensures.long)))
      (cases_lt i 32),
)
