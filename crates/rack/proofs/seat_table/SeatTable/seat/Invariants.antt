use Rattle.std.proofs.Common.{◌+◌}
use Rattle.rack.proofs.Renewings.{Renewing}
use Rattle.rack.proofs.seat_table.SeatTable.seat.Given as goal

abbrev pub invariant-loop-below : goal.invariant-loop-below
invariant-loop-below l = Renewing l.initial.self l.self l.trial.place (l.trial.place + 1 + l.below) l.trial.instants.items
