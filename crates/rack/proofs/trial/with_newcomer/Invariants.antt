use Rattle.std.proofs.Common.{◌≡◌, take}
use Rattle.seating.specs.Seats.{tasks_of}
use Rattle.rack.proofs.trial.with_newcomer.Given as goal

abbrev pub invariant-loop-seat : goal.invariant-loop-seat
invariant-loop-seat l = l.tasks.items ≡ tasks_of (take l.seat-index l.seats)
