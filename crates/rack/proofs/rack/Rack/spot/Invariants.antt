use Rattle.std.proofs.Common.{◌≡◌, drop}
use Rattle.seating.specs.Seats.{seated}
use Rattle.rack.proofs.rack.Rack.spot.Given as goal

abbrev pub invariant-loop-p : goal.invariant-loop-p
invariant-loop-p g l = seated l.number (drop l.p l.processor-items) ≡ seated l.number l.processor-items
