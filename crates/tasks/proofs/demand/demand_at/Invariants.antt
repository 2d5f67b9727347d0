use Rattle.std.proofs.Common.{◌≡◌, ◌^◌, ◌<◌, drop}
use Rattle.tasks.proofs.Sums.{total}
use Rattle.tasks.proofs.demand.demand_at.Given as goal

-- the sum so far and the tasks still to come make the whole demand
abbrev pub invariant-loop-other : goal.invariant-loop-other
invariant-loop-other l = (l.sum < 2 ^ 64) × (total l.sum (drop l.other-index l.above) l.t.0 ≡ total l.initial.sum l.above l.t.0)
