use Rattle.std.proofs.Common.{◌≡◌, [], replicate}
use Rattle.rack.proofs.rack.all_free.Given as goal

abbrev pub invariant-loop : goal.invariant-loop
invariant-loop g l = l.processors.items ≡ replicate l.counter []
