use Rattle.std.proofs.Common.{◌+◌, ◌-◌, ◌≤◌}
use Rattle.tasks.specs.Demand.{good}
use Rattle.tasks.proofs.Leasts.{NoneBelow}
use Rattle.judges.proofs.question.Question.first_good_instant.Given as goal

-- no instant below t is good
abbrev pub invariant-loop-t : goal.invariant-loop-t
invariant-loop-t l = (1 ≤ l.t.0) × NoneBelow (good l.self.task l.self.above.now) l.t.0

abbrev pub decreases-loop-t : goal.decreases-loop-t
decreases-loop-t l = l.self.task.period.0 + 1 - l.t.0
