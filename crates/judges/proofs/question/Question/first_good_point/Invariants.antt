use Rattle.std.proofs.Common.{◌+◌, ◌-◌, ◌≤◌, take}
use Rattle.tasks.proofs.Leasts.{NoneBelow}
use Rattle.judges.specs.Meanings.{good_point}
use Rattle.judges.proofs.Multiples.{NextPoint}
use Rattle.judges.proofs.question.Question.first_good_point.Given as goal

-- next is the first point from there on, of the task and of those passed so far
abbrev pub invariant-loop-other : goal.invariant-loop-other
invariant-loop-other l = NextPoint l.self.task (take l.other-index l.self.above.now) l.from.0 l.next.0

-- no point below `from` is good
abbrev pub invariant-points : goal.invariant-points
invariant-points l = (1 ≤ l.from.0) × NoneBelow (good_point l.self.task l.self.above.now) l.from.0

abbrev pub decreases-points : goal.decreases-points
decreases-points l = l.self.task.period.0 + 1 - l.from.0
