-- The share of a processor that a task takes. No share ever decides whether a task is admitted: a preference between processors looks at their sums.
use Rattle.std.specs.Prelude.{ℕ, ◌*◌, cond, Some, None, Option}
use Rattle.tasks.specs.declared.task.Task.{Task}
use Rattle.tasks.specs.Limits.{within_limits}
use Rattle.tasks.specs.Rounding.{up}

-- C × 1,000,000 / T, rounded up: the share in millionths
abbrev pub share_of : Task → ℕ
share_of x = up (x.work.0 * 1000000) x.period.0

-- none outside the limits
abbrev pub share_answer : Task → Option ℕ
share_answer x = cond (within_limits x) (Some (share_of x)) None
