-- A sum of work, task by task: none where it has no place in 64 bits or a period is 0.
use Rattle.std.proofs.Common.{ℕ, ◌+◌, cond, List, None, Option}
use Rattle.tasks.specs.declared.task.Task.{Task}
use Rattle.tasks.specs.declared.units.Units.{Units}
use Rattle.tasks.specs.Demand.{work_before, in_64_bits, periods_exist}

-- `sum` and what the tasks of a list ask for up to t
abbrev pub total : ℕ → List Task → ℕ → Option Units
total sum ys t = cond (periods_exist ys) (in_64_bits (sum + work_before ys t)) None
