-- A task of plain numbers.
use Rattle.std.specs.Prelude.{ℕ}
use Rattle.tasks.specs.declared.task.Task.{Task}

-- its number, its work in units, its period in ticks
abbrev pub task_of : ℕ → ℕ → ℕ → Task
task_of number work period = record { number = number; work = record { 0 = work }; period = record { 0 = period } }
