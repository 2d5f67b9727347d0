-- The limits of a task.
use Rattle.std.specs.Prelude.{Bool, ◌&&◌, List, nat_le}
use Rattle.std.specs.List.{list_all}
use Rattle.tasks.specs.declared.task.Task.{Task}
use Rattle.tasks.specs.Units.{units_in, one_a_tick}

-- the period T is from 1 to 1,000,000 ticks
abbrev pub period_allowed : Task → Bool
period_allowed x = nat_le 1 x.period.0 && nat_le x.period.0 1000000

-- the work C is from 1 unit to what a processor does in T
abbrev pub work_allowed : Task → Bool
work_allowed x = nat_le 1 x.work.0 && nat_le x.work.0 (units_in one_a_tick x.period.0)

abbrev pub within_limits : Task → Bool
within_limits x = period_allowed x && work_allowed x

-- each task of a list keeps the limits
abbrev pub all_within : List Task → Bool
all_within = list_all within_limits
