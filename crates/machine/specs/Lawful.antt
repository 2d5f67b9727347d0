-- Lawful release lists: what a line may do. Releases are sporadic: a period is the least distance between two releases of a task.
use Rattle.std.specs.Prelude.{ℕ, ◌+◌, Bool, true, not, ◌&&◌, ◌||◌, List, [], ◌∷◌, length, ◌==◌, nat_le, nat_lt, slice_index_or}
use Rattle.std.specs.List.{list_all}
use Rattle.tasks.specs.declared.task.Task.{Task}
use Rattle.tasks.specs.Demand.{no_task}
use Rattle.machine.specs.declared.state.Release.{Release}

-- its place exists, and its instant is below the horizon
abbrev pub inside : List Task → ℕ → Release → Bool
inside ts horizon r = nat_lt r.place (length ts) && nat_lt r.instant.0 horizon

-- q may stand after r: its instant has not fallen, and if it is of the same task, it is at least the task's period later
abbrev pub may_follow : List Task → Release → Release → Bool
may_follow ts r q = nat_le r.instant.0 q.instant.0 && (not (r.place == q.place) || nat_le (r.instant.0 + (slice_index_or ts r.place no_task).period.0) q.instant.0)

abbrev pub all_may_follow : List Task → Release → List Release → Bool
all_may_follow ts r qs = list_all (may_follow ts r) qs

-- each release is inside, and each may stand after those before it
abbrev pub lawful : List Task → ℕ → List Release → Bool
lawful ts horizon [] = true
lawful ts horizon (r ∷ rs) = inside ts horizon r && (all_may_follow ts r rs && lawful ts horizon rs)
