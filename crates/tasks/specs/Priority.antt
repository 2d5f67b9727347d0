-- Rate-monotonic priority. A list of tasks is in the order of priority, the highest first.
use Rattle.std.specs.Prelude.{Bool, true, cond, ◌&&◌, List, [], ◌∷◌, nat_le}
use Rattle.std.specs.List.{list_all}
use Rattle.tasks.specs.declared.task.Task.{Task}

-- an earlier task y stands above a later one x: the smaller period goes first, and of equal periods the one admitted earlier
abbrev pub stands_above : Task → Task → Bool
stands_above y x = nat_le y.period.0 x.period.0

abbrev pub all_above : List Task → Task → Bool
all_above ys x = list_all (λ y. stands_above y x) ys

-- no period is larger than a later one
abbrev pub by_priority : List Task → Bool
by_priority [] = true
by_priority (y ∷ []) = true
by_priority (y ∷ (x ∷ xs)) = stands_above y x && by_priority (x ∷ xs)

-- a newcomer in its place: behind each task that stands above it
abbrev pub joined : Task → List Task → List Task
joined x [] = x ∷ []
joined x (y ∷ ys) = cond (stands_above y x) (y ∷ joined x ys) (x ∷ (y ∷ ys))
