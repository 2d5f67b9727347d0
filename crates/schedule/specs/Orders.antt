-- Fixed priority orders of the same tasks: rate-monotonic order is optimal among them (Liu and Layland 1973).
-- `IsPermutation ts us` says that us is a permutation of ts: exchanges of two places at a time lead from the one to the other. Priority order is by periods; tasks of equal periods may stand either way.
use Rattle.std.specs.Prelude.{◌≡◌, Bool, true, ◌⊎◌, ◌↔◌, List, ◌∷◌, count_by}
use Rattle.std.specs.List.Sorted.{IsPermutation}
use Rattle.tasks.specs.declared.task.Task.{Task}
use Rattle.tasks.specs.Limits.{all_within}
use Rattle.tasks.specs.Priority.{by_priority, joined}
use Rattle.tasks.specs.Demand.{Fits}
use Rattle.machine.specs.Promises.{NeverMisses, CanMiss}
use Rattle.schedule.specs.Places.{Unfit}

-- us is a permutation of ts exactly when it has the same tasks, each as often: when every test of a task counts the same in both
abbrev pub PermutationsCountTheSame : Type 0
PermutationsCountTheSame = (ts us : List Task) → IsPermutation ts us ↔ ((test : Task → Bool) → count_by test us ≡ count_by test ts)

-- a list fits, or the task at some place has no good instant
abbrev pub FitsOrNot : Type 0
FitsOrNot = (ts : List Task) → Fits ts ⊎ Unfit ts

-- if a list in priority order does not fit, no permutation of it does
abbrev pub PriorityOrderIsBest : Type 0
PriorityOrderIsBest = (ts us : List Task) → by_priority ts ≡ true → IsPermutation ts us → (Fits ts → ⊥) → Fits us → ⊥

-- In any order, a list fits exactly when it never misses,
abbrev pub FitsExactlyWhenSafe : Type 0
FitsExactlyWhenSafe = (ts : List Task) → all_within ts ≡ true → Fits ts ↔ NeverMisses ts

-- and does not fit exactly when it can miss.
abbrev pub UnfitExactlyWhenCanMiss : Type 0
UnfitExactlyWhenCanMiss = (ts : List Task) → all_within ts ≡ true → (Fits ts → ⊥) ↔ CanMiss ts

-- If some permutation of a list in priority order never misses, the list never misses.
abbrev pub PriorityOrderIsOptimal : Type 0
PriorityOrderIsOptimal = (ts us : List Task) → all_within ts ≡ true → by_priority ts ≡ true → IsPermutation ts us → NeverMisses us → NeverMisses ts

-- A list in priority order does not fit exactly when each permutation of it can miss: then no fixed order of these tasks is safe.
abbrev pub UnfitExactlyWhenNoOrder : Type 0
UnfitExactlyWhenNoOrder = (ts : List Task) → all_within ts ≡ true → by_priority ts ≡ true → (Fits ts → ⊥) ↔ ((us : List Task) → IsPermutation ts us → CanMiss us)

-- a newcomer joins a list in priority order: the list is in priority order again, and has its tasks and the newcomer
abbrev pub JoinedKeepsOrder : Type 0
JoinedKeepsOrder = (x : Task) (ts : List Task) → (by_priority ts ≡ true → by_priority (joined x ts) ≡ true) × IsPermutation (x ∷ ts) (joined x ts)
