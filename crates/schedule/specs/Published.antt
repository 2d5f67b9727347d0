-- The exact test as Lehoczky, Sha and Ding published it in 1989, for a task x below the tasks `above`.
use Rattle.std.specs.Prelude.{◌≡◌, ℕ, ◌*◌, ◌/◌, ◌<◌, ◌≤◌, true, ◌↔◌, List, ◌∷◌, length, get_or, take, slice_index_or}
use Rattle.tasks.specs.declared.task.Task.{Task}
use Rattle.tasks.specs.Rounding.{up}
use Rattle.tasks.specs.Units.{units_in, one_a_tick}
use Rattle.tasks.specs.Limits.{all_within}
use Rattle.tasks.specs.Demand.{work_before, demand, good, no_task}
use Rattle.tasks.specs.Instants.{point}
use Rattle.machine.specs.Promises.{NeverMisses}
use Rattle.schedule.specs.Places.{NeverMissesAt}

-- `up n d` is n / d rounded up: the least number of times that d covers n
abbrev pub UpIsTheCeiling : Type 0
UpIsTheCeiling = (n d m : ℕ) → 1 ≤ d → (up n d ≤ m) ↔ (n ≤ m * d)

-- W(t): the sum, over the task and those above, of C × (t / T, rounded up)
abbrev pub total_work : Task → List Task → ℕ → ℕ
total_work x above t = work_before (x ∷ above) t

-- The demand is W(t), from 1 to T.
abbrev pub DemandIsTotalWork : Type 0
DemandIsTotalWork = (x : Task) (above : List Task) (t : ℕ) → 1 ≤ t → t ≤ x.period.0 → demand x above t ≡ total_work x above t

-- t is in the set S: t = k × the T of one task of x and those above, with k from 1 to T of x / that T, rounded down
pub record InPublishedSet (x : Task) (above : List Task) (t : ℕ) : Type 0 where
  pub of : ℕ
  pub inside : of < length (x ∷ above)
  pub k : ℕ
  pub from : 1 ≤ k
  pub to : k ≤ x.period.0 / (get_or (x ∷ above) of no_task).period.0
  pub is : t ≡ k * (get_or (x ∷ above) of no_task).period.0

-- The scheduling points are that set.
abbrev pub PointsArePublished : Type 0
PointsArePublished = (x : Task) (above : List Task) (t : ℕ) → all_within (x ∷ above) ≡ true → (point x above t ≡ true) ↔ InPublishedSet x above t

-- Points suffice: a task has a good instant exactly when one of its scheduling points is good.
abbrev pub PointsSuffice : Type 0
PointsSuffice = (x : Task) (above : List Task) → all_within (x ∷ above) ≡ true → ((t : ℕ) × (good x above t ≡ true)) ↔ ((t : ℕ) × (point x above t ≡ true) × (good x above t ≡ true))

-- The least W(t) / t over the scheduling points is at most 1: at one of them, W(t) is at most what a processor does in t.
abbrev pub Passes : Task → List Task → Type 0
Passes x above = (t : ℕ) × (point x above t ≡ true) × (total_work x above t ≤ units_in one_a_tick t)

-- the task at place k passes, with those before it above it
abbrev pub PassesAt : List Task → ℕ → Type 0
PassesAt ts k = Passes (slice_index_or ts k no_task) (take k ts)

-- The published theorem, for one task: it passes exactly when it is never the one that misses, whatever the line does. It is stated below places that pass, since here a run ends with its first miss:
-- one above that misses first would hide what comes to the task below. (That a place which passes is never the one that misses needs nothing of the others: FittingPlaceIsSafe.)
abbrev pub OneTask : Type 0
OneTask = (ts : List Task) → all_within ts ≡ true → (k : ℕ) → k < length ts → ((j : ℕ) → j < k → PassesAt ts j) → PassesAt ts k ↔ NeverMissesAt ts k

-- The published theorem, for the whole list, in any order: each task passes exactly when no task ever misses.
abbrev pub WholeList : Type 0
WholeList = (ts : List Task) → all_within ts ≡ true → ((k : ℕ) → k < length ts → PassesAt ts k) ↔ NeverMisses ts
