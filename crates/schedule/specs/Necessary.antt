-- A good instant is necessary, at each place and in any order. The witness is the critical instant of Liu and Layland (1973): all tasks released together.
use Rattle.std.specs.Prelude.{◌≡◌, ℕ, ◌%◌, ◌<◌, ◌≤◌, true, ◌↔◌, List, length, Some, slice_index_or}
use Rattle.tasks.specs.declared.task.Task.{Task}
use Rattle.tasks.specs.Limits.{all_within}
use Rattle.tasks.specs.Demand.{no_task, FitsAt}
use Rattle.machine.specs.declared.state.Miss.{Miss}
use Rattle.machine.specs.Machine.{due, outcome}
use Rattle.machine.specs.Lawful.{lawful}
use Rattle.machine.specs.Promises.{CanMiss}
use Rattle.schedule.specs.Places.{Unfit}
use Rattle.schedule.specs.Synchronous.{synchronous}

-- The synchronous releases below a horizon release each task at each multiple of its period below it, and at no other instant,
abbrev pub SynchronousIsAllMultiples : Type 0
SynchronousIsAllMultiples = (ts : List Task) (horizon place n : ℕ) → (due (synchronous ts 0 horizon) place n ≡ true) ↔ ((place < length ts) × (n < horizon) × (n % (slice_index_or ts place no_task).period.0 ≡ 0))

-- and are lawful.
abbrev pub SynchronousIsLawful : Type 0
SynchronousIsLawful = (ts : List Task) (horizon : ℕ) → lawful ts horizon (synchronous ts 0 horizon) ≡ true

-- If the task at place k has no good instant, some task misses under the synchronous releases below its T.
abbrev pub SynchronousMisses : Type 0
SynchronousMisses = (ts : List Task) → all_within ts ≡ true → (k : ℕ) → k < length ts → (FitsAt ts k → ⊥)
    → (m : Miss) × ((outcome ts (slice_index_or ts k no_task).period.0 (synchronous ts 0 (slice_index_or ts k no_task).period.0)).miss ≡ Some m)

-- So a list in which the task at some place has no good instant can miss,
abbrev pub UnfitCanMiss : Type 0
UnfitCanMiss = (ts : List Task) → all_within ts ≡ true → Unfit ts → CanMiss ts

-- and the task that misses can be that one or one above it, whatever stands below.
abbrev pub UnfitFrontCanMiss : Type 0
UnfitFrontCanMiss = (ts : List Task) → all_within ts ≡ true → (k : ℕ) → k < length ts → (FitsAt ts k → ⊥) → (c : CanMiss ts) × (c.it.place ≤ k)
