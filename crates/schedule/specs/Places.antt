-- The places of a list of tasks, one by one.
use Rattle.std.specs.Prelude.{◌≡◌, ℕ, ◌<◌, Bool, true, List, length, take, Some, ◌≢◌, slice_index_or}
use Rattle.tasks.specs.declared.task.Task.{Task}
use Rattle.tasks.specs.Demand.{good, no_task, FitsAt}
use Rattle.machine.specs.declared.state.Release.{Release}
use Rattle.machine.specs.declared.state.Miss.{Miss}
use Rattle.machine.specs.Machine.{outcome}
use Rattle.machine.specs.Lawful.{lawful}

-- t is a good instant of the task at place k, with those before it above it
abbrev pub good_at : List Task → (k t : ℕ) → Bool
good_at ts k t = good (slice_index_or ts k no_task) (take k ts) t

-- the task at some place has no good instant
abbrev pub Unfit : List Task → Type 0
Unfit ts = (k : ℕ) × (k < length ts) × (FitsAt ts k → ⊥)

-- whatever the horizon and the lawful release list, the task at place k is not the one that misses
abbrev pub NeverMissesAt : List Task → ℕ → Type 0
NeverMissesAt ts k = (horizon : ℕ) (rs : List Release) → lawful ts horizon rs ≡ true → (m : Miss) → (outcome ts horizon rs).miss ≡ Some m → m.place ≢ k
