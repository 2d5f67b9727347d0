-- A good instant is sufficient, for each place by itself.
use Rattle.std.specs.Prelude.{◌≡◌, ℕ, ◌+◌, ◌<◌, ◌≤◌, true, false, ◌↔◌, List, length, get_or, Some, None, slice_index_or}
use Rattle.tasks.specs.declared.task.Task.{Task}
use Rattle.tasks.specs.declared.units.Units.{Units}
use Rattle.tasks.specs.declared.units.Ticks.{Ticks}
use Rattle.tasks.specs.Limits.{all_within}
use Rattle.tasks.specs.Demand.{no_task, FitsAt, Fits}
use Rattle.machine.specs.declared.state.State.TheVariants.{Idle, Waiting}
use Rattle.machine.specs.declared.state.Release.{Release}
use Rattle.machine.specs.declared.state.Miss.{Miss}
use Rattle.machine.specs.Machine.{due, first_missed, outcome}
use Rattle.machine.specs.Lawful.{lawful}
use Rattle.machine.specs.Promises.{NeverMisses}
use Rattle.machine.specs.Traces.{states_at}
use Rattle.schedule.specs.Places.{good_at, NeverMissesAt}

-- The trace `states_at` is the run up to the miss that ends it: a run misses where the trace first has a task that waits at its deadline, if that is up to the horizon,
abbrev pub RunsFollowTraces : Type 0
RunsFollowTraces = (ts : List Task) (horizon : ℕ) (rs : List Release) (m : Miss) → ((outcome ts horizon rs).miss ≡ Some m)
    ↔ ((m.instant.0 ≤ horizon) × (first_missed m.instant.0 0 (states_at ts rs m.instant.0) ≡ Some m.place) × ((n : ℕ) → n < m.instant.0 → first_missed n 0 (states_at ts rs n) ≡ None))

-- and misses nothing exactly when the trace has none up to the horizon.
abbrev pub RunsMeetTraces : Type 0
RunsMeetTraces = (ts : List Task) (horizon : ℕ) (rs : List Release) → ((outcome ts horizon rs).miss ≡ None) ↔ ((n : ℕ) → n ≤ horizon → first_missed n 0 (states_at ts rs n) ≡ None)

-- P holds of each place k of each list at which the task has the good instant g, under each lawful release list, whatever the other places do
abbrev pub WhereGood : ((ts : List Task) (k g : ℕ) (rs : List Release) → Type 0) → Type 0
WhereGood P = (ts : List Task) → all_within ts ≡ true → (k g : ℕ) → k < length ts → good_at ts k g ≡ true → (horizon : ℕ) (rs : List Release) → lawful ts horizon rs ≡ true → P ts k g rs

-- There each job waits for less than g ticks: at an instant `now` at which the task waits, less than g have passed since the release, which was T before the deadline.
abbrev pub WaitsLess : Type 0
WaitsLess = WhereGood (λ ts k g rs. (now : ℕ) (left : Units) (deadline : Ticks) → slice_index_or (states_at ts rs now) k Idle ≡ Waiting left deadline → now + (get_or ts k no_task).period.0 < deadline.0 + g)

-- So each job is done within g ticks of its release: just before r + g, a task released at r is idle. (In the run too, unless another place's miss has ended it before.)
abbrev pub DoneBy : Type 0
DoneBy = WhereGood (λ ts k g rs. (r : ℕ) → due rs k r ≡ true → slice_index_or (states_at ts rs (r + g)) k Idle ≡ Idle)

-- And it stays idle up to its next release.
abbrev pub IdleFrom : Type 0
IdleFrom = WhereGood (λ ts k g rs. (r n : ℕ) → due rs k r ≡ true → r + g ≤ n → ((q : ℕ) → r < q → q < n → due rs k q ≡ false) → slice_index_or (states_at ts rs n) k Idle ≡ Idle)

-- The task at a place that has a good instant is never the one that misses, even if no other place has one.
abbrev pub FittingPlaceIsSafe : Type 0
FittingPlaceIsSafe = (ts : List Task) → all_within ts ≡ true → (k : ℕ) → k < length ts → FitsAt ts k → NeverMissesAt ts k

-- A list that fits never misses.
abbrev pub FittingListIsSafe : Type 0
FittingListIsSafe = (ts : List Task) → all_within ts ≡ true → Fits ts → NeverMisses ts
