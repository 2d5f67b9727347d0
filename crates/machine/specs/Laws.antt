-- Laws over whole runs: what a reader of a trace would check by hand.
use Rattle.std.specs.Prelude.{◌≡◌, ℕ, zero, suc, ◌+◌, ◌-◌, ◌<◌, ◌≤◌, true, false, cond, List, [], ◌∷◌, length, get_or, Some, None, Option, nat_le, nat_lt, slice_index_or}
use Rattle.tasks.specs.declared.task.Task.{Task}
use Rattle.tasks.specs.Demand.{no_task}
use Rattle.tasks.specs.Limits.{all_within}
use Rattle.tasks.specs.Units.{units_in, one_a_tick}
use Rattle.machine.specs.declared.state.State.{State}
use Rattle.machine.specs.declared.state.State.TheVariants.{Idle, Waiting}
use Rattle.machine.specs.declared.state.Release.{Release}
use Rattle.machine.specs.declared.state.Miss.{Miss}
use Rattle.machine.specs.Machine.{first_missed, due, with_releases, tick_units, outcome}
use Rattle.machine.specs.Lawful.{lawful}
use Rattle.machine.specs.Traces.{states_at}

-- the states at instant n once its releases have come: the tick from n to n + 1 is spent on them
abbrev pub ready_at : List Task → List Release → ℕ → List State
ready_at ts rs n = with_releases rs n 0 ts (states_at ts rs n)

-- the instant at which a run ends: that of its miss, or the horizon
abbrev pub end_of : ℕ → Option Miss → ℕ
end_of horizon None = horizon
end_of horizon (Some m) = m.instant.0

-- The miss of a run is the first: no deadline was missed before, and where the run has none, none up to the horizon.

abbrev pub FirstMiss : List Task → ℕ → List Release → Option Miss → Type 0
FirstMiss ts horizon rs None = (n : ℕ) → n ≤ horizon → first_missed n 0 (states_at ts rs n) ≡ None
FirstMiss ts horizon rs (Some m) =
    (m.instant.0 ≤ horizon) × (first_missed m.instant.0 0 (states_at ts rs m.instant.0) ≡ Some m.place) × ((n : ℕ) → n < m.instant.0 → first_missed n 0 (states_at ts rs n) ≡ None)

abbrev pub MissIsFirst : Type 0
MissIsFirst = (ts : List Task) (horizon : ℕ) (rs : List Release) → FirstMiss ts horizon rs (outcome ts horizon rs).miss

-- In each tick at most one unit is done in all, and the busy ticks of a run are the work done in it.

abbrev pub left_of : State → ℕ
left_of Idle = 0
left_of (Waiting left deadline) = left.0

-- the work that waits, over all tasks
abbrev pub work_left : List State → ℕ
work_left [] = 0
work_left (s ∷ ss) = left_of s + work_left ss

-- the units done in the tick from n to n + 1: what waits before it, less what waits after it
abbrev pub done_in : List Task → List Release → ℕ → ℕ
done_in ts rs n = work_left (ready_at ts rs n) - work_left (states_at ts rs (suc n))

-- the units done before instant n
abbrev pub work_done : List Task → List Release → ℕ → ℕ
work_done ts rs zero = 0
work_done ts rs (suc n) = work_done ts rs n + done_in ts rs n

-- a tick makes no work, and does at most one unit
abbrev pub OneUnitATick : Type 0
OneUnitATick =
    (ts : List Task) (rs : List Release) → all_within ts ≡ true → (n : ℕ) → (work_left (states_at ts rs (suc n)) ≤ work_left (ready_at ts rs n)) × (done_in ts rs n ≤ tick_units)

abbrev pub BusyIsWorkDone : Type 0
BusyIsWorkDone =
    (ts : List Task) (horizon : ℕ) (rs : List Release) → all_within ts ≡ true
    → units_in one_a_tick (outcome ts horizon rs).busy.0 ≡ work_done ts rs (end_of horizon (outcome ts horizon rs).miss)

-- the work of the releases before instant n
abbrev pub work_released : List Task → List Release → ℕ → ℕ
work_released ts [] n = 0
work_released ts (r ∷ rs) n = cond (nat_lt r.instant.0 n) (get_or ts r.place no_task).work.0 0 + work_released ts rs n

-- up to the end of a lawful run, what was released is done or still waits
abbrev pub NoWorkIsLost : Type 0
NoWorkIsLost =
    (ts : List Task) (horizon : ℕ) (rs : List Release) → all_within ts ≡ true → lawful ts horizon rs ≡ true
    → (n : ℕ) → n ≤ end_of horizon (outcome ts horizon rs).miss → work_released ts rs n ≡ work_done ts rs n + work_left (states_at ts rs n)

-- A task waits from its release until its work is done.

-- 1 if the tick goes to the task at place p: it waits, and none before it does; else 0
abbrev pub turn_of : ℕ → List State → ℕ
turn_of zero [] = 0
turn_of (suc p) [] = 0
turn_of zero (Idle ∷ ss) = 0
turn_of zero (Waiting left deadline ∷ ss) = 1
turn_of (suc p) (Idle ∷ ss) = turn_of p ss
turn_of (suc p) (Waiting left deadline ∷ ss) = 0

-- how many of the k ticks from instant r on went to the task at place p
abbrev pub ticks_given : List Task → List Release → ℕ → ℕ → ℕ → ℕ
ticks_given ts rs p r zero = 0
ticks_given ts rs p r (suc k) = ticks_given ts rs p r k + turn_of p (ready_at ts rs (r + k))

-- a task to which a job was released at r, with so many units of it done
abbrev pub job_after : Task → ℕ → ℕ → State
job_after x r units = cond (nat_le x.work.0 units) Idle (Waiting (record { 0 = x.work.0 - units }) (record { 0 = r + x.period.0 }))

-- the task at place p is released at r, and not again before r + k
pub record JobFor (ts : List Task) (rs : List Release) (p r k : ℕ) : Type 0 where
  pub place : p < length ts
  pub released : due rs p r ≡ true
  pub alone : (n : ℕ) → r < n → n < r + k → due rs p n ≡ false

-- until its first release a task is idle; from a release on it waits, with its work less the units of the ticks that it was given and the deadline of that release,
-- and it turns idle when just its work is done
pub record WaitsFrom (ts : List Task) (rs : List Release) (p : ℕ) : Type 0 where
  pub before : (n : ℕ) → ((m : ℕ) → m < n → due rs p m ≡ false) → slice_index_or (states_at ts rs n) p Idle ≡ Idle
  pub after : (r k : ℕ) → 1 ≤ k → JobFor ts rs p r k → slice_index_or (states_at ts rs (r + k)) p Idle ≡ job_after (slice_index_or ts p no_task) r (units_in one_a_tick (ticks_given ts rs p r k))
  pub no_more : (r k : ℕ) → JobFor ts rs p r k → units_in one_a_tick (ticks_given ts rs p r k) ≤ (get_or ts p no_task).work.0

abbrev pub WaitsUntilDone : Type 0
WaitsUntilDone = (ts : List Task) (rs : List Release) → all_within ts ≡ true → (p : ℕ) → WaitsFrom ts rs p

-- With no miss up to the horizon, every job whose deadline is at most the horizon is done by it: from its release to its deadline its task is given just the ticks
-- of its work, and is idle then.
abbrev pub DoneByDeadline : Type 0
DoneByDeadline =
    (ts : List Task) (horizon : ℕ) (rs : List Release) → all_within ts ≡ true → lawful ts horizon rs ≡ true → (outcome ts horizon rs).miss ≡ None
    → (p r : ℕ) → due rs p r ≡ true → let x = get_or ts p no_task in r + x.period.0 ≤ horizon
    → (units_in one_a_tick (ticks_given ts rs p r x.period.0) ≡ x.work.0) × (slice_index_or (states_at ts rs (r + x.period.0)) p Idle ≡ Idle)

-- In a lawful run, up to its end, no release finds its task still waiting.
abbrev pub ReleasedWhenIdle : Type 0
ReleasedWhenIdle =
    (ts : List Task) (horizon : ℕ) (rs : List Release) → all_within ts ≡ true → lawful ts horizon rs ≡ true
    → (p n : ℕ) → n < end_of horizon (outcome ts horizon rs).miss → due rs p n ≡ true → slice_index_or (states_at ts rs n) p Idle ≡ Idle
