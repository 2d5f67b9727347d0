-- The step machine: a list of tasks in some fixed priority order, run instant by instant. A task's place in the list is counted from 0.
use Rattle.std.specs.Prelude.{ℕ, zero, suc, ◌+◌, ◌-◌, Bool, false, cond, ◌&&◌, List, [], ◌∷◌, length, replicate, Some, None, Option, ◌==◌, nat_le}
use Rattle.std.specs.List.{list_any, position_from}
use Rattle.tasks.specs.declared.task.Task.{Task}
use Rattle.tasks.specs.declared.units.Units.{Units}
use Rattle.tasks.specs.declared.units.Ticks.{Ticks}
use Rattle.tasks.specs.Units.{units_in, one_a_tick}
use Rattle.machine.specs.declared.state.State.{State}
use Rattle.machine.specs.declared.state.State.TheVariants.{Idle, Waiting}
use Rattle.machine.specs.declared.state.Release.{Release}
use Rattle.machine.specs.declared.state.Outcome.{Outcome}

-- a waiting task has its deadline now
abbrev pub late : ℕ → State → Bool
late now Idle = false
late now (Waiting left deadline) = deadline.0 == now

-- 1. If waiting tasks have their deadline now, the first of them in the order has missed. Places are counted on from `place`.
abbrev pub first_missed : ℕ → ℕ → List State → Option ℕ
first_missed now place ss = position_from (late now) place ss

-- the release is of the task at `place`, and now
abbrev pub releases : ℕ → ℕ → Release → Bool
releases place now r = r.place == place && r.instant.0 == now

-- the list releases the task at `place` now
abbrev pub due : List Release → ℕ → ℕ → Bool
due rs place now = list_any (releases place now) rs

-- 2. Each task released now waits with work C and deadline now + T.
abbrev pub with_releases : List Release → ℕ → ℕ → List Task → List State → List State
with_releases rs now place [] ss = ss
with_releases rs now place (t ∷ ts) [] = []
with_releases rs now place (t ∷ ts) (s ∷ ss) = cond (due rs place now) (Waiting t.work (record { 0 = now + t.period.0 })) s ∷ with_releases rs now (suc place) ts ss

-- the units that the processor does in one tick
abbrev pub tick_units : ℕ
tick_units = units_in one_a_tick 1

-- a waiting task after a tick in which it was served: with no work left it turns idle
abbrev pub worked : Units → Ticks → State
worked left deadline = cond (nat_le left.0 tick_units) Idle (Waiting (record { 0 = left.0 - tick_units }) deadline)

-- 3. The first waiting task does one unit,
abbrev pub served : List State → List State
served [] = []
served (Idle ∷ ss) = Idle ∷ served ss
served (Waiting left deadline ∷ ss) = worked left deadline ∷ ss

-- and the tick counts as busy if there is one.
abbrev pub busy_tick : List State → ℕ
busy_tick [] = 0
busy_tick (Idle ∷ ss) = busy_tick ss
busy_tick (Waiting left deadline ∷ ss) = 1

-- what one instant below the horizon comes to: the place that missed, or whether the tick was busy and the states after it
pub data Step : Type 0 where
  missed : (place : ℕ) → Step
  went : (busy : ℕ) → (after : List State) → Step

-- one instant: 1, then 2, then 3
abbrev pub at_instant : List Task → List Release → ℕ → List State → Step
at_instant ts rs now ss = elim (first_missed now 0 ss) [
  | Some place ↦ missed place
  | None ↦ let ready = with_releases rs now 0 ts ss in went (busy_tick ready) (served ready)
]

-- how a run ends at an instant, with the busy ticks so far
abbrev pub ended : Option ℕ → (now busy : ℕ) → Outcome
ended None now busy = record { miss = None; busy = record { 0 = busy } }
ended (Some place) now busy = record { miss = Some (record { place = place; instant = record { 0 = now } }); busy = record { 0 = busy } }

-- the run from `now` on, with `more` instants below the horizon to come; at the horizon only deadlines are looked at
-- 4. After an instant the instant rises by one.
abbrev pub run : List Task → List Release → (more now busy : ℕ) → List State → Outcome
run ts rs zero now busy ss = ended (first_missed now 0 ss) now busy
run ts rs (suc more) now busy ss = elim (at_instant ts rs now ss) [
  | missed place ↦ ended (Some place) now busy
  | went b next ↦ run ts rs more (suc now) (busy + b) next
]

-- all tasks are idle at instant 0
abbrev pub idle_all : List Task → List State
idle_all ts = replicate (length ts) Idle

-- the whole run up to a horizon
abbrev pub outcome : List Task → ℕ → List Release → Outcome
outcome ts horizon rs = run ts rs horizon 0 0 (idle_all ts)
