-- One instant, as the code answers it.
use Rattle.std.specs.Prelude.{◌≡◌, ℕ, ◌+◌, ◌^◌, Bool, true, false, ◌&&◌, List, length, Some, None, Option, ◌==◌, nat_lt}
use Rattle.std.specs.List.{list_all}
use Rattle.tasks.specs.declared.task.Task.{Task}
use Rattle.machine.specs.declared.state.Release.{Release}
use Rattle.machine.specs.declared.clock.Clock.{Clock}
use Rattle.machine.specs.declared.state.State.{State}
use Rattle.machine.specs.declared.state.Moment.{Moment}
use Rattle.machine.specs.declared.state.Moment.TheVariants.{Missed, Went}
use Rattle.machine.specs.Machine.{missed, went, at_instant}

-- what an instant comes to on the states `old`, which leaves `new`: a task has missed, and the states are as they were, or it went by
abbrev pub Done : List Task → List Release → ℕ → (old new : List State) → Moment → Type 0
Done ts rs instant old new (Missed place) = (at_instant ts rs instant old ≡ missed place) × (new ≡ old)
Done ts rs instant old new (Went busy) = at_instant ts rs instant old ≡ went busy.0 new

-- the clock of a run after an instant: as it was where a task has missed, else one tick on, with the busy ticks
abbrev pub MovedOn : Moment → Clock → Clock → Type 0
MovedOn (Missed place) old new = new ≡ old
MovedOn (Went busy) old new = (new.instant.0 ≡ old.instant.0 + 1) × (new.busy.0 ≡ old.busy.0 + busy.0)

-- the release is now
abbrev pub is_now : ℕ → Release → Bool
is_now instant r = r.instant.0 == instant

-- a job of the task that is released now has a deadline of at most 32 bits
abbrev pub deadline_fits : ℕ → Task → Bool
deadline_fits instant t = nat_lt (instant + t.period.0) (2 ^ 32)

-- and so for each task
abbrev pub deadlines_fit : List Task → ℕ → Bool
deadlines_fit ts instant = list_all (deadline_fits instant) ts

-- one instant can be done on the states: there is one for each task, and the deadlines fit
abbrev pub can_step : List Task → ℕ → List State → Bool
can_step ts instant ss = length ss == length ts && deadlines_fit ts instant

-- one instant on the states `old`, which leaves `new`: it cannot be done, a task has missed, or it went by; only the last changes the states
abbrev pub Stepped : List Task → List Release → ℕ → (old new : List State) → Option Moment → Type 0
Stepped ts rs instant old new None = (can_step ts instant old ≡ false) × (new ≡ old)
Stepped ts rs instant old new (Some (Missed place)) = (can_step ts instant old ≡ true) × (at_instant ts rs instant old ≡ missed place) × (new ≡ old)
Stepped ts rs instant old new (Some (Went busy)) = (can_step ts instant old ≡ true) × (at_instant ts rs instant old ≡ went busy.0 new)
