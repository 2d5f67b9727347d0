-- What one event does to one task: its state after it, and the mark that it leaves.
use Rattle.std.specs.Prelude.{ℕ, ◌+◌, cond, Some, None, Option}
use Rattle.tasks.specs.declared.task.Task.{Task}
use Rattle.machine.specs.declared.state.State.{State}
use Rattle.machine.specs.declared.state.State.TheVariants.{Idle, Waiting}
use Rattle.machine.specs.declared.event.Event.{Event}
use Rattle.machine.specs.declared.event.Event.TheVariants.{Deadline, Release, Run}
use Rattle.machine.specs.declared.event.Mark.{Mark}
use Rattle.machine.specs.declared.event.Mark.TheVariants.{Quiet, Missed, Busy}
use Rattle.machine.specs.Machine.{late, worked}

-- at an instant only a late task leaves a mark, and at a run only a waiting one
abbrev pub after : State → Event → State × Mark
after s (Deadline instant) = (s, cond (late instant.0 s) Missed Quiet)
after s (Release work deadline) = (Waiting work deadline, Quiet)
after Idle Run = (Idle, Quiet)
after (Waiting left deadline) Run = (worked left deadline, Busy)

-- a task after it was given the tick: none where it does not wait
abbrev pub given_tick : State → Option State
given_tick Idle = None
given_tick (Waiting left deadline) = Some (worked left deadline)

-- a task to which a job is released now
abbrev pub fresh : Task → ℕ → State
fresh t instant = Waiting t.work (record { 0 = instant + t.period.0 })
