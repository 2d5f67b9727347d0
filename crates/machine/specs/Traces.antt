-- The states of a run, instant by instant.
use Rattle.std.specs.Prelude.{ℕ, zero, suc, List}
use Rattle.tasks.specs.declared.task.Task.{Task}
use Rattle.machine.specs.declared.state.State.{State}
use Rattle.machine.specs.declared.state.Release.{Release}
use Rattle.machine.specs.Machine.{with_releases, served, idle_all}

-- the states just before instant n; where a miss has ended the run before, as they would be had it gone on
abbrev pub states_at : List Task → List Release → ℕ → List State
states_at ts rs zero = idle_all ts
states_at ts rs (suc n) = served (with_releases rs n 0 ts (states_at ts rs n))
