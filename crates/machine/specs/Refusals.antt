-- What a rehearsal refuses, and in which order.
use Rattle.std.specs.Prelude.{◌≡◌, ℕ, Bool, cond, ◌&&◌, List, ◌++◌, length, codes, decimal, Some, None, Ok, Err, Option, Result, nat_le}
use Rattle.tasks.specs.declared.task.Task.{Task}
use Rattle.tasks.specs.Limits.{all_within}
use Rattle.machine.specs.declared.state.Release.{Release}
use Rattle.machine.specs.declared.state.Outcome.{Outcome}
use Rattle.machine.specs.declared.refusal.Refusal.{Refusal}
use Rattle.machine.specs.declared.refusal.Refusal.TheVariants.{Tasks, Horizon, Releases}
use Rattle.machine.specs.Machine.{outcome}
use Rattle.machine.specs.Lawful.{lawful}

-- the number of each refusal
abbrev pub number_of : Refusal → ℕ
number_of Tasks = 18
number_of Horizon = 19
number_of Releases = 20

-- how a refusal is shown
abbrev pub refusal_text : Refusal → List ℕ
refusal_text refusal = codes "R" ++ decimal (number_of refusal)

-- no two refusals have one number
abbrev pub NumbersDiffer : Type 0
NumbersDiffer = (x y : Refusal) → number_of x ≡ number_of y → x ≡ y

-- at most 33 tasks, each within its limits
abbrev pub tasks_allowed : List Task → Bool
tasks_allowed ts = nat_le (length ts) 33 && all_within ts

-- at most 2,000,000 ticks
abbrev pub horizon_allowed : ℕ → Bool
horizon_allowed horizon = nat_le horizon 2000000

-- at most 65,536 releases, and lawful
abbrev pub releases_allowed : List Task → ℕ → List Release → Bool
releases_allowed ts horizon rs = nat_le (length rs) 65536 && lawful ts horizon rs

-- the first cause to refuse: the tasks are looked at first, then the horizon, then the releases
abbrev pub first_cause : List Task → ℕ → List Release → Option Refusal
first_cause ts horizon rs = cond (tasks_allowed ts) (cond (horizon_allowed horizon) (cond (releases_allowed ts horizon rs) None (Some Releases)) (Some Horizon)) (Some Tasks)

-- a rehearsal answers how the run of the machine ends, where nothing refuses it, and else the first cause
abbrev pub Rehearsed : List Task → ℕ → List Release → Result Outcome Refusal → Type 0
Rehearsed ts horizon rs (Ok o) = (first_cause ts horizon rs ≡ None) × (o ≡ outcome ts horizon rs)
Rehearsed ts horizon rs (Err e) = first_cause ts horizon rs ≡ Some e
