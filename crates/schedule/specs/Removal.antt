-- A task leaves a list.
use Rattle.std.specs.Prelude.{◌≡◌, ℕ, suc, ◌<◌, ◌≤◌, true, List, length}
use Rattle.std.specs.List.{remove}
use Rattle.tasks.specs.declared.task.Task.{Task}
use Rattle.tasks.specs.Demand.{Fits}
use Rattle.schedule.specs.Places.{good_at}

-- When the task at place i leaves, each good instant of another task stays good: of one before it at its place,
-- and of one behind it at the place before its own.
abbrev pub GoodInstantsStay : Type 0
GoodInstantsStay = (ts : List Task) (i k t : ℕ) → i < length ts
    → (k < i → good_at ts k t ≡ true → good_at (remove ts i) k t ≡ true) × (i ≤ k → good_at ts (suc k) t ≡ true → good_at (remove ts i) k t ≡ true)

-- So a list that fits still fits when the task at any place has left.
abbrev pub RemovalFits : Type 0
RemovalFits = (ts : List Task) (i : ℕ) → i < length ts → Fits ts → Fits (remove ts i)
