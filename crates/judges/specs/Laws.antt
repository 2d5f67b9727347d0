-- What a judge may be asked, and what every judge owes.
use Rattle.std.specs.Prelude.{◌≡◌, ℕ, Bool, true, false, ◌&&◌, List, length, Some, None, Option, nat_le}
use Rattle.tasks.specs.declared.task.Task.{Task}
use Rattle.tasks.specs.declared.units.Ticks.{Ticks}
use Rattle.tasks.specs.Limits.{within_limits, all_within}
use Rattle.tasks.specs.Demand.{good}

-- what a judge says of a task and the list of tasks above it: one instant, or none
abbrev pub Meaning : Type 0
Meaning = Task → List Task → Option Ticks

-- at most 31 tasks stand above
abbrev pub few : List Task → Bool
few above = nat_le (length above) 31

-- what a judge may be asked: few tasks above, and the task and each of them within the limits
abbrev pub asked : Task → List Task → Bool
asked x above = few above && (within_limits x && all_within above)

pub record JudgeLaws (meaning : Meaning) : Type 0 where
  -- asked about anything else, it says none
  pub elsewhere : (x : Task) (above : List Task) → asked x above ≡ false → meaning x above ≡ None
  -- an instant that it gives is a good one
  pub sound : (x : Task) (above : List Task) (t : Ticks) → meaning x above ≡ Some t → good x above t.0 ≡ true
  -- within the limits it says none only where no good instant exists
  pub complete : (x : Task) (above : List Task) → asked x above ≡ true → meaning x above ≡ None → (t : ℕ) → good x above t ≡ false
