-- What the demand at an instant t says of t and of the instants after it.
use Rattle.std.specs.Prelude.{◌≡◌, ℕ, ◌<◌, ◌≤◌, false, List}
use Rattle.tasks.specs.declared.task.Task.{Task}
use Rattle.tasks.specs.Units.{units_in, one_a_tick}
use Rattle.tasks.specs.Demand.{demand, good}
use Rattle.judges.specs.declared.question.Weighed.{Weighed}
use Rattle.judges.specs.declared.question.Weighed.TheVariants.{Done, NotBefore, Never}

abbrev pub Weighs : Task → List Task → ℕ → Weighed → Type 0
Weighs x above t Done = demand x above t ≤ units_in one_a_tick t
Weighs x above t (NotBefore later) = (t < later.0) × ((u : ℕ) → t ≤ u → u < later.0 → good x above u ≡ false)
Weighs x above t Never = (u : ℕ) → t ≤ u → good x above u ≡ false
