-- What the two judges mean.
use Rattle.std.specs.Prelude.{◌≡◌, ℕ, ◌<◌, Bool, true, false, cond, ◌&&◌, ◌↔◌, List, Some, None}
use Rattle.tasks.specs.declared.task.Task.{Task}
use Rattle.tasks.specs.declared.units.Ticks.{Ticks}
use Rattle.tasks.specs.Demand.{good}
use Rattle.tasks.specs.Instants.{point, least}
use Rattle.judges.specs.Laws.{Meaning, asked}

abbrev pub good_point : Task → List Task → ℕ → Bool
good_point x above t = point x above t && good x above t

-- the points judge: the least good scheduling point, and none outside what it may be asked
abbrev pub least_good_point : Meaning
least_good_point x above = cond (asked x above) (least (good_point x above) x.period.0) None

-- the step-up judge: the least good instant, and none outside what it may be asked
abbrev pub least_good_instant : Meaning
least_good_instant x above = cond (asked x above) (least (good x above) x.period.0) None

-- a meaning gives t exactly when t is the least of all instants that pass a test
abbrev pub GivesLeast : Meaning → (Task → List Task → ℕ → Bool) → Type 0
GivesLeast meaning test = (x : Task) (above : List Task) → asked x above ≡ true → (t : Ticks)
    → (meaning x above ≡ Some t) ↔ ((test x above t.0 ≡ true) × ((u : ℕ) → u < t.0 → test x above u ≡ false))

abbrev pub PointsAreLeast : Type 0
PointsAreLeast = GivesLeast least_good_point good_point

abbrev pub StepsAreLeast : Type 0
StepsAreLeast = GivesLeast least_good_instant good
