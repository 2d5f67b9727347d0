-- The instants that the step-up judge goes through, in the words of its rule.
use Rattle.std.specs.Prelude.{◌≡◌, ℕ, zero, suc, ◌<◌, ◌≤◌, true, ◌↔◌, List, ◌∷◌, Some, None}
use Rattle.std.specs.List.{sum_by}
use Rattle.tasks.specs.declared.task.Task.{Task}
use Rattle.tasks.specs.declared.units.Ticks.{Ticks}
use Rattle.tasks.specs.Units.{units_in, ticks_for, one_a_tick}
use Rattle.tasks.specs.Demand.{demand}
use Rattle.judges.specs.Laws.{asked}
use Rattle.judges.specs.Meanings.{least_good_instant}

-- the sum of all the works, the task's own and those of the tasks above
abbrev pub all_works : Task → List Task → ℕ
all_works x above = sum_by (λ y. y.work.0) (x ∷ above)

-- where so many steps lead: the first instant is the one at which all the works are done, and each step puts the one at which the demand is done in its place
abbrev pub after_steps : Task → List Task → (steps : ℕ) → ℕ
after_steps x above zero = ticks_for one_a_tick (all_works x above)
after_steps x above (suc n) = ticks_for one_a_tick (demand x above (after_steps x above n))

-- some number of steps leads to t
abbrev pub Reached : Task → List Task → ℕ → Type 0
Reached x above t = (steps : ℕ) × (after_steps x above steps ≡ t)

-- The judge gives t exactly when t is at most T, the demand at t is what a processor does in t, so that the steps stand still there, and they lead to t.
abbrev pub StepsStandStill : Type 0
StepsStandStill = (x : Task) (above : List Task) → asked x above ≡ true → (t : Ticks)
    → (least_good_instant x above ≡ Some t) ↔ ((t.0 ≤ x.period.0) × (demand x above t.0 ≡ units_in one_a_tick t.0) × Reached x above t.0)

-- It gives none exactly when they pass T.
abbrev pub StepsPassPeriod : Type 0
StepsPassPeriod = (x : Task) (above : List Task) → asked x above ≡ true → (least_good_instant x above ≡ None) ↔ ((steps : ℕ) × (x.period.0 < after_steps x above steps))
