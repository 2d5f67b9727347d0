-- Scheduling points, and the least instant that passes a test.
use Rattle.std.specs.Prelude.{ℕ, zero, suc, ◌%◌, Bool, cond, ◌&&◌, List, ◌∷◌, Some, None, Option, ◌==◌, nat_le}
use Rattle.std.specs.List.{list_any}
use Rattle.tasks.specs.declared.task.Task.{Task}
use Rattle.tasks.specs.declared.units.Ticks.{Ticks}

-- t is a multiple of the period of one of the tasks
abbrev pub multiple_of_one : List Task → ℕ → Bool
multiple_of_one ys t = list_any (λ y. t % y.period.0 == 0) ys

-- t is a scheduling point of x below the tasks `above`: from 1 to T, and a multiple of its own period or of one above
abbrev pub point : Task → List Task → ℕ → Bool
point x above t = nat_le 1 t && (nat_le t x.period.0 && multiple_of_one (x ∷ above) t)

-- the least of the instants from 1 to n that pass a test, or none
unfoldable pub least : (ℕ → Bool) → ℕ → Option Ticks
least test zero = None
least test (suc n) = elim (least test n) [ Some t ↦ Some t | None ↦ cond (test (suc n)) (Some (record { 0 = suc n })) None ]
