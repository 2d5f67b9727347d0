-- The seats above a newcomer keep good instants. So a lawful judge who is asked about the newcomer and the seats below it alone decides whether the whole list fits.
use Rattle.std.specs.Prelude.{◌≡◌, ℕ, ◌+◌, ◌<◌, ◌≤◌, true, List, length, Some, None, get_or}
use Rattle.tasks.specs.declared.task.Task.{Task}
use Rattle.tasks.specs.declared.units.Ticks.{Ticks}
use Rattle.tasks.specs.Limits.{within_limits, all_within}
use Rattle.tasks.specs.Priority.{joined}
use Rattle.tasks.specs.Demand.{no_task, Fits}
use Rattle.judges.specs.Laws.{Meaning, JudgeLaws}
use Rattle.seating.specs.declared.seat.Seat.{Seat}
use Rattle.seating.specs.Seats.{tasks_of, place_of, all_keep_good}
use Rattle.seating.specs.Admission.{said, FirstUnfit}

module _ (meaning : Meaning) (x : Task) (ss : List Seat) where
  -- the judge gives an instant to the task at place k of the seats with x in its place
  abbrev pub Given : ℕ → Type 0
  Given k = (t : Ticks) × (said meaning (joined x (tasks_of ss)) k ≡ Some t)

  -- to x and to each task below it
  abbrev pub AllGiven : Type 0
  AllGiven = (k : ℕ) → place_of x (tasks_of ss) ≤ k → k < length ss + 1 → Given k

  -- n is the number of the first task from x down to which it gives none
  pub record FirstNone (n : ℕ) : Type 0 where
    pub at : ℕ
    pub below : place_of x (tasks_of ss) ≤ at
    pub within : at < length ss + 1
    pub none : said meaning (joined x (tasks_of ss)) at ≡ None
    pub number : n ≡ (get_or (joined x (tasks_of ss)) at no_task).number
    pub before : (k : ℕ) → place_of x (tasks_of ss) ≤ k → k < at → Given k

  pub record DecidesFit : Type 0 where
    pub given_fits : AllGiven → Fits (joined x (tasks_of ss))
    pub fits_given : Fits (joined x (tasks_of ss)) → AllGiven
    pub first_unfit : (n : ℕ) → FirstNone n → FirstUnfit (joined x (tasks_of ss)) n

abbrev pub TakesExactly : Type 0
TakesExactly =
    (meaning : Meaning) → JudgeLaws meaning → (x : Task) (ss : List Seat) → within_limits x ≡ true → all_within (tasks_of ss) ≡ true → all_keep_good ss ≡ true → length ss < 32
    → DecidesFit meaning x ss
