-- A newcomer on trial at one processor: what the inner functions hand to one another.
use Rattle.std.specs.Prelude.{◌≡◌, ℕ, ◌+◌, ◌-◌, ◌<◌, ◌≤◌, List, length, get_or, take, Some, None, Ok, Err, Result, slice_index_or}
use Rattle.arrayvec.specs.ArrayVec.{ArrayVec}
use Rattle.tasks.specs.declared.task.Task.{Task}
use Rattle.tasks.specs.declared.units.Ticks.{Ticks}
use Rattle.tasks.specs.Priority.{joined}
use Rattle.tasks.specs.Demand.{no_task}
use Rattle.judges.specs.Laws.{Meaning}
use Rattle.seating.specs.declared.seat.Seat.{Seat}
use Rattle.tasks.specs.Units.{no_ticks}
use Rattle.seating.specs.Seats.{tasks_of, no_seat, place_of}
use Rattle.seating.specs.Admission.{said}
use Rattle.seating.specs.Judging.{FirstNone}
use Rattle.rack.specs.declared.trial.Trial.{Trial}
use Rattle.rack.specs.declared.trial.Declined.{Declined}
use Rattle.rack.specs.declared.trial.Declined.TheVariants.{Full, Unfit}

-- what the sheet is to say
abbrev pub entry_of : Declined → ℕ
entry_of Full = 0
entry_of (Unfit n) = n

-- a trial is one of x on the seats ss: its place there, and as many instants as x and the tasks below it want
pub record IsTrialOf (x : Task) (ss : List Seat) (t : Trial) : Type 0 where
  pub room : length ss < 32
  pub place : t.place ≡ place_of x (tasks_of ss)
  pub count : t.place + length t.instants.items ≡ length ss + 1

module _ (meaning : Meaning) where
  -- each task from `from` on has the instant that the judge says
  pub record AllSaid (ts : List Task) (from : ℕ) (instants : List Ticks) : Type 0 where
    pub count : length instants ≡ length ts - from
    pub each : (k : ℕ) → from ≤ k → k < length ts → said meaning ts k ≡ Some (slice_index_or instants (k - from) no_ticks)

  -- n is the number of the first from there on of which it says none
  pub record NoneAt (ts : List Task) (from n : ℕ) : Type 0 where
    pub at : ℕ
    pub below : from ≤ at
    pub within : at < length ts
    pub none : said meaning ts at ≡ None
    pub number : n ≡ (get_or ts at no_task).number
    pub before : (k : ℕ) → from ≤ k → k < at → (t : Ticks) × (said meaning ts k ≡ Some t)

  abbrev pub Judged : List Task → ℕ → Result (ArrayVec Ticks) Declined → Type 0
  Judged ts from (Ok instants) = AllSaid ts from instants.items
  Judged ts from (Err d) = (n : ℕ) × (d ≡ Unfit n) × NoneAt ts from n

  -- the judge gives x a place among the seats ss, with the instants of the trial
  pub record Took (x : Task) (ss : List Seat) (t : Trial) : Type 0 where
    pub trial : IsTrialOf x ss t
    pub each : (k : ℕ) → t.place ≤ k → k < length ss + 1 → said meaning (joined x (tasks_of ss)) k ≡ Some (slice_index_or t.instants.items (k - t.place) no_ticks)

  -- it does not, and that is why
  abbrev pub Declines : Task → List Seat → Declined → Type 0
  Declines x ss Full = 32 ≤ length ss
  Declines x ss (Unfit n) = (length ss < 32) × FirstNone meaning x ss n

  abbrev pub Tried : Task → List Seat → Result Trial Declined → Type 0
  Tried x ss (Ok t) = Took x ss t
  Tried x ss (Err d) = Declines x ss d

-- the seats ss with x in its place, and from there on the instants of the list
pub record SeatedWith (x : Task) (us : List Ticks) (ss new : List Seat) : Type 0 where
  pub tasks : tasks_of new ≡ joined x (tasks_of ss)
  pub above : take (place_of x (tasks_of ss)) new ≡ take (place_of x (tasks_of ss)) ss
  pub instants : (k : ℕ) → place_of x (tasks_of ss) ≤ k → k < length ss + 1 → (get_or new k no_seat).instant ≡ slice_index_or us (k - place_of x (tasks_of ss)) no_ticks
