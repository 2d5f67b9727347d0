-- The choice among the processors that would take a newcomer: what the inner functions hand to one another.
use Rattle.std.specs.Prelude.{◌≡◌, ℕ, ◌<◌, ◌≤◌, true, cond, List, [], length, Some, None, Ok, Err, Option, Result, ◌≢◌, slice_index}
use Rattle.arrayvec.specs.ArrayVec.{ArrayVec}
use Rattle.tasks.specs.declared.task.Task.{Task}
use Rattle.judges.specs.Laws.{Meaning}
use Rattle.preferences.specs.Laws.{Relation}
use Rattle.seating.specs.declared.seat.Seat.{Seat}
use Rattle.seating.specs.Seats.{Lists}
use Rattle.seating.specs.Admission.{on, as_seen}
use Rattle.seating.specs.Judging.{AllGiven}
use Rattle.rack.specs.declared.trial.Declined.{Declined}
use Rattle.rack.specs.declared.choice.Taker.{Taker}
use Rattle.rack.specs.declared.choice.Choice.{Choice}
use Rattle.rack.specs.Trials.{entry_of, Took, Declines}

-- the better of the best so far and one taker more
abbrev pub better_of : Relation → Option Taker → Taker → Taker
better_of before None t = t
better_of before (Some o) t = cond (before t.contender o.contender) t o

module _ (meaning : Meaning) where
  -- the judge gives x a place among the seats ss
  abbrev pub Willing : Task → List Seat → Type 0
  Willing x ss = (length ss < 32) × AllGiven meaning x ss

  -- it does not, and n is what the sheet says
  abbrev pub Rejects : Task → List Seat → ℕ → Type 0
  Rejects x ss n = (d : Declined) × Declines meaning x ss d × (n ≡ entry_of d)

  -- of the first k processors the best, or what the sheet is to say of each
  abbrev pub Best : Relation → Lists → Task → ℕ → List ℕ → Option Taker → Type 0
  Best before b x k entries None = (length entries ≡ k) × ((q : ℕ) → q < k → Rejects x (on b q) (slice_index entries q))
  Best before b x k entries (Some o) = (o.contender.number < k) × (o.contender ≡ as_seen b o.contender.number) × Took meaning x (on b o.contender.number) o.trial
      × ((q : ℕ) → q < k → (q ≢ o.contender.number) → Willing x (on b q) → before o.contender (as_seen b q) ≡ true)

  -- the choice so far, of the first k processors
  pub record ChosenSoFar (before : Relation) (b : Lists) (x : Task) (k : ℕ) (c : Choice) : Type 0 where
    pub few : length c.entries.items ≤ k
    pub best : Best before b x k c.entries.items c.best

  -- of all processors the best one, or what the sheet is to say of each
  abbrev pub Chosen : Relation → Lists → Task → Result Taker (ArrayVec ℕ) → Type 0
  Chosen before b x (Ok o) = Best before b x (length b) [] (Some o)
  Chosen before b x (Err entries) = Best before b x (length b) entries.items None
