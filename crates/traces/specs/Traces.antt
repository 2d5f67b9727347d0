-- The lines of a trace: one for each instant before the end of a run.
use Rattle.std.specs.Prelude.{◌≡◌, ℕ, zero, suc, ◌<◌, ◌≤◌, Bool, true, false, List, [], ◌∷◌, ◌++◌, length, Some, None, codes, decimal, Option}
use Rattle.std.specs.List.{filter, flat_map, position, range_with_len}
use Rattle.tasks.specs.declared.task.Task.{Task}
use Rattle.machine.specs.declared.state.State.{State}
use Rattle.machine.specs.declared.state.State.TheVariants.{Idle, Waiting}
use Rattle.machine.specs.declared.state.Release.{Release}
use Rattle.machine.specs.declared.refusal.Refusal.{Refusal}
use Rattle.machine.specs.Machine.{first_missed, due, outcome}
use Rattle.machine.specs.Traces.{states_at}
use Rattle.machine.specs.Laws.{ready_at, end_of, turn_of}
use Rattle.machine.specs.Moments.{deadlines_fit}
use Rattle.machine.specs.Refusals.{first_cause}
use Rattle.traces.specs.Texts.{number_text}

-- the places, of so many, that are released now, from 0 up
abbrev pub released_below : List Release → (now count : ℕ) → List ℕ
released_below rs now count = filter (λ p. due rs p now) (range_with_len 0 count)

abbrev pub waiting : State → Bool
waiting Idle = false
waiting (Waiting left deadline) = true

-- the place of the first waiting task, to which the tick goes
abbrev pub first_waiting : List State → Option ℕ
first_waiting ss = position waiting ss

-- that place has the turn, and where there is none no place has it
abbrev pub TurnIs : List State → Option ℕ → Type 0
TurnIs ss None = (p : ℕ) → turn_of p ss ≡ 0
TurnIs ss (Some p) = turn_of p ss ≡ 1

abbrev pub ServedHasTurn : Type 0
ServedHasTurn = (ss : List State) → TurnIs ss (first_waiting ss)

-- numbers, each behind a comma
abbrev pub behind_commas : List ℕ → List ℕ
behind_commas ns = flat_map (λ n. codes "," ++ decimal n) ns

-- places parted by commas, or a dash for none
abbrev pub places_text : List ℕ → List ℕ
places_text [] = codes "-"
places_text (p ∷ ps) = decimal p ++ behind_commas ps

-- `LEFT@DEADLINE`, or a dash for an idle task
abbrev pub state_text : State → List ℕ
state_text Idle = codes "-"
state_text (Waiting left deadline) = decimal left.0 ++ (codes "@" ++ decimal deadline.0)

-- states, each behind a space
abbrev pub states_text : List State → List ℕ
states_text ss = flat_map (λ s. codes " " ++ state_text s) ss

-- `INSTANT released PLACES served PLACE states STATE .. STATE`, and the end of the line
abbrev pub line_text : ℕ → List ℕ → Option ℕ → List State → List ℕ
line_text now released served states =
    decimal now ++ (codes " released " ++ (places_text released ++ (codes " served " ++ (number_text served ++ (codes " states" ++ (states_text states ++ codes "\n"))))))

-- the line of instant n: what is released at it, to whom its tick goes, and the states after it
abbrev pub line_at : List Task → List Release → ℕ → List ℕ
line_at ts rs n = line_text n (released_below rs n (length ts)) (first_waiting (ready_at ts rs n)) (states_at ts rs (suc n))

-- the lines of the instants below n
abbrev pub lines_below : List Task → List Release → ℕ → List ℕ
lines_below ts rs zero = []
lines_below ts rs (suc n) = lines_below ts rs n ++ line_at ts rs n

-- what stands before the answer: nothing where the run is refused, else the lines up to the miss or the horizon, on lines of their own
abbrev pub lines_unless : Option Refusal → List ℕ → List ℕ
lines_unless None lines = codes "\n" ++ lines
lines_unless (Some refusal) lines = []

abbrev pub trace_text : List Task → ℕ → List Release → List ℕ
trace_text ts horizon rs = lines_unless (first_cause ts horizon rs) (lines_below ts rs (end_of horizon (outcome ts horizon rs).miss))

-- the machine goes through the instants below n: few tasks, deadlines that fit, and no miss
pub record Clear (ts : List Task) (rs : List Release) (n : ℕ) : Type 0 where
  pub few : length ts ≤ 33
  pub fits : (k : ℕ) → k < n → deadlines_fit ts k ≡ true
  pub misses : (k : ℕ) → k < n → first_missed k 0 (states_at ts rs k) ≡ None
