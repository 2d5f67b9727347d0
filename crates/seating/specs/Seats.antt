-- The seats of processors as lists: one list a processor, its seats in priority order.
use Rattle.std.specs.Prelude.{◌≡◌, ℕ, zero, suc, ◌<◌, Bool, true, false, not, ◌&&◌, List, [], ◌∷◌, map, length, get_or, take, ◌==◌, nat_le, sum_by, take_while, flat_map, insert, Some, None, Option}
use Rattle.std.specs.List.{list_all, list_any}
use Rattle.tasks.specs.declared.task.Task.{Task}
use Rattle.tasks.specs.declared.units.Ticks.{Ticks}
use Rattle.tasks.specs.Units.{no_ticks}
use Rattle.tasks.specs.Limits.{all_within}
use Rattle.tasks.specs.Share.{share_of}
use Rattle.tasks.specs.Priority.{stands_above, joined}
use Rattle.tasks.specs.Demand.{no_task, good}
use Rattle.seating.specs.declared.seat.Seat.{Seat}

-- the seats of each processor
abbrev pub Lists : Type 0
Lists = List (List Seat)

abbrev pub tasks_of : List Seat → List Task
tasks_of ss = map (λ (s : Seat). s.task) ss

-- what is read past the end of a list
abbrev pub no_seat : Seat
no_seat = record { task = no_task; instant = no_ticks }

-- a seat with another kept instant
abbrev pub with_instant : Seat → Ticks → Seat
with_instant s t = record { task = s.task; instant = t }

-- the load of a processor: the sum of its tasks' shares
abbrev pub load_of : List Task → ℕ
load_of ts = sum_by share_of ts

-- how many tasks of a list in priority order stand above a newcomer
abbrev pub place_of : Task → List Task → ℕ
place_of x ts = length (take_while (λ (y : Task). stands_above y x) ts)

-- a newcomer in its place stands behind exactly those
abbrev pub JoinedAtPlace : Type 0
JoinedAtPlace = (x : Task) (ts : List Task) → joined x ts ≡ insert ts (place_of x ts) x

-- whether a task of the number n sits on a processor, or on one of several
abbrev pub holds : ℕ → List Seat → Bool
holds n ss = list_any (λ (s : Seat). s.task.number == n) ss

abbrev pub seated : ℕ → Lists → Bool
seated n b = list_any (holds n) b

-- the task of the number n sits on a processor at place `at`, and at no place before it does one of this number
pub record FirstSeat (n : ℕ) (ss : List Seat) (at : ℕ) : Type 0 where
  pub within : at < length ss
  pub number : (get_or ss at no_seat).task.number ≡ n
  pub first : (k : ℕ) → k < at → (get_or ss k no_seat).task.number ≡ n → ⊥

-- where the first task of the number n sits on a processor, or that none does
abbrev pub FirstSpot : ℕ → List Seat → Option ℕ → Type 0
FirstSpot n ss (Some at) = FirstSeat n ss at
FirstSpot n ss None = holds n ss ≡ false

-- whether each processor has 32 tasks
abbrev pub all_full : Lists → Bool
all_full b = list_all (λ (ss : List Seat). nat_le 32 (length ss)) b

-- whether the seat at place k keeps a good instant of its task below those above it; each of the first n; each seat
abbrev pub keeps_good : List Seat → ℕ → Bool
keeps_good ss k = good (get_or (tasks_of ss) k no_task) (take k (tasks_of ss)) (get_or ss k no_seat).instant.0

abbrev pub first_keep_good : List Seat → ℕ → Bool
first_keep_good ss zero = true
first_keep_good ss (suc n) = keeps_good ss n && first_keep_good ss n

abbrev pub all_keep_good : List Seat → Bool
all_keep_good ss = first_keep_good ss (length ss)

-- what every processor of a rack keeps: tasks within the limits, each with a good instant
abbrev pub Kept : List Seat → Type 0
Kept ss = (all_within (tasks_of ss) ≡ true) × (all_keep_good ss ≡ true)

-- whether a task has a number from 1; whether each has
abbrev pub is_numbered : Task → Bool
is_numbered x = nat_le 1 x.number

abbrev pub all_numbered : List Task → Bool
all_numbered = list_all is_numbered

-- the numbers of all seated tasks
abbrev pub numbers_of : List Task → List ℕ
numbers_of ts = map (λ (x : Task). x.number) ts

abbrev pub numbers : Lists → List ℕ
numbers b = flat_map (λ (ss : List Seat). numbers_of (tasks_of ss)) b

-- no number stands in a list twice
abbrev pub has : ℕ → List ℕ → Bool
has n ks = list_any (λ (k : ℕ). k == n) ks

abbrev pub all_differ : List ℕ → Bool
all_differ [] = true
all_differ (n ∷ ns) = not (has n ns) && all_differ ns
