-- What an admission does to the lists of seats, and what it answers.
use Rattle.std.specs.Prelude.{◌≡◌, ℕ, ◌+◌, ◌<◌, ◌≤◌, true, not, if◌then◌else◌, ◌⊎◌, List, [], length, get_or, take, drop, Some, None, Ok, Err, Option, Result, ◌==◌, ◌≢◌, nat_lt, slice_index, slice_set}
use Rattle.std.specs.Option.{option_or}
use Rattle.tasks.specs.declared.task.Task.{Task}
use Rattle.tasks.specs.declared.units.Ticks.{Ticks}
use Rattle.tasks.specs.Limits.{period_allowed, work_allowed}
use Rattle.tasks.specs.Priority.{joined}
use Rattle.tasks.specs.Demand.{no_task, FitsAt, Fits}
use Rattle.judges.specs.Laws.{Meaning, JudgeLaws}
use Rattle.preferences.specs.declared.contender.Contender.{Contender}
use Rattle.preferences.specs.Laws.{Relation, PreferenceLaws}
use Rattle.seating.specs.declared.seat.Seat.{Seat}
use Rattle.seating.specs.declared.refusal.AdmitRefusal.{AdmitRefusal}
use Rattle.seating.specs.declared.refusal.AdmitRefusal.TheVariants.{ShortSheet, NumberZero, BadPeriod, BadWork, AlreadySeated, AllFull, NoTaker}
use Rattle.seating.specs.Seats.{Lists, tasks_of, load_of, no_seat, place_of, seated, all_full, Kept}

-- the first cause that shows in the length of the sheet and the newcomer alone, in the order of checking
abbrev pub bad_call : ℕ → Task → ℕ → Option AdmitRefusal
bad_call processors x entries =
    if nat_lt entries processors then Some ShortSheet else
    if x.number == 0 then Some NumberZero else
    if not (period_allowed x) then Some BadPeriod else
    if not (work_allowed x) then Some BadWork else None

-- and then the first that shows in the lists of seats
abbrev pub bad_lists : Lists → Task → Option AdmitRefusal
bad_lists b x =
    if seated x.number b then Some AlreadySeated else
    if all_full b then Some AllFull else None

-- the first cause before `NoTaker` that holds: the lists of seats, the newcomer, the entries of the sheet
abbrev pub earlier : Lists → Task → ℕ → Option AdmitRefusal
earlier b x entries = option_or (bad_call (length b) x entries) (bad_lists b x)

-- a processor with the seats ss would take x: it has a free seat, and its tasks fit with x in its place
pub record WouldTake (x : Task) (ss : List Seat) : Type 0 where
  pub room : length ss < 32
  pub fits : Fits (joined x (tasks_of ss))

-- n is the number of the first task of a list, in priority order, that has no good instant
pub record FirstUnfit (ts : List Task) (n : ℕ) : Type 0 where
  pub at : ℕ
  pub within : at < length ts
  pub unfit : FitsAt ts at → ⊥
  pub before : (k : ℕ) → k < at → FitsAt ts k
  pub number : n ≡ (get_or ts at no_task).number

-- what the sheet says of a processor that would not take x: 0 where no seat is free
abbrev pub Entry : Task → List Seat → ℕ → Type 0
Entry x ss n = ((32 ≤ length ss) × (n ≡ 0)) ⊎ ((length ss < 32) × FirstUnfit (joined x (tasks_of ss)) n)

-- the seats of processor p
abbrev pub on : Lists → ℕ → List Seat
on b p = get_or b p []

-- a processor as the preference sees it: its number, and its load before the newcomer
abbrev pub seen_with : List Seat → ℕ → Contender
seen_with ss p = record { number = p; load = load_of (tasks_of ss) }

abbrev pub as_seen : Lists → ℕ → Contender
as_seen b p = seen_with (on b p) p

-- p would take x, and the preference puts it before every other that would
pub record Preferred (before : Relation) (b : Lists) (x : Task) (p : ℕ) : Type 0 where
  pub there : p < length b
  pub takes : WouldTake x (on b p)
  pub first : (q : ℕ) → q < length b → (q ≢ p) → WouldTake x (on b q) → before (as_seen b p) (as_seen b q) ≡ true

-- what the judge says of the task at place k below those above it
abbrev pub said : Meaning → List Task → ℕ → Option Ticks
said meaning ts k = meaning (get_or ts k no_task) (take k ts)

-- the seats ss with x in its place: x and each seat below it keep what the judge says now, and the seats above stay
pub record Joins (meaning : Meaning) (x : Task) (ss new : List Seat) : Type 0 where
  pub tasks : tasks_of new ≡ joined x (tasks_of ss)
  pub above : take (place_of x (tasks_of ss)) new ≡ take (place_of x (tasks_of ss)) ss
  pub judged : (k : ℕ) → place_of x (tasks_of ss) ≤ k → k < length ss + 1 → said meaning (joined x (tasks_of ss)) k ≡ Some (get_or new k no_seat).instant

-- the preferred one takes x: the answer is p and the instant that the judge says; the other processors and the sheet stay
pub record Granted (meaning : Meaning) (before : Relation) (b : Lists) (x : Task) (sheet : List ℕ) (p : ℕ) (t : Ticks) (sheet' : List ℕ) (b' : Lists) : Type 0 where
  pub passes : earlier b x (length sheet) ≡ None
  pub preferred : Preferred before b x p
  pub instant : meaning x (take (place_of x (tasks_of (on b p))) (tasks_of (on b p))) ≡ Some t
  pub joins : Joins meaning x (on b p) (on b' p)
  pub others : b' ≡ slice_set b p (on b' p)
  pub sheet_stays : sheet' ≡ sheet

-- no processor would take x: the sheet says why, an entry a processor; its other entries and all seats stay
pub record TurnedAway (b : Lists) (x : Task) (sheet sheet' : List ℕ) (b' : Lists) : Type 0 where
  pub passes : earlier b x (length sheet) ≡ None
  pub nobody : (q : ℕ) → q < length b → WouldTake x (on b q) → ⊥
  pub entries : (q : ℕ) → q < length b → Entry x (on b q) (slice_index sheet' q)
  pub as_long : length sheet' ≡ length sheet
  pub rest : drop (length b) sheet' ≡ drop (length b) sheet
  pub seats_stay : b' ≡ b

-- an earlier cause: nothing changes
pub record RefusedEarly (b : Lists) (x : Task) (e : AdmitRefusal) (sheet sheet' : List ℕ) (b' : Lists) : Type 0 where
  pub cause : earlier b x (length sheet) ≡ Some e
  pub sheet_stays : sheet' ≡ sheet
  pub seats_stay : b' ≡ b

-- The relation of an admission of x to the lists b: the sheet before, the answer, the sheet and the lists after
abbrev pub Admits : Meaning → Relation → Lists → Task → List ℕ → Result (ℕ × Ticks) AdmitRefusal → List ℕ → Lists → Type 0
Admits meaning before b x sheet (Ok a) sheet' b' = Granted meaning before b x sheet a.0 a.1 sheet' b'
Admits meaning before b x sheet (Err e) sheet' b' =
    RefusedEarly b x e sheet sheet' b' ⊎ ((e ≡ NoTaker) × TurnedAway b x sheet sheet' b')

-- For all lists of seats, newcomers and sheets the relation allows at most one answer, sheet and table.
abbrev pub AdmitsOnce : Type 0
AdmitsOnce =
    (meaning : Meaning) (before : Relation) → PreferenceLaws before → (b : Lists) (x : Task) (sheet : List ℕ)
    (a₁ a₂ : Result (ℕ × Ticks) AdmitRefusal) (s₁ s₂ : List ℕ) (b₁ b₂ : Lists) →
    Admits meaning before b x sheet a₁ s₁ b₁ → Admits meaning before b x sheet a₂ s₂ b₂ → (a₁ ≡ a₂) × (s₁ ≡ s₂) × (b₁ ≡ b₂)

-- With a lawful judge and a lawful preference it allows one, whatever the newcomer and the sheet.
abbrev pub AdmitsSome : Type 0
AdmitsSome =
    (meaning : Meaning) → JudgeLaws meaning → (before : Relation) → PreferenceLaws before → (b : Lists) → ((q : ℕ) → q < length b → Kept (on b q)) → (x : Task) (sheet : List ℕ)
    → (a : Result (ℕ × Ticks) AdmitRefusal) × (sheet' : List ℕ) × (b' : Lists) × Admits meaning before b x sheet a sheet' b'
