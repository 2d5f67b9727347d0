-- The book of a rack, and the claim. The book is written from the calls on a rack and its answers alone; no rack and no table is named here.
-- Read from top to bottom. The rules of each call on lists of seats stand in the crate seating (Admission, Withdrawal, Questions, and their words in Seats and Refusals),
-- what fits in tasks (Demand), the step machine in machine (Promises, Lawful, Machine), judges and preferences in their crates (Laws).
use Rattle.std.specs.Prelude.{◌≡◌, ℕ, ◌<◌, ◌≤◌, true, if◌then◌else◌, ◌↔◌, List, [], ◌∷◌, ◌++◌, length, take, drop, replicate, is_err, Some, None, Ok, Err, Option, Result, ◌==◌, slice_set}
use Rattle.std.specs.List.Sorted.{IsPermutation}
use Rattle.tasks.specs.declared.units.Units.{Units}
use Rattle.tasks.specs.declared.units.Ticks.{Ticks}
use Rattle.tasks.specs.declared.task.Task.{Task}
use Rattle.tasks.specs.Units.{no_ticks}
use Rattle.tasks.specs.Limits.{all_within}
use Rattle.tasks.specs.Priority.{by_priority, joined}
use Rattle.tasks.specs.Demand.{Fits}
use Rattle.machine.specs.Promises.{NeverMisses, CanMiss}
use Rattle.judges.specs.Laws.{Meaning}
use Rattle.preferences.specs.Laws.{Relation}
use Rattle.seating.specs.declared.seat.Seat.{Seat}
use Rattle.seating.specs.declared.refusal.AdmitRefusal.{AdmitRefusal}
use Rattle.seating.specs.declared.refusal.WithdrawRefusal.{WithdrawRefusal}
use Rattle.seating.specs.declared.refusal.QuestionRefusal.{QuestionRefusal}
use Rattle.seating.specs.Seats.{Lists, tasks_of, place_of, all_keep_good, all_numbered, numbers, all_differ}
use Rattle.seating.specs.Admission.{earlier, on, Preferred, Admits}
use Rattle.seating.specs.Withdrawal.{Withdraws}
use Rattle.seating.specs.Questions.{Finds, Loads, Shows}

-- ==== 1. The book

-- For each processor a list in priority order: its tasks (number, C, T), each beside the instant that the judge's meaning gave when it was last judged.
abbrev pub Book : Type 0
Book = Lists

-- At the making of a rack of so many processors there are as many lists, all empty.
abbrev pub new_book : (processors : ℕ) → Book
new_book processors = replicate processors []

-- The list of processor p, and its tasks.
abbrev pub seats_on : Book → ℕ → List Seat
seats_on b p = on b p

abbrev pub tasks_on : Book → ℕ → List Task
tasks_on b p = tasks_of (seats_on b p)

-- ==== 2. The calls, each with its whole answer

-- admits: the task asked for, the sheet before, the answer (processor and instant, or the refusal), the sheet after
-- withdraws: the number; processor, C and T
-- finds: the number; the seat and its processor, or none
-- loads: the processor; its load          lists: the processor; its seats
pub data Event : Type 0 where
  admits : Task → (sheet : List ℕ) → Result (ℕ × Ticks) AdmitRefusal → (sheet' : List ℕ) → Event
  withdraws : ℕ → Result (ℕ × Units × Ticks) WithdrawRefusal → Event
  finds : ℕ → Option (Seat × ℕ) → Event
  loads : ℕ → Result ℕ QuestionRefusal → Event
  lists : ℕ → Result (List Seat) QuestionRefusal → Event

-- ==== 3. How the book is written

-- The instant given (a book that is kept well, below, has no seat to which none was given).
abbrev pub given : Option Ticks → Ticks
given (Some t) = t
given None = no_ticks

-- Tasks that are judged: each, below the tasks `above` and those before it in the list, by the judge's meaning.
abbrev pub judged : Meaning → List Task → List Task → List Seat
judged meaning above [] = []
judged meaning above (x ∷ xs) = record { task = x; instant = given (meaning x above) } ∷ judged meaning (above ++ x ∷ []) xs

-- A task joins a list in its place. It and those below it are judged; those above it stay as they are.
abbrev pub with_newcomer : Meaning → Task → List Seat → List Seat
with_newcomer meaning x ss = let k = place_of x (tasks_of ss) in take k ss ++ judged meaning (take k (tasks_of ss)) (x ∷ drop k (tasks_of ss))

-- The task of number n leaves a list; the others stay as they are.
abbrev pub without : ℕ → List Seat → List Seat
without n [] = []
without n (s ∷ ss) = if s.task.number == n then ss else s ∷ without n ss

-- The book after a call. A granted admission: the task asked for joins the list of the processor answered. A granted withdrawal: the task of that number leaves its list.
-- A refused call, or a question: no change.
abbrev pub after : Meaning → Book → Event → Book
after meaning b (admits x sheet (Ok a) sheet') = slice_set b a.0 (with_newcomer meaning x (seats_on b a.0))
after meaning b (admits x sheet (Err e) sheet') = b
after meaning b (withdraws n (Ok a)) = slice_set b a.0 (without n (seats_on b a.0))
after meaning b (withdraws n (Err e)) = b
after meaning b (finds n a) = b
after meaning b (loads p a) = b
after meaning b (lists p a) = b

-- ==== 4. What each answer must be

-- The rules of each call: the lists just before it, the call with its whole answer, the lists after it.
-- They say for every sheet, and every entry of it, what stands there afterwards.
abbrev pub Rules : Meaning → Relation → Lists → Event → Lists → Type 0
Rules meaning before b (admits x sheet a sheet') b' = Admits meaning before b x sheet a sheet' b'
Rules meaning before b (withdraws n a) b' = Withdraws b n a b'
Rules meaning before b (finds n a) b' = Finds b n a × (b' ≡ b)
Rules meaning before b (loads p a) b' = Loads b p a × (b' ≡ b)
Rules meaning before b (lists p a) b' = Shows b p a × (b' ≡ b)

-- An answer is right by the book if the rules allow it there, from the book just before the call to the book after it.
abbrev pub Right : Meaning → Relation → Book → Event → Type 0
Right meaning before b e = Rules meaning before b e (after meaning b e)

-- ==== 5. The three promises

-- A processor with a list of fewer than 32 has a free seat.
pub record FreeSeat (b : Book) (p : ℕ) : Type 0 where
  pub there : p < length b
  pub free : length (seats_on b p) < 32

-- A processor with a free seat fails a newcomer if its list, with the newcomer in its place, does not fit.
abbrev pub Fails : Book → Task → ℕ → Type 0
Fails b x p = Fits (joined x (tasks_on b p)) → ⊥

-- A newcomer passes all that an admission checks before 8, with a sheet of so many entries.
abbrev pub Passes : Book → Task → (entries : ℕ) → Type 0
Passes b x entries = earlier b x entries ≡ None

-- Under each fixed priority order of the tasks (each permutation), some horizon and some lawful release list make one of them miss.
abbrev pub MissesInEachOrder : List Task → Type 0
MissesInEachOrder ts = (order : List Task) → IsPermutation ts order → CanMiss order

-- A list is kept well: at most 32 tasks, each with a number from 1 and within the limits, in priority order, each with a good instant beside it.
pub record KeptWell (ss : List Seat) : Type 0 where
  pub few : length ss ≤ 32
  pub numbered : all_numbered (tasks_of ss) ≡ true
  pub limits : all_within (tasks_of ss) ≡ true
  pub order : by_priority (tasks_of ss) ≡ true
  pub instants : all_keep_good ss ≡ true

-- At a moment of a rack, by its book:
pub record AtMoment (b : Book) : Type 0 where
  -- its lists are kept well, and no number is seated twice;
  pub kept_well : (p : ℕ) → p < length b → KeptWell (seats_on b p)
  pub seated_once : all_differ (numbers b) ≡ true
  -- NO SEATED TASK MISSES: whatever the horizon and whatever the lawful release list, no task seated on a processor misses a deadline there, in its priority order;
  pub none_misses : (p : ℕ) → p < length b → NeverMisses (tasks_on b p)
  -- TURNED AWAY ONLY WHERE NOBODY CAN SERVE: a processor with a free seat fails a newcomer that passes the earlier checks exactly when, under each fixed order of
  -- its tasks and the newcomer, some horizon and some lawful release list make one of them miss.
  pub fails_exactly : (x : Task) (entries : ℕ) → Passes b x entries → (p : ℕ) → FreeSeat b p → Fails b x p ↔ MissesInEachOrder (x ∷ tasks_on b p)

-- A newcomer that passes the earlier checks is turned away exactly when every processor with a free seat fails it;
abbrev pub TurnedAwayExactly : Book → Event → Type 0
TurnedAwayExactly b (admits x sheet a sheet') = Passes b x (length sheet) → (is_err a ≡ true) ↔ ((p : ℕ) → FreeSeat b p → Fails b x p)
TurnedAwayExactly b (withdraws n a) = Unit {0}
TurnedAwayExactly b (finds n a) = Unit {0}
TurnedAwayExactly b (loads p a) = Unit {0}
TurnedAwayExactly b (lists p a) = Unit {0}

-- THE PREFERRED TAKER: a granted admission answers a processor that would have taken its task just before, and the preference puts that one before every other that would have.
abbrev pub PreferredTaker : Relation → Book → Event → Type 0
PreferredTaker before b (admits x sheet (Ok a) sheet') = Preferred before b x a.0
PreferredTaker before b (admits x sheet (Err e) sheet') = Unit {0}
PreferredTaker before b (withdraws n a) = Unit {0}
PreferredTaker before b (finds n a) = Unit {0}
PreferredTaker before b (loads p a) = Unit {0}
PreferredTaker before b (lists p a) = Unit {0}

-- Of a call, by the book just before it:
pub record OfCall (meaning : Meaning) (before : Relation) (b : Book) (e : Event) : Type 0 where
  pub right : Right meaning before b e
  pub turned_away : TurnedAwayExactly b e
  pub preferred : PreferredTaker before b e

-- ==== 6. The claim

-- From a moment with the book b on: at that moment, of each call that follows, and at the moment at its end.
abbrev pub ClaimFrom : Meaning → Relation → Book → List Event → Type 0
ClaimFrom meaning before b [] = AtMoment b
ClaimFrom meaning before b (e ∷ es) = AtMoment b × OfCall meaning before b e × ClaimFrom meaning before (after meaning b e) es

-- Of the calls on a rack of so many processors, from its making on.
abbrev pub MainClaim : Meaning → Relation → (processors : ℕ) → List Event → Type 0
MainClaim meaning before processors es = ClaimFrom meaning before (new_book processors) es
