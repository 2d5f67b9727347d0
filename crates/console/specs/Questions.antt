-- `find`, `load` and `seats`: questions about the rack of the console.
use Rattle.std.specs.Prelude.{◌≡◌, ℕ, List, ◌++◌, length, Some, None, Ok, Err, codes, decimal, Option, Result}
use Rattle.std.specs.List.{flat_map}
use Rattle.preferences.specs.Policies.{policy_before}
use Rattle.seating.specs.declared.seat.Seat.{Seat}
use Rattle.seating.specs.declared.refusal.QuestionRefusal.{QuestionRefusal}
use Rattle.seating.specs.declared.refused.Refused.TheVariants.{Asking}
use Rattle.book.specs.Book.{finds, loads, lists}
use Rattle.rack.specs.Steps.{Step}
use Rattle.judges.specs.Kinds.{meaning_of}
use Rattle.seating.specs.Refusals.{refused_text}
use Rattle.console.specs.Console.{RackSeen, ConsoleSeen}

-- `NUMBER C T INSTANT`
abbrev pub seat_text : Seat → List ℕ
seat_text s = decimal s.task.number ++ (codes " " ++ (decimal s.task.work.0 ++ (codes " " ++ (decimal s.task.period.0 ++ (codes " " ++ decimal s.instant.0)))))

-- `seat NUMBER C T INSTANT P` or `none`
abbrev pub find_text : Option (Seat × ℕ) → List ℕ
find_text None = codes "none"
find_text (Some a) = codes "seat " ++ (seat_text a.0 ++ (codes " " ++ decimal a.1))

-- `ok LOAD`
abbrev pub load_text : Result ℕ QuestionRefusal → List ℕ
load_text (Ok l) = codes "ok " ++ decimal l
load_text (Err e) = refused_text (Asking e)

-- each seat behind a space
abbrev pub row_text : List Seat → List ℕ
row_text seats = flat_map (λ s. codes " " ++ seat_text s) seats

-- `ok N` and then the seats
abbrev pub seats_text : Result (List Seat) QuestionRefusal → List ℕ
seats_text (Ok ss) = codes "ok " ++ (decimal (length ss) ++ row_text ss)
seats_text (Err e) = refused_text (Asking e)

-- each is that step of the rack, which stays as it is, and its answer in words
pub record Found (r : RackSeen) (number : ℕ) (text : List ℕ) : Type 0 where
  pub answer : Option (Seat × ℕ)
  pub step : Step meaning_of policy_before r (finds number answer) r
  pub says : text ≡ find_text answer

pub record Loaded (r : RackSeen) (p : ℕ) (text : List ℕ) : Type 0 where
  pub answer : Result ℕ QuestionRefusal
  pub step : Step meaning_of policy_before r (loads p answer) r
  pub says : text ≡ load_text answer

pub record Listed (r : RackSeen) (p : ℕ) (text : List ℕ) : Type 0 where
  pub answer : Result (List Seat) QuestionRefusal
  pub step : Step meaning_of policy_before r (lists p answer) r
  pub says : text ≡ seats_text answer

-- asked of the rack of the console; `no rack` where there is none
abbrev pub OfRack : (RackSeen → List ℕ → Type 0) → ConsoleSeen → List ℕ → Type 0
OfRack asks None text = text ≡ codes "no rack"
OfRack asks (Some r) text = asks r text

abbrev pub FindOf : ConsoleSeen → ℕ → List ℕ → Type 0
FindOf console number = OfRack (λ r. Found r number) console

abbrev pub LoadOf : ConsoleSeen → ℕ → List ℕ → Type 0
LoadOf console p = OfRack (λ r. Loaded r p) console

abbrev pub SeatsOf : ConsoleSeen → ℕ → List ℕ → Type 0
SeatsOf console p = OfRack (λ r. Listed r p) console

-- what is asked, or none where it is no call; and the answer
abbrev pub Answer : (ℕ → List ℕ → Type 0) → Option ℕ → List ℕ → Type 0
Answer of None text = text ≡ codes "?"
Answer of (Some n) text = of n text

-- a question leaves the console as it is
abbrev pub Asked : (ℕ → List ℕ → Type 0) → Option ℕ → ConsoleSeen → List ℕ → ConsoleSeen → Type 0
Asked of asks before text after = Answer of asks text × (after ≡ before)
