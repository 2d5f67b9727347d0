-- For each book whose tasks keep the limits, whose seats keep good instants and in which no number is seated twice, as each book at a moment of a rack, each call and each sheet have exactly one answer, and one sheet afterwards, that are right.
use Rattle.std.specs.Prelude.{◌≡◌, ℕ, ◌<◌, true, List, length, Option, Result}
use Rattle.tasks.specs.declared.task.Task.{Task}
use Rattle.tasks.specs.declared.units.Ticks.{Ticks}
use Rattle.tasks.specs.declared.units.Units.{Units}
use Rattle.judges.specs.Laws.{Meaning, JudgeLaws}
use Rattle.preferences.specs.Laws.{Relation, PreferenceLaws}
use Rattle.seating.specs.declared.seat.Seat.{Seat}
use Rattle.seating.specs.declared.refusal.AdmitRefusal.{AdmitRefusal}
use Rattle.seating.specs.declared.refusal.WithdrawRefusal.{WithdrawRefusal}
use Rattle.seating.specs.declared.refusal.QuestionRefusal.{QuestionRefusal}
use Rattle.seating.specs.Seats.{Kept, numbers, all_differ}
use Rattle.book.specs.Book.{Book, seats_on, admits, withdraws, finds, loads, lists, Right}

-- there is exactly one x of the kind P
pub record One (X : Type 0) (P : X → Type 0) : Type 0 where
  pub it : X
  pub is : P it
  pub only : (x : X) → P x → x ≡ it

module _ (meaning : Meaning) (before : Relation) (b : Book) where
  pub record OneRight : Type 0 where
    pub admission : (x : Task) (sheet : List ℕ) → One (Result (ℕ × Ticks) AdmitRefusal × List ℕ) (λ a. Right meaning before b (admits x sheet a.0 a.1))
    pub withdrawal : (n : ℕ) → One (Result (ℕ × Units × Ticks) WithdrawRefusal) (λ a. Right meaning before b (withdraws n a))
    pub finding : (n : ℕ) → One (Option (Seat × ℕ)) (λ a. Right meaning before b (finds n a))
    pub load : (p : ℕ) → One (Result ℕ QuestionRefusal) (λ a. Right meaning before b (loads p a))
    pub seats : (p : ℕ) → One (Result (List Seat) QuestionRefusal) (λ a. Right meaning before b (lists p a))

-- for every lawful judge and preference, and every book whose tasks keep the limits and whose seats keep good instants, with no number seated twice, as at each moment of a rack (`AtMoment`)
abbrev pub OneRightAnswer : Type 0
OneRightAnswer =
    (meaning : Meaning) → JudgeLaws meaning → (before : Relation) → PreferenceLaws before → (b : Book)
    → ((p : ℕ) → p < length b → Kept (seats_on b p)) → all_differ (numbers b) ≡ true → OneRight meaning before b
