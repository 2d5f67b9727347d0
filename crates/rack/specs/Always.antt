-- What holds of every rack at every moment.
use Rattle.std.specs.Prelude.{ℕ, List, Option, Result}
use Rattle.tasks.specs.declared.task.Task.{Task}
use Rattle.tasks.specs.declared.units.Ticks.{Ticks}
use Rattle.tasks.specs.declared.units.Units.{Units}
use Rattle.judges.specs.Laws.{Meaning}
use Rattle.preferences.specs.Laws.{Relation}
use Rattle.seating.specs.declared.seat.Seat.{Seat}
use Rattle.seating.specs.declared.refusal.AdmitRefusal.{AdmitRefusal}
use Rattle.seating.specs.declared.refusal.WithdrawRefusal.{WithdrawRefusal}
use Rattle.seating.specs.declared.refusal.QuestionRefusal.{QuestionRefusal}
use Rattle.seating.specs.Seats.{Lists}
use Rattle.seating.specs.Admission.{Admits}
use Rattle.seating.specs.Withdrawal.{Withdraws}
use Rattle.seating.specs.Questions.{Finds, Loads, Shows}
use Rattle.book.specs.Answers.{One}
use Rattle.rack.specs.Table.{Table, Sound}

-- Of a rack with its lists of seats, its judge's meaning and its preference's order:
module _ {J P : Type 0} (meaning : J → Meaning) (before : P → Relation) where
  pub record Always (r : Table J P) : Type 0 where
    -- it is sound;
    pub sound : Sound r.lists
    -- for each task and sheet there is exactly one answer to its admission, with the sheet and the lists afterwards, that the relation of the call allows;
    pub one_admission : (x : Task) (sheet : List ℕ) → One (Result (ℕ × Ticks) AdmitRefusal × List ℕ × Lists) (λ a. Admits (meaning r.judge) (before r.preference) r.lists x sheet a.0 a.1 a.2)
    -- for each number exactly one to its withdrawal, with the lists afterwards;
    pub one_withdrawal : (n : ℕ) → One (Result (ℕ × Units × Ticks) WithdrawRefusal × Lists) (λ a. Withdraws r.lists n a.0 a.1)
    -- for each number exactly one to the question where it sits;
    pub one_finding : (n : ℕ) → One (Option (Seat × ℕ)) (λ a. Finds r.lists n a)
    -- for each processor exactly one to the question of its load, and exactly one to that of its seats.
    pub one_load : (p : ℕ) → One (Result ℕ QuestionRefusal) (λ a. Loads r.lists p a)
    pub one_list : (p : ℕ) → One (Result (List Seat) QuestionRefusal) (λ a. Shows r.lists p a)
