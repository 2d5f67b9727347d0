-- What the questions answer, by the lists of seats. They change nothing.
use Rattle.std.specs.Prelude.{◌≡◌, ℕ, ◌<◌, ◌≤◌, false, List, [], length, Some, None, Ok, Err, Option, Result, get_or}
use Rattle.seating.specs.declared.seat.Seat.{Seat}
use Rattle.seating.specs.declared.refusal.QuestionRefusal.{QuestionRefusal}
use Rattle.seating.specs.declared.refusal.QuestionRefusal.TheVariants.{NoProcessor}
use Rattle.seating.specs.Seats.{Lists, tasks_of, load_of, no_seat, seated}
use Rattle.seating.specs.Withdrawal.{SitsAt}

-- the seat of the task of number n, on processor p
pub record FoundAt (b : Lists) (n : ℕ) (seat : Seat) (p : ℕ) : Type 0 where
  pub at : ℕ
  pub sits : SitsAt b n p at
  pub its_seat : seat ≡ get_or (get_or b p []) at no_seat

abbrev pub Finds : Lists → ℕ → Option (Seat × ℕ) → Type 0
Finds b n (Some a) = FoundAt b n a.0 a.1
Finds b n None = seated n b ≡ false

-- there is no processor p
pub record NotThere (b : Lists) (p : ℕ) (refusal : QuestionRefusal) : Type 0 where
  pub cause : length b ≤ p
  pub refused : refusal ≡ NoProcessor

-- what is asked about processor p is v
abbrev pub Told : {A : Type 0} → Lists → ℕ → A → Result A QuestionRefusal → Type 0
Told b p v (Ok a) = (p < length b) × (a ≡ v)
Told b p v (Err e) = NotThere b p e

-- the load of processor p is the sum of its tasks' shares
abbrev pub Loads : Lists → ℕ → Result ℕ QuestionRefusal → Type 0
Loads b p a = Told b p (load_of (tasks_of (get_or b p []))) a

-- the seats of processor p
abbrev pub Shows : Lists → ℕ → Result (List Seat) QuestionRefusal → Type 0
Shows b p a = Told b p (get_or b p []) a
