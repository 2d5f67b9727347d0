-- What a withdrawal does to the lists of seats, and what it answers.
use Rattle.std.specs.Prelude.{◌≡◌, ℕ, ◌<◌, true, false, [], length, get_or, Ok, Err, Result, slice_set}
use Rattle.std.specs.List.{remove}
use Rattle.tasks.specs.declared.units.Ticks.{Ticks}
use Rattle.tasks.specs.declared.units.Units.{Units}
use Rattle.seating.specs.declared.refusal.WithdrawRefusal.{WithdrawRefusal}
use Rattle.seating.specs.declared.refusal.WithdrawRefusal.TheVariants.{NotSeated}
use Rattle.seating.specs.Seats.{Lists, no_seat, seated, numbers, all_differ}

-- the task of number n sits at place `at` of processor p
pub record SitsAt (b : Lists) (n p at : ℕ) : Type 0 where
  pub there : p < length b
  pub within : at < length (get_or b p [])
  pub number : (get_or (get_or b p []) at no_seat).task.number ≡ n

-- it leaves processor p: the answer is p and its work and period, and every other seat stays as it is
pub record Leaves (b : Lists) (n p : ℕ) (work : Units) (period : Ticks) (b' : Lists) : Type 0 where
  pub at : ℕ
  pub sits : SitsAt b n p at
  pub its_work : work ≡ (get_or (get_or b p []) at no_seat).task.work
  pub its_period : period ≡ (get_or (get_or b p []) at no_seat).task.period
  pub seats : b' ≡ slice_set b p (remove (get_or b p []) at)

-- no task of number n is seated: nothing changes
pub record LeavesNot (b : Lists) (n : ℕ) (refusal : WithdrawRefusal) (b' : Lists) : Type 0 where
  pub cause : seated n b ≡ false
  pub refused : refusal ≡ NotSeated
  pub seats_stay : b' ≡ b

-- The relation of a withdrawal of the number n from the lists b: the answer, and the lists after
abbrev pub Withdraws : Lists → ℕ → Result (ℕ × Units × Ticks) WithdrawRefusal → Lists → Type 0
Withdraws b n (Ok a) b' = Leaves b n a.0 a.1 a.2 b'
Withdraws b n (Err e) b' = LeavesNot b n e b'

-- Where no number is seated twice, the relation allows at most one answer and table.
abbrev pub WithdrawsOnce : Type 0
WithdrawsOnce =
    (b : Lists) → all_differ (numbers b) ≡ true → (n : ℕ) (a₁ a₂ : Result (ℕ × Units × Ticks) WithdrawRefusal) (b₁ b₂ : Lists) →
    Withdraws b n a₁ b₁ → Withdraws b n a₂ b₂ → (a₁ ≡ a₂) × (b₁ ≡ b₂)

-- It always allows one.
abbrev pub WithdrawsSome : Type 0
WithdrawsSome = (b : Lists) (n : ℕ) → (a : Result (ℕ × Units × Ticks) WithdrawRefusal) × (b' : Lists) × Withdraws b n a b'
