-- What holds of an admission that no cause before 8 stops.
use Rattle.std.proofs.Common.{◌≡◌, ℕ, ◌≤◌, true, false, length, None, arith}
use Rattle.tasks.specs.declared.task.Task.{Task}
use Rattle.tasks.specs.Limits.{within_limits}
use Rattle.seating.specs.Seats.{Lists, seated, is_numbered}
use Rattle.seating.specs.Admission.{earlier}

pub record Passed (b : Lists) (x : Task) (n : ℕ) : Type 0 where
  pub long : length b ≤ n
  pub numbered : is_numbered x ≡ true
  pub limits : within_limits x ≡ true
  pub new : seated x.number b ≡ false

pub passing : (b : Lists) (x : Task) (n : ℕ) → earlier b x n ≡ None → Passed b x n
passing b x n h = record { long = grind arith; numbered = grind arith; limits = grind arith; new = grind arith }
