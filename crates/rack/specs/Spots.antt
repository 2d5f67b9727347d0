-- Where a number sits on the processors, or that it does not.
use Rattle.std.specs.Prelude.{◌≡◌, ℕ, false, Some, None, Option}
use Rattle.seating.specs.Seats.{Lists, seated}
use Rattle.seating.specs.Withdrawal.{SitsAt}

abbrev pub SpotOn : ℕ → Lists → Option (ℕ × ℕ) → Type 0
SpotOn n b (Some a) = SitsAt b n a.0 a.1
SpotOn n b None = seated n b ≡ false
