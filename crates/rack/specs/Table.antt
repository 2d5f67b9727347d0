-- A rack as its contracts see it, and what every rack keeps.
use Rattle.std.specs.Prelude.{◌≡◌, ℕ, ◌<◌, Bool, true, ◌&&◌, length, nat_le}
use Rattle.seating.specs.Seats.{Lists, numbers, all_differ}
use Rattle.book.specs.Book.{seats_on, KeptWell}

-- the seats of each processor, the judge and the preference
pub record Table (J P : Type 0) : Type 0 where
  pub lists : Lists
  pub judge : J
  pub preference : P

-- a rack has from 1 to 16 processors
abbrev pub rack_size : ℕ → Bool
rack_size m = nat_le 1 m && nat_le m 16

-- It has so many processors. Each has at most 32 seats, in priority order, of tasks with a number from 1 that keep the limits, and each seat keeps a good instant. No number is seated twice.
pub record Sound (b : Lists) : Type 0 where
  pub size : rack_size (length b) ≡ true
  pub kept_well : (p : ℕ) → p < length b → KeptWell (seats_on b p)
  pub differ : all_differ (numbers b) ≡ true
