-- Work is counted in units and time in ticks. In definitions both are plain numbers, and they meet only in these two functions of a processor's speed.
use Rattle.std.specs.Prelude.{ℕ, ◌*◌, ◌^◌, cond, Some, None, Option, nat_le, nat_lt}
use Rattle.tasks.specs.declared.units.Speed.{Speed}
use Rattle.tasks.specs.declared.units.Ticks.{Ticks}
use Rattle.tasks.specs.Rounding.{up}

-- the units that a processor does in t ticks
abbrev pub units_in : Speed → ℕ → ℕ
units_in speed t = speed.0 * t

-- the least ticks in which it does w units
abbrev pub ticks_for : Speed → ℕ → ℕ
ticks_for speed w = up w speed.0

-- every processor does one unit a tick
abbrev pub one_a_tick : Speed
one_a_tick = record { 0 = 1 }

-- no ticks: the instant at which a run begins, and what is read past the end of a list of instants
abbrev pub no_ticks : Ticks
no_ticks = record { 0 = 0 }

-- a count of ticks up to 32 bits
abbrev pub in_32_bits : ℕ → Option Ticks
in_32_bits t = cond (nat_lt t (2 ^ 32)) (Some (record { 0 = t })) None

-- `ticks_for` as a 32-bit number: none where it is larger, and none at speed 0, which does nothing in any time
abbrev pub ticks_answer : Speed → ℕ → Option Ticks
ticks_answer speed w = cond (nat_le 1 speed.0) (in_32_bits (ticks_for speed w)) None
