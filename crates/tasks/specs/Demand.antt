-- The demand of a task, its good instants, and when a list of tasks fits.
use Rattle.std.specs.Prelude.{◌≡◌, ℕ, ◌+◌, ◌*◌, ◌^◌, ◌<◌, Bool, true, cond, ◌&&◌, List, [], ◌∷◌, length, take, Some, None, Option, nat_le, nat_lt, slice_index_or}
use Rattle.std.specs.List.{list_all}
use Rattle.tasks.specs.declared.task.Task.{Task}
use Rattle.tasks.specs.declared.units.Units.{Units}
use Rattle.tasks.specs.Rounding.{up}
use Rattle.tasks.specs.Units.{units_in, one_a_tick, no_ticks}

-- the work that the tasks of a list ask for up to t: of each its C × (t / its T, rounded up), so a release at t itself does not count
abbrev pub work_before : List Task → ℕ → ℕ
work_before [] t = 0
work_before (y ∷ ys) t = y.work.0 * up t y.period.0 + work_before ys t

-- the demand of x at t below the tasks `above`: its own C, and what they ask for
abbrev pub demand : Task → List Task → ℕ → ℕ
demand x above t = x.work.0 + work_before above t

-- t is a good instant of x below the tasks `above`: from 1 to T, with a demand of at most what a processor does in t
abbrev pub good : Task → List Task → ℕ → Bool
good x above t = nat_le 1 t && (nat_le t x.period.0 && nat_le (demand x above t) (units_in one_a_tick t))

-- what is read past the end of a list
abbrev pub no_task : Task
no_task = record { number = 0; work = record { 0 = 0 }; period = no_ticks }

-- the task at place k has a good instant with those before it above it
abbrev pub FitsAt : List Task → ℕ → Type 0
FitsAt xs k = (t : ℕ) × (good (slice_index_or xs k no_task) (take k xs) t ≡ true)

-- a list fits: each of its tasks has
abbrev pub Fits : List Task → Type 0
Fits xs = (k : ℕ) → k < length xs → FitsAt xs k

-- What the functions of the code answer: a count of units up to 64 bits.

abbrev pub in_64_bits : ℕ → Option Units
in_64_bits w = cond (nat_lt w (2 ^ 64)) (Some (record { 0 = w })) None

-- no period of the list is 0, so that each release count exists
abbrev pub periods_exist : List Task → Bool
periods_exist ys = list_all (λ y. nat_le 1 y.period.0) ys

abbrev pub work_answer : Task → ℕ → Option Units
work_answer y t = cond (nat_le 1 y.period.0) (in_64_bits (y.work.0 * up t y.period.0)) None

abbrev pub demand_answer : Task → List Task → ℕ → Option Units
demand_answer x above t = cond (periods_exist above) (in_64_bits (demand x above t)) None
