-- Small cases, so that no statement is empty.
use Rattle.std.specs.Prelude.{◌≡◌, ℕ, true, List, [], ◌∷◌, Some, None}
use Rattle.tasks.specs.declared.task.Task.{Task}
use Rattle.tasks.specs.Tasks.{task_of}
use Rattle.tasks.specs.Limits.{within_limits, all_within}
use Rattle.tasks.specs.Priority.{by_priority, joined}
use Rattle.tasks.specs.Demand.{Fits}
use Rattle.machine.specs.declared.state.Release.{Release}
use Rattle.machine.specs.Machine.{outcome}
use Rattle.machine.specs.Lawful.{lawful}

-- a release, by its numbers
abbrev pub release : (place instant : ℕ) → Release
release place instant = record { place = place; instant = record { 0 = instant } }

-- 2 units each 5 ticks, and below it 3 units each 7 ticks
abbrev pub light : List Task
light = task_of 1 2 5 ∷ task_of 2 3 7 ∷ []

-- the second has one unit more
abbrev pub heavy : List Task
heavy = task_of 1 2 5 ∷ task_of 2 4 7 ∷ []

-- both released at 0, in either order, and the first again at 5
abbrev pub first_before : List Release
first_before = release 0 0 ∷ release 1 0 ∷ release 0 5 ∷ []

abbrev pub second_before : List Release
second_before = release 1 0 ∷ release 0 0 ∷ release 0 5 ∷ []

-- a list within the limits and in priority order that fits, and one that does not
abbrev pub OneFitsOneDoesNot : Type 0
OneFitsOneDoesNot = (all_within light ≡ true) × (by_priority light ≡ true) × Fits light × (all_within heavy ≡ true) × (by_priority heavy ≡ true) × (Fits heavy → ⊥)

-- two tasks released at one instant stand in either order in a lawful list, and the run is the same:
-- the lighter list misses nothing, and of the heavier one the second task misses at 7
abbrev pub EitherOrderIsLawful : Type 0
EitherOrderIsLawful = (lawful heavy 7 first_before ≡ true) × (lawful heavy 7 second_before ≡ true)
    × (outcome heavy 7 first_before ≡ record { miss = Some (record { place = 1; instant = record { 0 = 7 } }); busy = record { 0 = 7 } }) × (outcome heavy 7 second_before ≡ outcome heavy 7 first_before)
    × (lawful light 7 first_before ≡ true) × (lawful light 7 second_before ≡ true)
    × (outcome light 7 first_before ≡ record { miss = None; busy = record { 0 = 7 } }) × (outcome light 7 second_before ≡ outcome light 7 first_before)

-- a processor with no task fits each task within the limits
abbrev pub EmptyFitsEach : Type 0
EmptyFitsEach = (x : Task) → within_limits x ≡ true → Fits (joined x [])
