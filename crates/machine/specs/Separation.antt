-- Lawfulness in one pass: the instant of the last release, and for each place the instant from which it may be released again.
use Rattle.std.specs.Prelude.{ℕ, ◌+◌, Bool, true, ◌&&◌, List, [], ◌∷◌, get_or, nat_le, slice_set}
use Rattle.tasks.specs.declared.task.Task.{Task}
use Rattle.tasks.specs.declared.units.Ticks.{Ticks}
use Rattle.tasks.specs.Units.{no_ticks}
use Rattle.tasks.specs.Demand.{no_task}
use Rattle.machine.specs.declared.state.Release.{Release}
use Rattle.machine.specs.Lawful.{inside}

-- a release may come now: not before the last, and not before its own place is free again
abbrev pub may_come : ℕ → ℕ → Release → Bool
may_come last free r = nat_le last r.instant.0 && nat_le free r.instant.0

-- the rest of a list is lawful, after releases that left `last` and `free`
abbrev pub lawful_after : List Task → ℕ → ℕ → List Ticks → List Release → Bool
lawful_after ts horizon last free [] = true
lawful_after ts horizon last free (r ∷ rs) =
    inside ts horizon r && (may_come last (get_or free r.place no_ticks).0 r && lawful_after ts horizon r.instant.0 (slice_set free r.place (record { 0 = r.instant.0 + (get_or ts r.place no_task).period.0 })) rs)
