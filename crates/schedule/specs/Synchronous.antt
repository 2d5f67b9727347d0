-- The synchronous releases: all tasks at instant 0, and then each at every multiple of its period.
use Rattle.std.specs.Prelude.{ℕ, zero, suc, ◌%◌, cond, List, [], ◌∷◌, ◌++◌, ◌==◌}
use Rattle.tasks.specs.declared.task.Task.{Task}
use Rattle.machine.specs.declared.state.Release.{Release}

-- those at one instant: the tasks whose period divides it, the first of the list at `place`
abbrev pub together : (now place : ℕ) → List Task → List Release
together now place [] = []
together now place (t ∷ ts) =
    let rest = together now (suc place) ts in
    cond (now % t.period.0 == 0) (record { place = place; instant = record { 0 = now } } ∷ rest) rest

-- those at the `more` instants from `now` on
abbrev pub synchronous : List Task → (now more : ℕ) → List Release
synchronous ts now zero = []
synchronous ts now (suc more) = together now 0 ts ++ synchronous ts (suc now) more
