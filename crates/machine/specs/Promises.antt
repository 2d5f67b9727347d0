-- What a list of tasks, in the order in which it stands, may promise of its deadlines.
use Rattle.std.specs.Prelude.{◌≡◌, ℕ, true, List, Some, None}
use Rattle.tasks.specs.declared.task.Task.{Task}
use Rattle.machine.specs.declared.state.Release.{Release}
use Rattle.machine.specs.declared.state.Miss.{Miss}
use Rattle.machine.specs.Machine.{outcome}
use Rattle.machine.specs.Lawful.{lawful}

-- whatever the horizon and the lawful release list, no task misses
abbrev pub NeverMisses : List Task → Type 0
NeverMisses ts = (horizon : ℕ) (rs : List Release) → lawful ts horizon rs ≡ true → (outcome ts horizon rs).miss ≡ None

-- some horizon and some lawful release list make a task miss
pub record CanMiss (ts : List Task) : Type 0 where
  pub horizon : ℕ
  pub releases : List Release
  pub allowed : lawful ts horizon releases ≡ true
  pub it : Miss
  pub misses : (outcome ts horizon releases).miss ≡ Some it
