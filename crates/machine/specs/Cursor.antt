-- How far a release list has come at an instant.
use Rattle.std.specs.Prelude.{ℕ, ◌<◌, ◌≤◌, List, length, slice_index_or}
use Rattle.tasks.specs.declared.task.Task.{Task}
use Rattle.tasks.specs.Units.{no_ticks}
use Rattle.machine.specs.declared.state.Release.{Release}

-- what is read past the end of a list
abbrev pub no_release : Release
no_release = record { place = 0; instant = no_ticks }

-- each release before the cursor was before now, and no other one was
pub record Cursor (rs : List Release) (cursor instant : ℕ) : Type 0 where
  pub within : cursor ≤ length rs
  pub gone : (k : ℕ) → k < cursor → (slice_index_or rs k no_release).instant.0 < instant
  pub ahead : (k : ℕ) → cursor ≤ k → k < length rs → instant ≤ (slice_index_or rs k no_release).instant.0

-- every place exists, and the instants never fall
pub record Orderly (ts : List Task) (rs : List Release) : Type 0 where
  pub places : (k : ℕ) → k < length rs → (slice_index_or rs k no_release).place < length ts
  pub rise : (j k : ℕ) → j ≤ k → k < length rs → (slice_index_or rs j no_release).instant.0 ≤ (slice_index_or rs k no_release).instant.0
