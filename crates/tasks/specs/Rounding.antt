-- Division, rounded up.
use Rattle.std.specs.Prelude.{ℕ, ◌+◌, ◌-◌, ◌/◌}

-- n / d, rounded up
unfoldable pub up : ℕ → ℕ → ℕ
up n d = (n + (d - 1)) / d
