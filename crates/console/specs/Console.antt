-- The console as contracts see it.
use Rattle.std.specs.Prelude.{Some, None, Option}
use Rattle.preferences.specs.declared.policy.Policy.{Policy}
use Rattle.rack.specs.Table.{Table, Sound}
use Rattle.judges.specs.declared.any.AnyJudge.{AnyJudge}

abbrev pub RackSeen : Type 0
RackSeen = Table AnyJudge Policy

abbrev pub ConsoleSeen : Type 0
ConsoleSeen = Option RackSeen

-- a rack that stands at the console is sound
abbrev pub Standing : ConsoleSeen → Type 0
Standing None = Unit {0}
Standing (Some r) = Sound r.lists
