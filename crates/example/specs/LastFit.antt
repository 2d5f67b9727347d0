-- The preference of the greater number.
use Rattle.std.specs.Prelude.{ltb}
use Rattle.preferences.specs.Laws.{Relation}

-- the greater number
abbrev pub last_fit : Relation
last_fit a b = ltb b.number a.number
