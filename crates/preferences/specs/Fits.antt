-- The three preferences of bin packing.
use Rattle.std.specs.Prelude.{true, false, cond, ltb, eqb}
use Rattle.preferences.specs.Laws.{Relation}

-- the smaller number
abbrev pub first_fit : Relation
first_fit a b = ltb a.number b.number

-- the greater load, and at equal loads the smaller number
abbrev pub best_fit : Relation
best_fit a b = cond (ltb b.load a.load) true (cond (eqb a.load b.load) (first_fit a b) false)

-- the smaller load, and at equal loads the smaller number
abbrev pub worst_fit : Relation
worst_fit a b = cond (ltb a.load b.load) true (cond (eqb a.load b.load) (first_fit a b) false)
