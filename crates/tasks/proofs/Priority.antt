-- Of two tasks one stands above the other; and a newcomer in its place keeps the order of priority.
use Rattle.std.proofs.Common.{◌≡◌, true, false, List, [], ◌∷◌, refl, arith}
use Rattle.std.proofs.lemmas.Bool.{and_from, le-leb, leb-false}
use Rattle.tasks.specs.declared.task.Task.{Task}
use Rattle.tasks.specs.Priority.{stands_above, by_priority, joined}

pub above_or : (y x : Task) → stands_above y x ≡ false → stands_above x y ≡ true
above_or y x e = le-leb x.period.0 y.period.0 (omega (arith, leb-false y.period.0 x.period.0 e))

pub joined_behind : (x y : Task) (ys : List Task) → by_priority (y ∷ ys) ≡ true → stands_above y x ≡ true → by_priority (y ∷ joined x ys) ≡ true
joined_behind x y [] h a = and_from (stands_above y x) true a refl
joined_behind x y (z ∷ zs) h a = grind (arith, joined_behind x z zs, above_or z x)

pub joined_by_priority : (x : Task) (ts : List Task) → by_priority ts ≡ true → by_priority (joined x ts) ≡ true
joined_by_priority x [] h = refl
joined_by_priority x (y ∷ ys) h = grind (arith, joined_behind x y ys, above_or y x)
