-- Below a task that takes every tick no instant is good.
use Rattle.std.proofs.Common.{◌≡◌, ℕ, ◌≤◌, false, [], ◌∷◌, None, one-mul, mul-one, arith}
use Rattle.std.proofs.lemmas.Bool.{and_right}
use Rattle.tasks.specs.declared.task.Task.{Task}
use Rattle.tasks.specs.Rounding.{up}
use Rattle.tasks.specs.Demand.{good}
use Rattle.tasks.specs.Instants.{point, least}
use Rattle.tasks.proofs.Roundings.{up_covers}
use Rattle.tasks.proofs.Goods.{not_good}
use Rattle.tasks.proofs.Leasts.{least_none}
use Rattle.judges.specs.Meanings.{good_point}

-- the task that takes every tick
abbrev full : Task
full = record { number = 1; work = record { 0 = 1 }; period = record { 0 = 1 } }

none_good : (x : Task) (t : ℕ) → 1 ≤ x.work.0 → good x (full ∷ []) t ≡ false
none_good x t w = not_good x (full ∷ []) t (λ g. omega (arith, g.enough, up_covers t 1 (omega arith), mul-one (up t 1), one-mul (up t 1)))

pub none_least : (x : Task) → 1 ≤ x.work.0 → least (good x (full ∷ [])) x.period.0 ≡ None
none_least x w = least_none (good x (full ∷ [])) x.period.0 (λ u a b. none_good x u w)

pub none_point : (x : Task) → 1 ≤ x.work.0 → least (good_point x (full ∷ [])) x.period.0 ≡ None
none_point x w = least_none (good_point x (full ∷ [])) x.period.0 (λ u a b. and_right (point x (full ∷ []) u) (good x (full ∷ []) u) (none_good x u w))
