-- The small cases, by computation.
use Rattle.std.proofs.Common.{zero, suc, ◌<◌, ◌≤◌, ◌⊎◌, [], ◌∷◌, refl, inl, inr, arith}
use Rattle.std.proofs.lemmas.Bool.{cases_lt}
use Rattle.tasks.specs.Rounding.{up}
use Rattle.tasks.specs.Demand.{Fits, FitsAt}
use Rattle.tasks.proofs.Roundings.{up_one, up_more}
use Rattle.tasks.proofs.Bounds.{limits}
use Rattle.tasks.proofs.Goods.{good_parts, good_from}
use Rattle.tasks.specs.Tasks.{task_of}
use Rattle.schedule.specs.Examples.{light, heavy, OneFitsOneDoesNot, EitherOrderIsLawful, EmptyFitsEach}

light_fits : Fits light
unfolding up
light_fits zero h = (2, refl)
light_fits (suc zero) h = (5, refl)
light_fits (suc (suc k)) h = absurd (omega arith)

heavy_second : FitsAt heavy 1 → ⊥
heavy_second (t, h) = go (cases_lt 5 t)
  where
    go : (5 < t) ⊎ (t ≤ 5) → ⊥
    go (inl a) = let g = good_parts (task_of 2 4 7) (task_of 1 2 5 ∷ []) t h in omega (arith, g.enough, g.ends, up_more t 5 1 (omega arith) (omega arith))
    go (inr a) = let g = good_parts (task_of 2 4 7) (task_of 1 2 5 ∷ []) t h in omega (arith, g.enough, g.ends, up_one t 5 g.starts a)

pub one_fits_one_does_not : OneFitsOneDoesNot
one_fits_one_does_not = (refl, refl, light_fits, refl, refl, λ f. heavy_second (f 1 (omega arith)))

pub either_order_is_lawful : EitherOrderIsLawful
either_order_is_lawful = (refl, refl, refl, refl, refl, refl, refl, refl)

pub empty_fits_each : EmptyFitsEach
empty_fits_each x h zero l = let s = limits x h in (x.work.0, good_from x [] x.work.0 (record { starts = s.work_from; ends = omega (arith, s.work_to); enough = omega arith }))
empty_fits_each x h (suc k) l = absurd (omega arith)
