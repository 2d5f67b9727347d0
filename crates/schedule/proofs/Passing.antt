-- The two parts of the published theorem.
use Rattle.std.proofs.Common.{◌≡◌, ℕ, ◌<◌, true, ◌⊎◌, List, length, get_or, take, refl, inl, inr, arith}
use Rattle.std.proofs.lemmas.Bool.{cases_lt}
use Rattle.std.proofs.lemmas.List.Elements.{All-take}
use Rattle.tasks.specs.declared.task.Task.{Task}
use Rattle.tasks.specs.Limits.{all_within}
use Rattle.tasks.specs.Demand.{no_task, FitsAt}
use Rattle.tasks.proofs.Bounds.{Limits, all_limits}
use Rattle.schedule.specs.Places.{NeverMissesAt}
use Rattle.schedule.specs.Published.{PassesAt, OneTask, WholeList}
use Rattle.schedule.proofs.Enough.{fitting_place_is_safe}
use Rattle.schedule.proofs.Needed.{unfit_front_can_miss}
use Rattle.schedule.proofs.Exactly.{good_or_none, fits_exactly_when_safe}
use Rattle.schedule.proofs.PublishedTest.{good_passes, passes_good}

fits_passes : (ts : List Task) → all_within ts ≡ true → (k : ℕ) → k < length ts → FitsAt ts k → PassesAt ts k
fits_passes ts h k l f = let s = all_limits ts h in good_passes (get_or ts k no_task) (take k ts) (All-take Limits k ts s) f

passes_fits : (ts : List Task) (k : ℕ) → PassesAt ts k → FitsAt ts k
passes_fits ts k p = passes_good (get_or ts k no_task) (take k ts) p

pub one_task : OneTask
one_task ts h k l above = (λ p. fitting_place_is_safe ts h k l (passes_fits ts k p), λ safe. back safe (good_or_none (get_or ts k no_task) (take k ts)))
  where
    back : NeverMissesAt ts k → FitsAt ts k ⊎ (FitsAt ts k → ⊥) → PassesAt ts k
    back safe (inl f) = fits_passes ts h k l f
    back safe (inr bad) =
        let c = unfit_front_can_miss ts h k l bad in
        elim (cases_lt c.0.it.place k) [
          | inl j ↦ absurd (fitting_place_is_safe ts h c.0.it.place (omega arith) (passes_fits ts c.0.it.place (above c.0.it.place j)) c.0.horizon c.0.releases c.0.allowed c.0.it c.0.misses refl)
          | inr j ↦ absurd (safe c.0.horizon c.0.releases c.0.allowed c.0.it c.0.misses (omega (arith, c.1)))
        ]

pub whole_list : WholeList
whole_list ts h = (λ p. (fits_exactly_when_safe ts h).0 (λ k l. passes_fits ts k (p k l)), λ safe k l. fits_passes ts h k l ((fits_exactly_when_safe ts h).1 safe k l))
