-- A list fits exactly when nothing can miss, and in priority order fails to fit exactly when each order can miss.
use Rattle.std.proofs.Common.{◌≡◌, ℕ, zero, suc, ◌<◌, ◌≤◌, true, ◌⊎◌, List, length, get_or, take, Some, None, Option, sym, ◌∙◌, subst, inl, inr, arith}
use Rattle.std.specs.List.Sorted.{IsPermutation}
use Rattle.std.proofs.lemmas.Bool.{cases_lt, both_ways}
use Rattle.std.proofs.lemmas.List.Sorted.{IsPermutation-refl, All-permutation}
use Rattle.std.proofs.lemmas.List.Sums.{AllPass-from_list_all, list_all-from_AllPass}
use Rattle.tasks.specs.declared.task.Task.{Task}
use Rattle.tasks.specs.declared.units.Ticks.{Ticks}
use Rattle.tasks.specs.Instants.{least}
use Rattle.tasks.specs.Limits.{within_limits, all_within}
use Rattle.tasks.specs.Demand.{good, no_task, FitsAt, Fits}
use Rattle.machine.specs.Promises.{NeverMisses, CanMiss}
use Rattle.tasks.proofs.Leasts.{Least_is, least_is}
use Rattle.tasks.proofs.Goods.{good_parts}
use Rattle.schedule.specs.Places.{Unfit}
use Rattle.schedule.specs.Orders.{FitsOrNot, PriorityOrderIsBest, PriorityOrderIsOptimal, FitsExactlyWhenSafe, UnfitExactlyWhenCanMiss, UnfitExactlyWhenNoOrder}
use Rattle.schedule.proofs.Runs.{some_none}
use Rattle.schedule.proofs.Enough.{fitting_list_is_safe}
use Rattle.schedule.proofs.Needed.{unfit_can_miss}
use Rattle.schedule.proofs.Order.{no_order_fits}

-- a task has a good instant, or none
pub good_or_none : (x : Task) (above : List Task) → ((t : ℕ) × (good x above t ≡ true)) ⊎ ((t : ℕ) × (good x above t ≡ true) → ⊥)
good_or_none x above = go (least (good x above) x.period.0) (least_is (good x above) x.period.0)
  where
    go : (o : Option Ticks) → Least_is (good x above) x.period.0 o → ((t : ℕ) × (good x above t ≡ true)) ⊎ ((t : ℕ) × (good x above t ≡ true) → ⊥)
    go (Some t) h = inl (t.0, h.passes)
    go None h = inr (λ g. let q = good_parts x above g.0 g.1 in both_ways (good x above g.0) (h g.0 q.starts (omega (arith, q.ends))) g.1)

fits_below : (ts : List Task) (n : ℕ) → n ≤ length ts → ((k : ℕ) → k < n → FitsAt ts k) ⊎ Unfit ts
fits_below ts zero l = inl (λ k h. absurd (omega arith))
fits_below ts (suc n) l = go (good_or_none (get_or ts n no_task) (take n ts)) (fits_below ts n (omega arith))
  where
    go : FitsAt ts n ⊎ (FitsAt ts n → ⊥) → ((k : ℕ) → k < n → FitsAt ts k) ⊎ Unfit ts → ((k : ℕ) → k < suc n → FitsAt ts k) ⊎ Unfit ts
    go (inr b) ih = inr (n, l, b)
    go (inl f) (inr m) = inr m
    go (inl f) (inl h) = inl (λ k i. elim (cases_lt k n) [
      | inl j ↦ h k j
      | inr j ↦ let e : n ≡ k = omega arith in subst (λ z. FitsAt ts z) e f
    ])

pub fits_or_not : FitsOrNot
fits_or_not ts = fits_below ts (length ts) (omega arith)

pub unfit_from : (ts : List Task) → (Fits ts → ⊥) → Unfit ts
unfit_from ts bad = elim (fits_or_not ts) [ inl f ↦ absurd (bad f) | inr m ↦ m ]

pub cannot_miss : (ts : List Task) → NeverMisses ts → CanMiss ts → ⊥
cannot_miss ts safe m = some_none m.it (sym m.misses ∙ safe m.horizon m.releases m.allowed)

pub fits_exactly_when_safe : FitsExactlyWhenSafe
fits_exactly_when_safe ts h = (fitting_list_is_safe ts h, λ safe. elim (fits_or_not ts) [ inl f ↦ f | inr m ↦ absurd (cannot_miss ts safe (unfit_can_miss ts h m)) ])

pub unfit_exactly_when_can_miss : UnfitExactlyWhenCanMiss
unfit_exactly_when_can_miss ts h = (λ bad. unfit_can_miss ts h (unfit_from ts bad), λ m f. cannot_miss ts (fitting_list_is_safe ts h f) m)

-- the limits hold in each order
pub within_shuffled : (ts us : List Task) → IsPermutation ts us → all_within ts ≡ true → all_within us ≡ true
within_shuffled ts us sh h = list_all-from_AllPass within_limits us (All-permutation (λ x. within_limits x ≡ true) ts us sh (AllPass-from_list_all within_limits ts h))

pub priority_order_is_best : PriorityOrderIsBest
priority_order_is_best ts us sorted sh bad f = let m = no_order_fits ts us sorted sh (unfit_from ts bad) in m.2 (f m.0 m.1)

pub priority_order_is_optimal : PriorityOrderIsOptimal
priority_order_is_optimal ts us h sorted sh safe = fitting_list_is_safe ts h
    (elim (fits_or_not ts) [ inl f ↦ f | inr m ↦ absurd (cannot_miss us safe (unfit_can_miss us (within_shuffled ts us sh h) (no_order_fits ts us sorted sh m))) ])

pub unfit_exactly_when_no_order : UnfitExactlyWhenNoOrder
unfit_exactly_when_no_order ts h sorted = (
  λ bad us sh. unfit_can_miss us (within_shuffled ts us sh h) (no_order_fits ts us sorted sh (unfit_from ts bad)),
  λ each f. cannot_miss ts (fitting_list_is_safe ts h f) (each ts (IsPermutation-refl ts)),
)
