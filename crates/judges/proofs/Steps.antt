-- The steps of the step-up judge lead to the least good instant and stand still there, or pass T.
use Rattle.std.proofs.Common.{◌≡◌, ℕ, zero, suc, ◌*◌, ◌<◌, ◌≤◌, true, false, leb, ◌⊎◌, List, [], ◌∷◌, Some, None, Option, sum_by, refl, sym, ◌∙◌, ap, inl, inr, mul-one, arith}
use Rattle.std.proofs.lemmas.List.Sums.{sum_by-cons}
use Rattle.std.proofs.lemmas.Bool.{and_parts, leb-true, cases_Bool, cases_lt, both_ways}
use Rattle.tasks.specs.declared.task.Task.{Task}
use Rattle.tasks.specs.declared.units.Ticks.{Ticks}
use Rattle.tasks.specs.Rounding.{up}
use Rattle.tasks.specs.Units.{units_in, ticks_for, one_a_tick}
use Rattle.tasks.specs.Demand.{work_before, demand, good, periods_exist}
use Rattle.tasks.proofs.Roundings.{up_one, up_least, up_covers}
use Rattle.tasks.proofs.Bounds.{limits}
use Rattle.tasks.proofs.Goods.{good_parts, good_from, work_mono, limits_exist}
use Rattle.tasks.proofs.Leasts.{NoneBelow, LeastOf}
use Rattle.judges.specs.Laws.{asked}
use Rattle.judges.specs.Meanings.{least_good_instant}
use Rattle.judges.specs.Choosing.{asked_parts, chosen, not_chosen}
use Rattle.judges.specs.Steps.{all_works, after_steps, Reached, StepsStandStill, StepsPassPeriod}
use Rattle.judges.proofs.Chosen.{choice_some}

-- a tick for each unit
one_each : (w : ℕ) → ticks_for one_a_tick w ≡ w
one_each w = omega (arith, up_covers w 1 (omega arith), mul-one (up w 1), up_least w 1 w (omega arith) (omega (arith, mul-one w)))

-- at instant 1 each task above asks for its work once
works_at_one : (ys : List Task) → periods_exist ys ≡ true → work_before ys 1 ≡ sum_by (λ y. y.work.0) ys
works_at_one [] h = omega arith
works_at_one (y ∷ ys) h =
    let p = and_parts (leb 1 y.period.0) (periods_exist ys) h in
    let once : up 1 y.period.0 ≡ 1 = up_one 1 y.period.0 (omega arith) (leb-true 1 y.period.0 p.0) in
    omega (arith, works_at_one ys p.1, sum_by-cons (λ (z : Task). z.work.0) y ys, ap (λ n. y.work.0 * n) once, mul-one y.work.0)

module _ (x : Task) (above : List Task) (h : asked x above ≡ true) where
  exist : periods_exist above ≡ true
  exist = limits_exist above (asked_parts x above h).others

  some_work : 1 ≤ x.work.0
  some_work = (limits x (asked_parts x above h).own).work_from

  rises : (t u : ℕ) → t ≤ u → demand x above t ≤ demand x above u
  rises t u l = omega (arith, work_mono above t u exist l)

  first : after_steps x above 0 ≡ demand x above 1
  first = omega (arith, one_each (all_works x above), sum_by-cons (λ (z : Task). z.work.0) x above, works_at_one above exist)

  next : (n : ℕ) → after_steps x above (suc n) ≡ demand x above (after_steps x above n)
  next n = one_each (demand x above (after_steps x above n))

  -- the steps never pass an instant whose demand is done
  below : (v : ℕ) → 1 ≤ v → demand x above v ≤ v → (n : ℕ) → after_steps x above n ≤ v
  below v s d zero = omega (arith, first, rises 1 v s)
  below v s d (suc n) = omega (arith, next n, rises (after_steps x above n) v (below v s d n))

  from_one : (n : ℕ) → 1 ≤ after_steps x above n
  from_one zero = omega (arith, first, some_work)
  from_one (suc n) = omega (arith, next n, some_work)

  -- an instant up to T that is not good has a demand that is not done
  beyond : (u : ℕ) → 1 ≤ u → u ≤ x.period.0 → good x above u ≡ false → u < demand x above u
  beyond u s e f = elim (cases_lt u (demand x above u)) [
    | inl m ↦ m
    | inr m ↦ absurd (both_ways (good x above u) f (good_from x above u (record { starts = s; ends = e; enough = omega arith })))
  ]

  module _ (t : ℕ) (l : LeastOf (good x above) x.period.0 t) where
    not_done : (u : ℕ) → 1 ≤ u → u < t → u < demand x above u
    not_done u s b = beyond u s (omega (arith, l.to)) (l.first u s b)

    done : demand x above t ≤ t
    done = omega (arith, (good_parts x above t l.passes).enough)

    still : demand x above t ≡ t
    still = elim (cases_lt (demand x above t) t) [
      | inl b ↦ absurd (omega (arith, not_done (demand x above t) (omega (arith, some_work)) b, rises (demand x above t) t (omega arith)))
      | inr b ↦ omega (arith, done)
    ]

    stays : (n : ℕ) → after_steps x above n ≡ t → after_steps x above (suc n) ≡ t
    stays n e = next n ∙ (ap (λ u. demand x above u) e ∙ still)

    -- each step gains a tick, until it stands still
    gains : (n : ℕ) → (after_steps x above n ≡ t) ⊎ (n < after_steps x above n)
    gains zero = inr (from_one 0)
    gains (suc n) = go (gains n)
      where
        go : (after_steps x above n ≡ t) ⊎ (n < after_steps x above n) → (after_steps x above (suc n) ≡ t) ⊎ (suc n < after_steps x above (suc n))
        go (inl e) = inl (stays n e)
        go (inr m) = elim (cases_lt (after_steps x above n) t) [
          | inl b ↦ inr (omega (arith, next n, not_done (after_steps x above n) (from_one n) b))
          | inr b ↦ inl (stays n (omega (arith, below t l.from done n)))
        ]

    reached : Reached x above t
    reached = (t, elim (gains t) [ inl e ↦ e | inr m ↦ absurd (omega (arith, below t l.from done t)) ])

  -- where nothing is good, they gain a tick each until they pass T
  leaves : NoneBelow (good x above) (suc x.period.0) → (n : ℕ) → ((steps : ℕ) × (x.period.0 < after_steps x above steps)) ⊎ (n < after_steps x above n)
  leaves f zero = inr (from_one 0)
  leaves f (suc n) = go (leaves f n)
    where
      go : ((steps : ℕ) × (x.period.0 < after_steps x above steps)) ⊎ (n < after_steps x above n) → ((steps : ℕ) × (x.period.0 < after_steps x above steps)) ⊎ (suc n < after_steps x above (suc n))
      go (inl e) = inl e
      go (inr m) = elim (cases_lt x.period.0 (after_steps x above n)) [
        | inl b ↦ inl (n, b)
        | inr b ↦ inr (omega (arith, next n, beyond (after_steps x above n) (from_one n) b (f (after_steps x above n) (from_one n) (omega (arith, b)))))
      ]

  least_from : (t : ℕ) → t ≤ x.period.0 → demand x above t ≡ t → Reached x above t → LeastOf (good x above) x.period.0 t
  least_from t b d (n, e) = record {
    from = omega (arith, some_work, d);
    to = b;
    passes = good_from x above t (record { starts = omega (arith, some_work, d); ends = b; enough = omega (arith, d) });
    first = λ u s m. elim (cases_Bool (good x above u)) [
      | inl g ↦ absurd (omega (arith, e, below u s (omega (arith, (good_parts x above u g).enough)) n))
      | inr g ↦ g
    ];
  }

pub steps_stand_still : StepsStandStill
steps_stand_still x above h t = (there, back)
  where
    there : least_good_instant x above ≡ Some t → (t.0 ≤ x.period.0) × (demand x above t.0 ≡ units_in one_a_tick t.0) × Reached x above t.0
    there e = let l = chosen good x above t e in (l.to, omega (arith, still x above h t.0 l), reached x above h t.0 l)

    back : (t.0 ≤ x.period.0) × (demand x above t.0 ≡ units_in one_a_tick t.0) × Reached x above t.0 → least_good_instant x above ≡ Some t
    back p = sym (choice_some good x above h t.0 (least_from x above h t.0 p.0 (omega (arith, p.1)) p.2))

pub steps_pass_period : StepsPassPeriod
steps_pass_period x above h = (there, back (least_good_instant x above) refl)
  where
    there : least_good_instant x above ≡ None → (steps : ℕ) × (x.period.0 < after_steps x above steps)
    there e = elim (leaves x above h (not_chosen good x above h e) x.period.0) [ inl p ↦ p | inr m ↦ (x.period.0, m) ]

    back : (o : Option Ticks) → least_good_instant x above ≡ o → (steps : ℕ) × (x.period.0 < after_steps x above steps) → least_good_instant x above ≡ None
    back None e p = e
    back (Some t) e p = let l = chosen good x above t e in absurd (omega (arith, p.1, l.to, below x above h t.0 l.from (done x above h t.0 l) p.0))
