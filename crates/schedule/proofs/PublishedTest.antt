-- The published test: its W(t), its scheduling points, and who passes it.
use Rattle.std.proofs.Common.{◌≡◌, ℕ, ◌*◌, ◌/◌, ◌%◌, ◌<◌, ◌≤◌, true, eqb, leb, List, ◌∷◌, length, get_or, sym, subst, inl, inr, div-add-mod', le-div_iff_mul-le, zero-mul, mul-one, arith, All, ap, ◌∙◌}
use native.Mathlib.Nat.{mul-mod_left}
use Rattle.std.proofs.lemmas.Bool.{cases_lt, eqb-true, eq-eqb, le-leb}
use Rattle.std.proofs.lemmas.Nat.{mul-le}
use Rattle.std.proofs.lemmas.List.Elements.{All-get_or, All-tail}
use Rattle.std.proofs.lemmas.List.Sums.{list_all-from_AllPass}
use Rattle.std.proofs.lemmas.List.Folds.{Any-from_list_any, list_any_at}
use Rattle.std.proofs.lemmas.List.{get_or_default}
use Rattle.tasks.specs.declared.task.Task.{Task}
use Rattle.tasks.specs.Rounding.{up}
use Rattle.tasks.specs.Demand.{good, no_task, periods_exist}
use Rattle.tasks.specs.Instants.{multiple_of_one, point}
use Rattle.tasks.proofs.Roundings.{up_covers, up_least, up_one}
use Rattle.tasks.proofs.Bounds.{Limits, all_limits}
use Rattle.tasks.proofs.Goods.{good_parts, good_from}
use Rattle.tasks.proofs.Points.{point_parts, point_from, points_suffice as good_point}
use Rattle.schedule.specs.Published.{UpIsTheCeiling, DemandIsTotalWork, InPublishedSet, PointsArePublished, PointsSuffice, Passes}

-- within the limits periods exist
pub periods_from : (ys : List Task) → All Limits ys → periods_exist ys ≡ true
periods_from ys a = list_all-from_AllPass (λ (y : Task). leb 1 y.period.0) ys (λ k d lt. le-leb 1 (get_or ys k d).period.0 (a k d lt).period_from)

pub points_suffice : PointsSuffice
points_suffice x above h = (λ g. let p = good_point x above g.0 (periods_from above (All-tail Limits x above (all_limits (x ∷ above) h))) g.1 in (p.at, p.is_point, p.is_good), λ p. (p.0, p.2))

pub up_is_the_ceiling : UpIsTheCeiling
up_is_the_ceiling n d m h = (λ l. omega (arith, up_covers n d h, mul-le (up n d) d m d l (omega arith)), up_least n d m h)

pub demand_is_total_work : DemandIsTotalWork
demand_is_total_work x above t a b =
    let e : x.work.0 * up t x.period.0 ≡ x.work.0 = rw (up_one t x.period.0 a b) (mul-one x.work.0) in
    omega arith

-- which period it is a multiple of
multiple_find : (ys : List Task) (t : ℕ) → multiple_of_one ys t ≡ true → (j : ℕ) × (j < length ys) × (t % (get_or ys j no_task).period.0 ≡ 0)
multiple_find ys t h =
    let a = Any-from_list_any (λ (y : Task). eqb (t % y.period.0) 0) ys h in
    (a.0, a.2, eqb-true (t % (get_or ys a.0 no_task).period.0) 0 (ap (λ (y : Task). eqb (t % y.period.0) 0) (get_or_default ys a.0 no_task a.1 a.2 ∙ a.3) ∙ a.4))

multiple_from : (ys : List Task) (t j : ℕ) → j < length ys → t % (get_or ys j no_task).period.0 ≡ 0 → multiple_of_one ys t ≡ true
multiple_from ys t j l e = list_any_at (λ (y : Task). eqb (t % y.period.0) 0) ys j no_task l (eq-eqb (t % (get_or ys j no_task).period.0) 0 e)

pub points_are_published : PointsArePublished
points_are_published x above t h = (to, from)
  where
    s : All Limits (x ∷ above)
    s = all_limits (x ∷ above) h

    to : point x above t ≡ true → InPublishedSet x above t
    to p =
        let q = point_parts x above t p in
        let r = multiple_find (x ∷ above) t q.multiple in
        let T : ℕ = (get_or (x ∷ above) r.0 no_task).period.0 in
        let pos : 1 ≤ T = (All-get_or Limits (x ∷ above) r.0 no_task r.1 s).period_from in
        let e : t ≡ t / T * T = omega (arith, div-add-mod' t T, r.2) in
        record {
          of = r.0;
          inside = r.1;
          k = t / T;
          from = elim (cases_lt 0 (t / T)) [ inl l ↦ l | inr l ↦ let z : t / T ≡ 0 = omega arith in absurd (omega (arith, q.starts, rw z at e, zero-mul T)) ];
          to = (le-div_iff_mul-le pos).1 (omega (arith, q.ends));
          is = e;
        }

    from : InPublishedSet x above t → point x above t ≡ true
    from r =
        let T : ℕ = (get_or (x ∷ above) r.of no_task).period.0 in
        let pos : 1 ≤ T = (All-get_or Limits (x ∷ above) r.of no_task r.inside s).period_from in
        let most : r.k * T ≤ x.period.0 = (le-div_iff_mul-le pos).0 r.to in
        let some : 1 * 1 ≤ r.k * T = mul-le 1 1 r.k T r.from pos in
        point_from x above t (record {
          starts = omega (arith, r.is);
          ends = omega (arith, r.is);
          multiple = multiple_from (x ∷ above) t r.of r.inside (subst (λ z. z % T ≡ 0) (sym r.is) (mul-mod_left r.k T));
        })

-- A task passes the published test exactly when it has a good instant.
pub good_passes : (x : Task) (above : List Task) → All Limits above → (t : ℕ) × (good x above t ≡ true) → Passes x above
good_passes x above a g =
    let p = good_point x above g.0 (periods_from above a) g.1 in
    let q = good_parts x above p.at p.is_good in
    (p.at, p.is_point, omega (arith, q.enough, demand_is_total_work x above p.at q.starts q.ends))

pub passes_good : (x : Task) (above : List Task) → Passes x above → (t : ℕ) × (good x above t ≡ true)
passes_good x above (t, p, w) =
    let q = point_parts x above t p in
    (t, good_from x above t (record { starts = q.starts; ends = q.ends; enough = omega (arith, w, demand_is_total_work x above t q.starts q.ends) }))
