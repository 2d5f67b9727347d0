-- Good instants, part by part; and what a demand says of the instants after it.
use Rattle.std.proofs.Common.{◌≡◌, ℕ, ◌<◌, ◌≤◌, true, false, leb, nat_le, List, [], ◌∷◌, inl, inr, arith}
use Rattle.std.proofs.lemmas.Nat.{mul-le}
use Rattle.std.proofs.lemmas.List.Elements.{All-weaker}
use Rattle.std.proofs.lemmas.List.Sums.{list_all-from_AllPass}
use Rattle.std.proofs.lemmas.Bool.Decides.{nat_tests}
use Rattle.std.proofs.lemmas.Bool.{and_parts, leb-true, le-leb, cases_Bool}
use Rattle.tasks.specs.declared.task.Task.{Task}
use Rattle.tasks.specs.Rounding.{up}
use Rattle.tasks.specs.Units.{units_in, one_a_tick}
use Rattle.tasks.specs.Limits.{all_within}
use Rattle.tasks.specs.Demand.{work_before, demand, good, periods_exist}
use Rattle.tasks.proofs.Roundings.{up_mono}
use Rattle.tasks.proofs.Bounds.{Limits, all_limits}

pub record Good (x : Task) (above : List Task) (t : ℕ) : Type 0 where
  pub starts : 1 ≤ t
  pub ends : t ≤ x.period.0
  pub enough : demand x above t ≤ units_in one_a_tick t

pub good_parts : (x : Task) (above : List Task) (t : ℕ) → good x above t ≡ true → Good x above t
good_parts x above t h = record { starts = grind (arith, nat_tests); ends = grind (arith, nat_tests); enough = grind (arith, nat_tests) }

pub good_from : (x : Task) (above : List Task) (t : ℕ) → Good x above t → good x above t ≡ true
good_from x above t g = grind (arith, nat_tests)

pub not_good : (x : Task) (above : List Task) (t : ℕ) → (Good x above t → ⊥) → good x above t ≡ false
not_good x above t h = elim (cases_Bool (good x above t)) [ inl e ↦ absurd (h (good_parts x above t e)) | inr e ↦ e ]

-- tasks within the limits have periods
pub limits_exist : (ys : List Task) → all_within ys ≡ true → periods_exist ys ≡ true
limits_exist ys h = list_all-from_AllPass (λ y. nat_le 1 y.period.0) ys (All-weaker Limits (λ y. nat_le 1 y.period.0 ≡ true) (λ y l. le-leb 1 y.period.0 l.period_from) ys (all_limits ys h))

-- the demand never falls
pub work_mono : (ys : List Task) (t u : ℕ) → periods_exist ys ≡ true → t ≤ u → work_before ys t ≤ work_before ys u
work_mono [] t u h l = omega arith
work_mono (y ∷ ys) t u h l =
    let p = and_parts (leb 1 y.period.0) (periods_exist ys) h in
    let one = up_mono t u y.period.0 (leb-true 1 y.period.0 p.0) l in
    let more = mul-le y.work.0 (up t y.period.0) y.work.0 (up u y.period.0) (omega arith) one in
    omega (arith, work_mono ys t u p.1 l)

-- so none that does less than the demand at t is good, from t on
pub skipped : (x : Task) (above : List Task) (t u : ℕ) → periods_exist above ≡ true → t ≤ u → units_in one_a_tick u < demand x above t → good x above u ≡ false
skipped x above t u p l h = not_good x above u (λ g. omega (arith, g.enough, work_mono above t u p l))
