-- Scheduling points suffice: where a task has a good instant, one of its scheduling points is good.
use Rattle.std.proofs.Common.{◌≡◌, ℕ, ◌*◌, ◌≤◌, true, false, leb, All, List, [], ◌∷◌, inl, inr, one-mul, arith}
use native.Mathlib.Nat.{mul-mod_left}
use Rattle.std.proofs.lemmas.List.Elements.{All-nil, All-cons, All-head, All-tail, All-weaker}
use Rattle.std.proofs.lemmas.Nat.{mul-le}
use Rattle.std.proofs.lemmas.Bool.Decides.{nat_tests}
use Rattle.std.proofs.lemmas.Bool.{and_parts, leb-true, cases_Bool, cases_lt}
use Rattle.tasks.specs.declared.task.Task.{Task}
use Rattle.tasks.specs.Rounding.{up}
use Rattle.tasks.specs.Demand.{work_before, good, periods_exist}
use Rattle.tasks.specs.Instants.{multiple_of_one, point}
use Rattle.tasks.proofs.Roundings.{up_covers, up_least, up_one}
use Rattle.tasks.proofs.Goods.{good_parts, good_from}

-- the parts of a scheduling point
pub record PointAt (x : Task) (above : List Task) (t : ℕ) : Type 0 where
  pub starts : 1 ≤ t
  pub ends : t ≤ x.period.0
  pub multiple : multiple_of_one (x ∷ above) t ≡ true

pub point_parts : (x : Task) (above : List Task) (t : ℕ) → point x above t ≡ true → PointAt x above t
point_parts x above t h = record { starts = grind (arith, nat_tests); ends = grind (arith, nat_tests); multiple = grind (arith, nat_tests) }

pub point_from : (x : Task) (above : List Task) (t : ℕ) → PointAt x above t → point x above t ≡ true
point_from x above t p = grind (arith, nat_tests)

pub not_point : (x : Task) (above : List Task) (t : ℕ) → (PointAt x above t → ⊥) → point x above t ≡ false
not_point x above t h = elim (cases_Bool (point x above t)) [ inl e ↦ absurd (h (point_parts x above t e)) | inr e ↦ e ]

-- the least multiple of a task's period at or after t
abbrev next : ℕ → Task → ℕ
next t y = up t y.period.0 * y.period.0

next_multiple : (t : ℕ) (y : Task) (ys : List Task) → multiple_of_one (y ∷ ys) (next t y) ≡ true
next_multiple t y ys = grind (arith, nat_tests, mul-mod_left (up t y.period.0) y.period.0)

-- the first of those multiples
record Nearest (t : ℕ) (x : Task) (above : List Task) : Type 0 where
  at : ℕ
  multiple : multiple_of_one (x ∷ above) at ≡ true
  from : t ≤ at
  own : at ≤ next t x
  others : All (λ y. at ≤ next t y) above

widen : (m : ℕ) (x y : Task) (ys : List Task) → multiple_of_one (x ∷ ys) m ≡ true → multiple_of_one (x ∷ y ∷ ys) m ≡ true
widen m x y ys h = grind (arith, nat_tests)

nearest : (t : ℕ) (x : Task) (above : List Task) → 1 ≤ x.period.0 → periods_exist above ≡ true → Nearest t x above
nearest t x [] s a = record { at = next t x; multiple = next_multiple t x []; from = up_covers t x.period.0 s; own = omega arith; others = All-nil (λ y. next t x ≤ next t y) }
nearest t x (y ∷ ys) s a = go (and_parts (leb 1 y.period.0) (periods_exist ys) a) (λ p. nearest t x ys s p)
  where
    go : (leb 1 y.period.0 ≡ true) × (periods_exist ys ≡ true) → (periods_exist ys ≡ true → Nearest t x ys) → Nearest t x (y ∷ ys)
    go p ih =
        let r = ih p.1 in
        elim (cases_lt (next t y) r.at) [
          | inl h ↦ record {
            at = next t y;
            multiple = grind (arith, nat_tests, next_multiple t y ys);
            from = up_covers t y.period.0 (leb-true 1 y.period.0 p.0);
            own = omega (arith, r.own);
            others = All-cons (λ z. next t y ≤ next t z) y ys (omega arith) (All-weaker (λ z. r.at ≤ next t z) (λ z. next t y ≤ next t z) (λ z l. omega arith) ys r.others);
          }
          | inr h ↦ record { at = r.at; multiple = widen r.at x y ys r.multiple; from = r.from; own = r.own; others = All-cons (λ z. r.at ≤ next t z) y ys h r.others }
        ]

-- up to there the work asked for stays the same
work_kept : (t m : ℕ) (ys : List Task) → periods_exist ys ≡ true → All (λ y. m ≤ next t y) ys → work_before ys m ≤ work_before ys t
work_kept t m [] a n = omega arith
work_kept t m (y ∷ ys) a n =
    let p = and_parts (leb 1 y.period.0) (periods_exist ys) a in
    let one = up_least m y.period.0 (up t y.period.0) (leb-true 1 y.period.0 p.0) (All-head (λ z. m ≤ next t z) y ys n) in
    let more = mul-le y.work.0 (up m y.period.0) y.work.0 (up t y.period.0) (omega arith) one in
    omega (arith, work_kept t m ys p.1 (All-tail (λ z. m ≤ next t z) y ys n))

pub record GoodPoint (x : Task) (above : List Task) : Type 0 where
  pub at : ℕ
  pub is_point : point x above at ≡ true
  pub is_good : good x above at ≡ true

pub points_suffice : (x : Task) (above : List Task) (t : ℕ) → periods_exist above ≡ true → good x above t ≡ true → GoodPoint x above
points_suffice x above t a h =
    let g = good_parts x above t h in
    let r = nearest t x above (omega (arith, g.starts, g.ends)) a in
    let e : next t x ≡ x.period.0 = rw (up_one t x.period.0 g.starts g.ends) (one-mul x.period.0) in
    record {
      at = r.at;
      is_point = point_from x above r.at (record { starts = omega (arith, r.from, g.starts); ends = omega (arith, r.own); multiple = r.multiple });
      is_good = good_from x above r.at (record { starts = omega (arith, r.from, g.starts); ends = omega (arith, r.own); enough = omega (arith, g.enough, r.from, work_kept t r.at above a r.others) });
    }
