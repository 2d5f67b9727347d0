-- The next scheduling point from an instant on.
use Rattle.std.proofs.Common.{◌≡◌, ℕ, ◌+◌, ◌*◌, ◌/◌, ◌%◌, ◌<◌, ◌≤◌, min, true, false, ◌||◌, ◌==◌, ◌⊎◌, List, [], ◌∷◌, ◌++◌, length, get_or, take, sym, subst, inl, inr, mod-eq_of_lt, div-add-mod', arith}
use native.Mathlib.Nat.{mul-mod_left, mod_self}
use Rattle.std.proofs.lemmas.Nat.{mul-le}
use Rattle.std.proofs.lemmas.List.{take_more}
use Rattle.std.proofs.lemmas.List.Folds.{list_any-append}
use Rattle.std.proofs.lemmas.Bool.Decides.{nat_tests}
use Rattle.std.proofs.lemmas.Bool.{cases_lt, cases_Bool, both_ways}
use Rattle.tasks.specs.declared.task.Task.{Task}
use Rattle.tasks.specs.Rounding.{up}
use Rattle.tasks.specs.Demand.{no_task}
use Rattle.tasks.specs.Instants.{multiple_of_one, point}
use Rattle.tasks.proofs.Roundings.{up_covers, up_least}
use Rattle.tasks.proofs.Points.{PointAt, point_parts, point_from, not_point}

-- a multiple of the period of one of the tasks, with one more task at the end
multiple_end : (ys : List Task) (y : Task) (t : ℕ) → multiple_of_one (ys ++ y ∷ []) t ≡ (multiple_of_one ys t || (t % y.period.0 == 0 || false))
multiple_end ys y t = list_any-append (λ z. t % z.period.0 == 0) ys (y ∷ [])

multiple_push : (ys : List Task) (y : Task) (t : ℕ) → multiple_of_one (ys ++ y ∷ []) t ≡ true → (multiple_of_one ys t ≡ true) ⊎ (t % y.period.0 ≡ 0)
multiple_push ys y t h = elim (cases_Bool (multiple_of_one ys t)) [ inl e ↦ inl e | inr e ↦ inr (grind (arith, nat_tests, multiple_end ys y t, e)) ]

multiple_old : (ys : List Task) (y : Task) (t : ℕ) → multiple_of_one ys t ≡ true → multiple_of_one (ys ++ y ∷ []) t ≡ true
multiple_old ys y t h = grind (arith, nat_tests, multiple_end ys y t)

multiple_new : (ys : List Task) (y : Task) (t : ℕ) → t % y.period.0 ≡ 0 → multiple_of_one (ys ++ y ∷ []) t ≡ true
multiple_new ys y t h = grind (arith, nat_tests, multiple_end ys y t)

-- no multiple of p lies from t up to below the least one at or after t
none_between : (p t u : ℕ) → 1 ≤ p → t ≤ u → u < up t p * p → u % p ≡ 0 → ⊥
none_between p t u pos lo hi m =
    let e : u ≡ u / p * p = omega (arith, div-add-mod' u p) in
    let l : up t p ≤ u / p = up_least t p (u / p) pos (omega arith) in
    omega (arith, mul-le (up t p) p (u / p) p l (omega arith))

-- `next` is the first point at or after `from`
pub record NextPoint (x : Task) (above : List Task) (from next : ℕ) : Type 0 where
  pub is : point x above next ≡ true
  pub not_before : from ≤ next
  pub none : (u : ℕ) → from ≤ u → u < next → point x above u ≡ false

-- of its own period the task has only T
pub next_own : (x : Task) (from : ℕ) → 1 ≤ from → from ≤ x.period.0 → NextPoint x [] from x.period.0
next_own x from a b = record {
  is = point_from x [] x.period.0 (record { starts = omega arith; ends = omega arith; multiple = grind (arith, nat_tests, mod_self x.period.0) });
  not_before = b;
  none = λ u lo hi. not_point x [] u (λ p. grind (arith, nat_tests, p.multiple, p.starts, mod-eq_of_lt hi));
}

-- with one more task, the earlier of the old point and that task's first multiple
pub next_more : (x : Task) (above : List Task) (i from next : ℕ) → i < length above → 1 ≤ from → 1 ≤ (get_or above i no_task).period.0
    → NextPoint x (take i above) from next → NextPoint x (take (i + 1) above) from (min next (up from (get_or above i no_task).period.0 * (get_or above i no_task).period.0))
next_more x above i from next l first pos n = subst (λ (ys : List Task). NextPoint x ys from (min next m)) (sym (take_more above i no_task l)) (elim (cases_lt m next) [
  | inl h ↦ let e : min next m ≡ m = omega arith in subst (NextPoint x (old ++ y ∷ []) from) (sym e) (record {
    is = point_from x (old ++ y ∷ []) m (record { starts = omega (arith, covers); ends = omega (arith, was.ends); multiple = multiple_new (x ∷ old) y m (mul-mod_left (up from p) p) });
    not_before = covers;
    none = none m (omega arith) (omega arith);
  })
  | inr h ↦ let e : min next m ≡ next = omega arith in subst (NextPoint x (old ++ y ∷ []) from) (sym e) (record {
    is = point_from x (old ++ y ∷ []) next (record { starts = was.starts; ends = was.ends; multiple = multiple_old (x ∷ old) y next was.multiple });
    not_before = n.not_before;
    none = none next (omega arith) h;
  })
])
  where
    y : Task
    y = get_or above i no_task

    old : List Task
    old = take i above

    p : ℕ
    p = y.period.0

    m : ℕ
    m = up from p * p

    covers : from ≤ m
    covers = up_covers from p pos

    was : PointAt x old next
    was = point_parts x old next n.is

    none : (end : ℕ) → end ≤ next → end ≤ m → (u : ℕ) → from ≤ u → u < end → point x (old ++ y ∷ []) u ≡ false
    none end a b u lo hi = not_point x (old ++ y ∷ []) u (λ q. elim (multiple_push (x ∷ old) y u q.multiple) [
      | inl e ↦ both_ways (point x old u) (n.none u lo (omega arith)) (point_from x old u (record { starts = q.starts; ends = q.ends; multiple = e }))
      | inr e ↦ none_between p from u pos lo (omega arith) e
    ])
