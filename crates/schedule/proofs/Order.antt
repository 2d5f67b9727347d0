-- Rate-monotonic order is optimal among fixed orders, without exchanging tasks one by one: of the tasks up to the one that has no good instant, the one that stands lowest in another order has none there.
use Rattle.std.proofs.Common.{◌≡◌, ℕ, zero, suc, ◌+◌, ◌*◌, ◌<◌, ◌≤◌, true, cond, leb, ◌⊎◌, List, [], ◌∷◌, length, get_or, take, sum_by, sym, refl, ap, ◌∙◌, inl, inr, mul-one, arith, All}
use Rattle.std.specs.List.Sorted.{IsPermutation}
use Rattle.std.proofs.lemmas.Bool.{cases_lt, le-leb, lt-leb, leb-true, cond-true, cond-false, cond_both, and_parts}
use Rattle.std.proofs.lemmas.List.Sums.{sum_by-cons}
use Rattle.std.proofs.lemmas.List.Elements.{All-nil, All-cons, All-head, All-tail}
use Rattle.std.proofs.lemmas.List.Sorted.{sum_by-IsPermutation, IsPermutation-sym, All-permutation}
use Rattle.tasks.specs.declared.task.Task.{Task}
use Rattle.tasks.specs.Rounding.{up}
use Rattle.tasks.specs.Priority.{stands_above, by_priority}
use Rattle.tasks.specs.Demand.{work_before, no_task}
use Rattle.tasks.proofs.Roundings.{up_one}
use Rattle.tasks.proofs.Goods.{Good, good_parts, good_from}
use Rattle.schedule.specs.Places.{Unfit}

-- the work of a task before t, counted only where its period is at most b
abbrev part : ℕ → ℕ → Task → ℕ
part b t u = cond (leb u.period.0 b) (u.work.0 * up t u.period.0) 0

abbrev parts : ℕ → ℕ → List Task → ℕ
parts b t [] = 0
parts b t (u ∷ us) = part b t u + parts b t us

part_in : (b t : ℕ) (u : Task) → u.period.0 ≤ b → part b t u ≡ u.work.0 * up t u.period.0
part_in b t u h = cond-true (leb u.period.0 b) _ _ (le-leb u.period.0 b h)

part_out : (b t : ℕ) (u : Task) → b < u.period.0 → part b t u ≡ 0
part_out b t u h = cond-false (leb u.period.0 b) _ _ (lt-leb u.period.0 b h)

part_le : (b t : ℕ) (u : Task) → part b t u ≤ u.work.0 * up t u.period.0
part_le b t u = cond_both (leb u.period.0 b) (u.work.0 * up t u.period.0) 0 (λ x. x ≤ u.work.0 * up t u.period.0) (λ e. omega arith) (λ e. omega arith)

parts_sum : (b t : ℕ) (us : List Task) → parts b t us ≡ sum_by (part b t) us
parts_sum b t [] = refl
parts_sum b t (u ∷ us) = rw (sum_by-cons (part b t) u us) (ap (λ n. part b t u + n) (parts_sum b t us))

parts_shuffled : (b t : ℕ) (ts us : List Task) → IsPermutation ts us → parts b t us ≡ parts b t ts
parts_shuffled b t ts us h = parts_sum b t us ∙ sum_by-IsPermutation (part b t) ts us h ∙ sym (parts_sum b t ts)

-- those up to place i count whole
parts_front : (b t i : ℕ) (ts : List Task) → i < length ts → ((j : ℕ) → j ≤ i → (get_or ts j no_task).period.0 ≤ b)
    → work_before (take i ts) t + (get_or ts i no_task).work.0 * up t (get_or ts i no_task).period.0 ≤ parts b t ts
parts_front b t i [] l h = absurd (omega arith)
parts_front b t zero (u ∷ us) l h = omega (arith, part_in b t u (h 0 (omega arith)))
parts_front b t (suc i) (u ∷ us) l h =
    omega (arith, part_in b t u (h 0 (omega arith)), parts_front b t i us (omega arith) (λ j g. h (suc j) (omega arith)))

-- the lowest-placed task whose period is at most b
record Lowest (b : ℕ) (us : List Task) : Type 0 where
  at : ℕ
  inside : at < length us
  short : (get_or us at no_task).period.0 ≤ b
  all : (t : ℕ) → parts b t us ≤ work_before (take at us) t + part b t (get_or us at no_task)

none_left : (b t : ℕ) (us : List Task) → All (λ u. b < u.period.0) us → parts b t us ≡ 0
none_left b t [] a = refl
none_left b t (u ∷ us) a = omega (arith, part_out b t u (All-head (λ u. b < u.period.0) u us a), none_left b t us (All-tail (λ u. b < u.period.0) u us a))

lowest : (b : ℕ) (us : List Task) → All (λ u. b < u.period.0) us ⊎ Lowest b us
lowest b [] = inl (All-nil (λ (u : Task). b < u.period.0))
lowest b (u ∷ us) = go (lowest b us)
  where
    go : All (λ v. b < v.period.0) us ⊎ Lowest b us → All (λ v. b < v.period.0) (u ∷ us) ⊎ Lowest b (u ∷ us)
    go (inl a) = elim (cases_lt b u.period.0) [
      | inl h ↦ inl (All-cons (λ v. b < v.period.0) u us h a)
      | inr h ↦ inr (record { at = 0; inside = omega arith; short = h; all = λ t. omega (arith, none_left b t us a) })
    ]
    go (inr r) = inr (record { at = suc r.at; inside = omega (arith, r.inside); short = r.short; all = λ t. omega (arith, r.all t, part_le b t u) })

-- in priority order no earlier period is larger
pub periods_rise : (ts : List Task) → by_priority ts ≡ true → (j i : ℕ) → j ≤ i → i < length ts → (get_or ts j no_task).period.0 ≤ (get_or ts i no_task).period.0
periods_rise [] h j i a b = absurd (omega arith)
periods_rise (y ∷ []) h zero zero a b = omega arith
periods_rise (y ∷ []) h zero (suc i) a b = absurd (omega arith)
periods_rise (y ∷ []) h (suc j) i a b = absurd (omega arith)
periods_rise (y ∷ (x ∷ xs)) h zero zero a b = omega arith
periods_rise (y ∷ (x ∷ xs)) h zero (suc i) a b =
    let p = and_parts (stands_above y x) (by_priority (x ∷ xs)) h in
    omega (arith, leb-true y.period.0 x.period.0 p.0, periods_rise (x ∷ xs) p.1 0 i (omega arith) (omega arith))
periods_rise (y ∷ (x ∷ xs)) h (suc j) zero a b = absurd (omega arith)
periods_rise (y ∷ (x ∷ xs)) h (suc j) (suc i) a b = periods_rise (x ∷ xs) (and_parts (stands_above y x) (by_priority (x ∷ xs)) h).1 j i (omega arith) (omega arith)

pub no_order_fits : (ts us : List Task) → by_priority ts ≡ true → IsPermutation ts us → Unfit ts → Unfit us
no_order_fits ts us sorted sh (i, l, bad) = go (lowest b us)
  where
    b : ℕ
    b = (get_or ts i no_task).period.0

    go : All (λ u. b < u.period.0) us ⊎ Lowest b us → Unfit us
    go (inl a) = absurd (omega (arith, All-permutation (λ u. b < u.period.0) us ts (IsPermutation-sym ts us sh) a i no_task l))
    go (inr r) = (r.at, r.inside, λ g. bad (g.0, good_from (get_or ts i no_task) (take i ts) g.0 (fits g.0 (good_parts (get_or us r.at no_task) (take r.at us) g.0 g.1))))
      where
        fits : (t : ℕ) → Good (get_or us r.at no_task) (take r.at us) t → Good (get_or ts i no_task) (take i ts) t
        fits t g =
            let e : up t b ≡ 1 = up_one t b g.starts (omega (arith, g.ends, r.short)) in
            let f : up t (get_or us r.at no_task).period.0 ≡ 1 = up_one t (get_or us r.at no_task).period.0 g.starts g.ends in
            let front = parts_front b t i ts l (λ j k. periods_rise ts sorted j i k l) in
            let me : (get_or ts i no_task).work.0 * up t b ≡ (get_or ts i no_task).work.0 = rw e (mul-one (get_or ts i no_task).work.0) in
            let you : (get_or us r.at no_task).work.0 * up t (get_or us r.at no_task).period.0 ≡ (get_or us r.at no_task).work.0 = rw f (mul-one (get_or us r.at no_task).work.0) in
            record { starts = g.starts; ends = omega (arith, g.ends, r.short); enough = omega (arith, g.enough, front, parts_shuffled b t ts us sh, r.all t, part_le b t (get_or us r.at no_task)) }
