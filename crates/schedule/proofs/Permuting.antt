-- Permutations: lists with the same tasks, each as often; and a newcomer in its place.
use Rattle.std.proofs.Common.{◌≡◌, ℕ, ◌+◌, ◌≤◌, Bool, true, false, cond, ◌&&◌, eqb, ◌⊎◌, List, [], ◌∷◌, ◌++◌, count_by, sym, refl, ap, ◌∙◌, subst, inl, inr, arith, length, drop}
use Rattle.std.specs.List.Sorted.{IsPermutation}
use Rattle.std.proofs.lemmas.Bool.{and_parts, and_from, eqb-true, eq-eqb, cond-true, cond-false, cond_both, cases_Bool}
use Rattle.std.proofs.lemmas.List.Sums.{sum_by-cons, sum_by-append}
use Rattle.std.proofs.lemmas.List.Sorted.{IsPermutation-refl, IsPermutation-trans, IsPermutation-cons, IsPermutation-insert, sum_by-IsPermutation}
use Rattle.tasks.specs.declared.task.Task.{Task}
use Rattle.tasks.specs.Priority.{stands_above, joined}
use Rattle.tasks.proofs.Priority.{joined_by_priority}
use Rattle.std.proofs.Math.Seq.{take-append_seam, drop-append_seam}
use Rattle.schedule.specs.Orders.{PermutationsCountTheSame, JoinedKeepsOrder}

same : Task → Task → Bool
same x y = eqb x.number y.number && (eqb x.work.0 y.work.0 && eqb x.period.0 y.period.0)

same_is : (x y : Task) → same x y ≡ true → x ≡ y
unfolding same
same_is x y h =
    let a = and_parts (eqb x.number y.number) (eqb x.work.0 y.work.0 && eqb x.period.0 y.period.0) h in
    let b = and_parts (eqb x.work.0 y.work.0) (eqb x.period.0 y.period.0) a.1 in
    ap (λ (n : ℕ). record { number = n; work = x.work; period = x.period }) (eqb-true x.number y.number a.0)
    ∙ ap (λ (n : ℕ). record { number = y.number; work = record { 0 = n }; period = x.period }) (eqb-true x.work.0 y.work.0 b.0)
    ∙ ap (λ (n : ℕ). record { number = y.number; work = y.work; period = record { 0 = n } }) (eqb-true x.period.0 y.period.0 b.1)

same_itself : (x : Task) → same x x ≡ true
unfolding same
same_itself x = and_from (eqb x.number x.number) (eqb x.work.0 x.work.0 && eqb x.period.0 x.period.0) (eq-eqb x.number x.number refl)
    (and_from (eqb x.work.0 x.work.0) (eqb x.period.0 x.period.0) (eq-eqb x.work.0 x.work.0 refl) (eq-eqb x.period.0 x.period.0 refl))

abbrev one : (Task → Bool) → Task → ℕ
one test x = cond (test x) 1 0

count_cons : (test : Task → Bool) (x : Task) (xs : List Task) → count_by test (x ∷ xs) ≡ one test x + count_by test xs
count_cons test x xs = sum_by-cons (one test) x xs

-- where a task stands in a list
record Split (x : Task) (us : List Task) : Type 0 where
  before : List Task
  behind : List Task
  is : us ≡ before ++ x ∷ behind

split : (x : Task) (us : List Task) → 1 ≤ count_by (same x) us → Split x us
split x [] h = absurd (omega arith)
split x (u ∷ us) h = go (cases_Bool (same x u)) (split x us)
  where
    go : (same x u ≡ true) ⊎ (same x u ≡ false) → (1 ≤ count_by (same x) us → Split x us) → Split x (u ∷ us)
    go (inl e) ih = record { before = []; behind = us; is = ap (λ (z : Task). z ∷ us) (sym (same_is x u e)) }
    go (inr e) ih =
        let z : one (same x) u ≡ 0 = cond-false (same x u) 1 0 e in
        let r = ih (omega (arith, count_cons (same x) u us)) in
        record { before = u ∷ r.before; behind = r.behind; is = ap (λ l. u ∷ l) r.is }

pub shuffled_two : (x y : Task) (ys : List Task) → IsPermutation (x ∷ (y ∷ ys)) (y ∷ (x ∷ ys))
shuffled_two x y ys = IsPermutation-insert (y ∷ ys) 1 x

-- the first task goes behind others
pub shuffled_into : (x : Task) (before behind : List Task) → IsPermutation (x ∷ (before ++ behind)) (before ++ x ∷ behind)
shuffled_into x before behind = subst (λ (l : List Task). IsPermutation (x ∷ (before ++ behind)) l)
    (ap (λ (l : List Task). l ++ x ∷ drop (length before) (before ++ behind)) (take-append_seam before behind) ∙ ap (λ (l : List Task). before ++ x ∷ l) (drop-append_seam before behind))
    (IsPermutation-insert (before ++ behind) (length before) x)

from_counts : (ts us : List Task) → ((test : Task → Bool) → count_by test us ≡ count_by test ts) → IsPermutation ts us
from_counts [] [] h = IsPermutation-refl []
from_counts [] (u ∷ us) h = absurd (omega (arith, h (λ x. true), count_cons (λ x. true) u us))
from_counts (x ∷ xs) us h = go (split x us (omega (arith, h (same x), count_cons (same x) x xs, cond-true {A = ℕ} (same x x) 1 0 (same_itself x)))) (from_counts xs)
  where
    go : Split x us → ((vs : List Task) → ((test : Task → Bool) → count_by test vs ≡ count_by test xs) → IsPermutation xs vs) → IsPermutation (x ∷ xs) us
    go r ih = subst (λ (l : List Task). IsPermutation (x ∷ xs) l) (sym r.is)
        (IsPermutation-trans (x ∷ xs) (x ∷ (r.before ++ r.behind)) (r.before ++ x ∷ r.behind) (IsPermutation-cons x xs (r.before ++ r.behind) (ih (r.before ++ r.behind) rest)) (shuffled_into x r.before r.behind))
      where
        rest : (test : Task → Bool) → count_by test (r.before ++ r.behind) ≡ count_by test xs
        rest test = omega (arith, h test, ap (count_by test) r.is, count_cons test x xs, sum_by-append (one test) r.before r.behind, sum_by-append (one test) r.before (x ∷ r.behind), count_cons test x r.behind)

pub permutations_count_the_same : PermutationsCountTheSame
permutations_count_the_same ts us = (λ sh test. sum_by-IsPermutation (one test) ts us sh, from_counts ts us)

-- a newcomer
pub joined_shuffled : (x : Task) (ts : List Task) → IsPermutation (x ∷ ts) (joined x ts)
joined_shuffled x [] = IsPermutation-refl (x ∷ [])
joined_shuffled x (y ∷ ys) = cond_both (stands_above y x) (y ∷ joined x ys) (x ∷ (y ∷ ys)) (λ l. IsPermutation (x ∷ (y ∷ ys)) l)
    (λ e. IsPermutation-trans (x ∷ (y ∷ ys)) (y ∷ (x ∷ ys)) (y ∷ joined x ys) (shuffled_two x y ys) (IsPermutation-cons y (x ∷ ys) (joined x ys) (joined_shuffled x ys)))
    (λ e. IsPermutation-refl (x ∷ (y ∷ ys)))

pub joined_keeps_order : JoinedKeepsOrder
joined_keeps_order x ts = (joined_by_priority x ts, joined_shuffled x ts)
