-- Limits, loads and priority order, of a list that a task joins or leaves.
use Rattle.std.proofs.Common.{◌≡◌, ℕ, zero, suc, ◌+◌, ◌*◌, ◌<◌, ◌≤◌, Bool, true, List, [], ◌∷◌, length, get_or, refl, ap, ◌∙◌, arith}
use Rattle.std.specs.List.{remove, list_all}
use Rattle.std.proofs.lemmas.Bool.{and_from, and_parts}
use Rattle.std.proofs.lemmas.List.Sums.{AllPass-from_list_all, sum_by-le, sum_by-insert, sum_by-remove}
use Rattle.tasks.specs.declared.task.Task.{Task}
use Rattle.tasks.specs.Limits.{within_limits, all_within}
use Rattle.tasks.specs.Share.{share_of}
use Rattle.tasks.specs.Priority.{stands_above, by_priority, joined}
use Rattle.tasks.specs.Demand.{no_task, work_before}
use Rattle.tasks.proofs.Bounds.{limits}
use Rattle.tasks.proofs.Roundings.{up_least}
use Rattle.seating.specs.Seats.{load_of, place_of}
use Rattle.seating.proofs.Placing.{joined_at_place}

-- what each task of a list passes, each passes when one more joins that passes it, and when one leaves
pub all_joined : (test : Task → Bool) (x : Task) (ts : List Task) → test x ≡ true → list_all test ts ≡ true → list_all test (joined x ts) ≡ true
all_joined test x [] h k = and_from (test x) true h refl
all_joined test x (y ∷ ys) h k = grind (arith, all_joined test x ys)

pub all_removed : (test : Task → Bool) (ts : List Task) (i : ℕ) → list_all test ts ≡ true → list_all test (remove ts i) ≡ true
all_removed test [] zero k = refl
all_removed test [] (suc i) k = refl
all_removed test (y ∷ ys) zero k = grind arith
all_removed test (y ∷ ys) (suc i) k = grind (arith, all_removed test ys i)

pub within_joined : (x : Task) (ts : List Task) → within_limits x ≡ true → all_within ts ≡ true → all_within (joined x ts) ≡ true
within_joined x ts = all_joined within_limits x ts

pub within_removed : (ts : List Task) (i : ℕ) → all_within ts ≡ true → all_within (remove ts i) ≡ true
within_removed ts i = all_removed within_limits ts i

pub within_each : (ts : List Task) → all_within ts ≡ true → (k : ℕ) (d : Task) → k < length ts → within_limits (get_or ts k d) ≡ true
within_each ts h = AllPass-from_list_all within_limits ts h

pub share_bound : (x : Task) → within_limits x ≡ true → share_of x ≤ 1000000
share_bound x h =
    let l = limits x h in
    up_least (x.work.0 * 1000000) x.period.0 1000000 l.period_from (omega (arith, l.work_to))

pub load_bound : (ts : List Task) → all_within ts ≡ true → load_of ts ≤ length ts * 1000000
load_bound ts h = sum_by-le share_of 1000000 ts (λ k d lt. share_bound (get_or ts k d) (within_each ts h k d lt))

pub load_joined : (x : Task) (ts : List Task) → load_of (joined x ts) ≡ share_of x + load_of ts
load_joined x ts = ap load_of (joined_at_place x ts) ∙ omega (arith, sum_by-insert share_of ts (place_of x ts) x)

pub load_removed : (ts : List Task) (i : ℕ) → i < length ts → load_of (remove ts i) + share_of (get_or ts i no_task) ≡ load_of ts
load_removed ts i h = sum_by-remove share_of ts i no_task h

pub work_removed : (ts : List Task) (i t : ℕ) → work_before (remove ts i) t ≤ work_before ts t
work_removed [] zero t = omega arith
work_removed [] (suc i) t = omega arith
work_removed (y ∷ ys) zero t = omega arith
work_removed (y ∷ ys) (suc i) t = omega (arith, work_removed ys i t)

above_through : (x y z : Task) → stands_above x y ≡ true → stands_above y z ≡ true → stands_above x z ≡ true
above_through x y z a b = grind arith

second_leaves : (y x : Task) (xs : List Task) → stands_above y x ≡ true → by_priority (x ∷ xs) ≡ true → by_priority (y ∷ xs) ≡ true
second_leaves y x [] a h = refl
second_leaves y x (z ∷ zs) a h = grind (arith, above_through y x z)

pub priority_removed : (ts : List Task) (i : ℕ) → by_priority ts ≡ true → by_priority (remove ts i) ≡ true
priority_removed [] zero h = refl
priority_removed [] (suc i) h = refl
priority_removed (y ∷ []) zero h = refl
priority_removed (y ∷ []) (suc zero) h = refl
priority_removed (y ∷ []) (suc (suc i)) h = refl
priority_removed (y ∷ (x ∷ xs)) zero h = (and_parts (stands_above y x) (by_priority (x ∷ xs)) h).1
priority_removed (y ∷ (x ∷ xs)) (suc zero) h = grind (arith, second_leaves y x xs)
priority_removed (y ∷ (x ∷ xs)) (suc (suc i)) h = grind (arith, priority_removed (x ∷ xs) (suc i))
