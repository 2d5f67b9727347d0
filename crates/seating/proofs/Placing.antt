-- A newcomer in its place.
use Rattle.std.proofs.Common.{◌≡◌, ℕ, suc, ◌+◌, ◌<◌, ◌≤◌, List, [], ◌∷◌, length, get_or, take, drop, refl, ap, ◌∙◌, arith}
use Rattle.std.specs.List.{insert, prefix_len}
use Rattle.std.proofs.lemmas.List.Sums.{prefix_len-le-length}
use Rattle.std.proofs.lemmas.List.Folds.{length-prefix_len}
use Rattle.std.proofs.lemmas.Bool.{cond_both, cond-true, cond-false}
use Rattle.std.proofs.lemmas.List.{length-take-le, take-append-le, take-take, length-map}
use Rattle.std.proofs.lemmas.List.Edits.{length-insert, get_or-insert_below, get_or-insert_at}
use Rattle.tasks.specs.declared.task.Task.{Task}
use Rattle.tasks.specs.Priority.{stands_above, joined}
use Rattle.tasks.specs.Demand.{no_task}
use Rattle.seating.specs.declared.seat.Seat.{Seat}
use Rattle.seating.specs.Seats.{tasks_of, place_of, JoinedAtPlace}

pub length-tasks : (ss : List Seat) → length (tasks_of ss) ≡ length ss
length-tasks ss = length-map ss (λ (s : Seat). s.task)

place_is : (x : Task) (ts : List Task) → place_of x ts ≡ prefix_len (λ (y : Task). stands_above y x) ts
place_is x ts = length-prefix_len (λ (y : Task). stands_above y x) ts

pub place_le : (x : Task) (ts : List Task) → place_of x ts ≤ length ts
place_le x ts = omega (arith, place_is x ts, prefix_len-le-length (λ (y : Task). stands_above y x) ts)

pub joined_at_place : JoinedAtPlace
joined_at_place x [] = refl
joined_at_place x (y ∷ ys) =
    cond_both (stands_above y x) (1 + prefix_len (λ (z : Task). stands_above z x) ys) 0 (λ k. joined x (y ∷ ys) ≡ insert (y ∷ ys) (length (take k (y ∷ ys))) x)
    (λ e. cond-true (stands_above y x) (y ∷ joined x ys) (x ∷ (y ∷ ys)) e ∙ ap (λ (l : List Task). y ∷ l) (joined_at_place x ys)
    ∙ ap (λ (k : ℕ). insert (y ∷ ys) k x) (next (prefix_len (λ (z : Task). stands_above z x) ys)))
    (λ e. cond-false (stands_above y x) (y ∷ joined x ys) (x ∷ (y ∷ ys)) e)
  where
    next : (n : ℕ) → suc (length (take n ys)) ≡ length (take (1 + n) (y ∷ ys))
    next n = let e : suc n ≡ 1 + n = omega arith in ap (λ (k : ℕ). length (take k (y ∷ ys))) e

module _ (x : Task) (ts : List Task) where
  pub length-joined : length (joined x ts) ≡ length ts + 1
  length-joined = omega (arith, ap (length {A = Task}) (joined_at_place x ts), length-insert ts (place_of x ts) x (place_le x ts))

  -- those above it stay, and so do those above them
  pub above_stays : (k : ℕ) → k < place_of x ts → get_or (joined x ts) k no_task ≡ get_or ts k no_task
  above_stays k lt = ap (λ (l : List Task). get_or l k no_task) (joined_at_place x ts) ∙ get_or-insert_below ts (place_of x ts) x no_task k lt (place_le x ts)

  pub take-joined : (k : ℕ) → k ≤ place_of x ts → take k (joined x ts) ≡ take k ts
  take-joined k le =
      let p = place_of x ts in
      let w = place_le x ts in
      ap (λ (l : List Task). take k l) (joined_at_place x ts)
      ∙ take-append-le k (take p ts) (x ∷ drop p ts) (omega (arith, length-take-le p ts w)) ∙ take-take k p ts le

  pub joined_here : get_or (joined x ts) (place_of x ts) no_task ≡ x
  joined_here = ap (λ (l : List Task). get_or l (place_of x ts) no_task) (joined_at_place x ts) ∙ get_or-insert_at ts (place_of x ts) x no_task (place_le x ts)
