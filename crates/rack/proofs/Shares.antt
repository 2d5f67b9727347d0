-- The share of a task, or 0 outside the limits.
use Rattle.std.proofs.Common.{◌≡◌, ◌≤◌, Bool, true, cond, Some, None, ap, ⊎_elim, arith}
use Rattle.std.specs.Option.{unwrap_or}
use Rattle.std.proofs.lemmas.Bool.{cases_Bool}
use Rattle.tasks.specs.declared.task.Task.{Task}
use Rattle.tasks.specs.Limits.{within_limits}
use Rattle.tasks.specs.Share.{share_of, share_answer}
use Rattle.seating.proofs.Limiting.{share_bound}

pub share_within : (x : Task) → within_limits x ≡ true → unwrap_or (share_answer x) 0 ≡ share_of x
share_within x h = ap (λ (k : Bool). unwrap_or (cond k (Some (share_of x)) None) 0) h

pub share_small : (x : Task) → unwrap_or (share_answer x) 0 ≤ 1000000
share_small x = ⊎_elim (λ h. omega (arith, share_within x h, share_bound x h)) (λ h. omega (arith, ap (λ (k : Bool). unwrap_or (cond k (Some (share_of x)) None) 0) h)) (cases_Bool (within_limits x))
