-- The limits of a task, part by part.
use Rattle.std.proofs.Common.{◌≡◌, ◌≤◌, true, All, List, arith}
use Rattle.std.proofs.lemmas.Bool.Decides.{nat_tests}
use Rattle.std.proofs.lemmas.List.Elements.{All-weaker}
use Rattle.std.proofs.lemmas.List.Sums.{AllPass-from_list_all}
use Rattle.tasks.specs.declared.task.Task.{Task}
use Rattle.tasks.specs.Units.{units_in, one_a_tick}
use Rattle.tasks.specs.Limits.{within_limits, all_within}

pub record Limits (x : Task) : Type 0 where
  pub period_from : 1 ≤ x.period.0
  pub period_to : x.period.0 ≤ 1000000
  pub work_from : 1 ≤ x.work.0
  pub work_to : x.work.0 ≤ units_in one_a_tick x.period.0

pub limits : (x : Task) → within_limits x ≡ true → Limits x
limits x h = record { period_from = grind (arith, nat_tests); period_to = grind (arith, nat_tests); work_from = grind (arith, nat_tests); work_to = grind (arith, nat_tests) }

pub all_limits : (xs : List Task) → all_within xs ≡ true → All Limits xs
all_limits xs h = All-weaker (λ x. within_limits x ≡ true) Limits limits xs (AllPass-from_list_all within_limits xs h)
