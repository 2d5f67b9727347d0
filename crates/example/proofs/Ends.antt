-- The end of a period is good exactly where the demand there is done by then.
use Rattle.std.proofs.Common.{◌≡◌, true, false, List, Some, None, arith}
use Rattle.std.proofs.lemmas.Bool.Decides.{nat_tests}
use Rattle.tasks.specs.declared.task.Task.{Task}
use Rattle.tasks.specs.declared.units.Units.{Units}
use Rattle.tasks.specs.Units.{units_in, one_a_tick}
use Rattle.std.specs.Prelude.{nat_le}
use Rattle.tasks.specs.Demand.{good, demand_answer}
use Rattle.tasks.proofs.Goods.{limits_exist}
use Rattle.tasks.proofs.Bounds.{limits}
use Rattle.judges.specs.Laws.{asked}
use Rattle.judges.specs.Choosing.{asked_parts}

module _ (x : Task) (above : List Task) (h : asked x above ≡ true) where
  pub uncounted : None ≡ demand_answer x above x.period.0 → false ≡ good x above x.period.0
  uncounted e = grind (arith, nat_tests, limits_exist above (asked_parts x above h).others, limits x (asked_parts x above h).own, e)

  pub counted : (d : Units) → Some d ≡ demand_answer x above x.period.0 → nat_le d.0 (units_in one_a_tick x.period.0) ≡ good x above x.period.0
  counted d e = grind (arith, nat_tests, limits_exist above (asked_parts x above h).others, limits x (asked_parts x above h).own, e)

pub ruleset ends = (uncounted, counted)
