-- The judge that tries the end of the period first: what it means, and that it keeps the laws of a judge.
use Rattle.std.specs.Prelude.{cond, ◌&&◌, Some}
use Rattle.std.proofs.Common.{rules}
use Rattle.tasks.specs.Demand.{good}
use Rattle.judges.specs.Laws.{Meaning, JudgeLaws, asked}
use Rattle.judges.specs.Meanings.{least_good_instant}
use Rattle.judges.specs.Meant.{steps_lawful}

-- the end of the period where that is good, and else the least good instant
abbrev pub period_first : Meaning
period_first x above = cond (asked x above && good x above x.period.0) (Some x.period) (least_good_instant x above)

pub period_first_lawful : JudgeLaws period_first
period_first_lawful = record {
  elsewhere = grind (rules, steps_lawful);
  sound = grind (rules, steps_lawful);
  complete = grind (rules, steps_lawful);
}
