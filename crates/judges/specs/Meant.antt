-- Both meanings keep the laws of a judge.
use Rattle.std.proofs.Common.{inl, inr, arith}
use Rattle.std.proofs.lemmas.Bool.{and_parts, and_from, cases_Bool, both_ways}
use Rattle.tasks.specs.Demand.{good}
use Rattle.tasks.specs.Instants.{point}
use Rattle.tasks.proofs.Goods.{good_parts, limits_exist}
use Rattle.tasks.proofs.Points.{points_suffice}
use Rattle.judges.specs.Laws.{JudgeLaws}
use Rattle.judges.specs.Meanings.{good_point, least_good_point, least_good_instant}
use Rattle.judges.specs.Choosing.{Inside, choice_elsewhere, chosen, not_chosen, asked_parts}

pub good_inside : Inside good
good_inside x above t h = let g = good_parts x above t h in (g.starts, g.ends)

pub point_inside : Inside good_point
point_inside x above t h = good_inside x above t (and_parts (point x above t) (good x above t) h).1

pub steps_lawful : JudgeLaws least_good_instant
steps_lawful = record {
  elsewhere = choice_elsewhere good;
  sound = λ x above t e. (chosen good x above t e).passes;
  complete = λ x above h e t. elim (cases_Bool (good x above t)) [
    | inl g ↦ let i = good_inside x above t g in absurd (both_ways (good x above t) (not_chosen good x above h e t i.0 (omega (arith, i.1))) g)
    | inr g ↦ g
  ];
}

-- where no scheduling point is good, no instant is
pub points_lawful : JudgeLaws least_good_point
points_lawful = record {
  elsewhere = choice_elsewhere good_point;
  sound = λ x above t e. (and_parts (point x above t.0) (good x above t.0) (chosen good_point x above t e).passes).1;
  complete = λ x above h e t. elim (cases_Bool (good x above t)) [
    | inl g ↦
        let p = points_suffice x above t (limits_exist above (asked_parts x above h).others) g in
        let i = good_inside x above p.at p.is_good in
        absurd (both_ways (good_point x above p.at) (not_chosen good_point x above h e p.at i.0 (omega (arith, i.1))) (and_from (point x above p.at) (good x above p.at) p.is_point p.is_good))
    | inr g ↦ g
  ];
}
