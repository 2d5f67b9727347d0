use Rattle.std.proofs.Common.{suc, ◌<◌, ◌≤◌, sym, arith}
use Rattle.std.proofs.lemmas.Bool.{leb-true, leb-false}
use Rattle.tasks.specs.Demand.{good}
use Rattle.tasks.proofs.Goods.{good_from}
use Rattle.tasks.proofs.Leasts.{none_further}
use Rattle.judges.proofs.Chosen.{choice_some, choice_none}
use Rattle.judges.proofs.question.Question.first_good_instant.Goals as goal

pub returns-in-Done : goal.returns-in-Done
returns-in-Done c =
    let x = c.args.self.now.task in
    let ys = c.args.self.now.above.now in
    let t = c.loop-t.t.0 in
    let l : t ≤ x.period.0 = leb-true t x.period.0 (sym c.loop-t-test.ensures) in
    let g = good_from x ys t (record { starts = c.loop-t.invariant.0; ends = l; enough = c.in-Done.ensures }) in
    choice_some good x ys c.args.self.now.asked t (record { from = c.loop-t.invariant.0; to = l; passes = g; first = c.loop-t.invariant.1 })

pub returns-in-Never : goal.returns-in-Never
returns-in-Never c =
    let x = c.args.self.now.task in
    let ys = c.args.self.now.above.now in
    choice_none good x ys c.args.self.now.asked (none_further (good x ys) c.loop-t.t.0 (suc x.period.0) c.loop-t.invariant.1 (λ u lo hi. c.in-Never.ensures u lo))

pub returns : goal.returns
returns c =
    let x = c.args.self.now.task in
    let ys = c.args.self.now.above.now in
    let l : x.period.0 < c.loop-t.t.0 = leb-false c.loop-t.t.0 x.period.0 (sym c.loop-t-test.ensures) in
    choice_none good x ys c.args.self.now.asked (λ u a b. c.loop-t.invariant.1 u a (omega arith))
