use Rattle.std.proofs.Common.{sym, ap, ◌∙◌}
use Rattle.std.proofs.lemmas.Bool.{leb-false}
use Rattle.tasks.specs.Units.{ticks_answer, units_in, one_a_tick}
use Rattle.judges.proofs.Weights.{past_64_bits, weighed}
use Rattle.judges.proofs.question.Question.weigh.Goals as goal

pub returns-in_default : goal.returns-in_default
returns-in_default c = λ u l. past_64_bits c.args.self.now.task c.args.self.now.above.now c.args.t.0 u c.args.self.now.asked c.in_default.ensures l

pub returns : goal.returns
returns c =
    let x = c.args.self.now.task in
    let ys = c.args.self.now.above.now in
    let t = c.args.t.0 in
    let d = c.in-Some.demand in
    let e = c.ticks_for.ensures ∙ ap (λ s. ticks_answer s d.0) c.one.ensures in
    weighed x ys t d c.args.self.now.asked c.in-Some.ensures c.ticks_for.result c.map_or.result e (leb-false d.0 (units_in one_a_tick t) (sym c.if-is_done.ensures)) c.map_or.ensures
