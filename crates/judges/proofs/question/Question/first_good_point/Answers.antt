use Rattle.std.proofs.Common.{◌≡◌, ℕ, suc, ◌+◌, ◌<◌, ◌≤◌, min, true, List, length, get_or, take, sym, ap, ◌∙◌, subst, arith}
use Rattle.std.proofs.lemmas.List.Elements.{All-get_or}
use Rattle.std.proofs.lemmas.List.{take_all}
use Rattle.std.proofs.lemmas.Bool.{ltb-true, ltb-false, and_left, and_right, and_from}
use Rattle.tasks.specs.declared.task.Task.{Task}
use Rattle.tasks.specs.Demand.{no_task, good}
use Rattle.tasks.specs.Instants.{point}
use Rattle.tasks.proofs.Bounds.{Limits, all_limits}
use Rattle.tasks.proofs.Goods.{good_from}
use Rattle.tasks.proofs.Points.{point_parts}
use Rattle.tasks.proofs.Leasts.{NoneBelow, none_further}
use Rattle.judges.specs.Laws.{asked}
use Rattle.judges.specs.Meanings.{good_point}
use Rattle.judges.specs.Choosing.{asked_parts}
use Rattle.judges.proofs.Chosen.{choice_some, choice_none}
use Rattle.judges.proofs.Multiples.{NextPoint, next_own, next_more}
use Rattle.judges.proofs.question.Question.first_good_point.Goals as goal

-- a task above keeps the limits
other : (x : Task) (above : List Task) (i : ℕ) → asked x above ≡ true → i < length above → Limits (get_or above i no_task)
other x above i h l = All-get_or Limits above i no_task l (all_limits above (asked_parts x above h).others)

-- all tasks above have been passed
passed : (x : Task) (above : List Task) (i from next : ℕ) → length above ≤ i → NextPoint x (take i above) from next → NextPoint x above from next
passed x above i from next l n = subst (λ (ys : List Task). NextPoint x ys from next) (take_all i above l) n

-- no point before the next one is good
none_before : (x : Task) (above : List Task) (from next : ℕ) → NextPoint x above from next → NoneBelow (good_point x above) from → NoneBelow (good_point x above) next
none_before x above from next n h = none_further (good_point x above) from next h (λ u lo hi. and_left (point x above u) (good x above u) (n.none u lo hi))

pub loop-other-init : goal.loop-other-init
loop-other-init c = next_own c.args.self.now.task c.points.from.0 c.points.invariant.0 (ltb-false c.args.self.now.task.period.0 c.points.from.0 (sym c.if-is_past.ensures))

pub loop-other-preserved : goal.loop-other-preserved
loop-other-preserved c =
    let x = c.args.self.now.task in
    let ys = c.args.self.now.above.now in
    let i = c.loop-other.other-index in
    let o = other x ys i c.args.self.now.asked c.loop-other-test.true in
    let e = c.earlier-next.ensures ∙ ap (λ m. min c.loop-other.next.0 m) c.multiple_from.ensures in
    subst (NextPoint x (take (i + 1) ys) c.points.from.0) (sym e) (next_more x ys i c.points.from.0 c.loop-other.next.0 c.loop-other-test.true c.points.invariant.0 o.period_from c.loop-other.invariant)

pub points-preserved : goal.points-preserved
points-preserved c =
    let x = c.args.self.now.task in
    let ys = c.args.self.now.above.now in
    let n = passed x ys c.loop-other.other-index c.points.from.0 c.loop-other.next.0 c.loop-other-test.false c.loop-other.invariant in
    let w = c.in-NotBefore.ensures in (
      omega (arith, w.0),
      none_further (good_point x ys) c.loop-other.next.0 c.in-NotBefore.later.0 (none_before x ys c.points.from.0 c.loop-other.next.0 n c.points.invariant.1) (λ u lo hi. and_right (point x ys u) (good x ys u) (w.1 u lo hi)),
    )

pub returns-then-is_past : goal.returns-then-is_past
returns-then-is_past c =
    let x = c.args.self.now.task in
    let ys = c.args.self.now.above.now in
    let l = ltb-true x.period.0 c.points.from.0 (sym c.if-is_past.ensures) in
    choice_none good_point x ys c.args.self.now.asked (λ u a b. c.points.invariant.1 u a (omega arith))

pub returns-in-Done : goal.returns-in-Done
returns-in-Done c =
    let x = c.args.self.now.task in
    let ys = c.args.self.now.above.now in
    let t = c.loop-other.next.0 in
    let n = passed x ys c.loop-other.other-index c.points.from.0 t c.loop-other-test.false c.loop-other.invariant in
    let p = point_parts x ys t n.is in
    let g = good_from x ys t (record { starts = p.starts; ends = p.ends; enough = c.in-Done.ensures }) in
    choice_some good_point x ys c.args.self.now.asked t (record { from = p.starts; to = p.ends; passes = and_from (point x ys t) (good x ys t) n.is g; first = none_before x ys c.points.from.0 t n c.points.invariant.1 })

pub returns-in-Never : goal.returns-in-Never
returns-in-Never c =
    let x = c.args.self.now.task in
    let ys = c.args.self.now.above.now in
    let t = c.loop-other.next.0 in
    let n = passed x ys c.loop-other.other-index c.points.from.0 t c.loop-other-test.false c.loop-other.invariant in
    choice_none good_point x ys c.args.self.now.asked (none_further (good_point x ys) t (suc x.period.0) (none_before x ys c.points.from.0 t n c.points.invariant.1) (λ u lo hi. and_right (point x ys u) (good x ys u) (c.in-Never.ensures u lo)))
