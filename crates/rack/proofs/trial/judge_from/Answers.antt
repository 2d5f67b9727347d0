use Rattle.std.proofs.Common.{◌≡◌, ◌+◌, ◌-◌, ◌<◌, List, length, get_or, take, ap, ◌∙◌, arith}
use Rattle.std.specs.List.{between}
use Rattle.std.specs.Option.{ok_or}
use Rattle.std.proofs.lemmas.Result.{err_from_is_err_and}
use Rattle.std.proofs.lemmas.List.Edits.{length-between, get_or-between}
use Rattle.tasks.specs.declared.task.Task.{Task}
use Rattle.tasks.specs.Demand.{no_task}
use Rattle.seating.specs.Admission.{said}
use Rattle.rack.specs.declared.trial.Declined.TheVariants.{Unfit}
use Rattle.rack.proofs.Trying.{none_so}
use Rattle.rack.proofs.trial.judge_from.Goals as goal

pub returns-in_err-instant : goal.returns-in_err-instant
returns-in_err-instant g c =
    let inv = c.loop-below.invariant in
    let p = err_from_is_err_and c.from_residual.result c.from_residual.ensures.1 in
    let lent = c.deref.result.now in
    let ts = c.args.tasks.now.items in
    let from = c.args.from in
    let below = c.loop-below.below in
    let i = from + below in
    let now = g.J.Judge.meaning c.loop-below.judge in
    let many = ap (length {A = Task}) c.deref.ensures.0 in
    let part = length-between lent from (length lent) (omega arith) in
    let within : below < length lent - from = omega (arith, part, c.loop-below-test.true) in
    let item : get_or (between from (length lent) lent) below no_task ≡ get_or ts i no_task =
    get_or-between lent from (length lent) below no_task (omega (arith, within)) ∙ ap (λ (l : List Task). get_or l i no_task) c.deref.ensures.0 in
    let answer : c.ask.result ≡ said now ts i =
    c.ask.ensures.answer ∙ ap (λ (t : Task). now t (take i c.deref-in-loop-below.result.now)) item ∙ ap (λ (l : List Task). now (get_or ts i no_task) (take i l)) c.deref-in-loop-below.ensures.0 in
    rw (p.1, p.2) (record {
      judged = none_so (g.J.Judge.meaning c.args.judge.now) now inv.same ts from i c.ask.result c.ok_or.result c.in_err-instant.field-0.0
          (omega arith) (omega (arith, within, many)) answer (c.ok_or.ensures.value ∙ ap (λ (t : Task). ok_or c.ask.result (Unfit t.number)) item) c.in_err-instant.was (λ k lo hi. (_, inv.each k lo hi));
      same = c.ask.ensures.same ∙ inv.same;
    })
