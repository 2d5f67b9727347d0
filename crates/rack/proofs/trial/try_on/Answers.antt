use Rattle.std.proofs.Common.{List, length, sym, ap, subst, arith}
use Rattle.std.proofs.lemmas.Bool.{ltb-true}
use Rattle.std.proofs.lemmas.Result.{err_from_is_err_and}
use Rattle.tasks.specs.declared.task.Task.{Task}
use Rattle.seating.specs.declared.seat.Seat.{Seat}
use Rattle.seating.specs.Seats.{tasks_of}
use Rattle.seating.proofs.Placing.{length-tasks, length-joined}
use Rattle.rack.specs.Trials.{Took, Declines}
use Rattle.rack.proofs.Trying.{took, declines}
use Rattle.rack.proofs.trial.try_on.Goals as goal

pub judge_from-requires : goal.judge_from-requires
judge_from-requires g c =
    let ss = c.seats-seats.result.now in
    omega (arith, ap (length {A = Task}) c.with_newcomer-tasks.ensures, length-joined c.args.newcomer (tasks_of ss), length-tasks ss, c.place-place.ensures.within)

pub returns-in_err-instants : goal.returns-in_err-instants
returns-in_err-instants g c =
    let p = err_from_is_err_and c.from_residual.result c.from_residual.ensures.1 in
    let room = ltb-true (length c.seats-seats.result.now) 32 (sym c.if-not-has_room.ensures) in
    rw (p.1, p.2) (record {
      tried = subst (λ (l : List Seat). Declines (g.J.Judge.meaning c.args.judge.now) c.args.newcomer l c.in_err-instants.field-0.0) c.seats-seats.ensures.list (declines (g.J.Judge.meaning c.args.judge.now) c.args.newcomer c.seats-seats.result.now c.place-place.result c.place-place.ensures.place room c.with_newcomer-tasks.result.items
          c.with_newcomer-tasks.ensures c.judge_from.result c.judge_from.ensures.judged c.in_err-instants.field-0.0 c.in_err-instants.was);
      same = c.judge_from.ensures.same;
    })

pub returns-clause-tried : goal.returns-clause-tried
returns-clause-tried g c =
    let room = ltb-true (length c.seats-seats.result.now) 32 (sym c.if-not-has_room.ensures) in
    subst (λ (l : List Seat). Took (g.J.Judge.meaning c.args.judge.now) c.args.newcomer l (record { place = c.place-place.result; instants = c.in_ok-instants.instants })) c.seats-seats.ensures.list
    (took (g.J.Judge.meaning c.args.judge.now) c.args.newcomer c.seats-seats.result.now c.place-place.result c.place-place.ensures.place room c.with_newcomer-tasks.result.items
    c.with_newcomer-tasks.ensures c.judge_from.result c.judge_from.ensures.judged c.in_ok-instants.instants c.in_ok-instants.was)
