use Rattle.std.proofs.Common.{length, ap, ◌∙◌, arith}
use Rattle.tasks.specs.Limits.{all_within}
use Rattle.seating.specs.declared.seat.Seat.{Seat}
use Rattle.seating.specs.Seats.{tasks_of, load_of}
use Rattle.seating.proofs.Limiting.{within_joined, load_joined, load_bound}
use Rattle.seating.proofs.Placing.{length-tasks}
use Rattle.rack.proofs.Shares.{share_within}
use Rattle.rack.proofs.processor.Processor.join.Goals as goal

pub with_share-self-inside-requires : goal.with_share-self-inside-requires
with_share-self-inside-requires c =
    let ss = c.self.inside.table in
    omega (arith, load_bound (tasks_of ss) c.self.invariant.1, length-tasks ss, ap (length {A = Seat}) c.self.view_is, c.self.invariant.0, c.requires.trial.room)

pub invariant_of-self : goal.invariant_of-self
invariant_of-self c =
    let ts = tasks_of c.self.inside.table in
    let w = c.seat.ensures.tasks in (
      omega (arith, ap load_of w, load_joined c.args.newcomer ts, c.self.invariant.0, c.with_share-self-inside.ensures, share_within c.args.newcomer c.requires.limits),
      ap all_within w ∙ within_joined c.args.newcomer ts c.requires.limits c.self.invariant.1,
    )
