use Rattle.std.proofs.Common.{◌<◌, List, length, ap, ◌∙◌, arith}
use Rattle.tasks.specs.Limits.{all_within}
use Rattle.seating.specs.declared.seat.Seat.{Seat}
use Rattle.seating.specs.Seats.{tasks_of, load_of}
use Rattle.seating.proofs.Keeping.{tasks_removed}
use Rattle.seating.proofs.Limiting.{within_removed}
use Rattle.rack.proofs.Leaving.{its_share}
use Rattle.rack.proofs.processor.Processor.leave.Goals as goal

pub without_share-self-inside-requires : goal.without_share-self-inside-requires
without_share-self-inside-requires c =
    let ss = c.self.inside.table in
    let lt : c.args.at < length ss = omega (arith, c.requires, ap (length {A = Seat}) c.self.view_is) in
    omega (arith, its_share ss c.args.at c.remove-seat.result lt c.remove-seat.ensures.value c.self.invariant.1, c.self.invariant.0)

pub invariant_of-self : goal.invariant_of-self
invariant_of-self c =
    let ss = c.self.inside.table in
    let lt : c.args.at < length ss = omega (arith, c.requires, ap (length {A = Seat}) c.self.view_is) in
    let left = c.remove-seat.ensures.list in (
      omega (arith, its_share ss c.args.at c.remove-seat.result lt c.remove-seat.ensures.value c.self.invariant.1, c.self.invariant.0, c.without_share-self-inside.ensures, ap (λ (l : List Seat). load_of (tasks_of l)) left),
      ap (λ (l : List Seat). all_within (tasks_of l)) left ∙ ap all_within (tasks_removed ss c.args.at) ∙ within_removed (tasks_of ss) c.args.at c.self.invariant.1,
    )
