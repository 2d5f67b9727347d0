use Rattle.std.proofs.Common.{◌+◌, ◌-◌, List, ap, ◌∙◌, length-set, arith}
use Rattle.std.specs.List.{remove}
use Rattle.std.proofs.lemmas.List.{take-set}
use Rattle.std.proofs.lemmas.List.Edits.{length-between}
use Rattle.seating.specs.declared.seat.Seat.{Seat}
use Rattle.seating.specs.Seats.{no_seat}
use Rattle.rack.proofs.Shifting.{length-left, left_front, left_behind, in_part}
use Rattle.rack.proofs.Taken.{length-taken}
use Rattle.rack.proofs.Cells.{blank_seat}
use Rattle.rack.proofs.seat_table.SeatTable.remove.Goals as goal

pub invariant_of-self : goal.invariant_of-self
invariant_of-self c =
    let t = c.self.inside in
    let ps = c.rotate_left.new.self in
    let at = c.args.at in
    let wide = c.self.invariant.0 in
    let n = length-taken t.taken t.seats _ (omega arith) c.self.view_is in
    let part = length-between t.seats at t.taken (omega arith) in
    let long = c.rotate_left.ensures.len ∙ part in
    let d = c.default.ensures in
    let blank = blank_seat c.default.result d.0.0 d.0.1.0 d.0.1.1 d.1 in (
      omega (arith, length-set {A = Seat}, length-left t.seats ps at t.taken (omega arith) (omega arith) long),
      omega arith,
      rw blank (left_behind t.seats ps at t.taken (omega arith) (omega arith) long no_seat c.self.invariant.2),
    )

pub returns-clause-list : goal.returns-clause-list
returns-clause-list c =
    let t = c.self.inside in
    let n = length-taken t.taken t.seats _ (omega (arith, c.self.invariant)) c.self.view_is in
    let part = length-between t.seats c.args.at t.taken (omega arith) in
    take-set _ (t.taken - 1) c.default.result
    ∙ left_front t.seats c.rotate_left.new.self c.args.at t.taken (omega arith) (omega arith) (c.rotate_left.ensures.len ∙ part)
    (λ i d lt. c.rotate_left.ensures.by_index.0 i d (omega (arith, part)) ∙ in_part t.seats c.args.at t.taken (i + 1) d (omega arith))
    ∙ ap (λ (l : List Seat). remove l c.args.at) c.self.view_is
