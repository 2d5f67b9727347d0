use Rattle.std.proofs.Common.{◌+◌, ◌-◌, List, ap, ◌∙◌, length-set, arith}
use Rattle.std.specs.List.{insert}
use Rattle.std.proofs.lemmas.List.Edits.{length-between}
use Rattle.seating.specs.declared.seat.Seat.{Seat}
use Rattle.seating.specs.Seats.{no_seat}
use Rattle.rack.proofs.Shifting.{length_part, joined_front, joined_behind, in_part}
use Rattle.rack.proofs.Taken.{length-taken}
use Rattle.rack.proofs.seat_table.SeatTable.insert.Goals as goal

pub invariant_of-self : goal.invariant_of-self
invariant_of-self c =
    let t = c.self.inside in
    let ps = c.rotate_right.new.self in
    let at = c.args.at in
    let wide = c.self.invariant.0 in
    let n = length-taken t.taken t.seats _ (omega arith) c.self.view_is in
    let part = length-between t.seats at (t.taken + 1) (omega arith) in
    let long = c.rotate_right.ensures.len ∙ part in (
      omega (arith, length-set {A = Seat}, length_part t.seats ps at t.taken (omega arith) (omega arith) long),
      omega arith,
      joined_behind t.seats ps at t.taken (omega arith) (omega arith) long c.args.seat no_seat c.self.invariant.2,
    )

pub returns : goal.returns
returns c =
    let t = c.self.inside in
    let n = length-taken t.taken t.seats _ (omega (arith, c.self.invariant)) c.self.view_is in
    let part = length-between t.seats c.args.at (t.taken + 1) (omega arith) in
    joined_front t.seats c.rotate_right.new.self c.args.at t.taken (omega arith) (omega arith) (c.rotate_right.ensures.len ∙ part) c.args.seat
    (λ i d lo hi. c.rotate_right.ensures.by_index.1 i d lo (omega (arith, part)) ∙ in_part t.seats c.args.at (t.taken + 1) (i - 1) d (omega arith))
    ∙ ap (λ (l : List Seat). insert l c.args.at c.args.seat) c.self.view_is
