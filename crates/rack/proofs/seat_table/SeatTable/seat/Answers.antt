use Rattle.std.proofs.Common.{◌≡◌, ℕ, ◌+◌, ◌-◌, ◌<◌, ◌≤◌, List, length, get_or, sym, ap, ◌∙◌, subst, arith}
use Rattle.std.proofs.lemmas.List.Edits.{length-between, get_or-between}
use Rattle.tasks.specs.declared.units.Ticks.{Ticks}
use Rattle.seating.specs.declared.seat.Seat.{Seat}
use Rattle.tasks.specs.Units.{no_ticks}
use Rattle.seating.specs.Seats.{tasks_of}
use Rattle.seating.proofs.Placing.{place_le, length-tasks}
use Rattle.rack.proofs.Renewings.{Renewing, renewing_more, length-seated, seated_with}
use Rattle.rack.proofs.seat_table.SeatTable.seat.Goals as goal

pub loop-below-preserved : goal.loop-below-preserved
loop-below-preserved c =
    let ss = c.args.self.now in
    let lent = c.deref-2.result.now in
    let us = c.args.trial.now.instants.items in
    let at = c.args.trial.now.place in
    let below = c.loop-below.below in
    let le : at ≤ length ss = omega (arith, place_le c.args.newcomer (tasks_of ss), length-tasks ss) in
    let long = length-seated ss c.insert.new.self c.loop-below.self _ _ _ _ le c.insert.ensures c.loop-below.invariant in
    let part = length-between lent 1 (length lent) (omega arith) in
    let many = ap (length {A = Ticks}) c.deref-2.ensures.0 in
    let step : at + 1 + below + 1 ≡ at + 1 + (below + 1) = omega arith in
    let place : 1 + below ≡ at + 1 + below - at = omega arith in
    let within : below < length lent - 1 = omega (arith, part) in
    subst (λ (j : ℕ). Renewing c.insert.new.self c.renew.new.self at j us) step
    (subst (λ (l : List Seat). Renewing c.insert.new.self l at (at + 1 + below + 1) us) (sym c.renew.ensures)
    (renewing_more c.insert.new.self c.loop-below.self at (at + 1 + below) us _ (omega arith) (omega arith)
    (get_or-between lent 1 (length lent) below no_ticks (omega arith) ∙ ap (λ (l : List Ticks). get_or l (1 + below) no_ticks) c.deref-2.ensures.0 ∙ ap (λ (j : ℕ). get_or us j no_ticks) place)
    c.loop-below.invariant))

pub returns : goal.returns
returns c =
    let ss = c.args.self.now in
    let lent = c.deref-2.result.now in
    let us = c.args.trial.now.instants.items in
    let at = c.args.trial.now.place in
    let le : at ≤ length ss = omega (arith, place_le c.args.newcomer (tasks_of ss), length-tasks ss) in
    let part = length-between lent 1 (length lent) (omega arith) in
    let many = ap (length {A = Ticks}) c.deref-2.ensures.0 in
    seated_with c.args.newcomer ss c.loop-below.self at (at + 1 + c.loop-below.below) us (get_or c.deref.result.now 0 no_ticks) le c.requires.place (omega arith)
    (ap (λ (l : List Ticks). get_or l 0 no_ticks) c.deref.ensures.0)
    (subst (λ (l : List Seat). Renewing l c.loop-below.self at (at + 1 + c.loop-below.below) us) c.insert.ensures c.loop-below.invariant)
