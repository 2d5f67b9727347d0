use Rattle.std.proofs.Common.{◌≡◌, [], get_or, sym, ap, ◌∙◌, subst}
use Rattle.std.proofs.lemmas.List.{get_or_default}
use Rattle.seating.specs.Seats.{Lists}
use Rattle.seating.specs.Withdrawal.{SitsAt}
use Rattle.rack.specs.Table.{Table, Sound}
use Rattle.rack.proofs.Spotting.{sits_at, not_here}
use Rattle.rack.proofs.rack.Rack.spot.Goals as goal

pub returns-in-Some : goal.returns-in-Some
returns-in-Some g c =
    let is = ap (λ (t : Table g.row.J.Denot g.row.P.Denot). t.lists) c.self.view_is in
    let b = c.deref-processor-items.result.now in
    let p = c.loop-p.p in
    let here : get_or b p [] ≡ c.seats.result.now = get_or_default b p [] c.processor-item.result c.loop-p-test.true ∙ sym c.processor-item.is ∙ sym c.seats.ensures.list in
    let sits : SitsAt b c.args.number p c.in-Some.at =
    sits_at c.args.number b p c.seats.result.now c.loop-p-test.true here c.in-Some.at c.in-Some.ensures in
    record { spot = subst (λ (l : Lists). SitsAt l c.args.number p c.in-Some.at) (c.deref-processor-items.ensures.0 ∙ is) sits; sound = subst Sound is c.self.invariant }

pub loop-p-preserved : goal.loop-p-preserved
loop-p-preserved g c =
    let b = c.deref-processor-items.result.now in
    let p = c.loop-p.p in
    let here : get_or b p [] ≡ c.seats.result.now = get_or_default b p [] c.processor-item.result c.loop-p-test.true ∙ sym c.processor-item.is ∙ sym c.seats.ensures.list in
    not_here c.args.number b p c.seats.result.now c.loop-p-test.true here c.in_default.ensures c.loop-p.invariant
