use Rattle.std.proofs.Common.{ap}
use Rattle.rack.specs.Table.{Table}
use Rattle.rack.proofs.Soundness.{left_so}
use Rattle.rack.proofs.rack.Rack.withdraw.Goals as goal

pub invariant_of-self : goal.invariant_of-self
invariant_of-self g c =
    let is = ap (λ (t : Table g.row.J.Denot g.row.P.Denot). t.lists) c.self.view_is in
    left_so c.args.self.now.lists c.spot.ensures.sound c.self.inside.processors.items c.deref_mut.result.now is c.deref_mut.ensures.value c.index-deref_mut-p.result c.leave-seat.new.self c.args.number c.in_ok-p.p c.in_ok-p.at
    c.spot.result c.in_ok-p.ensures.ok_part c.spot.ensures.spot c.leave-seat.ensures.list

pub returns-clause-sound : goal.returns-clause-sound
returns-clause-sound = invariant_of-self
