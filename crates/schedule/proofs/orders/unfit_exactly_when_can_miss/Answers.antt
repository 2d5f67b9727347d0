use Rattle.schedule.proofs.Exactly.{unfit_exactly_when_can_miss}
use Rattle.schedule.proofs.orders.unfit_exactly_when_can_miss.Goals as goal

pub returns : goal.returns
returns c = unfit_exactly_when_can_miss
