use Rattle.schedule.proofs.Permuting.{joined_keeps_order}
use Rattle.schedule.proofs.orders.joined_keeps_order.Goals as goal

pub returns : goal.returns
returns c = joined_keeps_order
