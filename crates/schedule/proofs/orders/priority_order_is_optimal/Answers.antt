use Rattle.schedule.proofs.Exactly.{priority_order_is_optimal}
use Rattle.schedule.proofs.orders.priority_order_is_optimal.Goals as goal

pub returns : goal.returns
returns c = priority_order_is_optimal
