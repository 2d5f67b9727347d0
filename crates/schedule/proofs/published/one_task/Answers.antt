use Rattle.schedule.proofs.Passing.{one_task}
use Rattle.schedule.proofs.published.one_task.Goals as goal

pub returns : goal.returns
returns c = one_task
