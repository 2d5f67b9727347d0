use Rattle.machine.proofs.Job.{done_by_deadline}
use Rattle.machine.proofs.laws.done_by_deadline.Goals as goal

pub returns : goal.returns
returns c = done_by_deadline
