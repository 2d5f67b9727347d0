use Rattle.judges.proofs.Chosen.{steps_least}
use Rattle.judges.proofs.step_up.steps_are_least.Goals as goal

pub returns : goal.returns
returns c = steps_least
