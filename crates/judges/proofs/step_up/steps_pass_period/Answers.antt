use Rattle.judges.proofs.Steps.{steps_pass_period}
use Rattle.judges.proofs.step_up.steps_pass_period.Goals as goal

pub returns : goal.returns
returns c = steps_pass_period
