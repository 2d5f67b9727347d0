use Rattle.judges.proofs.Steps.{steps_stand_still}
use Rattle.judges.proofs.step_up.steps_stand_still.Goals as goal

pub returns : goal.returns
returns c = steps_stand_still
