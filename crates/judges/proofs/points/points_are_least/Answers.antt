use Rattle.judges.proofs.Chosen.{points_least}
use Rattle.judges.proofs.points.points_are_least.Goals as goal

pub returns : goal.returns
returns c = points_least
