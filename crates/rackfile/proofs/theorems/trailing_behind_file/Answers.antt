use Rattle.rackfile.proofs.FaultLaws.{trailing_exactly}
use Rattle.rackfile.proofs.theorems.trailing_behind_file.Goals as goal

pub returns : goal.returns
returns c = trailing_exactly
