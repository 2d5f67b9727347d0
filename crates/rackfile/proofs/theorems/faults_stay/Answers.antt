use Rattle.rackfile.proofs.FaultLaws.{faults_stay}
use Rattle.rackfile.proofs.theorems.faults_stay.Goals as goal

pub returns : goal.returns
returns c = faults_stay
