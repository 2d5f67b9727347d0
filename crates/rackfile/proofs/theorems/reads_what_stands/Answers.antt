use Rattle.rackfile.proofs.Standing.{reads_what_stands}
use Rattle.rackfile.proofs.theorems.reads_what_stands.Goals as goal

pub returns : goal.returns
returns c = reads_what_stands
