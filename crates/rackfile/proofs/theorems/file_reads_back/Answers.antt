use Rattle.rackfile.proofs.Written.{file_reads_back}
use Rattle.rackfile.proofs.theorems.file_reads_back.Goals as goal

pub returns : goal.returns
returns c = file_reads_back
