use Rattle.script.proofs.Parting.{fields_write_numbers}
use Rattle.script.proofs.fields.fields_write_numbers.Goals as goal

pub returns : goal.returns
returns c = fields_write_numbers
