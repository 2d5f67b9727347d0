use Rattle.std.proofs.Common.{rules}
use Rattle.console.proofs.Losing.{admission_lost}
use Rattle.console.proofs.asking.admit.Goals as goal

pub returns-in_err-admit_on : goal.returns-in_err-admit_on
returns-in_err-admit_on c =
    admission_lost c.args.console.now _ c.from_residual-in_err-admit_on.result c.in_ok-asks.asks c.in_ok-rack.rack.now c.admit_on.new.rack c.in_err-admit_on.field-0.0
    (search rules) (search rules) (search rules) (search rules)
