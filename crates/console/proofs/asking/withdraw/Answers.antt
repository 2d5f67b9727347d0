use Rattle.std.proofs.Common.{rules}
use Rattle.console.proofs.Losing.{withdrawal_lost}
use Rattle.console.proofs.asking.withdraw.Goals as goal

pub returns-in_err-withdraw_on : goal.returns-in_err-withdraw_on
returns-in_err-withdraw_on c =
    withdrawal_lost c.args.console.now _ c.from_residual-in_err-withdraw_on.result c.in_ok-number.number c.in_ok-rack.rack.now c.withdraw_on.new.rack c.in_err-withdraw_on.field-0.0
    (search rules) (search rules) (search rules) (search rules)
