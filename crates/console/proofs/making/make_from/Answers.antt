use Rattle.std.proofs.Common.{rules}
use Rattle.console.proofs.Setups.{reads_none, no_number, unspaced_asks, other_asks, numberless_asks}
use Rattle.console.proofs.making.make_from.Goals as goal

pub returns-in_err-digits : goal.returns-in_err-digits
returns-in_err-digits c = reads_none _ _ c.in_err-digits.field-0.0 (search rules) (λ _. unspaced_asks c.args.rest.now (search rules))

pub returns-in_err-setup : goal.returns-in_err-setup
returns-in_err-setup c =
    reads_none _ _ c.in_err-setup.field-0.0 (search rules) (λ _. other_asks c.args.rest.now c.in_ok-digits.digits.now c.in_ok-digits.tail.now (search rules) (search rules) c.in_err-setup.ensures.1)

pub returns-in_err-processors : goal.returns-in_err-processors
returns-in_err-processors c =
    reads_none _ _ c.in_err-processors.field-0.0 (search rules) (λ e. numberless_asks c.args.rest.now c.in_ok-digits.digits.now c.in_ok-digits.tail.now (search rules) (search rules) (no_number c.in_ok-digits.digits.now _ c.in_err-processors.ensures e))
