use Rattle.std.proofs.Common.{refl}
use Rattle.machine.proofs.Separated.{one_pass}
use Rattle.machine.proofs.checks.is_lawful.Goals as goal

pub loop-release-init : goal.loop-release-init
loop-release-init c = (one_pass c.args.tasks.now c.args.horizon.0 33 c.args.releases.now c.requires.few, refl)
