use Rattle.std.proofs.Common.{◌*◌, ◌≤◌, sym, arith}
use Rattle.std.proofs.lemmas.Bool.Decides.{nat_tests}
use Rattle.tasks.specs.Share.{share_of}
use Rattle.tasks.proofs.Roundings.{up_least}
use Rattle.tasks.proofs.Bounds.{limits}
use Rattle.tasks.proofs.task.Task.share.Goals as goal

pub returns : goal.returns
returns c =
    let x = c.args.self.now in
    let l = limits x (sym c.if-not-keeps_limits.ensures) in
    let most : share_of x ≤ 1000000 = up_least (x.work.0 * 1000000) x.period.0 1000000 l.period_from (omega (arith, l.work_to)) in
    grind (arith, nat_tests, most)
