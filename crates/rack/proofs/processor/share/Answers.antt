use Rattle.std.proofs.Common.{◌≡◌, rules, arith}
use Rattle.std.specs.Option.{unwrap_or}
use Rattle.tasks.specs.Share.{share_answer}
use Rattle.rack.proofs.Shares.{share_small}
use Rattle.rack.proofs.processor.share.Goals as goal

pub returns-clause-bound : goal.returns-clause-bound
returns-clause-bound c =
    let value : c.map_or.result ≡ unwrap_or (share_answer c.args.task) 0 = search rules in
    omega (arith, share_small c.args.task, value)
