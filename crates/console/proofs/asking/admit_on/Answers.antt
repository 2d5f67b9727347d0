use Rattle.std.proofs.Common.{arith, rules}
use Rattle.std.proofs.lemmas.Grind.{common_steps}
use Rattle.console.proofs.Losing.{admitted_or_lost}
use Rattle.console.proofs.asking.admit_on.Goals as goal

pub returns : goal.returns
returns c =
    admitted_or_lost c.args.rack.now c.admit-answer.new.self c.args.asks c.admit-answer.result c.as_mut_slice.result.now c.admit-answer.new.sheet c.as_slice.result.now c.in_words.result
    c.admit-answer.ensures.step (search rules) c.in_words.ensures (grind (arith, common_steps))
