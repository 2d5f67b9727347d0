use Rattle.std.proofs.Common.{rules}
use Rattle.console.proofs.Reading.{at_none, no_space, other_word, unnamed}
use Rattle.console.proofs.words.asked.Goals as goal

pub returns-in_err-first : goal.returns-in_err-first
returns-in_err-first c = at_none _ _ _ c.from_residual.ensures (no_space c.args.line.now (search rules))

pub returns-in_err-word : goal.returns-in_err-word
returns-in_err-word c =
    let s = c.in_ok-first.ensures in
    let n = unnamed c.in_ok-first.first.now c.from_str.result c.from_str.ensures (search rules) in
    at_none _ _ _ c.from_residual-in_err-word.ensures (other_word c.args.line.now c.in_ok-first.first.now c.in_ok-first.rest.now s.0 s.1 n)
