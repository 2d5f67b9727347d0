use Rattle.std.proofs.Common.{Some, rules, refl}
use Rattle.console.specs.Making.{MakeTold, made_text}
use Rattle.console.proofs.Losing.{answer_lost}
use Rattle.console.proofs.making.make.Goals as goal

pub returns : goal.returns
returns c = (Some (c.in_ok-processors.processors, c.in_ok-processors.setup), c.in_ok-processors.ensures, record { refusal = c.put-answer.result; puts = c.put-answer.ensures; says = search rules })

pub returns-in_err-in_words : goal.returns-in_err-in_words
returns-in_err-in_words c =
    answer_lost (MakeTold c.args.console.now c.args.rest.now) c.args.console.now c.put-answer.new.console (made_text c.put-answer.result)
    (Some (c.in_ok-processors.processors, c.in_ok-processors.setup), c.in_ok-processors.ensures, record { refusal = c.put-answer.result; puts = c.put-answer.ensures; says = refl })
    c.in_err-in_words.field-0.0 (search rules) c.from_residual-in_err-in_words.result (search rules)
