use Rattle.std.proofs.Common.{lit<}
use Rattle.std.proofs.lemmas.Str.Pattern.{split_parts}
use Rattle.script.proofs.calls.split_word.Goals as goal

pub returns : goal.returns
returns c = split_parts 32 c.args.line.now c.split_once.result c.split_once.ensures.cases (lit< tt)
