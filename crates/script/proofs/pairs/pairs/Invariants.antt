use Rattle.std.proofs.Common.{◌≡◌, ◌++◌, length}
use Rattle.script.specs.Pairs.{in_pairs}
use Rattle.script.proofs.pairs.pairs.Given as goal

-- what is read and what is left give the whole
abbrev pub invariant-loop-left : goal.invariant-loop-left
invariant-loop-left g l = l.all.items ++ in_pairs g.T.FromPair.meaning l.left ≡ in_pairs g.T.FromPair.meaning l.numbers

abbrev pub decreases-loop-left : goal.decreases-loop-left
decreases-loop-left g l = length l.left
