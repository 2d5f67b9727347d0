use Rattle.std.proofs.Common.{◌≡◌, length, vec_items}
use Rattle.console.specs.Hex.{bytes_after, bytes_of}
use Rattle.console.proofs.hex.bytes_from.Given as goal

-- what is read and what is left give the whole
abbrev pub invariant-loop-left : goal.invariant-loop-left
invariant-loop-left l = bytes_after (vec_items l.all) l.left ≡ bytes_of l.text

abbrev pub decreases-loop-left : goal.decreases-loop-left
decreases-loop-left l = length l.left
