use Rattle.std.proofs.Common.{◌≡◌, drop, vec_items}
use Rattle.script.specs.Fields.{numbers_from, numbers_of}
use Rattle.script.proofs.fields.numbers.Given as goal

-- what is read and what is left give the whole
abbrev pub invariant-loop-b : goal.invariant-loop-b
invariant-loop-b l = numbers_from (vec_items l.all) l.so_far (drop l.b-index l.text) ≡ numbers_of l.text
