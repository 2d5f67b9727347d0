use Rattle.std.proofs.Common.{vec_items, rules, ◌∙◌}
use Rattle.console.proofs.Reading.{byte_more}
use Rattle.console.proofs.hex.bytes_from.Goals as goal

pub loop-left-preserved : goal.loop-left-preserved
loop-left-preserved c =
    byte_more (vec_items c.loop-left.all) c.loop-left.left.now c.in-len2-up.len_at_least c.in_ok-b.b (search rules) (vec_items c.push.new.self) (search rules) ∙ c.loop-left.invariant
