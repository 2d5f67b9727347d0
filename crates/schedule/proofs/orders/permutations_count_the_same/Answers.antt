use Rattle.schedule.proofs.Permuting.{permutations_count_the_same}
use Rattle.schedule.proofs.orders.permutations_count_the_same.Goals as goal

pub returns : goal.returns
returns c = permutations_count_the_same
