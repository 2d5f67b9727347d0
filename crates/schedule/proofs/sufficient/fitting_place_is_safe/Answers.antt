use Rattle.schedule.proofs.Enough.{fitting_place_is_safe}
use Rattle.schedule.proofs.sufficient.fitting_place_is_safe.Goals as goal

pub returns : goal.returns
returns c = fitting_place_is_safe
