use Rattle.schedule.proofs.Exactly.{fits_or_not}
use Rattle.schedule.proofs.orders.fits_or_not.Goals as goal

pub returns : goal.returns
returns c = fits_or_not
