-- First fit, best fit and worst fit keep the laws of a preference.
use Rattle.std.proofs.Common.{rules}
use Rattle.preferences.specs.Laws.{PreferenceLaws}
use Rattle.preferences.specs.Fits.{first_fit, best_fit, worst_fit}

pub first_laws : PreferenceLaws first_fit
first_laws = search rules

pub best_laws : PreferenceLaws best_fit
best_laws = search rules

pub worst_laws : PreferenceLaws worst_fit
worst_laws = search rules
