-- Where a newcomer goes.
use Rattle.std.proofs.Common.{◌≡◌, ℕ, true, [], ◌∷◌, get_or, refl, lit≤}
use Rattle.std.specs.List.{AllByRecursion}
use Rattle.tasks.specs.Rounding.{up}
use Rattle.tasks.specs.Priority.{joined}
use Rattle.tasks.specs.Demand.{Fits}
use Rattle.preferences.specs.Laws.{Relation}
use Rattle.seating.specs.Seats.{tasks_of}
use Rattle.seating.specs.Admission.{WouldTake, Preferred, as_seen}
use Rattle.book.proofs.Moments.{kept_fits}
use Rattle.cases.specs.Cases.{Settled, seat, two_lists, newcomer, places}
use Rattle.cases.proofs.Few.{of_two}

fits_0 : Fits (joined newcomer (tasks_of (get_or two_lists 0 [])))
unfolding up
fits_0 = kept_fits (seat 1 2 5 5 ∷ seat 2 4 10 10 ∷ seat 4 1 10 10 ∷ []) refl

fits_1 : Fits (joined newcomer (tasks_of (get_or two_lists 1 [])))
unfolding up
fits_1 = kept_fits (seat 3 3 10 10 ∷ seat 4 1 10 10 ∷ []) refl

-- the one of the two that takes the newcomer goes before the other
module _ (before : Relation) where
  abbrev First : ℕ → ℕ → Type 0
  First p q = (q ≡ p → ⊥) → WouldTake newcomer (get_or two_lists q []) → before (as_seen two_lists p) (as_seen two_lists q) ≡ true

  taken_by_0 : before (as_seen two_lists 0) (as_seen two_lists 1) ≡ true → Preferred before two_lists newcomer 0
  taken_by_0 e = record { there = lit≤ tt; takes = record { room = lit≤ tt; fits = fits_0 }; first = of_two (First 0) (λ ne w. absurd (ne refl)) (λ ne w. e) }

  taken_by_1 : before (as_seen two_lists 1) (as_seen two_lists 0) ≡ true → Preferred before two_lists newcomer 1
  taken_by_1 e = record { there = lit≤ tt; takes = record { room = lit≤ tt; fits = fits_1 }; first = of_two (First 1) (λ ne w. e) (λ ne w. absurd (ne refl)) }

pub all_placed : AllByRecursion Settled places
unfolding up
all_placed = (taken_by_0 _ refl, (taken_by_0 _ refl, (taken_by_1 _ refl, tt)))
