-- Where the first task of a number sits.
use Rattle.std.proofs.Common.{◌≡◌, ℕ, Bool, false, List, Some, None, Option, position, ◌==◌, sym, arith}
use Rattle.std.specs.List.{list_any}
use Rattle.std.proofs.lemmas.Bool.{eqb-true}
use Rattle.std.proofs.lemmas.List.Quantifiers.{position-Some}
use Rattle.std.proofs.lemmas.List.Folds.{list_any_none}
use Rattle.std.proofs.lemmas.List.Sums.{fails_before_first}
use Rattle.seating.specs.declared.seat.Seat.{Seat}
use Rattle.seating.specs.Seats.{no_seat, FirstSpot}

none_passes : {X : Type 0} (p : X → Bool) (xs : List X) → position p xs ≡ None → list_any p xs ≡ false
none_passes p xs e = grind (arith, list_any_none p xs, fails_before_first p xs)

pub first_spot : (n : ℕ) (ss : List Seat) (o : Option ℕ) → o ≡ position (λ (s : Seat). s.task.number == n) ss → FirstSpot n ss o
first_spot n ss (Some i) e =
    let p = position-Some (λ (s : Seat). s.task.number == n) ss i no_seat (sym e) in
    record { within = p.0; number = eqb-true _ n p.1; first = λ k lt is. let not = p.2 k lt in grind arith }
first_spot n ss None e = none_passes (λ (s : Seat). s.task.number == n) ss (sym e)
