-- Where a number sits, processor by processor.
use Rattle.std.proofs.Common.{◌≡◌, ℕ, ◌+◌, ◌<◌, Bool, ◌||◌, List, [], length, get_or, drop, Some, None, sym, ap, ◌∙◌, subst}
use Rattle.std.proofs.lemmas.List.{at_drop_more}
use Rattle.seating.specs.declared.seat.Seat.{Seat}
use Rattle.seating.specs.Seats.{Lists, holds, seated, FirstSpot}
use Rattle.seating.specs.Withdrawal.{SitsAt}

module _ (n : ℕ) (b : Lists) (p : ℕ) (ss : List Seat) (there : p < length b) (here : get_or b p [] ≡ ss) where
  pub sits_at : (at : ℕ) → FirstSpot n ss (Some at) → SitsAt b n p at
  sits_at at s =
      let t : FirstSpot n (get_or b p []) (Some at) = subst (λ (l : List Seat). FirstSpot n l (Some at)) (sym here) s in
      record { there = there; within = t.within; number = t.number }

  pub not_here : FirstSpot n ss None → seated n (drop p b) ≡ seated n b → seated n (drop (p + 1) b) ≡ seated n b
  not_here s old = ap (λ (y : Bool). y || seated n (drop (p + 1) b)) (sym (ap (holds n) here ∙ s)) ∙ sym (at_drop_more (seated n) b p [] there) ∙ old
