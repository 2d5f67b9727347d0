-- What a withdrawal leaves is the list without its task, as the book writes it.
use Rattle.std.proofs.Common.{◌≡◌, ℕ, zero, suc, ◌<◌, true, eqb, List, [], ◌∷◌, length, get_or, set, sym, ap, ◌∙◌, arith}
use Rattle.std.specs.List.{remove}
use Rattle.std.proofs.lemmas.Bool.{ne_eqb, cond-false}
use Rattle.tasks.specs.declared.units.Ticks.{Ticks}
use Rattle.tasks.specs.declared.units.Units.{Units}
use Rattle.seating.specs.declared.seat.Seat.{Seat}
use Rattle.seating.specs.Seats.{Lists, no_seat, numbers, all_differ}
use Rattle.seating.specs.Withdrawal.{Leaves}
use Rattle.seating.proofs.Numbering.{one_place}
use Rattle.book.specs.Book.{without}

without_first : (n : ℕ) (ss : List Seat) (at : ℕ) → at < length ss → (get_or ss at no_seat).task.number ≡ n → ((k : ℕ) → k < at → (get_or ss k no_seat).task.number ≡ n → ⊥) → without n ss ≡ remove ss at
without_first n [] at lt e none = absurd (omega arith)
without_first n (s ∷ ss) zero lt e none = grind arith
without_first n (s ∷ ss) (suc at) lt e none =
    cond-false (eqb s.task.number n) ss (s ∷ without n ss) (ne_eqb s.task.number n (none 0 (omega arith)))
    ∙ ap (λ (l : List Seat). s ∷ l) (without_first n ss at (omega arith) e (λ k h. none (suc k) (omega arith)))

pub leaves_as_written : (b : Lists) → all_differ (numbers b) ≡ true → (n p : ℕ) (work : Units) (period : Ticks) (b' : Lists) → Leaves b n p work period b' → b' ≡ set b p (without n (get_or b p []))
leaves_as_written b differ n p work period b' l =
    let s = l.sits in
    l.seats ∙ ap (λ (ss : List Seat). set b p ss) (sym (without_first n (get_or b p []) l.at s.within s.number (λ k h e.
    let same = one_place n b differ p k l.at s.there (omega (arith, h, s.within)) s.within e s.number in omega (arith, h, same))))
