-- What holds at a moment, by lists that are kept well.
use Rattle.std.proofs.Common.{◌≡◌, ℕ, ◌<◌, true, ◌↔◌, List, ◌∷◌, length, get_or, arith}
use Rattle.std.specs.List.Sorted.{IsPermutation}
use Rattle.std.proofs.lemmas.List.Sorted.{IsPermutation-trans, IsPermutation-sym}
use Rattle.tasks.specs.declared.task.Task.{Task}
use Rattle.tasks.specs.Limits.{within_limits}
use Rattle.tasks.specs.Priority.{joined}
use Rattle.tasks.specs.Demand.{Fits}
use Rattle.tasks.proofs.Priority.{joined_by_priority}
use Rattle.machine.specs.Promises.{CanMiss}
use Rattle.schedule.proofs.Enough.{fitting_list_is_safe}
use Rattle.schedule.proofs.Exactly.{unfit_exactly_when_no_order}
use Rattle.schedule.proofs.Permuting.{joined_shuffled}
use Rattle.seating.specs.declared.seat.Seat.{Seat}
use Rattle.seating.specs.Seats.{tasks_of, no_seat, all_keep_good, numbers, all_differ}
use Rattle.seating.proofs.Keeping.{each_keeps}
use Rattle.seating.proofs.Limiting.{within_joined}
use Rattle.seating.proofs.Placing.{length-tasks}
use Rattle.book.specs.Book.{Book, seats_on, tasks_on, KeptWell, Fails, Passes, MissesInEachOrder, AtMoment}

pub kept_fits : (ss : List Seat) → all_keep_good ss ≡ true → Fits (tasks_of ss)
kept_fits ss h k lt = ((get_or ss k no_seat).instant.0, each_keeps ss h k (omega (arith, lt, length-tasks ss)))

-- joining first changes nothing for permutations
each_order : (x : Task) (ts : List Task) → ((us : List Task) → IsPermutation (joined x ts) us → CanMiss us) ↔ MissesInEachOrder (x ∷ ts)
each_order x ts = (
  λ h us s. h us (IsPermutation-trans (joined x ts) (x ∷ ts) us (IsPermutation-sym (x ∷ ts) (joined x ts) (joined_shuffled x ts)) s),
  λ h us s. h us (IsPermutation-trans (x ∷ ts) (joined x ts) us (joined_shuffled x ts) s),
)

fails_when : (b : Book) (x : Task) (p : ℕ) → within_limits x ≡ true → KeptWell (seats_on b p) → Fails b x p ↔ MissesInEachOrder (x ∷ tasks_on b p)
fails_when b x p lim k =
    let ts = tasks_on b p in
    let one = unfit_exactly_when_no_order (joined x ts) (within_joined x ts lim k.limits) (joined_by_priority x ts k.order) in
    let two = each_order x ts in
    (λ h. two.0 (one.0 h), λ h. one.1 (two.1 h))

pub at_moment : (b : Book) → ((p : ℕ) → p < length b → KeptWell (seats_on b p)) → all_differ (numbers b) ≡ true → ((x : Task) (entries : ℕ) → Passes b x entries → within_limits x ≡ true) → AtMoment b
at_moment b kept differ limits = record {
  kept_well = kept;
  seated_once = differ;
  none_misses = λ p h. fitting_list_is_safe (tasks_on b p) (kept p h).limits (kept_fits (seats_on b p) (kept p h).instants);
  fails_exactly = λ x n passes p free. fails_when b x p (limits x n passes) (kept p free.there);
}
