-- A lawful judge who is asked from the newcomer down decides whether the list fits.
use Rattle.std.proofs.Common.{◌≡◌, ℕ, zero, suc, ◌+◌, ◌<◌, ◌≤◌, true, ◌⊎◌, List, [], ◌∷◌, length, get_or, take, Some, None, Option, refl, ap, ◌∙◌, inl, inr, ⊎_elim, arith}
use Rattle.std.proofs.lemmas.List.{length-take-le}
use Rattle.std.proofs.lemmas.Bool.{cases_lt, both_ways}
use Rattle.tasks.specs.declared.task.Task.{Task}
use Rattle.tasks.specs.Limits.{within_limits, all_within}
use Rattle.tasks.specs.Priority.{joined}
use Rattle.tasks.specs.Demand.{no_task, good, FitsAt}
use Rattle.judges.specs.Laws.{Meaning, JudgeLaws, asked}
use Rattle.seating.specs.declared.seat.Seat.{Seat}
use Rattle.seating.specs.Seats.{tasks_of, no_seat, place_of, all_keep_good}
use Rattle.seating.specs.Admission.{said}
use Rattle.seating.specs.Judging.{Given, DecidesFit, TakesExactly}
use Rattle.seating.proofs.Keeping.{each_keeps}
use Rattle.seating.proofs.Limiting.{within_each, within_joined}
use Rattle.seating.proofs.Placing.{length-tasks, length-joined, place_le, above_stays, take-joined}

within_take : (k : ℕ) (ts : List Task) → all_within ts ≡ true → all_within (take k ts) ≡ true
within_take zero ts a = refl
within_take (suc k) [] a = refl
within_take (suc k) (y ∷ ys) a = grind (arith, within_take k ys)

pub some_or_none : {X : Type 0} (o : Option X) → ((x : X) × (o ≡ Some x)) ⊎ (o ≡ None)
some_or_none (Some x) = inl (x, refl)
some_or_none None = inr refl

module _ (meaning : Meaning) (laws : JudgeLaws meaning) (x : Task) (ss : List Seat) (own : within_limits x ≡ true) (limits : all_within (tasks_of ss) ≡ true) (old : all_keep_good ss ≡ true) (room : length ss < 32) where
  abbrev ts : List Task
  ts = tasks_of ss

  abbrev place : ℕ
  place = place_of x ts

  abbrev all : List Task
  all = joined x ts

  long : length all ≡ length ss + 1
  long = omega (arith, length-joined x ts, length-tasks ss)

  may_ask : (k : ℕ) → k < length all → asked (get_or all k no_task) (take k all) ≡ true
  may_ask k h =
      let w = within_joined x ts own limits in
      grind (arith, long, length-take-le k all, within_each all w k no_task h, within_take k all w)

  fits_above : (k : ℕ) → k < place → FitsAt all k
  fits_above k lt =
      let le = place_le x ts in
      let n = length-tasks ss in
      let t = (get_or ss k no_seat).instant.0 in (
        t,
        ap (λ (l : List Task). good (get_or all k no_task) l t) (take-joined x ts k (omega arith))
            ∙ ap (λ (y : Task). good y (take k ts) t) (above_stays x ts k lt) ∙ each_keeps ss old k (omega arith),
      )

  fits_said : (k : ℕ) → Given meaning x ss k → FitsAt all k
  fits_said k g = (g.0.0, laws.sound (get_or all k no_task) (take k all) g.0 g.1)

  unfit_none : (k : ℕ) → k < length all → said meaning all k ≡ None → FitsAt all k → ⊥
  unfit_none k h e f = both_ways _ (laws.complete (get_or all k no_task) (take k all) (may_ask k h) e f.0) f.1

  decides : DecidesFit meaning x ss
  decides = record {
    given_fits = λ w k h. ⊎_elim (λ (lt : k < place). fits_above k lt) (λ (ge : place ≤ k). fits_said k (w k ge (omega (arith, long)))) (cases_lt k place);
    fits_given = λ f k lo hi.
        let h : k < length all = omega (arith, long) in
        ⊎_elim (λ (s : Given meaning x ss k). s) (λ (e : said meaning all k ≡ None). absurd (unfit_none k h e (f k h))) (some_or_none (said meaning all k));
    first_unfit = λ n u. record {
      at = u.at;
      within = omega (arith, u.within, long);
      unfit = unfit_none u.at (omega (arith, u.within, long)) u.none;
      before = λ k lt. ⊎_elim (λ (above : k < place). fits_above k above) (λ (ge : place ≤ k). fits_said k (u.before k ge lt)) (cases_lt k place);
      number = u.number;
    };
  }

pub takes_exactly : TakesExactly
takes_exactly meaning laws x ss own limits old room = decides meaning laws x ss own limits old room
