-- What the judging of a list says of the seats.
use Rattle.std.proofs.Common.{◌≡◌, ℕ, ◌+◌, ◌-◌, ◌<◌, ◌≤◌, List, length, get_or, Some, None, Option, Result, Ok, Err, refl, sym, ap, ◌∙◌, subst, arith}
use Rattle.std.specs.Option.{ok_or}
use Rattle.arrayvec.specs.ArrayVec.{ArrayVec}
use Rattle.tasks.specs.declared.task.Task.{Task}
use Rattle.tasks.specs.declared.units.Ticks.{Ticks}
use Rattle.tasks.specs.Priority.{joined}
use Rattle.tasks.specs.Demand.{no_task}
use Rattle.judges.specs.Laws.{Meaning}
use Rattle.seating.specs.declared.seat.Seat.{Seat}
use Rattle.tasks.specs.Units.{no_ticks}
use Rattle.seating.specs.Seats.{tasks_of, place_of}
use Rattle.seating.specs.Admission.{said}
use Rattle.seating.proofs.Placing.{length-tasks, length-joined, place_le}
use Rattle.rack.specs.declared.trial.Declined.{Declined}
use Rattle.rack.specs.declared.trial.Declined.TheVariants.{Unfit}
use Rattle.rack.specs.Trials.{AllSaid, Judged, Took, Declines}

ok_or_err : {X E : Type 0} (o : Option X) (e d : E) → ok_or o e ≡ Err d → (o ≡ None) × (d ≡ e)
ok_or_err None e d h = (refl, cc)
ok_or_err (Some x) e d h = cc

-- the first task that has no instant
pub none_so : (meaning now : Meaning) → now ≡ meaning → (ts : List Task) (from i : ℕ) (o : Option Ticks) (r : Result Ticks Declined) (d : Declined) → from ≤ i → i < length ts → o ≡ said now ts i → r ≡ ok_or o (Unfit (get_or ts i no_task).number) → r ≡ Err d
    → ((k : ℕ) → from ≤ k → k < i → (t : Ticks) × (said meaning ts k ≡ Some t)) → Judged meaning ts from (Err d)
none_so meaning now same ts from i o r d lo hi answer is err others =
    let none = ok_or_err o (Unfit (get_or ts i no_task).number) d (sym is ∙ err) in (
      _,
      none.1,
      record {
        at = i;
        below = lo;
        within = hi;
        none = ap (λ (m : Meaning). said m ts i) (sym same) ∙ sym answer ∙ none.0;
        number = refl;
        before = others;
      },
    )

module _ (meaning : Meaning) (x : Task) (ss : List Seat) (place : ℕ) (at : place ≡ place_of x (tasks_of ss)) (room : length ss < 32)
    (ts : List Task) (is : ts ≡ joined x (tasks_of ss)) (r : Result (ArrayVec Ticks) Declined) (judged : Judged meaning ts place r) where
  long : length ts ≡ length ss + 1
  long = omega (arith, ap (length {A = Task}) is, length-joined x (tasks_of ss), length-tasks ss)

  pub took : (us : ArrayVec Ticks) → r ≡ Ok us → Took meaning x ss (record { place = place; instants = us })
  took us ok =
      let s : AllSaid meaning ts place us.items = subst (λ (q : Result (ArrayVec Ticks) Declined). Judged meaning ts place q) ok judged in
      record {
        trial = record { room = room; place = at; count = omega (arith, s.count, long, place_le x (tasks_of ss), length-tasks ss) };
        each = λ k lo hi. subst (λ (l : List Task). said meaning l k ≡ Some (get_or us.items (k - place) no_ticks)) is (s.each k lo (omega (arith, long)));
      }

  pub declines : (d : Declined) → r ≡ Err d → Declines meaning x ss d
  declines d err =
      let s : Judged meaning (joined x (tasks_of ss)) place (Err d) = subst (λ (l : List Task). Judged meaning l place (Err d)) is (subst (λ (q : Result (ArrayVec Ticks) Declined). Judged meaning ts place q) err judged) in
      let none = s.2 in
      subst (λ (e : Declined). Declines meaning x ss e) (sym s.1) (
        room,
        record {
          at = none.at;
          below = omega (arith, none.below);
          within = omega (arith, none.within, long, ap (length {A = Task}) is);
          none = none.none;
          number = none.number;
          before = λ k lo hi. none.before k (omega arith) hi;
        },
      )
