-- What an admission leaves on a processor is the list with the newcomer, as the book writes it.
use Rattle.std.proofs.Common.{◌≡◌, ℕ, zero, suc, ◌+◌, ◌<◌, ◌≤◌, List, [], ◌∷◌, ◌++◌, length, get_or, take, drop, Some, sym, refl, ap, ◌∙◌, append_assoc, append-nil, arith}
use Rattle.std.proofs.lemmas.List.{take-append-drop, length-drop, get_or-drop, drop-map, drop-take, take-take, length-take-le}
use Rattle.tasks.specs.declared.task.Task.{Task}
use Rattle.tasks.specs.declared.units.Ticks.{Ticks}
use Rattle.tasks.specs.Priority.{joined}
use Rattle.tasks.specs.Demand.{no_task}
use Rattle.judges.specs.Laws.{Meaning}
use Rattle.seating.specs.declared.seat.Seat.{Seat}
use Rattle.seating.specs.Seats.{tasks_of, no_seat, place_of}
use Rattle.seating.specs.Admission.{Joins}
use Rattle.seating.proofs.Placing.{length-tasks, length-joined, place_le, take-joined, joined_at_place}
use Rattle.book.specs.Book.{given, judged, with_newcomer}

-- the seats of tasks that keep what the judge says of each are those tasks, judged
pub judged_is : (meaning : Meaning) (above : List Task) (rest : List Seat)
    → ((k : ℕ) → k < length rest → meaning (get_or (tasks_of rest) k no_task) (above ++ take k (tasks_of rest)) ≡ Some (get_or rest k no_seat).instant)
    → judged meaning above (tasks_of rest) ≡ rest
judged_is meaning above [] h = refl
judged_is meaning above (s ∷ rest) h =
    let first : given (meaning s.task above) ≡ s.instant = ap (λ (l : List Task). given (meaning s.task l)) (sym (append-nil above)) ∙ ap given (h 0 (omega arith)) in
    let others = judged_is meaning (above ++ s.task ∷ []) rest (λ k lt. ap (λ (l : List Task). meaning (get_or (tasks_of rest) k no_task) l) (append_assoc above (s.task ∷ []) (take k (tasks_of rest))) ∙ h (suc k) (omega arith)) in
    ap (λ (t : Ticks). record { task = s.task; instant = t } ∷ judged meaning (above ++ s.task ∷ []) (tasks_of rest)) first ∙ ap (λ (l : List Seat). s ∷ l) others

split_take : {X : Type 0} (n k : ℕ) (l : List X) → n ≤ length l → take (n + k) l ≡ take n l ++ take k (drop n l)
split_take n k l le =
    sym (take-append-drop n (take (n + k) l)) ∙ ap (λ z. z ++ drop n (take (n + k) l)) (take-take n (n + k) l (omega arith)) ∙ ap (λ z. take n l ++ z) (drop-take n k l)

pub joins_as_written : (meaning : Meaning) (x : Task) (ss new : List Seat) → Joins meaning x ss new → new ≡ with_newcomer meaning x ss
joins_as_written meaning x ss new j =
    let ts = tasks_of ss in
    let p = place_of x ts in
    let all = joined x ts in
    let le = place_le x ts in
    let long : length all ≡ length ss + 1 = omega (arith, length-joined x ts, length-tasks ss) in
    let long_new : length new ≡ length all = sym (length-tasks new) ∙ ap (length {A = Task}) j.tasks in
    let at_place : drop p all ≡ x ∷ drop p ts = ap (λ (l : List Task). drop p l) (joined_at_place x ts) ∙ dropped (take p ts) (x ∷ drop p ts) p (length-take-le p ts le) in
    let back : tasks_of (drop p new) ≡ drop p all = sym (drop-map (λ (s : Seat). s.task) p new) ∙ ap (λ (l : List Task). drop p l) j.tasks in
    let rest = judged_is meaning (take p ts) (drop p new) (λ k lt.
    ap (λ (l : List Task). meaning (get_or l k no_task) (take p ts ++ take k l)) back
    ∙ ap (λ (y : Task). meaning y (take p ts ++ take k (drop p all))) (get_or-drop p all k no_task)
    ∙ ap (λ (l : List Task). meaning (get_or all (p + k) no_task) (l ++ take k (drop p all))) (sym (take-joined x ts p (omega arith)))
    ∙ ap (λ (l : List Task). meaning (get_or all (p + k) no_task) l) (sym (split_take p k all (omega (arith, le, length-tasks ss))))
    ∙ j.judged (p + k) (omega arith) (omega (arith, lt, length-drop p new))
    ∙ ap (λ (s : Seat). Some s.instant) (sym (get_or-drop p new k no_seat))) in
    sym (take-append-drop p new) ∙ ap (λ (l : List Seat). l ++ drop p new) j.above
    ∙ ap (λ (l : List Seat). take p ss ++ l) (sym rest ∙ ap (λ (l : List Task). judged meaning (take p ts) l) (back ∙ at_place))
  where
    dropped : (front behind : List Task) (n : ℕ) → length front ≡ n → drop n (front ++ behind) ≡ behind
    dropped [] behind zero e = refl
    dropped [] behind (suc n) e = absurd (omega arith)
    dropped (y ∷ ys) behind zero e = absurd (omega arith)
    dropped (y ∷ ys) behind (suc n) e = dropped ys behind n (omega arith)
