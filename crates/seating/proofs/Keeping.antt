-- Kept instants stay good: as a newcomer joins, and as a task leaves.
use Rattle.std.proofs.Common.{◌≡◌, ℕ, zero, suc, ◌+◌, ◌<◌, ◌≤◌, true, List, [], ◌∷◌, ◌++◌, map, length, get_or, take, drop, sym, refl, ap, ◌∙◌, ⊎_elim, arith}
use Rattle.std.specs.List.{remove}
use Rattle.std.proofs.lemmas.Bool.{cases_lt}
use Rattle.std.proofs.lemmas.Bool.Decides.{Decides-below_and}
use Rattle.std.proofs.lemmas.List.{get_or-take, take-take, take-map, drop-map, map-append, take_at, length-take-le}
use Rattle.std.proofs.lemmas.List.Edits.{length-remove, get_or-remove_above}
use Rattle.tasks.specs.declared.task.Task.{Task}
use Rattle.tasks.specs.declared.units.Ticks.{Ticks}
use Rattle.tasks.specs.Priority.{joined}
use Rattle.tasks.specs.Demand.{no_task, good}
use Rattle.tasks.proofs.Goods.{good_parts, good_from}
use Rattle.seating.specs.declared.seat.Seat.{Seat}
use Rattle.tasks.specs.Units.{no_ticks}
use Rattle.seating.specs.Seats.{tasks_of, no_seat, place_of, keeps_good, first_keep_good, all_keep_good}
use Rattle.seating.proofs.Limiting.{work_removed}
use Rattle.seating.proofs.Placing.{length-tasks, length-joined, place_le}

abbrev task_in : Seat → Task
task_in s = s.task

pub each_keeps : (ss : List Seat) → all_keep_good ss ≡ true → (k : ℕ) → k < length ss → keeps_good ss k ≡ true
each_keeps ss = (Decides-below_and (keeps_good ss) (λ (k : ℕ). keeps_good ss k ≡ true) (first_keep_good ss) (λ k. (λ e. e, λ e. e)) refl (λ _. refl) (length ss)).0

pub all_from_each : (ss : List Seat) → ((k : ℕ) → k < length ss → keeps_good ss k ≡ true) → all_keep_good ss ≡ true
all_from_each ss = (Decides-below_and (keeps_good ss) (λ (k : ℕ). keeps_good ss k ≡ true) (first_keep_good ss) (λ k. (λ e. e, λ e. e)) refl (λ _. refl) (length ss)).1

-- what a seat keeps depends on it and those before it alone
keeps_front : (p k : ℕ) (ss : List Seat) → k < p → keeps_good (take p ss) k ≡ keeps_good ss k
keeps_front p k ss lt =
    let ts = tasks_of ss in
    let t = (get_or (take p ss) k no_seat).instant.0 in
    ap (λ (l : List Task). good (get_or l k no_task) (take k l) t) (sym (take-map task_in p ss))
    ∙ ap (λ (y : Task). good y (take k (take p ts)) t) (get_or-take p ts k no_task lt)
    ∙ ap (λ (l : List Task). good (get_or ts k no_task) l t) (take-take k p ts (omega arith))
    ∙ ap (λ (s : Seat). good (get_or ts k no_task) (take k ts) s.instant.0) (get_or-take p ss k no_seat lt)

same_front : (p k : ℕ) (ss new : List Seat) → take p new ≡ take p ss → k < p → keeps_good new k ≡ keeps_good ss k
same_front p k ss new e lt = sym (keeps_front p k new lt) ∙ ap (λ (l : List Seat). keeps_good l k) e ∙ keeps_front p k ss lt

-- the seats `new` are ss with x in its place; from there on they keep the instants of us, and above it what they kept
module _ (x : Task) (ss new : List Seat) (us : List Ticks)
    (tasks : tasks_of new ≡ joined x (tasks_of ss)) (above : take (place_of x (tasks_of ss)) new ≡ take (place_of x (tasks_of ss)) ss)
    (instants : (k : ℕ) → place_of x (tasks_of ss) ≤ k → k < length ss + 1 → (get_or new k no_seat).instant ≡ get_or us k no_ticks) where
  abbrev place : ℕ
  place = place_of x (tasks_of ss)

  long_new : length new ≡ length ss + 1
  long_new = omega (arith, length-tasks new, length-tasks ss, ap (length {A = Task}) tasks, length-joined x (tasks_of ss))

  pub good_joined : all_keep_good ss ≡ true
      → ((k : ℕ) → place_of x (tasks_of ss) ≤ k → k < length ss + 1 → good (get_or (joined x (tasks_of ss)) k no_task) (take k (joined x (tasks_of ss))) (get_or us k no_ticks).0 ≡ true)
      → all_keep_good new ≡ true
  good_joined old from = all_from_each new (λ k h.
      let n = long_new in
      let m = length-tasks ss in
      let le = place_le x (tasks_of ss) in
      ⊎_elim
      (λ (lt : k < place). same_front place k ss new above lt ∙ each_keeps ss old k (omega arith))
      (λ (ge : place ≤ k).
      ap (λ (l : List Task). good (get_or l k no_task) (take k l) (get_or new k no_seat).instant.0) tasks
      ∙ ap (λ (u : Ticks). good (get_or (joined x (tasks_of ss)) k no_task) (take k (joined x (tasks_of ss))) u.0) (instants k ge (omega arith))
      ∙ from k ge (omega arith))
      (cases_lt k place))

pub tasks_removed : (ss : List Seat) (at : ℕ) → tasks_of (remove ss at) ≡ remove (tasks_of ss) at
tasks_removed ss at =
    map-append task_in (take at ss) (drop (suc at) ss)
    ∙ ap (λ (l : List Task). l ++ map task_in (drop (suc at) ss)) (sym (take-map task_in at ss))
    ∙ ap (λ (l : List Task). take at (map task_in ss) ++ l) (sym (drop-map task_in (suc at) ss))

take-removed : (ts : List Task) (at k : ℕ) → at ≤ k → take k (remove ts at) ≡ remove (take (suc k) ts) at
take-removed [] zero zero h = refl
take-removed [] zero (suc k) h = refl
take-removed [] (suc i) zero h = refl
take-removed [] (suc i) (suc k) h = refl
take-removed (y ∷ ys) zero k h = refl
take-removed (y ∷ ys) (suc i) zero h = absurd (omega arith)
take-removed (y ∷ ys) (suc i) (suc k) h = ap (λ (l : List Task). y ∷ l) (take-removed ys i k (omega arith))

good_below_fewer : (x : Task) (above : List Task) (at t : ℕ) → good x above t ≡ true → good x (remove above at) t ≡ true
good_below_fewer x above at t h =
    let g = good_parts x above t h in
    good_from x (remove above at) t (record { starts = g.starts; ends = g.ends; enough = omega (arith, g.enough, work_removed above at t) })

pub good_removed : (ss : List Seat) (at : ℕ) → at < length ss → all_keep_good ss ≡ true → all_keep_good (remove ss at) ≡ true
good_removed ss at lt old = all_from_each (remove ss at) (λ k h.
    let ts = tasks_of ss in
    let n = length-remove ss at lt in
    let m = length-tasks ss in
    let e = tasks_removed ss at in
    ⊎_elim
    (λ (lo : k < at). same_front at k ss (remove ss at) (take_at (take at ss) (drop (suc at) ss) at (length-take-le at ss (omega arith))) lo ∙ each_keeps ss old k (omega arith))
    (λ (ge : at ≤ k).
    let next : k + 1 ≡ suc k = omega arith in
    let was : good (get_or ts (k + 1) no_task) (take (suc k) ts) (get_or ss (k + 1) no_seat).instant.0 ≡ true =
    ap (λ (j : ℕ). good (get_or ts (k + 1) no_task) (take j ts) (get_or ss (k + 1) no_seat).instant.0) (sym next) ∙ each_keeps ss old (k + 1) (omega arith) in
    ap (λ (l : List Task). good (get_or l k no_task) (take k l) (get_or (remove ss at) k no_seat).instant.0) e
    ∙ ap (λ (y : Task). good y (take k (remove ts at)) (get_or (remove ss at) k no_seat).instant.0) (get_or-remove_above ts at no_task k ge (omega arith))
    ∙ ap (λ (l : List Task). good (get_or ts (k + 1) no_task) l (get_or (remove ss at) k no_seat).instant.0) (take-removed ts at k ge)
    ∙ ap (λ (s : Seat). good (get_or ts (k + 1) no_task) (remove (take (suc k) ts) at) s.instant.0) (get_or-remove_above ss at no_seat k ge lt)
    ∙ good_below_fewer (get_or ts (k + 1) no_task) (take (suc k) ts) at (get_or ss (k + 1) no_seat).instant.0 was)
    (cases_lt k at))
