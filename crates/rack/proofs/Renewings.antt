-- A seat joins, and those below it are renewed one after the other.
use Rattle.std.proofs.Common.{◌≡◌, ℕ, ◌+◌, ◌-◌, ◌<◌, ◌≤◌, ◌≢◌, List, ◌∷◌, ◌++◌, map, length, get_or, take, drop, set, sym, ap, ◌∙◌, subst, ⊎_elim, arith, below_more}
use Rattle.std.specs.List.{insert}
use Rattle.std.proofs.lemmas.List.{get_or-set_same, get_or-set_other, take-set-le, get_or-take, take-take, take_at, length-take-le, map-set, get_or-map, set-get_or, map-append, take-map, drop-map}
use Rattle.std.proofs.lemmas.List.Edits.{length-insert, get_or-insert_at}
use Rattle.std.proofs.lemmas.Bool.{cases_eq}
use Rattle.tasks.specs.declared.task.Task.{Task}
use Rattle.tasks.specs.declared.units.Ticks.{Ticks}
use Rattle.seating.specs.declared.seat.Seat.{Seat}
use Rattle.tasks.specs.Demand.{no_task}
use Rattle.tasks.specs.Units.{no_ticks}
use Rattle.seating.specs.Seats.{tasks_of, no_seat, place_of}
use Rattle.seating.proofs.Placing.{length-tasks, joined_at_place}
use Rattle.rack.specs.Renewed.{renewed}
use Rattle.rack.specs.Trials.{SeatedWith}

abbrev task_in : Seat → Task
task_in s = s.task

tasks_inserted : (ss : List Seat) (at : ℕ) (s : Seat) → tasks_of (insert ss at s) ≡ insert (tasks_of ss) at s.task
tasks_inserted ss at s =
    map-append task_in (take at ss) (s ∷ drop at ss)
    ∙ ap (λ (l : List Task). l ++ s.task ∷ map task_in (drop at ss)) (sym (take-map task_in at ss))
    ∙ ap (λ (l : List Task). take at (map task_in ss) ++ s.task ∷ l) (sym (drop-map task_in at ss))

-- the seats of old below the place `at` are renewed up to i, with the instants of the list from `at` on
pub record Renewing (old new : List Seat) (at i : ℕ) (us : List Ticks) : Type 0 where
  pub tasks : tasks_of new ≡ tasks_of old
  pub above : take (at + 1) new ≡ take (at + 1) old
  pub done : (k : ℕ) → k < i → at + 1 ≤ k → (get_or new k no_seat).instant ≡ get_or us (k - at) no_ticks

tasks_renewed : (ss : List Seat) (i : ℕ) (t : Ticks) → i < length ss → tasks_of (renewed ss i t) ≡ tasks_of ss
tasks_renewed ss i t h =
    map-set task_in ss i _ ∙ ap (λ (x : Task). set (tasks_of ss) i x) (sym (get_or-map task_in ss i no_seat no_task h)) ∙ set-get_or (tasks_of ss) i no_task

pub renewing_more : (old new : List Seat) (at i : ℕ) (us : List Ticks) (t : Ticks) → at + 1 ≤ i → i < length new → t ≡ get_or us (i - at) no_ticks → Renewing old new at i us → Renewing old (renewed new i t) at (i + 1) us
renewing_more old new at i us t lo hi e r = record {
  tasks = tasks_renewed new i t hi ∙ r.tasks;
  above = take-set-le (at + 1) new i _ lo ∙ r.above;
  done = below_more (λ (k : ℕ). at + 1 ≤ k → (get_or (renewed new i t) k no_seat).instant ≡ get_or us (k - at) no_ticks) i
      (λ k h f. let ne : k ≢ i = omega arith in ap (λ (s : Seat). s.instant) (get_or-set_other new i k _ no_seat ne) ∙ r.done k h f)
      (λ f. ap (λ (s : Seat). s.instant) (get_or-set_same new i _ no_seat hi) ∙ e);
}

length-renewing : (old new : List Seat) (at i : ℕ) (us : List Ticks) → Renewing old new at i us → length new ≡ length old
length-renewing old new at i us r = omega (arith, length-tasks new, length-tasks old, ap (length {A = Task}) r.tasks)

-- a seat has joined, so there is one more
pub length-seated : (ss old new : List Seat) (at i : ℕ) (us : List Ticks) (s : Seat) → at ≤ length ss → old ≡ insert ss at s → Renewing old new at i us → length new ≡ length ss + 1
length-seated ss old new at i us s le is r = length-renewing old new at i us r ∙ ap (length {A = Seat}) is ∙ length-insert ss at s le

pub seated_with : (x : Task) (ss new : List Seat) (at n : ℕ) (us : List Ticks) (t : Ticks) → at ≤ length ss → at ≡ place_of x (tasks_of ss) → length ss + 1 ≤ n → t ≡ get_or us 0 no_ticks
    → Renewing (insert ss at (record { task = x; instant = t })) new at n us → SeatedWith x us ss new
seated_with x ss new at n us t le e len own r =
    let s : Seat = record { task = x; instant = t } in
    let old = insert ss at s in
    let above : take at new ≡ take at ss =
    sym (take-take at (at + 1) new (omega arith)) ∙ ap (λ (l : List Seat). take at l) r.above ∙ take-take at (at + 1) old (omega arith)
    ∙ take_at (take at ss) (s ∷ drop at ss) at (length-take-le at ss le) in
    let here : get_or new at no_seat ≡ s =
    sym (get_or-take (at + 1) new at no_seat (omega arith)) ∙ ap (λ (l : List Seat). get_or l at no_seat) r.above ∙ get_or-take (at + 1) old at no_seat (omega arith) ∙ get_or-insert_at ss at s no_seat le in
    record {
      tasks = r.tasks ∙ tasks_inserted ss at s ∙ ap (λ (p : ℕ). insert (tasks_of ss) p x) e ∙ sym (joined_at_place x (tasks_of ss));
      above = subst (λ (p : ℕ). take p new ≡ take p ss) e above;
      instants = λ k lo hi. subst (λ (p : ℕ). (get_or new k no_seat).instant ≡ get_or us (k - p) no_ticks) e
          (⊎_elim
          (λ (h : k ≡ at).
          let z : 0 ≡ k - at = omega arith in
          ap (λ (j : ℕ). (get_or new j no_seat).instant) h ∙ ap (λ (y : Seat). y.instant) here ∙ own ∙ ap (λ (j : ℕ). get_or us j no_ticks) z)
          (λ (h : k ≢ at). r.done k (omega arith) (omega arith))
          (cases_eq k at));
    }
