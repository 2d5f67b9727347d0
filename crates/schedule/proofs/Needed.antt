-- Without a good instant the synchronous releases make a task miss.
use Rattle.std.proofs.Common.{◌≡◌, ℕ, suc, ◌+◌, ◌-◌, ◌%◌, ◌<◌, ◌≤◌, true, false, List, length, get_or, take, Some, None, Option, sym, refl, ap, ◌∙◌, subst, inl, inr, mod-eq_of_lt, zero-add, arith, length-take, get_or-take, All}
use native.Mathlib.Nat.{zero-mod}
use Rattle.std.proofs.lemmas.List.{take_all}
use Rattle.std.proofs.lemmas.List.Elements.{All-take, All-get_or}
use Rattle.std.proofs.lemmas.Bool.{cases_Bool, cond-true, cond-false}
use Rattle.tasks.specs.declared.task.Task.{Task}
use Rattle.tasks.specs.declared.units.Units.{Units}
use Rattle.tasks.specs.Limits.{all_within}
use Rattle.tasks.specs.Demand.{no_task, work_before, FitsAt}
use Rattle.tasks.proofs.Bounds.{Limits, all_limits}
use Rattle.machine.specs.declared.state.State.TheVariants.{Idle, Waiting}
use Rattle.machine.specs.declared.state.Release.{Release}
use Rattle.machine.specs.declared.state.Miss.{Miss}
use Rattle.machine.specs.Machine.{due, first_missed, outcome}
use Rattle.machine.specs.Lawful.{lawful}
use Rattle.machine.specs.Traces.{states_at}
use Rattle.tasks.proofs.Goods.{good_from}
use Rattle.schedule.specs.Synchronous.{synchronous}
use Rattle.schedule.specs.Necessary.{SynchronousMisses, UnfitCanMiss, UnfitFrontCanMiss}
use Rattle.machine.proofs.Job.{Found, due_find}
use Rattle.machine.proofs.Trace.{length-states}
use Rattle.schedule.proofs.Windows.{win}
use Rattle.schedule.proofs.Critical.{spend, free, waits_on}
use Rattle.schedule.proofs.Steps.{held_above, come_above, own_state, own_ready, held_start, own_start, own_ready_is, own_renewed, held_ready, above_falls, own_spends, released_exact}
use Rattle.schedule.proofs.Counting.{due_spaced, come_least}
use Rattle.schedule.proofs.Runs.{runs_meet_traces, none_fine, some_late, runs_follow_traces}
use Rattle.schedule.proofs.Enough.{waits_from}
use Rattle.schedule.proofs.Sync.{synchronous_is_lawful, lawful_front, sync_due, sync_all, Synced}

-- The first m tasks are released together, and the task at place k, one of them, has no good instant.
module _ (ts : List Task) (within : all_within ts ≡ true) (k m : ℕ) (below : k < m) (inside : m ≤ length ts) (bad : FitsAt ts k → ⊥) where
  abbrev H : ℕ
  H = (get_or ts k no_task).period.0

  abbrev rs : List Release
  rs = synchronous (take m ts) 0 H

  abbrev C : Units
  C = (get_or ts k no_task).work

  s : All Limits ts
  s = all_limits ts within

  l : k < length ts
  l = omega arith

  mine : Limits (get_or ts k no_task)
  mine = All-get_or Limits ts k no_task l s

  long : length (take m ts) ≡ m
  long = omega (arith, length-take m ts)

  same : (j : ℕ) → j < m → get_or (take m ts) j no_task ≡ get_or ts j no_task
  same j h = get_or-take m ts j no_task h

  pub allowed : lawful ts H rs ≡ true
  allowed = lawful_front m ts H rs (synchronous_is_lawful (take m ts) H)

  released : (j n : ℕ) → j < m → n < H → n % (get_or ts j no_task).period.0 ≡ 0 → due rs j n ≡ true
  released j n h a b = sync_due (take m ts) 0 H j n (omega (arith, long)) (omega arith) (omega arith) (subst (λ (z : Task). n % z.period.0 ≡ 0) (sym (same j h)) b)

  least : (x : ℕ) → x ≤ H → work_before (take k ts) x ≤ win (come_above ts rs k) 0 x
  least x h = come_least ts rs k (All-take Limits k ts s) H (λ j n a b c e. released j n (omega arith) c e) x h

  -- the task at place k is released once below H
  once : (n : ℕ) → 0 < n → n < H → due rs k n ≡ false
  once n a b = elim (cases_Bool (due rs k n)) [
    | inr e ↦ e
    | inl e ↦ absurd (whole_not (due_find (Synced (take m ts) 0 H) rs k n (sync_all (take m ts) 0 H) e))
  ]
    where
      whole_not : Found (Synced (take m ts) 0 H) k n → ⊥
      whole_not f =
          let y : n % (get_or (take m ts) k no_task).period.0 ≡ 0 = rw (f.instant, f.place) at f.holds.whole in
          let z : n % H ≡ 0 = subst (λ (z : Task). n % z.period.0 ≡ 0) (same k below) y in
          omega (arith, mod-eq_of_lt b)

  no_miss : (outcome ts H rs).miss ≡ None → ⊥
  no_miss q = none_fine H 0 (states_at ts rs H) (clear H (omega arith)) k last.0 last.1
    where
      clear : (n : ℕ) → n ≤ H → first_missed n 0 (states_at ts rs n) ≡ None
      clear n h = (runs_meet_traces ts H rs).0 q n h

      idle : (j n : ℕ) → j < length ts → n < H → due rs j n ≡ true → own_state ts rs j n ≡ Idle
      idle j n i h e = free (due rs j) (get_or ts j no_task).work.0 (get_or ts j no_task).period.0 (own_state ts rs j) (own_ready ts rs j) (All-get_or Limits ts j no_task i s).period_from
          (own_start ts rs j) (own_renewed ts rs j within i) (λ n. (1 - held_ready ts rs j n, own_spends ts rs j within n)) H
          (λ n d a x. none_fine n 0 (states_at ts rs n) (clear n a) j d x) (due_spaced ts H rs j allowed) n (omega arith) e

      whole : (n : ℕ) → n < H → held_ready ts rs k n ≡ held_above ts rs k n + come_above ts rs k n
      whole n h = released_exact rs n 0 k ts (states_at ts rs n) (length-states ts rs n) (λ j i e. idle j n i h (subst (λ z. due rs z n ≡ true) (zero-add j) e))

      ready_first : own_ready ts rs k 0 ≡ Waiting C (record { 0 = H })
      ready_first = own_ready_is ts rs k 0 l ∙ cond-true (due rs k 0) (Waiting C (record { 0 = 0 + H })) (own_state ts rs k 0) (released k 0 below (omega (arith, mine.period_from)) (zero-mod H))
          ∙ ap (λ (x : ℕ). Waiting C (record { 0 = x })) (zero-add H)

      last : (left : Units) × (own_state ts rs k H ≡ Waiting left (record { 0 = H }))
      last = waits_on (come_above ts rs k) 1 C H H (held_above ts rs k) (own_state ts rs k) (own_ready ts rs k) mine.work_from ready_first (held_start ts rs k)
          (λ n a b. own_ready_is ts rs k n l ∙ cond-false (due rs k n) (Waiting C (record { 0 = n + H })) (own_state ts rs k n) (once n a b))
          (λ n h. above_falls ts rs k within n ∙ ap (λ (x : ℕ). x - 1) (whole n h))
          (λ n h. own_spends ts rs k within n ∙ ap (λ (x : ℕ). spend (1 - x) (own_ready ts rs k n)) (whole n h))
          (λ n a b c. bad (n, good_from (get_or ts k no_task) (take k ts) n (record { starts = a; ends = b; enough = omega (arith, least n b) }))) mine.period_from

  pub front_misses : (x : Miss) × ((outcome ts H rs).miss ≡ Some x)
  front_misses = go (outcome ts H rs).miss refl
    where
      go : (o : Option Miss) → (outcome ts H rs).miss ≡ o → (x : Miss) × ((outcome ts H rs).miss ≡ Some x)
      go (Some x) e = (x, e)
      go None e = absurd (no_miss e)

  -- it is one of the first m
  pub front_place : (x : Miss) → (outcome ts H rs).miss ≡ Some x → x.place < m
  front_place x e =
      let late = some_late x.instant.0 0 (states_at ts rs x.instant.0) x.place ((runs_follow_traces ts H rs x).0 e).1 in
      let i : late.at < length ts = omega (arith, late.inside, length-states ts rs x.instant.0) in
      let o = waits_from ts rs within late.at i x.instant.0 late.left (record { 0 = x.instant.0 }) late.waits in
      let f = due_find (Synced (take m ts) 0 H) rs late.at o.released (sync_all (take m ts) 0 H) o.was in
      omega (arith, f.holds.place, f.place, late.is, long)

pub synchronous_misses : SynchronousMisses
synchronous_misses ts h k l bad =
    subst (λ (us : List Task). (x : Miss) × ((outcome ts (get_or ts k no_task).period.0 (synchronous us 0 (get_or ts k no_task).period.0)).miss ≡ Some x)) (take_all (length ts) ts (omega arith))
    (front_misses ts h k (length ts) l (omega arith) bad)

pub unfit_front_can_miss : UnfitFrontCanMiss
unfit_front_can_miss ts h k l bad =
    let m = front_misses ts h k (suc k) (omega arith) l bad in
    let i = front_place ts h k (suc k) (omega arith) l bad m.0 m.1 in (
      record {
        horizon = (get_or ts k no_task).period.0;
        releases = synchronous (take (suc k) ts) 0 (get_or ts k no_task).period.0;
        allowed = allowed ts h k (suc k) (omega arith) l bad;
        it = m.0;
        misses = m.1;
      },
      omega arith,
    )

pub unfit_can_miss : UnfitCanMiss
unfit_can_miss ts h (k, l, bad) =
    let m = synchronous_misses ts h k l bad in
    record { horizon = (get_or ts k no_task).period.0; releases = synchronous ts 0 (get_or ts k no_task).period.0; allowed = synchronous_is_lawful ts (get_or ts k no_task).period.0; it = m.0; misses = m.1 }
