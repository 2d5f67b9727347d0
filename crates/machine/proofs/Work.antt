-- The work of a run: what is released, what is done and what is left.
use Rattle.std.proofs.Common.{◌≡◌, ℕ, All, zero, suc, ◌+◌, ◌-◌, ◌<◌, ◌≤◌, Bool, true, false, cond, ◌&&◌, ◌||◌, eqb, ltb, leb, ◌⊎◌, List, [], ◌∷◌, ◌++◌, length, get_or, set, replicate, sym, refl, ap, ◌∙◌, inl, inr, one-mul, arith}
use Rattle.std.proofs.lemmas.List.Elements.{All-head, All-tail}
use Rattle.std.proofs.lemmas.Bool.{and_right, or_left, or_right, eqb-true, eq-eqb, ne_eqb, leb-true, lt-ltb, le-ltb, cases_Bool, cases_order, cond_both, cond-true, cond-false}
use Rattle.tasks.specs.declared.task.Task.{Task}
use Rattle.tasks.specs.declared.units.Ticks.{Ticks}
use Rattle.tasks.specs.declared.units.Units.{Units}
use Rattle.tasks.specs.Demand.{no_task}
use Rattle.tasks.specs.Limits.{all_within}
use Rattle.machine.specs.declared.state.State.{State}
use Rattle.machine.specs.declared.state.State.TheVariants.{Idle, Waiting}
use Rattle.machine.specs.declared.state.Release.{Release}
use Rattle.machine.specs.Machine.{due, with_releases, worked, served, busy_tick, outcome}
use Rattle.machine.specs.Lawful.{lawful}
use Rattle.machine.specs.Events.{fresh}
use Rattle.machine.specs.Traces.{states_at}
use Rattle.machine.specs.Laws.{ready_at, end_of, left_of, work_left, work_done, work_released, OneUnitATick, BusyIsWorkDone, NoWorkIsLost}
use Rattle.machine.proofs.Coming.{due_append, length-with, with_at_0, with_same, with_none, with_push}
use Rattle.machine.proofs.Separated.{Follows, lawful_parts}
use Rattle.machine.proofs.Running.{busy_le}
use Rattle.machine.proofs.Live.{Live, live_ready}
use Rattle.machine.proofs.Trace.{length-states, busy_ticks, outcome_ends}
use Rattle.machine.proofs.Job.{limits_at, due_find, due_place, released_when_idle}

-- a busy tick does one unit, and another none

worked_left : (l : Units) (d : Ticks) → 1 ≤ l.0 → left_of (worked l d) + 1 ≡ l.0
worked_left l d h = cond_both (leb l.0 1) Idle (Waiting (record { 0 = l.0 - 1 }) d) (λ s. left_of s + 1 ≡ l.0) (λ e. omega (arith, leb-true l.0 1 e)) (λ e. omega arith)

served_left : (ss : List State) → All Live ss → work_left (served ss) + busy_tick ss ≡ work_left ss
served_left [] a = refl
served_left (Idle ∷ ss) a = omega (arith, served_left ss (All-tail Live Idle ss a))
served_left (Waiting l d ∷ ss) a = omega (arith, worked_left l d (All-head Live (Waiting l d) ss a))

done_is_busy : (ts : List Task) (rs : List Release) → all_within ts ≡ true → (n : ℕ) → work_left (states_at ts rs (suc n)) + busy_tick (ready_at ts rs n) ≡ work_left (ready_at ts rs n)
done_is_busy ts rs w n = served_left (ready_at ts rs n) (live_ready ts rs w n)

pub one_unit_a_tick : OneUnitATick
one_unit_a_tick ts rs w n =
    let e = done_is_busy ts rs w n in
    let b = busy_le (ready_at ts rs n) in
    (omega arith, omega arith)

busy_ticks_done : (ts : List Task) (rs : List Release) → all_within ts ≡ true → (n : ℕ) → busy_ticks ts rs n ≡ work_done ts rs n
busy_ticks_done ts rs w zero = refl
busy_ticks_done ts rs w (suc n) = omega (arith, busy_ticks_done ts rs w n, done_is_busy ts rs w n)

pub busy_is_work_done : BusyIsWorkDone
busy_is_work_done ts horizon rs w =
    one-mul (outcome ts horizon rs).busy.0 ∙ (outcome_ends ts horizon rs).busy_are ∙ busy_ticks_done ts rs w (end_of horizon (outcome ts horizon rs).miss)

-- the work of the releases at an instant

abbrev released_now : List Task → List Release → ℕ → ℕ
released_now ts [] n = 0
released_now ts (r ∷ rs) n = cond (eqb r.instant.0 n) (get_or ts r.place no_task).work.0 0 + released_now ts rs n

one_more : (i n w : ℕ) → cond (ltb i (suc n)) w 0 ≡ cond (ltb i n) w 0 + cond (eqb i n) w 0
one_more i n w = elim (cases_order i n) [
  | inl e ↦
      let a = cond-true (ltb i (suc n)) w 0 (lt-ltb i (suc n) (omega arith)) in
      let b = cond-false (ltb i n) w 0 (le-ltb i n (omega arith)) in
      let c = cond-true (eqb i n) w 0 (eq-eqb i n e) in
      omega arith
  | inr s ↦ elim s [
    | inl l ↦
        let a = cond-true (ltb i (suc n)) w 0 (lt-ltb i (suc n) (omega arith)) in
        let b = cond-true (ltb i n) w 0 (lt-ltb i n l) in
        let c = cond-false (eqb i n) w 0 (ne_eqb i n (λ e. omega arith)) in
        omega arith
    | inr l ↦
        let a = cond-false (ltb i (suc n)) w 0 (le-ltb i (suc n) (omega arith)) in
        let b = cond-false (ltb i n) w 0 (le-ltb i n (omega arith)) in
        let c = cond-false (eqb i n) w 0 (ne_eqb i n (λ e. omega arith)) in
        omega arith
  ]
]

released_more : (ts : List Task) (rs : List Release) (n : ℕ) → work_released ts rs (suc n) ≡ work_released ts rs n + released_now ts rs n
released_more ts [] n = refl
released_more ts (r ∷ rs) n = omega (arith, one_more r.instant.0 n (get_or ts r.place no_task).work.0, released_more ts rs n)

set_left : (ss : List State) (p : ℕ) (s : State) → p < length ss → work_left (set ss p s) + left_of (get_or ss p Idle) ≡ work_left ss + left_of s
set_left [] p s l = absurd (omega arith)
set_left (y ∷ ss) zero s l = omega arith
set_left (y ∷ ss) (suc p) s l = omega (arith, set_left ss p s (omega arith))

or_swap : (x y : Bool) → (x || y) ≡ (y || (x || false))
or_swap true true = refl
or_swap true false = refl
or_swap false true = refl
or_swap false false = refl

-- where each task that is released now is idle, its work is added to what waits
with_left : (ts : List Task) (h : ℕ) (rs : List Release) (n : ℕ) (ss : List State) → all_within ts ≡ true → length ss ≡ length ts → lawful ts h rs ≡ true
    → ((p : ℕ) → due rs p n ≡ true → get_or ss p Idle ≡ Idle) → work_left (with_releases rs n 0 ts ss) ≡ work_left ss + released_now ts rs n
with_left ts h [] n ss w e law idle = ap work_left (with_none [] n 0 ts ss (λ k. refl)) ∙ omega arith
with_left ts h (r ∷ rs) n ss w e law idle = go (cases_Bool (eqb r.instant.0 n)) (with_left ts h rs n ss w e (lawful_parts ts h r rs law).2 (λ p d. idle p (or_right (eqb r.place p && eqb r.instant.0 n) (due rs p n) d)))
  where
    go : (eqb r.instant.0 n ≡ true) ⊎ (eqb r.instant.0 n ≡ false) → work_left (with_releases rs n 0 ts ss) ≡ work_left ss + released_now ts rs n
        → work_left (with_releases (r ∷ rs) n 0 ts ss) ≡ work_left ss + released_now ts (r ∷ rs) n
    go (inl b) ih =
        let q = eqb-true r.instant.0 n b in
        let parts = lawful_parts ts h r rs law in
        let here : due (r ∷ rs) r.place n ≡ true =
        or_left (eqb r.place r.place && eqb r.instant.0 n) (due rs r.place n) (ap (λ x. x && eqb r.instant.0 n) (eq-eqb r.place r.place refl) ∙ b) in
        let lt = due_place ts h (r ∷ rs) r.place n law here in
        let t = (limits_at ts r.place w lt).period_from in
        let other : due rs r.place n ≡ false =
        elim (cases_Bool (due rs r.place n)) [
          | inl d ↦ absurd (let f = due_find (Follows ts r) rs r.place n parts.1 d in omega (arith, f.holds.apart (sym f.place), f.instant, q))
          | inr d ↦ d
        ] in
        let old = with_releases rs n 0 ts ss in
        let new = fresh (get_or ts r.place no_task) n in
        let is-idle : get_or old r.place Idle ≡ Idle = with_at_0 rs n r.place ts ss e lt ∙ cond-false (due rs r.place n) new (get_or ss r.place Idle) other ∙ idle r.place here in
        let moved : with_releases (r ∷ rs) n 0 ts ss ≡ set old r.place new =
        with_same (r ∷ rs) (rs ++ r ∷ []) n 0 ts ss (λ k. or_swap (eqb r.place k && eqb r.instant.0 n) (due rs k n) ∙ sym (due_append rs (r ∷ []) k n)) ∙ with_push rs r n ts ss e lt q in
        let s = set_left old r.place new (omega (arith, length-with rs n 0 ts ss)) in
        let c = cond-true (eqb r.instant.0 n) (get_or ts r.place no_task).work.0 0 b in
        omega (arith, ap work_left moved, s, ap left_of is-idle, ih, c)
    go (inr b) ih =
        let same = with_same (r ∷ rs) rs n 0 ts ss (λ k. ap (λ x. x || due rs k n) (and_right (eqb r.place k) (eqb r.instant.0 n) b)) in
        let c = cond-false (eqb r.instant.0 n) (get_or ts r.place no_task).work.0 0 b in
        omega (arith, ap work_left same, ih, c)

idle_left : (n : ℕ) → work_left (replicate n Idle) ≡ 0
idle_left zero = refl
idle_left (suc n) = omega (arith, idle_left n)

none_released : (ts : List Task) (rs : List Release) → work_released ts rs 0 ≡ 0
none_released ts [] = refl
none_released ts (r ∷ rs) = omega (arith, cond-false (ltb r.instant.0 0) (get_or ts r.place no_task).work.0 0 (le-ltb r.instant.0 0 (omega arith)), none_released ts rs)

pub no_work_is_lost : NoWorkIsLost
no_work_is_lost ts h rs w law zero l = omega (arith, none_released ts rs, idle_left (length ts))
no_work_is_lost ts h rs w law (suc n) l =
    let ih = no_work_is_lost ts h rs w law n (omega arith) in
    let a = released_more ts rs n in
    let b = with_left ts h rs n (states_at ts rs n) w (length-states ts rs n) law (λ p d. released_when_idle ts h rs w law p n (omega arith) d) in
    let c = done_is_busy ts rs w n in
    omega arith
