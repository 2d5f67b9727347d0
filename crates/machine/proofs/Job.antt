-- Jobs of one task: from release to release, to their deadlines.
use Rattle.std.proofs.Common.{◌≡◌, ℕ, All, zero, suc, ◌+◌, ◌-◌, ◌*◌, ◌<◌, ◌≤◌, Bool, true, false, cond, ◌&&◌, eqb, ltb, leb, ◌⊎◌, List, [], ◌∷◌, length, get_or, None, sym, refl, ap, ◌∙◌, subst, inl, inr, add-zero, add-suc, one-mul, arith}
use Rattle.std.proofs.lemmas.List.Elements.{All-head, All-tail}
use Rattle.std.proofs.lemmas.Bool.{and_parts, or_cases, eqb-true, le-leb, lt-leb, ltb-true, cases_Bool, cases_lt, false≢true, cond-true, cond-false}
use Rattle.tasks.specs.declared.task.Task.{Task}
use Rattle.tasks.specs.declared.units.Ticks.{Ticks}
use Rattle.tasks.specs.declared.units.Units.{Units}
use Rattle.tasks.specs.Demand.{no_task}
use Rattle.tasks.specs.Limits.{all_within}
use Rattle.tasks.proofs.Bounds.{Limits, all_limits}
use Rattle.machine.specs.declared.state.State.{State}
use Rattle.machine.specs.declared.state.State.TheVariants.{Idle, Waiting}
use Rattle.machine.specs.declared.state.Release.{Release}
use Rattle.machine.specs.Machine.{first_missed, due, served}
use Rattle.machine.specs.Lawful.{lawful}
use Rattle.machine.specs.Events.{fresh}
use Rattle.machine.specs.Traces.{states_at}
use Rattle.machine.specs.Laws.{ready_at, turn_of, ticks_given, job_after, JobFor, FirstMiss, WaitsUntilDone, DoneByDeadline, ReleasedWhenIdle}
use Rattle.machine.proofs.Separated.{Follows, lawful_parts, replicated_at}
use Rattle.machine.proofs.Trace.{ready_is, past_idle, turn_cases, turn_idle, served_other, served_turn, tick_of, missed_some, none_before, miss_is_first}

-- the limits of the task at a place
pub limits_at : (ts : List Task) (p : ℕ) → all_within ts ≡ true → p < length ts → Limits (get_or ts p no_task)
limits_at ts p h l = all_limits ts h p no_task l

-- two releases of a task in a lawful list

pub record Found (P : Release → Type 0) (p t : ℕ) : Type 0 where
  pub it : Release
  pub holds : P it
  pub place : it.place ≡ p
  pub instant : it.instant.0 ≡ t

pub due_head : (r : Release) (p t : ℕ) → (eqb r.place p && eqb r.instant.0 t) ≡ true → (r.place ≡ p) × (r.instant.0 ≡ t)
due_head r p t h = let w = and_parts (eqb r.place p) (eqb r.instant.0 t) h in (eqb-true r.place p w.0, eqb-true r.instant.0 t w.1)

pub due_find : (P : Release → Type 0) (rs : List Release) (p t : ℕ) → All P rs → due rs p t ≡ true → Found P p t
due_find P [] p t a h = absurd (false≢true h)
due_find P (r ∷ rs) p t a h = elim (or_cases (eqb r.place p && eqb r.instant.0 t) (due rs p t) h) [
  | inl e ↦ let w = due_head r p t e in record { it = r; holds = All-head P r rs a; place = w.0; instant = w.1 }
  | inr e ↦ due_find P rs p t (All-tail P r rs a) e
]

pub due_apart : (ts : List Task) (h : ℕ) (rs : List Release) (p s t : ℕ) → lawful ts h rs ≡ true → due rs p s ≡ true → due rs p t ≡ true → s < t → s + (get_or ts p no_task).period.0 ≤ t
due_apart ts h [] p s t o a b l = absurd (false≢true a)
due_apart ts h (r ∷ rs) p s t o a b l = go (or_cases (eqb r.place p && eqb r.instant.0 s) (due rs p s) a) (or_cases (eqb r.place p && eqb r.instant.0 t) (due rs p t) b) (lawful_parts ts h r rs o).1 (due_apart ts h rs p s t (lawful_parts ts h r rs o).2)
  where
    go : ((eqb r.place p && eqb r.instant.0 s) ≡ true) ⊎ (due rs p s ≡ true) → ((eqb r.place p && eqb r.instant.0 t) ≡ true) ⊎ (due rs p t ≡ true) → All (Follows ts r) rs
        → (due rs p s ≡ true → due rs p t ≡ true → s < t → s + (get_or ts p no_task).period.0 ≤ t) → s + (get_or ts p no_task).period.0 ≤ t
    go (inl x) (inl y) f ih = let u = due_head r p s x in let v = due_head r p t y in absurd (omega arith)
    go (inl x) (inr y) f ih =
        let u = due_head r p s x in
        let q = due_find (Follows ts r) rs p t f y in
        let g = q.holds.apart (u.0 ∙ sym q.place) in
        let k : r.instant.0 + (get_or ts p no_task).period.0 ≤ q.it.instant.0 = subst (λ z. r.instant.0 + (get_or ts z no_task).period.0 ≤ q.it.instant.0) u.0 g in
        omega (arith, u.1, q.instant)
    go (inr x) (inl y) f ih =
        let v = due_head r p t y in
        let q = due_find (Follows ts r) rs p s f x in
        absurd (omega (arith, v.1, q.instant, q.holds.later))
    go (inr x) (inr y) f ih = ih x y l

pub due_place : (ts : List Task) (h : ℕ) (rs : List Release) (p t : ℕ) → lawful ts h rs ≡ true → due rs p t ≡ true → p < length ts
due_place ts h [] p t o a = absurd (false≢true a)
due_place ts h (r ∷ rs) p t o a = go (or_cases (eqb r.place p && eqb r.instant.0 t) (due rs p t) a) (due_place ts h rs p t (lawful_parts ts h r rs o).2)
  where
    go : ((eqb r.place p && eqb r.instant.0 t) ≡ true) ⊎ (due rs p t ≡ true) → (due rs p t ≡ true → p < length ts) → p < length ts
    go (inl x) ih =
        let u = due_head r p t x in
        let b = ltb-true r.place (length ts) (and_parts (ltb r.place (length ts)) (ltb r.instant.0 h) (lawful_parts ts h r rs o).0).0 in
        omega (arith, u.0)
    go (inr x) ih = ih x

-- one job

module _ (x : Task) (r : ℕ) where
  abbrev waits : ℕ → State
  waits u = Waiting (record { 0 = x.work.0 - u }) (record { 0 = r + x.period.0 })

  job_done : (u : ℕ) → x.work.0 ≤ u → job_after x r u ≡ Idle
  job_done u l = cond-true (leb x.work.0 u) Idle (waits u) (le-leb x.work.0 u l)

  pub job_waits : (u : ℕ) → u < x.work.0 → job_after x r u ≡ waits u
  job_waits u l = cond-false (leb x.work.0 u) Idle (waits u) (lt-leb x.work.0 u l)

  job_tick : (u : ℕ) → u < x.work.0 → tick_of (waits u) ≡ job_after x r (u + 1)
  job_tick u l = elim (cases_lt (u + 1) x.work.0) [
    | inl b ↦
        let q : (x.work.0 - u) - 1 ≡ x.work.0 - (u + 1) = omega arith in
        cond-false (leb (x.work.0 - u) 1) Idle (Waiting (record { 0 = (x.work.0 - u) - 1 }) (record { 0 = r + x.period.0 })) (lt-leb (x.work.0 - u) 1 (omega arith))
        ∙ ap (λ n. Waiting (record { 0 = n }) (record { 0 = r + x.period.0 })) q ∙ sym (job_waits (u + 1) b)
    | inr b ↦
        cond-true (leb (x.work.0 - u) 1) Idle (Waiting (record { 0 = (x.work.0 - u) - 1 }) (record { 0 = r + x.period.0 })) (le-leb (x.work.0 - u) 1 (omega arith))
        ∙ sym (job_done (u + 1) b)
  ]

  -- a tick, whether the task is given it or not
  job_step : (p u : ℕ) (ss : List State) → u ≤ x.work.0 → get_or ss p Idle ≡ job_after x r u → (get_or (served ss) p Idle ≡ job_after x r (u + turn_of p ss)) × (u + turn_of p ss ≤ x.work.0)
  job_step p u ss l e = go (cases_lt u x.work.0) (turn_cases p ss)
    where
      go : (u < x.work.0) ⊎ (x.work.0 ≤ u) → (turn_of p ss ≡ 0) ⊎ (turn_of p ss ≡ 1) → (get_or (served ss) p Idle ≡ job_after x r (u + turn_of p ss)) × (u + turn_of p ss ≤ x.work.0)
      go (inl b) (inl t) = let q : u ≡ u + turn_of p ss = omega arith in (served_other p ss t ∙ e ∙ ap (job_after x r) q, omega arith)
      go (inl b) (inr t) =
          let q : u + 1 ≡ u + turn_of p ss = omega arith in
          (served_turn p ss t (waits u) (e ∙ job_waits u b) ∙ job_tick u b ∙ ap (job_after x r) q, omega arith)
      go (inr b) t =
          let z = turn_idle p ss (e ∙ job_done u b) in
          let q : u ≡ u + turn_of p ss = omega arith in
          (served_other p ss z ∙ e ∙ ap (job_after x r) q, omega arith)

  job_fresh : 1 ≤ x.work.0 → fresh x r ≡ job_after x r 0
  job_fresh l =
      let q : x.work.0 ≡ x.work.0 - 0 = omega arith in
      ap (λ n. Waiting (record { 0 = n }) (record { 0 = r + x.period.0 })) q ∙ sym (job_waits 0 (omega arith))

module _ (ts : List Task) (rs : List Release) (w : all_within ts ≡ true) (p : ℕ) (lt : p < length ts) where
  abbrev task : Task
  task = get_or ts p no_task

  -- k ticks after a release, with what was given of them: with the releases of the instant, and one tick later
  abbrev ReadyAfter : ℕ → ℕ → Type 0
  ReadyAfter r k = (get_or (ready_at ts rs (r + k)) p Idle ≡ job_after task r (ticks_given ts rs p r k)) × (ticks_given ts rs p r k ≤ task.work.0)

  abbrev NextAfter : ℕ → ℕ → Type 0
  NextAfter r k = (get_or (states_at ts rs (r + suc k)) p Idle ≡ job_after task r (ticks_given ts rs p r (suc k))) × (ticks_given ts rs p r (suc k) ≤ task.work.0)

  next_from : (r k : ℕ) → ReadyAfter r k → NextAfter r k
  next_from r k a =
      let b = job_step task r p (ticks_given ts rs p r k) (ready_at ts rs (r + k)) a.1 a.0 in
      (ap (λ n. get_or (states_at ts rs n) p Idle) (add-suc r k) ∙ b.0, b.1)

  ready_after : (r : ℕ) → due rs p r ≡ true → (k : ℕ) → ((n : ℕ) → r < n → n < r + suc k → due rs p n ≡ false) → ReadyAfter r k
  ready_after r d zero alone = (
    ap (λ n. get_or (ready_at ts rs n) p Idle) (add-zero r) ∙ ready_is ts rs r p lt ∙ cond-true (due rs p r) (fresh task r) (get_or (states_at ts rs r) p Idle) d
        ∙ job_fresh task r (limits_at ts p w lt).work_from,
    omega arith,
  )
  ready_after r d (suc k) alone =
      let ih = next_from r k (ready_after r d k (λ n a b. alone n a (omega arith))) in (
        ready_is ts rs (r + suc k) p lt ∙ cond-false (due rs p (r + suc k)) (fresh task (r + suc k)) (get_or (states_at ts rs (r + suc k)) p Idle) (alone (r + suc k) (omega arith) (omega arith)) ∙ ih.0,
        ih.1,
      )

-- the state and the units, k ticks after a release
pub job_at : (ts : List Task) (rs : List Release) → all_within ts ≡ true → (p r k : ℕ) → 1 ≤ k → JobFor ts rs p r k
    → (get_or (states_at ts rs (r + k)) p Idle ≡ job_after (get_or ts p no_task) r (ticks_given ts rs p r k)) × (ticks_given ts rs p r k ≤ (get_or ts p no_task).work.0)
job_at ts rs w p r zero l j = absurd (omega arith)
job_at ts rs w p r (suc k) l j = next_from ts rs w p j.place r k (ready_after ts rs w p j.place r j.released k j.alone)

-- until its first release a task is idle
pub idle_before : (ts : List Task) (rs : List Release) (p : ℕ) → p < length ts → (n : ℕ) → ((m : ℕ) → m < n → due rs p m ≡ false) → get_or (states_at ts rs n) p Idle ≡ Idle
idle_before ts rs p l zero h = replicated_at (length ts) p Idle
idle_before ts rs p l (suc n) h =
    let i = ready_is ts rs n p l ∙ cond-false (due rs p n) (fresh (get_or ts p no_task) n) (get_or (states_at ts rs n) p Idle) (h n (omega arith)) ∙ idle_before ts rs p l n (λ m b. h m (omega arith)) in
    served_other p (ready_at ts rs n) (turn_idle p (ready_at ts rs n) i) ∙ i

pub waits_until_done : WaitsUntilDone
waits_until_done ts rs w p =
    record {
      before = λ n h. elim (cases_lt p (length ts)) [ inl l ↦ idle_before ts rs p l n h | inr l ↦ past_idle ts rs n p l ];
      after = λ r k l j. (job_at ts rs w p r k l j).0 ∙ ap (job_after (get_or ts p no_task) r) (sym (one-mul (ticks_given ts rs p r k)));
      no_more = no_more;
    }
  where
    no_more : (r k : ℕ) → JobFor ts rs p r k → 1 * ticks_given ts rs p r k ≤ (get_or ts p no_task).work.0
    no_more r zero j = omega arith
    no_more r (suc k) j = omega (arith, (job_at ts rs w p r (suc k) (omega arith) j).1)

-- whoever waits was released

pub record Since (ts : List Task) (rs : List Release) (p n : ℕ) (d : Ticks) : Type 0 where
  pub from : ℕ
  pub released : due rs p from ≡ true
  pub earlier : from < n
  pub deadline : d.0 ≡ from + (get_or ts p no_task).period.0
  pub still : (m : ℕ) → from < m → m ≤ n → (left : Units) × (get_or (states_at ts rs m) p Idle ≡ Waiting left d)

tick_back : (s : State) (l : Units) (d : Ticks) → tick_of s ≡ Waiting l d → (k : Units) × (s ≡ Waiting k d)
tick_back Idle l d e = let z : ◌≡◌ {A = ℕ} 0 1 = cc in absurd (omega arith)
tick_back (Waiting k x) l d e = go (leb k.0 1) e
  where
    go : (b : Bool) → cond b Idle (Waiting (record { 0 = k.0 - 1 }) x) ≡ Waiting l d → (j : Units) × (Waiting k x ≡ Waiting j d)
    go true q = let z : ◌≡◌ {A = ℕ} 0 1 = cc in absurd (omega arith)
    go false q = let y : x ≡ d = cc in (k, ap (Waiting k) y)

served_back : (p : ℕ) (ss : List State) (l : Units) (d : Ticks) → get_or (served ss) p Idle ≡ Waiting l d → (k : Units) × (get_or ss p Idle ≡ Waiting k d)
served_back p ss l d e = elim (turn_cases p ss) [
  | inl t ↦ (l, sym (served_other p ss t) ∙ e)
  | inr t ↦ tick_back (get_or ss p Idle) l d (sym (served_turn p ss t (get_or ss p Idle) refl) ∙ e)
]

pub since : (ts : List Task) (rs : List Release) (p : ℕ) → p < length ts → (n : ℕ) (l : Units) (d : Ticks) → get_or (states_at ts rs n) p Idle ≡ Waiting l d → Since ts rs p n d
since ts rs p lt zero l d e = let i = replicated_at (length ts) p Idle in let z : ◌≡◌ {A = ℕ} 0 1 = cc in absurd (omega arith)
since ts rs p lt (suc n) l d e =
    let b = served_back p (ready_at ts rs n) l d e in
    go (due rs p n) refl b.0 (sym (ready_is ts rs n p lt) ∙ b.1) (since ts rs p lt n)
  where
    go : (b : Bool) → due rs p n ≡ b → (k : Units) → cond (due rs p n) (fresh (get_or ts p no_task) n) (get_or (states_at ts rs n) p Idle) ≡ Waiting k d
        → ((l : Units) (d : Ticks) → get_or (states_at ts rs n) p Idle ≡ Waiting l d → Since ts rs p n d) → Since ts rs p (suc n) d
    go true q k f ih =
        let g = sym (cond-true (due rs p n) (fresh (get_or ts p no_task) n) (get_or (states_at ts rs n) p Idle) q) ∙ f in
        let y : record { 0 = n + (get_or ts p no_task).period.0 } ≡ d = cc in
        record {
          from = n;
          released = q;
          earlier = omega arith;
          deadline = sym (ap (λ (t : Ticks). t.0) y);
          still = λ m a b. let s : suc n ≡ m = omega arith in (l, subst (λ i. get_or (states_at ts rs i) p Idle ≡ Waiting l d) s e);
        }
    go false q k f ih =
        let w = ih k d (sym (cond-false (due rs p n) (fresh (get_or ts p no_task) n) (get_or (states_at ts rs n) p Idle) q) ∙ f) in
        record {
          from = w.from;
          released = w.released;
          earlier = omega (arith, w.earlier);
          deadline = w.deadline;
          still = λ m a b. elim (cases_lt m (suc n)) [
            | inl c ↦ w.still m a (omega arith)
            | inr c ↦ let s : suc n ≡ m = omega arith in (l, subst (λ i. get_or (states_at ts rs i) p Idle ≡ Waiting l d) s e)
          ];
        }

pub released_when_idle : ReleasedWhenIdle
released_when_idle ts h rs w law p n l d = go (get_or (states_at ts rs n) p Idle) refl
  where
    go : (s : State) → get_or (states_at ts rs n) p Idle ≡ s → get_or (states_at ts rs n) p Idle ≡ Idle
    go Idle e = e
    go (Waiting left deadline) e =
        let s = since ts rs p (due_place ts h rs p n law d) n left deadline e in
        let a = due_apart ts h rs p s.from n law s.released d s.earlier in
        let b = (limits_at ts p w (due_place ts h rs p n law d)).period_from in
        let m = deadline.0 in
        let x = s.still m (omega (arith, s.deadline)) (omega (arith, s.deadline)) in
        absurd (missed_some m 0 (states_at ts rs m) p (Waiting x.0 deadline) x.1 refl (none_before ts h rs m (omega (arith, s.deadline))))

pub done_by_deadline : DoneByDeadline
done_by_deadline ts h rs w law none p r d l =
    let x = get_or ts p no_task in
    let lt = due_place ts h rs p r law d in
    let k = x.period.0 in
    let j : JobFor ts rs p r k = record {
      place = lt;
      released = d;
      alone = λ n a b. elim (cases_Bool (due rs p n)) [ inl t ↦ absurd (let q = due_apart ts h rs p r n law d t a in omega arith) | inr f ↦ f ];
    } in
    let s = job_at ts rs w p r k (limits_at ts p w lt).period_from j in
    let none-at : first_missed (r + k) 0 (states_at ts rs (r + k)) ≡ None = subst (FirstMiss ts h rs) none (miss_is_first ts h rs) (r + k) l in
    elim (cases_lt (ticks_given ts rs p r k) x.work.0) [
      | inl b ↦ absurd (missed_some (r + k) 0 (states_at ts rs (r + k)) p (waits x r (ticks_given ts rs p r k)) (s.0 ∙ job_waits x r (ticks_given ts rs p r k) b) refl none-at)
      | inr b ↦ (omega (arith, s.1, b), s.0 ∙ job_done x r (ticks_given ts rs p r k) b)
    ]
