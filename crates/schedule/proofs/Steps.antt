-- One tick of the machine, as one place sees it: the equations of the core, and nothing of demand or of laws of releases.
use Rattle.std.proofs.Common.{◌≡◌, ℕ, zero, suc, ◌+◌, ◌-◌, ◌<◌, ◌≤◌, Bool, true, false, cond, leb, List, [], ◌∷◌, length, get_or, take, replicate, sym, refl, ap, ◌∙◌, subst, inl, inr, add-zero, zero-add, arith, All}
use Rattle.std.proofs.lemmas.Bool.{cond_both, cond-true, cond-false, leb-true, leb-false}
use Rattle.std.proofs.lemmas.List.Elements.{All-head, All-tail}
use Rattle.tasks.specs.declared.task.Task.{Task}
use Rattle.tasks.specs.Demand.{no_task}
use Rattle.tasks.specs.Limits.{all_within}
use Rattle.machine.specs.declared.state.State.{State}
use Rattle.machine.specs.declared.state.State.TheVariants.{Idle, Waiting}
use Rattle.machine.specs.declared.state.Release.{Release}
use Rattle.machine.specs.Machine.{due, with_releases, served}
use Rattle.machine.specs.Traces.{states_at}
use Rattle.machine.specs.Laws.{left_of, work_left}
use Rattle.machine.proofs.Separated.{replicated_at}
use Rattle.machine.proofs.Trace.{ready_is, length-states}
use Rattle.machine.proofs.Live.{Live, live_ready}
use Rattle.machine.proofs.Job.{limits_at}
use Rattle.schedule.proofs.Counting.{arrive}
use Rattle.schedule.proofs.Critical.{spend, Renewed, Tick}

live_at : (ss : List State) (k : ℕ) → All Live ss → Live (get_or ss k Idle)
live_at [] k a = tt
live_at (s ∷ ss) zero a = All-head Live s ss a
live_at (s ∷ ss) (suc k) a = live_at ss k (All-tail Live s ss a)

spend_none : (s : State) → Live s → spend 0 s ≡ s
spend_none Idle p = refl
spend_none (Waiting l d) p = cond_both (leb l.0 0) Idle (Waiting (record { 0 = l.0 - 0 }) d) (λ x. x ≡ Waiting l d)
    (λ e. absurd (omega (arith, leb-true l.0 0 e))) (λ e. let q : l.0 - 0 ≡ l.0 = omega arith in ap (λ (x : ℕ). Waiting (record { 0 = x }) d) q)

-- The service of a tick. What the first k places hold falls by one unit,
pub served_left_in : (k : ℕ) (ss : List State) → All Live ss → work_left (take k (served ss)) ≡ work_left (take k ss) - 1
served_left_in zero ss a = omega arith
served_left_in (suc k) [] a = omega arith
served_left_in (suc k) (Idle ∷ ss) a = omega (arith, served_left_in k ss (All-tail Live Idle ss a))
served_left_in (suc k) (Waiting l d ∷ ss) a = cond_both (leb l.0 1) Idle (Waiting (record { 0 = l.0 - 1 }) d) (λ s. left_of s + work_left (take k ss) ≡ (l.0 + work_left (take k ss)) - 1)
    (λ e. omega (arith, leb-true l.0 1 e, All-head Live (Waiting l d) ss a)) (λ e. omega (arith, leb-false l.0 1 e))

-- and the place below them spends what they leave of it.
pub served_at : (k : ℕ) (ss : List State) → All Live ss → get_or (served ss) k Idle ≡ spend (1 - work_left (take k ss)) (get_or ss k Idle)
served_at zero [] a = refl
served_at (suc k) [] a = refl
served_at zero (Idle ∷ ss) a = refl
served_at zero (Waiting l d ∷ ss) a = refl
served_at (suc k) (Idle ∷ ss) a = rw (zero-add (work_left (take k ss))) (served_at k ss (All-tail Live Idle ss a))
served_at (suc k) (Waiting l d ∷ ss) a =
    let q : 1 - (l.0 + work_left (take k ss)) ≡ 0 = omega (arith, All-head Live (Waiting l d) ss a) in
    rw q (sym (spend_none (get_or ss k Idle) (live_at ss k (All-tail Live (Waiting l d) ss a))))

-- The releases of an instant. What the first k places hold rises by no more than what is released to them,
pub released_left_in : (rs : List Release) (now p k : ℕ) (ts : List Task) (ss : List State) → length ss ≡ length ts
    → work_left (take k (with_releases rs now p ts ss)) ≤ work_left (take k ss) + arrive rs p (take k ts) now
released_left_in rs now p zero ts ss e = omega arith
released_left_in rs now p (suc k) [] [] e = omega arith
released_left_in rs now p (suc k) [] (s ∷ ss) e = absurd (omega arith)
released_left_in rs now p (suc k) (t ∷ ts) [] e = absurd (omega arith)
released_left_in rs now p (suc k) (t ∷ ts) (s ∷ ss) e = go (due rs p now) refl (released_left_in rs now (suc p) k ts ss (omega arith))
  where
    go : (b : Bool) → due rs p now ≡ b → work_left (take k (with_releases rs now (suc p) ts ss)) ≤ work_left (take k ss) + arrive rs (suc p) (take k ts) now
        → work_left (take (suc k) (with_releases rs now p (t ∷ ts) (s ∷ ss))) ≤ work_left (take (suc k) (s ∷ ss)) + arrive rs p (take (suc k) (t ∷ ts)) now
    go true q ih = rw q (omega arith)
    go false q ih = rw q (omega arith)

-- by just that where each that is released was idle,
pub released_exact : (rs : List Release) (now p k : ℕ) (ts : List Task) (ss : List State) → length ss ≡ length ts
    → ((j : ℕ) → j < length ts → due rs (p + j) now ≡ true → get_or ss j Idle ≡ Idle)
    → work_left (take k (with_releases rs now p ts ss)) ≡ work_left (take k ss) + arrive rs p (take k ts) now
released_exact rs now p zero ts ss e f = refl
released_exact rs now p (suc k) [] [] e f = refl
released_exact rs now p (suc k) [] (s ∷ ss) e f = absurd (omega arith)
released_exact rs now p (suc k) (t ∷ ts) [] e f = absurd (omega arith)
released_exact rs now p (suc k) (t ∷ ts) (s ∷ ss) e f = go (due rs p now) refl
    (released_exact rs now (suc p) k ts ss (omega arith) (λ j l d. let q : suc p + j ≡ p + suc j = omega arith in f (suc j) (omega arith) (subst (λ z. due rs z now ≡ true) q d)))
  where
    go : (b : Bool) → due rs p now ≡ b → work_left (take k (with_releases rs now (suc p) ts ss)) ≡ work_left (take k ss) + arrive rs (suc p) (take k ts) now
        → work_left (take (suc k) (with_releases rs now p (t ∷ ts) (s ∷ ss))) ≡ work_left (take (suc k) (s ∷ ss)) + arrive rs p (take (suc k) (t ∷ ts)) now
    go true q ih =
        let i : s ≡ Idle = f 0 (omega arith) (subst (λ z. due rs z now ≡ true) (sym (add-zero p)) q) in
        let z : left_of s ≡ 0 = ap left_of i in
        rw q (omega arith)
    go false q ih = rw q (omega arith)

idle_left_in : (n k : ℕ) → work_left (take k (replicate n Idle)) ≡ 0
idle_left_in n zero = refl
idle_left_in zero (suc k) = refl
idle_left_in (suc n) (suc k) = omega (arith, idle_left_in n k)

-- The sequences of place k.
module _ (ts : List Task) (rs : List Release) (k : ℕ) where
  -- what the places above hold just before an instant
  abbrev pub held_above : ℕ → ℕ
  held_above n = work_left (take k (states_at ts rs n))

  -- what they are released at it
  abbrev pub come_above : ℕ → ℕ
  come_above n = arrive rs 0 (take k ts) n

  -- the place's own state before and after the releases of an instant
  abbrev pub own_state : ℕ → State
  own_state n = get_or (states_at ts rs n) k Idle

  abbrev pub own_ready : ℕ → State
  own_ready n = get_or (with_releases rs n 0 ts (states_at ts rs n)) k Idle

  pub held_start : held_above 0 ≡ 0
  held_start = idle_left_in (length ts) k

  pub own_start : own_state 0 ≡ Idle
  own_start = replicated_at (length ts) k Idle

  pub own_ready_is : (n : ℕ) → k < length ts → own_ready n ≡ cond (due rs k n) (Waiting (get_or ts k no_task).work (record { 0 = n + (get_or ts k no_task).period.0 })) (own_state n)
  own_ready_is n l = ready_is ts rs n k l

  pub own_renewed : all_within ts ≡ true → k < length ts → (n : ℕ) → Renewed (due rs k) (get_or ts k no_task).work.0 (get_or ts k no_task).period.0 n (own_state n) (own_ready n)
  own_renewed a l n = go (due rs k n) refl
    where
      go : (b : Bool) → due rs k n ≡ b → Renewed (due rs k) (get_or ts k no_task).work.0 (get_or ts k no_task).period.0 n (own_state n) (own_ready n)
      go true e = inr ((get_or ts k no_task).work, e, (limits_at ts k a l).work_from, omega arith, own_ready_is n l ∙ cond-true (due rs k n) (Waiting (get_or ts k no_task).work (record { 0 = n + (get_or ts k no_task).period.0 })) (own_state n) e)
      go false e = inl (e, own_ready_is n l ∙ cond-false (due rs k n) (Waiting (get_or ts k no_task).work (record { 0 = n + (get_or ts k no_task).period.0 })) (own_state n) e)

  -- what the places above hold after the releases of an instant
  abbrev pub held_ready : ℕ → ℕ
  held_ready n = work_left (take k (with_releases rs n 0 ts (states_at ts rs n)))

  pub above_falls : all_within ts ≡ true → (n : ℕ) → held_above (suc n) ≡ held_ready n - 1
  above_falls a n = served_left_in k (with_releases rs n 0 ts (states_at ts rs n)) (live_ready ts rs a n)

  pub own_spends : all_within ts ≡ true → (n : ℕ) → own_state (suc n) ≡ spend (1 - held_ready n) (own_ready n)
  own_spends a n = served_at k (with_releases rs n 0 ts (states_at ts rs n)) (live_ready ts rs a n)

  pub own_tick : all_within ts ≡ true → (n : ℕ) → Tick 1 (held_above (suc n)) (held_above n) (come_above n) (own_ready n) (own_state (suc n))
  own_tick a n = record { held = held_ready n; bound = released_left_in rs n 0 k ts (states_at ts rs n) (length-states ts rs n); above = above_falls a n; own = own_spends a n }
