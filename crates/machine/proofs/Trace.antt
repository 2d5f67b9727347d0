-- The states of a run instant by instant, the end of the run, and one tick as one place sees it.
use Rattle.std.proofs.Common.{◌≡◌, ℕ, zero, suc, ◌+◌, ◌<◌, ◌≤◌, Bool, true, false, cond, eqb, ◌⊎◌, List, [], ◌∷◌, length, get_or, Some, None, Option, sym, refl, ap, ◌∙◌, subst, inl, inr, zero-add, arith}
use Rattle.std.proofs.lemmas.List.{length-replicate}
use Rattle.std.proofs.lemmas.Bool.{eq-eqb, cases_lt}
use Rattle.tasks.specs.declared.task.Task.{Task}
use Rattle.tasks.specs.Demand.{no_task}
use Rattle.machine.specs.declared.state.State.{State}
use Rattle.machine.specs.declared.state.State.TheVariants.{Idle, Waiting}
use Rattle.machine.specs.declared.state.Release.{Release}
use Rattle.machine.specs.declared.state.Miss.{Miss}
use Rattle.machine.specs.declared.state.Outcome.{Outcome}
use Rattle.machine.specs.Machine.{first_missed, due, worked, served, busy_tick, at_instant, run, outcome, ended, missed, went}
use Rattle.machine.specs.Events.{fresh}
use Rattle.machine.specs.Traces.{states_at}
use Rattle.machine.specs.Laws.{ready_at, end_of, FirstMiss, MissIsFirst, turn_of}
use Rattle.machine.proofs.Coming.{length-with, with_at_0}
use Rattle.machine.proofs.Running.{run_missed, run_went}

pub length-served : (ss : List State) → length (served ss) ≡ length ss
length-served [] = refl
length-served (Idle ∷ ss) = ap suc (length-served ss)
length-served (Waiting l d ∷ ss) = refl

pub length-states : (ts : List Task) (rs : List Release) (n : ℕ) → length (states_at ts rs n) ≡ length ts
length-states ts rs zero = length-replicate (length ts) Idle
length-states ts rs (suc n) = length-served (ready_at ts rs n) ∙ length-with rs n 0 ts (states_at ts rs n) ∙ length-states ts rs n

pub ready_is : (ts : List Task) (rs : List Release) (n p : ℕ) → p < length ts → get_or (ready_at ts rs n) p Idle ≡ cond (due rs p n) (fresh (get_or ts p no_task) n) (get_or (states_at ts rs n) p Idle)
ready_is ts rs n p l = with_at_0 rs n p ts (states_at ts rs n) (length-states ts rs n) l

-- a place past the end is never waiting
get_or_past_idle : (ss : List State) (p : ℕ) → length ss ≤ p → get_or ss p Idle ≡ Idle
get_or_past_idle [] p l = refl
get_or_past_idle (s ∷ ss) zero l = absurd (omega arith)
get_or_past_idle (s ∷ ss) (suc p) l = get_or_past_idle ss p (omega arith)

pub past_idle : (ts : List Task) (rs : List Release) (n p : ℕ) → length ts ≤ p → get_or (states_at ts rs n) p Idle ≡ Idle
past_idle ts rs n p l = get_or_past_idle (states_at ts rs n) p (omega (arith, length-states ts rs n))

-- one tick, as one place sees it

pub turn_cases : (p : ℕ) (ss : List State) → (turn_of p ss ≡ 0) ⊎ (turn_of p ss ≡ 1)
turn_cases zero [] = inl refl
turn_cases (suc p) [] = inl refl
turn_cases zero (Idle ∷ ss) = inl refl
turn_cases zero (Waiting l d ∷ ss) = inr refl
turn_cases (suc p) (Idle ∷ ss) = turn_cases p ss
turn_cases (suc p) (Waiting l d ∷ ss) = inl refl

pub turn_idle : (p : ℕ) (ss : List State) → get_or ss p Idle ≡ Idle → turn_of p ss ≡ 0
turn_idle zero [] e = refl
turn_idle (suc p) [] e = refl
turn_idle zero (Idle ∷ ss) e = refl
turn_idle zero (Waiting l d ∷ ss) e = let z : ◌≡◌ {A = ℕ} 0 1 = cc in absurd (omega arith)
turn_idle (suc p) (Idle ∷ ss) e = turn_idle p ss e
turn_idle (suc p) (Waiting l d ∷ ss) e = refl

pub served_other : (p : ℕ) (ss : List State) → turn_of p ss ≡ 0 → get_or (served ss) p Idle ≡ get_or ss p Idle
served_other zero [] e = refl
served_other (suc p) [] e = refl
served_other zero (Idle ∷ ss) e = refl
served_other zero (Waiting l d ∷ ss) e = absurd (omega arith)
served_other (suc p) (Idle ∷ ss) e = served_other p ss e
served_other (suc p) (Waiting l d ∷ ss) e = refl

-- a task after the tick went to it
abbrev pub tick_of : State → State
tick_of Idle = Idle
tick_of (Waiting l d) = worked l d

pub served_turn : (p : ℕ) (ss : List State) → turn_of p ss ≡ 1 → (s : State) → get_or ss p Idle ≡ s → get_or (served ss) p Idle ≡ tick_of s
served_turn zero [] t s e = absurd (omega arith)
served_turn (suc p) [] t s e = absurd (omega arith)
served_turn zero (Idle ∷ ss) t s e = absurd (omega arith)
served_turn zero (Waiting l d ∷ ss) t s e = ap tick_of e
served_turn (suc p) (Idle ∷ ss) t s e = served_turn p ss t s e
served_turn (suc p) (Waiting l d ∷ ss) t s e = absurd (omega arith)

-- a task waits with this deadline
abbrev pub DueAt : ℕ → State → Type 0
DueAt t Idle = ⊥
DueAt t (Waiting l d) = d.0 ≡ t

-- a deadline now is a miss
pub missed_some : (t k : ℕ) (ss : List State) (p : ℕ) (s : State) → get_or ss p Idle ≡ s → DueAt t s → first_missed t k ss ≡ None → ⊥
missed_some t k [] p Idle e d n = d
missed_some t k [] p (Waiting l x) e d n = let z : ◌≡◌ {A = ℕ} 0 1 = cc in omega arith
missed_some t k (Idle ∷ ss) zero Idle e d n = d
missed_some t k (Idle ∷ ss) zero (Waiting l x) e d n = let z : ◌≡◌ {A = ℕ} 0 1 = cc in omega arith
missed_some t k (Idle ∷ ss) (suc p) s e d n = missed_some t (k + 1) ss p s e d n
missed_some t k (Waiting l x ∷ ss) zero s e d n =
    let now : x.0 ≡ t = subst (DueAt t) (sym e) d in
    let m = ap (λ b. cond b (Some k) (first_missed t (k + 1) ss)) (eq-eqb x.0 t now) in
    let z : ◌≡◌ {A = ℕ} 0 1 = cc in
    omega arith
missed_some t k (Waiting l x ∷ ss) (suc p) s e d n = go (eqb x.0 t) refl (missed_some t (k + 1) ss p s e d)
  where
    go : (b : Bool) → eqb x.0 t ≡ b → (first_missed t (k + 1) ss ≡ None → ⊥) → ⊥
    go true q ih =
        let m = ap (λ b. cond b (Some k) (first_missed t (k + 1) ss)) q in
        let z : ◌≡◌ {A = ℕ} 0 1 = cc in
        omega arith
    go false q ih = ih (sym (ap (λ b. cond b (Some k) (first_missed t (k + 1) ss)) q) ∙ n)

-- a run from the states of an instant

pub run_miss : (ts : List Task) (rs : List Release) (more t busy p : ℕ) → first_missed t 0 (states_at ts rs t) ≡ Some p → run ts rs (suc more) t busy (states_at ts rs t) ≡ ended (Some p) t busy
run_miss ts rs more t busy p e =
    let m : at_instant ts rs t (states_at ts rs t) ≡ missed p = ap (λ o. elim o [ Some place ↦ missed place | None ↦ went (busy_tick (ready_at ts rs t)) (served (ready_at ts rs t)) ]) e in
    run_missed ts rs more t busy (states_at ts rs t) p (sym m)

pub run_more : (ts : List Task) (rs : List Release) (more t busy : ℕ) → first_missed t 0 (states_at ts rs t) ≡ None
    → run ts rs (suc more) t busy (states_at ts rs t) ≡ run ts rs more (suc t) (busy + busy_tick (ready_at ts rs t)) (states_at ts rs (suc t))
run_more ts rs more t busy e =
    let m : at_instant ts rs t (states_at ts rs t) ≡ went (busy_tick (ready_at ts rs t)) (served (ready_at ts rs t)) = ap (λ o. elim o [ Some place ↦ missed place | None ↦ went (busy_tick (ready_at ts rs t)) (served (ready_at ts rs t)) ]) e in
    run_went ts rs more t busy (states_at ts rs t) (busy_tick (ready_at ts rs t)) (states_at ts rs (suc t)) (sym m)

run_end : (ts : List Task) (rs : List Release) (t busy : ℕ) (o : Option ℕ) → first_missed t 0 (states_at ts rs t) ≡ o → run ts rs zero t busy (states_at ts rs t) ≡ ended o t busy
run_end ts rs t busy o e = ap (λ o. ended o t busy) e

-- the busy ticks from t on, k of them
abbrev pub busy_ticks : List Task → List Release → ℕ → ℕ
busy_ticks ts rs zero = 0
busy_ticks ts rs (suc n) = busy_ticks ts rs n + busy_tick (ready_at ts rs n)

-- how a run goes on: its miss is the first, and its busy ticks are those up to its end
pub record Ends (ts : List Task) (horizon : ℕ) (rs : List Release) (o : Outcome) : Type 0 where
  pub first : FirstMiss ts horizon rs o.miss
  pub busy_are : o.busy.0 ≡ busy_ticks ts rs (end_of horizon o.miss)

module _ (ts : List Task) (rs : List Release) where
  ends_now : (h t busy : ℕ) (p : ℕ) → t ≤ h → ((n : ℕ) → n < t → first_missed n 0 (states_at ts rs n) ≡ None) → busy ≡ busy_ticks ts rs t → first_missed t 0 (states_at ts rs t) ≡ Some p → Ends ts h rs (ended (Some p) t busy)
  ends_now h t busy p l before b e = record { first = (l, e, before); busy_are = b }

  until : (t : ℕ) → ((n : ℕ) → n < t → first_missed n 0 (states_at ts rs n) ≡ None) → first_missed t 0 (states_at ts rs t) ≡ None → (n : ℕ) → n < suc t → first_missed n 0 (states_at ts rs n) ≡ None
  until t before e n l = elim (cases_lt n t) [ inl z ↦ before n z | inr z ↦ let q : t ≡ n = omega arith in subst (λ m. first_missed m 0 (states_at ts rs m) ≡ None) q e ]

  run_ends : (h more t busy : ℕ) → t + more ≡ h → ((n : ℕ) → n < t → first_missed n 0 (states_at ts rs n) ≡ None) → busy ≡ busy_ticks ts rs t → Ends ts h rs (run ts rs more t busy (states_at ts rs t))
  run_ends h zero t busy q before b = go (first_missed t 0 (states_at ts rs t)) refl
    where
      go : (o : Option ℕ) → first_missed t 0 (states_at ts rs t) ≡ o → Ends ts h rs (run ts rs zero t busy (states_at ts rs t))
      go (Some p) e = subst (Ends ts h rs) (sym (run_end ts rs t busy (Some p) e)) (ends_now h t busy p (omega arith) before b e)
      go None e =
          let s : t ≡ h = omega arith in
          subst (Ends ts h rs) (sym (run_end ts rs t busy None e)) (record { first = λ n l. until t before e n (omega arith); busy_are = b ∙ ap (busy_ticks ts rs) s })
  run_ends h (suc more) t busy q before b = go (first_missed t 0 (states_at ts rs t)) refl (run_ends h more (suc t) (busy + busy_tick (ready_at ts rs t)) (omega arith))
    where
      go : (o : Option ℕ) → first_missed t 0 (states_at ts rs t) ≡ o
          → (((n : ℕ) → n < suc t → first_missed n 0 (states_at ts rs n) ≡ None) → busy + busy_tick (ready_at ts rs t) ≡ busy_ticks ts rs (suc t) → Ends ts h rs (run ts rs more (suc t) (busy + busy_tick (ready_at ts rs t)) (states_at ts rs (suc t))))
          → Ends ts h rs (run ts rs (suc more) t busy (states_at ts rs t))
      go (Some p) e ih = subst (Ends ts h rs) (sym (run_miss ts rs more t busy p e)) (ends_now h t busy p (omega arith) before b e)
      go None e ih = subst (Ends ts h rs) (sym (run_more ts rs more t busy e)) (ih (until t before e) (ap (λ n. n + busy_tick (ready_at ts rs t)) b))

pub outcome_ends : (ts : List Task) (horizon : ℕ) (rs : List Release) → Ends ts horizon rs (outcome ts horizon rs)
outcome_ends ts horizon rs = run_ends ts rs horizon horizon 0 0 (zero-add horizon) (λ n l. absurd (omega arith)) refl

-- the miss of an outcome is the first
pub miss_is_first : MissIsFirst
miss_is_first ts horizon rs = (outcome_ends ts horizon rs).first

-- no miss before the end of a run
pub none_before : (ts : List Task) (horizon : ℕ) (rs : List Release) (n : ℕ) → n < end_of horizon (outcome ts horizon rs).miss → first_missed n 0 (states_at ts rs n) ≡ None
none_before ts horizon rs n l = go (outcome ts horizon rs).miss (miss_is_first ts horizon rs) l
  where
    go : (m : _) → FirstMiss ts horizon rs m → n < end_of horizon m → first_missed n 0 (states_at ts rs n) ≡ None
    go None f l = f n (omega arith)
    go (Some m) f l = f.2 n l

-- nowhere late up to the horizon, and no miss is answered
pub no_miss : (ts : List Task) (horizon : ℕ) (rs : List Release) → ((n : ℕ) → n ≤ horizon → first_missed n 0 (states_at ts rs n) ≡ None) → (outcome ts horizon rs).miss ≡ None
no_miss ts horizon rs h = go (outcome ts horizon rs).miss (miss_is_first ts horizon rs)
  where
    go : (m : Option Miss) → FirstMiss ts horizon rs m → m ≡ None
    go None f = refl
    go (Some m) f =
        let a = h m.instant.0 f.0 in
        let b = f.1 in
        let z : ◌≡◌ {A = ℕ} 0 1 = cc in
        absurd (omega arith)

-- late at an instant up to the horizon, and some miss is answered
pub some_miss : (ts : List Task) (horizon : ℕ) (rs : List Release) (n p : ℕ) → n ≤ horizon → first_missed n 0 (states_at ts rs n) ≡ Some p → (m : Miss) × ((outcome ts horizon rs).miss ≡ Some m)
some_miss ts horizon rs n p l e = go (outcome ts horizon rs).miss (miss_is_first ts horizon rs)
  where
    go : (o : Option Miss) → FirstMiss ts horizon rs o → (m : Miss) × (o ≡ Some m)
    go None f =
        let a = f n l in
        let z : ◌≡◌ {A = ℕ} 0 1 = cc in
        absurd (omega arith)
    go (Some m) f = (m, refl)
