-- Whoever waits has work left.
use Rattle.std.proofs.Common.{◌≡◌, ℕ, zero, suc, ◌-◌, ◌≤◌, All, true, leb, List, [], ◌∷◌, length, arith}
use Rattle.std.proofs.lemmas.Bool.{and_parts, leb-false, cond_both}
use Rattle.std.proofs.lemmas.List.Elements.{All-cons, All-head, All-tail, All-replicate}
use Rattle.tasks.specs.declared.task.Task.{Task}
use Rattle.tasks.specs.declared.units.Ticks.{Ticks}
use Rattle.tasks.specs.declared.units.Units.{Units}
use Rattle.tasks.specs.Limits.{all_within, within_limits}
use Rattle.tasks.proofs.Bounds.{limits}
use Rattle.machine.specs.declared.state.State.{State}
use Rattle.machine.specs.declared.state.State.TheVariants.{Idle, Waiting}
use Rattle.machine.specs.declared.state.Release.{Release}
use Rattle.machine.specs.Machine.{due, with_releases, worked, served}
use Rattle.machine.specs.Events.{fresh}
use Rattle.machine.specs.Traces.{states_at}
use Rattle.machine.specs.Laws.{ready_at}

abbrev pub Live : State → Type 0
Live Idle = Unit {0}
Live (Waiting l d) = 1 ≤ l.0

live_with : (rs : List Release) (t p : ℕ) (ts : List Task) (ss : List State) → all_within ts ≡ true → All Live ss → All Live (with_releases rs t p ts ss)
live_with rs t p [] ss w a = a
live_with rs t p (x ∷ ts) [] w a = a
live_with rs t p (x ∷ ts) (s ∷ ss) w a =
    let v = and_parts (within_limits x) (all_within ts) w in
    All-cons Live _ (with_releases rs t (suc p) ts ss) (cond_both (due rs p t) (fresh x t) s Live (λ e. (limits x v.0).work_from) (λ e. All-head Live s ss a))
    (live_with rs t (suc p) ts ss v.1 (All-tail Live s ss a))

live_worked : (l : Units) (d : Ticks) → Live (worked l d)
live_worked l d = cond_both (leb l.0 1) Idle (Waiting (record { 0 = l.0 - 1 }) d) Live (λ e. tt) (λ e. omega (arith, leb-false l.0 1 e))

live_served : (ss : List State) → All Live ss → All Live (served ss)
live_served [] a = a
live_served (Idle ∷ ss) a = All-cons Live Idle (served ss) tt (live_served ss (All-tail Live Idle ss a))
live_served (Waiting l d ∷ ss) a = All-cons Live (worked l d) ss (live_worked l d) (All-tail Live (Waiting l d) ss a)

pub live_states : (ts : List Task) (rs : List Release) → all_within ts ≡ true → (n : ℕ) → All Live (states_at ts rs n)
live_states ts rs w zero = All-replicate Live (length ts) Idle tt
live_states ts rs w (suc n) = live_served (ready_at ts rs n) (live_with rs n 0 ts (states_at ts rs n) w (live_states ts rs w n))

pub live_ready : (ts : List Task) (rs : List Release) → all_within ts ≡ true → (n : ℕ) → All Live (ready_at ts rs n)
live_ready ts rs w n = live_with rs n 0 ts (states_at ts rs n) w (live_states ts rs w n)
