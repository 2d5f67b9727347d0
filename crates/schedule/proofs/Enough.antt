-- A good instant is enough: the core, with what a lawful list can release.
use Rattle.std.proofs.Common.{◌≡◌, ℕ, ◌+◌, ◌*◌, ◌<◌, ◌≤◌, true, List, length, get_or, take, Some, None, Option, refl, subst, arith, All}
use Rattle.std.proofs.lemmas.List.Elements.{All-take}
use Rattle.std.proofs.lemmas.Bool.{both_ways}
use Rattle.tasks.specs.declared.task.Task.{Task}
use Rattle.tasks.specs.declared.units.Units.{Units}
use Rattle.tasks.specs.declared.units.Ticks.{Ticks}
use Rattle.tasks.specs.Limits.{all_within}
use Rattle.tasks.specs.Demand.{no_task, FitsAt}
use Rattle.tasks.proofs.Bounds.{Limits, all_limits}
use Rattle.machine.specs.declared.state.State.TheVariants.{Waiting}
use Rattle.machine.specs.declared.state.Release.{Release}
use Rattle.machine.specs.declared.state.Miss.{Miss}
use Rattle.machine.specs.Machine.{due, outcome}
use Rattle.machine.specs.Lawful.{lawful}
use Rattle.machine.specs.Traces.{states_at}
use Rattle.tasks.proofs.Goods.{good_parts}
use Rattle.schedule.specs.Places.{good_at}
use Rattle.schedule.specs.Sufficient.{WaitsLess, IdleFrom, DoneBy, FittingPlaceIsSafe, FittingListIsSafe}
use Rattle.machine.proofs.Job.{due_apart}
use Rattle.machine.proofs.Trace.{length-states}
use Rattle.schedule.proofs.Windows.{win}
use Rattle.schedule.proofs.Critical as core
use Rattle.schedule.proofs.Steps.{held_above, come_above, own_state, own_ready, held_start, own_start, own_renewed, own_tick}
use Rattle.schedule.proofs.Counting.{come_most}
use Rattle.schedule.proofs.Runs.{some_late, runs_follow_traces}

-- a task that waits was released before, and its deadline is a period after that
pub waits_from : (ts : List Task) (rs : List Release) → all_within ts ≡ true → (k : ℕ) → k < length ts → (now : ℕ) (left : Units) (deadline : Ticks) → own_state ts rs k now ≡ Waiting left deadline
    → core.Open (come_above ts rs k) (due rs k) 1 (get_or ts k no_task).work.0 (get_or ts k no_task).period.0 now now (held_above ts rs k now) left.0 deadline.0
waits_from ts rs w k l = core.opened (come_above ts rs k) (due rs k) 1 (get_or ts k no_task).work.0 (get_or ts k no_task).period.0 (held_above ts rs k) (own_state ts rs k) (own_ready ts rs k)
    (held_start ts rs k) (own_start ts rs k) (own_renewed ts rs k w l) (own_tick ts rs k w)

-- g ticks leave the task at place k its work, wherever they begin
room : (ts : List Task) → All Limits ts → (k g : ℕ) → good_at ts k g ≡ true → (horizon : ℕ) (rs : List Release) → lawful ts horizon rs ≡ true
    → (a : ℕ) → win (come_above ts rs k) a g + (get_or ts k no_task).work.0 ≤ 1 * g
room ts s k g good horizon rs law a =
    omega (arith, (good_parts (get_or ts k no_task) (take k ts) g good).enough, come_most ts rs k (All-take Limits k ts s) horizon law a g)

pub waits_less : WaitsLess
waits_less ts h k g l good horizon rs law = let s = all_limits ts h in
    core.waits_less (come_above ts rs k) (due rs k) 1 (get_or ts k no_task).work.0 (get_or ts k no_task).period.0 (held_above ts rs k) (own_state ts rs k) (own_ready ts rs k)
    (held_start ts rs k) (own_start ts rs k) (own_renewed ts rs k h l) (own_tick ts rs k h) g (room ts s k g good horizon rs law)

pub idle_from : IdleFrom
idle_from ts h k g l good horizon rs law r n d far none = let s = all_limits ts h in
    core.idle_from (come_above ts rs k) (due rs k) 1 (get_or ts k no_task).work.0 (get_or ts k no_task).period.0 (held_above ts rs k) (own_state ts rs k) (own_ready ts rs k)
    (held_start ts rs k) (own_start ts rs k) (own_renewed ts rs k h l) (own_tick ts rs k h) g (room ts s k g good horizon rs law)
    r n far (λ q a b e. both_ways (due rs k q) (none q a b) e)

pub done_by : DoneBy
done_by ts h k g l good horizon rs law r d = let s = all_limits ts h in
    core.idle_from (come_above ts rs k) (due rs k) 1 (get_or ts k no_task).work.0 (get_or ts k no_task).period.0 (held_above ts rs k) (own_state ts rs k) (own_ready ts rs k)
    (held_start ts rs k) (own_start ts rs k) (own_renewed ts rs k h l) (own_tick ts rs k h) g (room ts s k g good horizon rs law)
    r (r + g) (omega arith)
    (λ q a b e. omega (arith, due_apart ts horizon rs k r q law d e a, (good_parts (get_or ts k no_task) (take k ts) g good).ends))

-- no place that fits waits at its deadline
never_late : (ts : List Task) → all_within ts ≡ true → (k : ℕ) → k < length ts → FitsAt ts k → (horizon : ℕ) (rs : List Release) → lawful ts horizon rs ≡ true
    → (n : ℕ) (l : Units) → own_state ts rs k n ≡ Waiting l (record { 0 = n }) → ⊥
never_late ts h k i fit horizon rs law n l e =
    omega (arith, (good_parts (get_or ts k no_task) (take k ts) fit.0 fit.1).ends, waits_less ts h k fit.0 i fit.1 horizon rs law n l (record { 0 = n }) e)

pub fitting_place_is_safe : FittingPlaceIsSafe
fitting_place_is_safe ts h k i fit horizon rs law m e q =
    let late = some_late m.instant.0 0 (states_at ts rs m.instant.0) m.place ((runs_follow_traces ts horizon rs m).0 e).1 in
    let same : late.at ≡ k = omega (arith, late.is) in
    never_late ts h k i fit horizon rs law m.instant.0 late.left (subst (λ z. own_state ts rs z m.instant.0 ≡ Waiting late.left (record { 0 = m.instant.0 })) same late.waits)

-- the place that misses is a place of the list
pub miss_inside : (ts : List Task) (horizon : ℕ) (rs : List Release) (m : Miss) → (outcome ts horizon rs).miss ≡ Some m → m.place < length ts
miss_inside ts horizon rs m e =
    let late = some_late m.instant.0 0 (states_at ts rs m.instant.0) m.place ((runs_follow_traces ts horizon rs m).0 e).1 in
    omega (arith, late.is, late.inside, length-states ts rs m.instant.0)

pub fitting_list_is_safe : FittingListIsSafe
fitting_list_is_safe ts h fits horizon rs law = go (outcome ts horizon rs).miss refl
  where
    go : (o : Option Miss) → (outcome ts horizon rs).miss ≡ o → o ≡ None
    go None e = refl
    go (Some m) e = let i = miss_inside ts horizon rs m e in absurd (fitting_place_is_safe ts h m.place i (fits m.place i) horizon rs law m e refl)
