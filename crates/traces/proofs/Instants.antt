-- One turn of each loop that looks at an instant or writes its line.
use Rattle.std.proofs.Common.{◌≡◌, ℕ, suc, ◌+◌, ◌≤◌, Bool, true, false, cond, ◌||◌, eqb, List, [], ◌∷◌, ◌++◌, length, take, replicate, Some, None, Option, sym, refl, ap, ◌∙◌, add-one, arith}
use Rattle.std.specs.List.{filter, position, position_from, enumerate_from, range_with_len}
use Rattle.std.proofs.lemmas.List.{take-replicate}
use Rattle.std.proofs.lemmas.List.Elements.{filter_agree}
use Rattle.std.proofs.lemmas.Iterator.Adapters.{position_from-zero}
use Rattle.std.proofs.lemmas.Bool.{leb-true, and_right}
use Rattle.tasks.specs.declared.task.Task.{Task}
use Rattle.machine.specs.declared.state.State.{State}
use Rattle.machine.specs.declared.state.State.TheVariants.{Idle}
use Rattle.machine.specs.declared.state.Release.{Release}
use Rattle.machine.specs.declared.state.Miss.{Miss}
use Rattle.machine.specs.declared.state.Outcome.{Outcome}
use Rattle.machine.specs.declared.refusal.Refusal.{Refusal}
use Rattle.machine.specs.declared.refusal.Refusal.TheVariants.{Tasks, Horizon, Releases}
use Rattle.machine.specs.Machine.{first_missed, releases, due, with_releases, served, outcome}
use Rattle.machine.specs.Traces.{states_at}
use Rattle.machine.specs.declared.state.Moment.{Moment}
use Rattle.machine.specs.declared.state.Moment.TheVariants.{Missed, Went}
use Rattle.machine.specs.Moments.{is_now, deadlines_fit, Stepped}
use Rattle.machine.specs.Laws.{FirstMiss, ready_at, end_of}
use Rattle.machine.specs.Refusals.{tasks_allowed, horizon_allowed, releases_allowed, first_cause}
use Rattle.machine.proofs.Coming.{with_same}
use Rattle.machine.proofs.Running.{allowed_tasks}
use Rattle.machine.proofs.Separated.{near_fits}
use Rattle.machine.proofs.Trace.{miss_is_first, none_before, length-states}
use Rattle.machine.specs.Events.{fresh}
use Rattle.traces.specs.Traces.{released_below, waiting, first_waiting, line_text, line_at, lines_below, Clear}

-- what is released now is seen in the releases that are now
due_one : (p t : ℕ) (r : Release) (qs rs : List Release) (b : Bool) → is_now t r ≡ b → due qs p t ≡ due rs p t → due (cond b (r ∷ qs) qs) p t ≡ due (r ∷ rs) p t
due_one p t r qs rs true e h = ap (λ b. releases p t r || b) h
due_one p t r qs rs false e h = h ∙ ap (λ b. b || due rs p t) (sym (and_right (eqb r.place p) (eqb r.instant.0 t) e))

due_among : (rs : List Release) (p t : ℕ) → due (filter (is_now t) rs) p t ≡ due rs p t
due_among [] p t = refl
due_among (r ∷ rs) p t = due_one p t r (filter (is_now t) rs) rs (is_now t r) refl (due_among rs p t)

-- the tick goes to the first place that waits once the releases have come
module _ (rs : List Release) (t : ℕ) where
  abbrev will_wait : ℕ × State → Bool
  will_wait w = due rs w.0 t || waiting w.1

  either : (d : Bool) (x : Task) (s : State) → (d || waiting s) ≡ waiting (cond d (fresh x t) s)
  either true x s = refl
  either false x s = refl

  waits_from : (k i : ℕ) (ts : List Task) (ss : List State) → length ss ≡ length ts → position_from will_wait i (enumerate_from k ss) ≡ position_from waiting i (with_releases rs t k ts ss)
  waits_from k i [] [] e = refl
  waits_from k i [] (s ∷ ss) e = absurd (omega (arith, e))
  waits_from k i (x ∷ ts) [] e = absurd (omega (arith, e))
  waits_from k i (x ∷ ts) (s ∷ ss) e =
      let l : length ss ≡ length ts = omega (arith, e) in
      let ih = waits_from (k + 1) (i + 1) ts ss l in
      let m : position_from waiting (i + 1) (with_releases rs t (k + 1) ts ss) ≡ position_from waiting (i + 1) (with_releases rs t (suc k) ts ss) = ap (λ n. position_from waiting (i + 1) (with_releases rs t n ts ss)) (add-one k) in
      ap (λ o. cond (will_wait (k, s)) (Some i) o) (ih ∙ m) ∙ ap (λ b. cond b (Some i) (position_from waiting (i + 1) (with_releases rs t (suc k) ts ss))) (either (due rs k t) x s)

  pub first_to_wait : (ts : List Task) (ss : List State) → length ss ≡ length ts → position will_wait (enumerate_from 0 ss) ≡ first_waiting (with_releases rs t 0 ts ss)
  first_to_wait ts ss e = position_from-zero will_wait (enumerate_from 0 ss) ∙ waits_from 0 0 ts ss e ∙ sym (position_from-zero waiting (with_releases rs t 0 ts ss))

-- an instant that can be done, with no miss, goes by
stepped
    : (ts : List Task) (rs : List Release) (k : ℕ) (old new : List State) (o : Option Moment) → Stepped ts rs k old new o → length old ≡ length ts → deadlines_fit ts k ≡ true → first_missed k 0 old ≡ None
    → new ≡ served (with_releases rs k 0 ts old)
stepped ts rs k old new None s l f m = let n : ◌≡◌ {A = ℕ} 0 1 = grind (arith, s, l, f) in absurd (omega (arith, n))
stepped ts rs k old new (Some (Missed place)) s l f m = let n : ◌≡◌ {A = ℕ} 0 1 = grind (arith, s, m) in absurd (omega (arith, n))
stepped ts rs k old new (Some (Went busy)) s l f m = grind (arith, s, m)

-- the states and the lines of a run, one instant on
module _ (ts : List Task) (rs : List Release) where
  pub states_first : length ts ≤ 33 → take (length ts) (replicate 33 Idle) ≡ states_at ts rs 0
  states_first l = take-replicate (length ts) 33 Idle l

  module _ (k : ℕ) (old new : List State) (is : old ≡ states_at ts rs k) where
    sized : length old ≡ length ts
    sized = ap length is ∙ length-states ts rs k

    pub states_next : (o : Option Moment) → Stepped ts rs k old new o → deadlines_fit ts k ≡ true → first_missed k 0 (states_at ts rs k) ≡ None → new ≡ states_at ts rs (k + 1)
    states_next o s f m =
        stepped ts rs k old new o s sized f (ap (first_missed k 0) is ∙ m) ∙ ap (λ ss. served (with_releases rs k 0 ts ss)) is ∙ sym (ap (states_at ts rs) (add-one k))

    pub lines_next
        : (qs : List Release) → qs ≡ filter (is_now k) rs → (text all released : List ℕ) (at : Option ℕ) → text ≡ lines_below ts rs k → all ≡ text ++ line_text k released at new
        → released ≡ released_below qs k (length ts) → at ≡ position (will_wait qs k) (enumerate_from 0 old) → new ≡ states_at ts rs (k + 1) → all ≡ lines_below ts rs (k + 1)
    lines_next qs now text all released at a b c d e =
        let same : (p : ℕ) → due qs p k ≡ due rs p k = λ p. ap (λ (l : List Release). due l p k) now ∙ due_among rs p k in
        let these : released ≡ released_below rs k (length ts) = c ∙ filter_agree (λ p. due qs p k) (λ p. due rs p k) same (range_with_len 0 (length ts)) in
        let here = d ∙ first_to_wait qs k ts old sized ∙ ap first_waiting (with_same qs rs k 0 ts old same) ∙ ap (λ ss. first_waiting (with_releases rs k 0 ts ss)) is in
        let line : line_text k released at new ≡ line_at ts rs k =
        ap (λ (r : List ℕ). line_text k r at new) these ∙ ap (λ o. line_text k (released_below rs k (length ts)) o new) here
        ∙ ap (line_text k (released_below rs k (length ts)) (first_waiting (ready_at ts rs k))) (e ∙ ap (states_at ts rs) (add-one k)) in
        b ∙ ap (λ (l : List ℕ). l ++ line_text k released at new) a ∙ ap (λ (l : List ℕ). lines_below ts rs k ++ l) line ∙ sym (ap (lines_below ts rs) (add-one k))

-- a run that is not refused goes through the instants before its end
module _ (ts : List Task) (h : ℕ) (rs : List Release) where
  kept_limits : (x y z : Refusal) (a b c : Bool) → cond a (cond b (cond c None (Some z)) (Some y)) (Some x) ≡ None → (a ≡ true) × (b ≡ true)
  kept_limits x y z true true c e = (refl, refl)
  kept_limits x y z true false c e = let n : ◌≡◌ {A = ℕ} 0 1 = cc in absurd (omega arith)
  kept_limits x y z false b c e = let n : ◌≡◌ {A = ℕ} 0 1 = cc in absurd (omega arith)

  by_horizon : (m : Option Miss) → FirstMiss ts h rs m → end_of h m ≤ h
  by_horizon None f = omega arith
  by_horizon (Some m) f = f.0

  pub clear_to_end : first_cause ts h rs ≡ None → (o : Outcome) → o ≡ outcome ts h rs → (n : ℕ) → n ≡ end_of h o.miss → Clear ts rs n
  clear_to_end e o is n ends =
      let w = kept_limits Tasks Horizon Releases (tasks_allowed ts) (horizon_allowed h) (releases_allowed ts h rs) e in
      let t = allowed_tasks ts w.0 in
      let near : h ≤ 2000000 = leb-true h 2000000 w.1 in
      let so : n ≡ end_of h (outcome ts h rs).miss = ends ∙ ap (λ (x : Outcome). end_of h x.miss) is in
      let below = by_horizon (outcome ts h rs).miss (miss_is_first ts h rs) in
      record {
        few = t.0;
        fits = λ k l. near_fits ts k t.1 (omega (arith, near, below, so));
        misses = λ k l. none_before ts h rs k (omega (arith, so));
      }
