-- What is left of a run gives the whole run.
use Rattle.std.proofs.Common.{◌≡◌, ℕ, suc, ◌+◌, ◌-◌, ◌<◌, ◌≤◌, true, leb, List, [], ◌∷◌, length, take, replicate, Some, None, Option, sym, refl, ap, ◌∙◌, add-one, arith}
use Rattle.std.proofs.lemmas.List.{take-replicate}
use Rattle.std.proofs.lemmas.Bool.{and_parts, leb-true}
use Rattle.tasks.specs.declared.task.Task.{Task}
use Rattle.tasks.specs.Limits.{all_within}
use Rattle.machine.specs.declared.state.State.{State}
use Rattle.machine.specs.declared.state.State.TheVariants.{Idle, Waiting}
use Rattle.machine.specs.declared.state.Release.{Release}
use Rattle.machine.specs.Machine.{first_missed, with_releases, served, busy_tick, at_instant, missed, went, run, outcome, ended}
use Rattle.machine.specs.Lawful.{lawful}
use Rattle.machine.specs.Refusals.{tasks_allowed, releases_allowed}

pub busy_le : (ss : List State) → busy_tick ss ≤ 1
busy_le [] = omega arith
busy_le (Idle ∷ ss) = busy_le ss
busy_le (Waiting l d ∷ ss) = omega arith

module _ (ts : List Task) (rs : List Release) where
  -- an instant that was a miss ends the run, and one that went by leaves the rest of it
  pub run_missed : (more t busy : ℕ) (ss : List State) (p : ℕ) → missed p ≡ at_instant ts rs t ss → run ts rs (suc more) t busy ss ≡ ended (Some p) t busy
  run_missed more t busy ss p e = ap (λ s. elim s [ missed place ↦ ended (Some place) t busy | went b next ↦ run ts rs more (suc t) (busy + b) next ]) (sym e)

  pub run_went : (more t busy : ℕ) (ss : List State) (b : ℕ) (next : List State) → went b next ≡ at_instant ts rs t ss → run ts rs (suc more) t busy ss ≡ run ts rs more (suc t) (busy + b) next
  run_went more t busy ss b next e = ap (λ s. elim s [ missed place ↦ ended (Some place) t busy | went b next ↦ run ts rs more (suc t) (busy + b) next ]) (sym e)

  went_le : (t : ℕ) (ss : List State) (b : ℕ) (next : List State) (o : Option ℕ) → first_missed t 0 ss ≡ o → went b next ≡ at_instant ts rs t ss → b ≤ 1
  went_le t ss b next (Some p) q e =
      let m : at_instant ts rs t ss ≡ missed p = ap (λ o. elim o [ Some place ↦ missed place | None ↦ went (busy_tick (with_releases rs t 0 ts ss)) (served (with_releases rs t 0 ts ss)) ]) q in
      let z : ◌≡◌ {A = ℕ} 0 1 = cc in
      absurd (omega arith)
  went_le t ss b next None q e =
      let m : at_instant ts rs t ss ≡ went (busy_tick (with_releases rs t 0 ts ss)) (served (with_releases rs t 0 ts ss)) = ap (λ o. elim o [ Some place ↦ missed place | None ↦ went (busy_tick (with_releases rs t 0 ts ss)) (served (with_releases rs t 0 ts ss)) ]) q in
      let z : b ≡ busy_tick (with_releases rs t 0 ts ss) = cc in
      omega (arith, z, busy_le (with_releases rs t 0 ts ss))

  pub went_few : (t : ℕ) (ss : List State) (b : ℕ) (next : List State) → went b next ≡ at_instant ts rs t ss → b ≤ 1
  went_few t ss b next e = went_le t ss b next (first_missed t 0 ss) refl e

-- what is left of a run is what the whole run comes to
module _ (ts : List Task) (rs : List Release) (h t busy : ℕ) (ss : List State) (rest : run ts rs (h - t) t busy ss ≡ outcome ts h rs) (l : t < h) where
  more : h - t ≡ suc (h - (t + 1))
  more = omega arith

  pub missed_ends : (p : ℕ) → missed p ≡ at_instant ts rs t ss → ended (Some p) t busy ≡ outcome ts h rs
  missed_ends p e = sym (run_missed ts rs (h - (t + 1)) t busy ss p e) ∙ ap (λ m. run ts rs m t busy ss) (sym more) ∙ rest

  pub went_on : (b : ℕ) (next : List State) → went b next ≡ at_instant ts rs t ss → run ts rs (h - (t + 1)) (t + 1) (busy + b) next ≡ outcome ts h rs
  went_on b next e = ap (λ m. run ts rs (h - (t + 1)) m (busy + b) next) (add-one t) ∙ sym (run_went ts rs (h - (t + 1)) t busy ss b next e) ∙ ap (λ m. run ts rs m t busy ss) (sym more) ∙ rest

pub allowed_tasks : (ts : List Task) → tasks_allowed ts ≡ true → (length ts ≤ 33) × (all_within ts ≡ true)
allowed_tasks ts e = let w = and_parts (leb (length ts) 33) (all_within ts) e in (leb-true (length ts) 33 w.0, w.1)

pub allowed_lawful : (ts : List Task) (h : ℕ) (rs : List Release) → releases_allowed ts h rs ≡ true → lawful ts h rs ≡ true
allowed_lawful ts h rs e = (and_parts (leb (length rs) 65536) (lawful ts h rs) e).1

-- all tasks are idle at instant 0
pub none_run : (ts : List Task) (rs : List Release) (h t busy : ℕ) → length ts ≤ 33 → t ≡ 0 → busy ≡ 0 → run ts rs (h - t) t busy (take (length ts) (replicate 33 Idle)) ≡ outcome ts h rs
none_run ts rs h t busy l a b =
    let m : h - t ≡ h = omega arith in
    let i = take-replicate (length ts) 33 Idle l in
    ap (λ k. run ts rs k t busy (take (length ts) (replicate 33 Idle))) m ∙ ap (λ k. run ts rs h k busy (take (length ts) (replicate 33 Idle))) a
    ∙ ap (λ k. run ts rs h 0 k (take (length ts) (replicate 33 Idle))) b ∙ ap (run ts rs h 0 0) i
