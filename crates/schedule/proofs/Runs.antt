-- A run and its trace: a run ends where the trace first has a task that waits at its deadline.
use Rattle.std.proofs.Common.{◌≡◌, ℕ, zero, suc, ◌+◌, ◌<◌, eqb, List, [], ◌∷◌, length, get_or, Some, None, Option, sym, refl, ap, ◌∙◌, subst, inl, inr, arith}
use Rattle.std.proofs.lemmas.Bool.{cond_both, cond-true, cond-false, eqb-true, eq-eqb, cases_Bool, cases_lt}
use Rattle.tasks.specs.declared.units.Units.{Units}
use Rattle.tasks.specs.declared.units.Ticks.{Ticks}
use Rattle.machine.specs.declared.state.State.{State}
use Rattle.machine.specs.declared.state.State.TheVariants.{Idle, Waiting}
use Rattle.machine.specs.declared.state.Miss.{Miss}
use Rattle.machine.specs.Machine.{first_missed, outcome}
use Rattle.machine.specs.Traces.{states_at}
use Rattle.machine.specs.Laws.{FirstMiss}
use Rattle.machine.proofs.Trace.{miss_is_first, no_miss}
use Rattle.schedule.specs.Sufficient.{RunsFollowTraces, RunsMeetTraces}

pub some_none : {A : Type 0} (a : A) → Some a ≡ None → ⊥
some_none a e = let z : ◌≡◌ {A = ℕ} 0 1 = cc in omega arith

idle_waiting : (l : Units) (d : Ticks) → Idle ≡ Waiting l d → ⊥
idle_waiting l d e = let z : ◌≡◌ {A = ℕ} 0 1 = cc in omega arith

-- no place of `ss` waits with its deadline now
abbrev pub Fine : ℕ → List State → Type 0
Fine now ss = (j : ℕ) (l : Units) → get_or ss j Idle ≡ Waiting l (record { 0 = now }) → ⊥

pub fine_none : (now p : ℕ) (ss : List State) → Fine now ss → first_missed now p ss ≡ None
fine_none now p [] h = refl
fine_none now p (Idle ∷ ss) h = fine_none now (p + 1) ss (λ j l e. h (suc j) l e)
fine_none now p (Waiting l d ∷ ss) h = cond_both (eqb d.0 now) (Some p) (first_missed now (p + 1) ss) (λ o. o ≡ None)
    (λ e. absurd (h 0 l (ap (λ (x : ℕ). Waiting l (record { 0 = x })) (eqb-true d.0 now e))))
    (λ e. fine_none now (p + 1) ss (λ j m q. h (suc j) m q))

pub none_fine : (now p : ℕ) (ss : List State) → first_missed now p ss ≡ None → Fine now ss
none_fine now p [] h j l e = idle_waiting l (record { 0 = now }) e
none_fine now p (Idle ∷ ss) h zero l e = idle_waiting l (record { 0 = now }) e
none_fine now p (Idle ∷ ss) h (suc j) l e = none_fine now (p + 1) ss h j l e
none_fine now p (Waiting m d ∷ ss) h zero l e =
    let q : d ≡ record { 0 = now } = cc in
    some_none p (sym (cond-true (eqb d.0 now) (Some p) (first_missed now (p + 1) ss) (eq-eqb d.0 now (ap (λ (x : Ticks). x.0) q))) ∙ h)
none_fine now p (Waiting m d ∷ ss) h (suc j) l e = elim (cases_Bool (eqb d.0 now)) [
  | inl q ↦ some_none p (sym (cond-true (eqb d.0 now) (Some p) (first_missed now (p + 1) ss) q) ∙ h)
  | inr q ↦ none_fine now (p + 1) ss (sym (cond-false (eqb d.0 now) (Some p) (first_missed now (p + 1) ss) q) ∙ h) j l e
]

-- the place that missed waits with its deadline now
pub record Late (now p : ℕ) (ss : List State) (place : ℕ) : Type 0 where
  pub at : ℕ
  pub is : place ≡ p + at
  pub inside : at < length ss
  pub left : Units
  pub waits : get_or ss at Idle ≡ Waiting left (record { 0 = now })

pub some_late : (now p : ℕ) (ss : List State) (place : ℕ) → first_missed now p ss ≡ Some place → Late now p ss place
some_late now p [] place h = absurd (some_none place (sym h))
some_late now p (Idle ∷ ss) place h =
    let r = some_late now (p + 1) ss place h in
    record { at = suc r.at; is = omega (arith, r.is); inside = omega (arith, r.inside); left = r.left; waits = r.waits }
some_late now p (Waiting l d ∷ ss) place h = elim (cases_Bool (eqb d.0 now)) [
  | inl q ↦ let e : Some p ≡ Some place = sym (cond-true (eqb d.0 now) (Some p) (first_missed now (p + 1) ss) q) ∙ h in
      let f : p ≡ place = cc in
      record { at = 0; is = omega arith; inside = omega arith; left = l; waits = ap (λ (x : ℕ). Waiting l (record { 0 = x })) (eqb-true d.0 now q) }
  | inr q ↦ let r = some_late now (p + 1) ss place (sym (cond-false (eqb d.0 now) (Some p) (first_missed now (p + 1) ss) q) ∙ h) in
      record { at = suc r.at; is = omega (arith, r.is); inside = omega (arith, r.inside); left = r.left; waits = r.waits }
]

pub runs_meet_traces : RunsMeetTraces
runs_meet_traces ts horizon rs = (λ h. subst (FirstMiss ts horizon rs) h (miss_is_first ts horizon rs), no_miss ts horizon rs)

pub runs_follow_traces : RunsFollowTraces
runs_follow_traces ts horizon rs m = (λ h. subst (FirstMiss ts horizon rs) h (miss_is_first ts horizon rs), λ h. go (outcome ts horizon rs).miss (miss_is_first ts horizon rs) h)
  where
    go : (o : Option Miss) → FirstMiss ts horizon rs o → FirstMiss ts horizon rs (Some m) → o ≡ Some m
    go None f h = absurd (some_none m.place (sym h.1 ∙ f m.instant.0 h.0))
    go (Some q) f h = elim (cases_lt q.instant.0 m.instant.0) [
      | inl l ↦ absurd (some_none q.place (sym f.1 ∙ h.2 q.instant.0 l))
      | inr k ↦ elim (cases_lt m.instant.0 q.instant.0) [
        | inl l ↦ absurd (some_none m.place (sym h.1 ∙ f.2 m.instant.0 l))
        | inr l ↦
            let e : q.instant.0 ≡ m.instant.0 = omega arith in
            let s : Some q.place ≡ Some m.place = sym (subst (λ n. first_missed n 0 (states_at ts rs n) ≡ Some q.place) e f.1) ∙ h.1 in
            let p : q.place ≡ m.place = cc in
            ap (λ (z : ℕ). Some (record { place = z; instant = q.instant })) p ∙ ap (λ (z : ℕ). Some (record { place = m.place; instant = record { 0 = z } })) e
      ]
    ]
