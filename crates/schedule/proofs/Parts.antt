-- The parts of a lawful release list, which the definition says as one test; and back from the parts.
use Rattle.std.proofs.Common.{◌≡◌, ℕ, ◌+◌, ◌<◌, Bool, true, not, ◌&&◌, ◌||◌, eqb, ltb, leb, List, [], ◌∷◌, length, get_or, refl, inl, inr, All}
use Rattle.std.proofs.lemmas.List.Elements.{All-nil, All-cons, All-head, All-tail}
use Rattle.std.proofs.lemmas.List.Sums.{list_all-from_AllPass}
use Rattle.std.proofs.lemmas.Bool.{and_parts, and_from, or_left, or_right, le-leb, ltb-true, lt-ltb, eqb-true, not_from_false, cases_Bool}
use Rattle.tasks.specs.declared.task.Task.{Task}
use Rattle.tasks.specs.Demand.{no_task}
use Rattle.machine.specs.declared.state.Release.{Release}
use Rattle.machine.specs.Lawful.{inside, may_follow, all_may_follow, lawful}
use Rattle.machine.proofs.Separated.{Follows, lawful_parts as first_parts}

-- a release of a task of the list, below the horizon
pub record Within (ts : List Task) (horizon : ℕ) (r : Release) : Type 0 where
  pub place : r.place < length ts
  pub before : r.instant.0 < horizon

-- each release may be followed by those behind it
abbrev pub Ordered : List Task → List Release → Type 0
Ordered ts [] = Unit
Ordered ts (r ∷ rs) = All (Follows ts r) rs × Ordered ts rs

pub record LawfulParts (ts : List Task) (horizon : ℕ) (rs : List Release) : Type 0 where
  pub within : All (Within ts horizon) rs
  pub ordered : Ordered ts rs

within_parts : (ts : List Task) (horizon : ℕ) (r : Release) → inside ts horizon r ≡ true → Within ts horizon r
within_parts ts horizon r h =
    let a = and_parts (ltb r.place (length ts)) (ltb r.instant.0 horizon) h in
    record { place = ltb-true r.place (length ts) a.0; before = ltb-true r.instant.0 horizon a.1 }

within_from : (ts : List Task) (horizon : ℕ) (r : Release) → Within ts horizon r → inside ts horizon r ≡ true
within_from ts horizon r w = and_from (ltb r.place (length ts)) (ltb r.instant.0 horizon) (lt-ltb r.place (length ts) w.place) (lt-ltb r.instant.0 horizon w.before)

module _ (ts : List Task) (r q : Release) where
  late_enough : Bool
  late_enough = leb (r.instant.0 + (get_or ts r.place no_task).period.0) q.instant.0

  followed : Follows ts r q → may_follow ts r q ≡ true
  unfolding late_enough
  followed f = and_from (leb r.instant.0 q.instant.0) (not (eqb r.place q.place) || late_enough) (le-leb r.instant.0 q.instant.0 f.later)
      (elim (cases_Bool (eqb r.place q.place)) [
        | inl e ↦ or_right (not (eqb r.place q.place)) late_enough (le-leb (r.instant.0 + (get_or ts r.place no_task).period.0) q.instant.0 (f.apart (eqb-true r.place q.place e)))
        | inr e ↦ or_left (not (eqb r.place q.place)) late_enough (not_from_false (eqb r.place q.place) e)
      ])

follow_from : (ts : List Task) (r : Release) (qs : List Release) → All (Follows ts r) qs → all_may_follow ts r qs ≡ true
follow_from ts r qs a = list_all-from_AllPass (may_follow ts r) qs (λ k d lt. followed ts r (get_or qs k d) (a k d lt))

pub lawful_parts : (ts : List Task) (horizon : ℕ) (rs : List Release) → lawful ts horizon rs ≡ true → LawfulParts ts horizon rs
lawful_parts ts horizon [] h = record { within = All-nil (Within ts horizon); ordered = tt }
lawful_parts ts horizon (r ∷ rs) h =
    let p = first_parts ts horizon r rs h in
    let rest = lawful_parts ts horizon rs p.2 in
    record { within = All-cons (Within ts horizon) r rs (within_parts ts horizon r p.0) rest.within; ordered = (p.1, rest.ordered) }

pub lawful_from : (ts : List Task) (horizon : ℕ) (rs : List Release) → LawfulParts ts horizon rs → lawful ts horizon rs ≡ true
lawful_from ts horizon [] p = refl
lawful_from ts horizon (r ∷ rs) p = and_from (inside ts horizon r) (all_may_follow ts r rs && lawful ts horizon rs) (within_from ts horizon r (All-head (Within ts horizon) r rs p.within))
    (and_from (all_may_follow ts r rs) (lawful ts horizon rs) (follow_from ts r rs p.ordered.0) (lawful_from ts horizon rs (record { within = All-tail (Within ts horizon) r rs p.within; ordered = p.ordered.1 })))
