-- The least instant that passes a test, as the meaning of a judge.
use Rattle.std.specs.Prelude.{◌≡◌, ℕ, suc, ◌≤◌, Bool, true, false, cond, leb, List, length, Some, None}
use Rattle.std.proofs.Common.{sym, subst, ◌∙◌, inl, inr, arith}
use Rattle.tasks.specs.Limits.{within_limits, all_within}
use Rattle.std.proofs.lemmas.Bool.Decides.{nat_tests}
use Rattle.std.proofs.lemmas.Bool.{cond-true, cond-false, cases_Bool}
use Rattle.tasks.specs.declared.task.Task.{Task}
use Rattle.tasks.specs.declared.units.Ticks.{Ticks}
use Rattle.tasks.specs.Instants.{least}
use Rattle.tasks.proofs.Leasts.{NoneBelow, LeastOf, Least_is, least_is}
use Rattle.judges.specs.Laws.{Meaning, asked}

-- the parts of what may be asked
pub record Asked (x : Task) (above : List Task) : Type 0 where
  pub few : leb (length above) 31 ≡ true
  pub own : within_limits x ≡ true
  pub others : all_within above ≡ true

pub asked_parts : (x : Task) (above : List Task) → asked x above ≡ true → Asked x above
asked_parts x above h = record { few = grind (arith, nat_tests); own = grind (arith, nat_tests); others = grind (arith, nat_tests) }

-- the least instant up to the period that passes a test, where it may be asked
abbrev pub choice : (Task → List Task → ℕ → Bool) → Meaning
choice test x above = cond (asked x above) (least (test x above) x.period.0) None

module _ (test : Task → List Task → ℕ → Bool) (x : Task) (above : List Task) where
  pub choice_asked : asked x above ≡ true → choice test x above ≡ least (test x above) x.period.0
  choice_asked h = cond-true (asked x above) (least (test x above) x.period.0) None h

  pub choice_elsewhere : asked x above ≡ false → choice test x above ≡ None
  choice_elsewhere h = cond-false (asked x above) (least (test x above) x.period.0) None h

  -- what it gives is the least
  pub chosen : (t : Ticks) → choice test x above ≡ Some t → LeastOf (test x above) x.period.0 t.0
  chosen t e = elim (cases_Bool (asked x above)) [
    | inl h ↦ subst (Least_is (test x above) x.period.0) (sym (choice_asked h) ∙ e) (least_is (test x above) x.period.0)
    | inr h ↦ let s = sym (choice_elsewhere h) ∙ e in let z : ◌≡◌ {A = ℕ} 0 1 = cc in absurd (omega arith)
  ]

  -- where it gives none, none passes up to the period
  pub not_chosen : asked x above ≡ true → choice test x above ≡ None → NoneBelow (test x above) (suc x.period.0)
  not_chosen h e = subst (Least_is (test x above) x.period.0) (sym (choice_asked h) ∙ e) (least_is (test x above) x.period.0)

-- a test that passes only from 1 to the period
abbrev pub Inside : (Task → List Task → ℕ → Bool) → Type 0
Inside test = (x : Task) (above : List Task) (t : ℕ) → test x above t ≡ true → (1 ≤ t) × (t ≤ x.period.0)
