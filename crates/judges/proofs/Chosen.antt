-- The meaning of each judge gives the least instant that passes its test, and no other.
use Rattle.std.proofs.Common.{◌≡◌, ℕ, suc, ◌<◌, Bool, true, false, List, Some, None, sym, ◌∙◌, inl, inr, arith}
use Rattle.std.proofs.lemmas.Bool.{cases_Bool, cases_lt}
use Rattle.tasks.specs.declared.task.Task.{Task}
use Rattle.tasks.specs.Demand.{good}
use Rattle.tasks.proofs.Leasts.{NoneBelow, LeastOf, least_some, least_none}
use Rattle.judges.specs.Laws.{asked}
use Rattle.judges.specs.Meanings.{GivesLeast, PointsAreLeast, StepsAreLeast, good_point}
use Rattle.judges.specs.Choosing.{Inside, choice, choice_asked, chosen}
use Rattle.judges.specs.Meant.{good_inside, point_inside}

module _ (test : Task → List Task → ℕ → Bool) (x : Task) (above : List Task) where
  pub choice_some : asked x above ≡ true → (t : ℕ) → LeastOf (test x above) x.period.0 t → Some (record { 0 = t }) ≡ choice test x above
  choice_some h t l = sym (choice_asked test x above h ∙ least_some (test x above) x.period.0 t l)

  pub choice_none : asked x above ≡ true → NoneBelow (test x above) (suc x.period.0) → None ≡ choice test x above
  choice_none h l = sym (choice_asked test x above h ∙ least_none (test x above) x.period.0 l)

pub gives_least : (test : Task → List Task → ℕ → Bool) → Inside test → GivesLeast (choice test) test
gives_least test inside x above h t = (there, back)
  where
    outside : (u : ℕ) → u < 1 → test x above u ≡ false
    outside u l = elim (cases_Bool (test x above u)) [ inl e ↦ absurd (omega (arith, (inside x above u e).0)) | inr e ↦ e ]

    there : choice test x above ≡ Some t → (test x above t.0 ≡ true) × ((u : ℕ) → u < t.0 → test x above u ≡ false)
    there e = let l = chosen test x above t e in (l.passes, λ u b. elim (cases_lt u 1) [ inl z ↦ outside u z | inr z ↦ l.first u z b ])

    back : (test x above t.0 ≡ true) × ((u : ℕ) → u < t.0 → test x above u ≡ false) → choice test x above ≡ Some t
    back p = let i = inside x above t.0 p.0 in
        sym (choice_some test x above h t.0 (record { from = i.0; to = i.1; passes = p.0; first = λ u a b. p.1 u b }))

pub points_least : PointsAreLeast
points_least = gives_least good_point point_inside

pub steps_least : StepsAreLeast
steps_least = gives_least good good_inside
