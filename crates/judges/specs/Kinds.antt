-- Either judge: what each kind means, that both keep the laws of a judge, and that they differ.
use Rattle.std.specs.Prelude.{◌≡◌, [], Some}
use Rattle.tasks.specs.Tasks.{task_of}
use Rattle.judges.specs.declared.any.AnyJudge.{AnyJudge}
use Rattle.judges.specs.declared.any.AnyJudge.TheVariants.{Points, StepUp}
use Rattle.judges.specs.Laws.{Meaning, JudgeLaws}
use Rattle.judges.specs.Meanings.{least_good_point, least_good_instant}
use Rattle.judges.specs.Meant.{points_lawful, steps_lawful}

abbrev pub meaning_of : AnyJudge → Meaning
meaning_of Points = least_good_point
meaning_of StepUp = least_good_instant

pub laws_of : (judge : AnyJudge) → JudgeLaws (meaning_of judge)
laws_of Points = points_lawful
laws_of StepUp = steps_lawful

-- The kinds differ: of a task 1/2 alone the one gives 2, its only scheduling point, and the other 1.
abbrev pub KindsDiffer : Type 0
KindsDiffer = (meaning_of Points (task_of 1 1 2) [] ≡ Some (record { 0 = 2 })) × (meaning_of StepUp (task_of 1 1 2) [] ≡ Some (record { 0 = 1 }))
