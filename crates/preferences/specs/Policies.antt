-- The policies: what each prefers, and its letter.
use Rattle.std.specs.Prelude.{◌≡◌, ℕ, cond, Some, None, Option, ◌==◌}
use Rattle.preferences.specs.declared.policy.Policy.{Policy}
use Rattle.preferences.specs.declared.policy.Policy.TheVariants.{First, Best, Worst}
use Rattle.preferences.specs.Laws.{Relation}
use Rattle.preferences.specs.Fits.{first_fit, best_fit, worst_fit}

abbrev pub policy_before : Policy → Relation
policy_before First = first_fit
policy_before Best = best_fit
policy_before Worst = worst_fit

-- the letter by its code: F, B, W
abbrev pub letter_of : Policy → ℕ
letter_of First = 70
letter_of Best = 66
letter_of Worst = 87

-- the policy of a letter
abbrev pub policy_named : ℕ → Option Policy
policy_named c = cond (c == letter_of First) (Some First) (cond (c == letter_of Best) (Some Best) (cond (c == letter_of Worst) (Some Worst) None))

-- a letter stands for one policy at most
abbrev pub LettersDiffer : Type 0
LettersDiffer = (a b : Policy) → letter_of a ≡ letter_of b → a ≡ b
