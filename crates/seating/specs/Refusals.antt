-- The numbers of the refusals. The rules of the calls name causes; a cause gets its number here alone.
use Rattle.std.specs.Prelude.{◌≡◌, ℕ, List, ◌++◌, codes, decimal}
use Rattle.seating.specs.declared.refusal.MakeRefusal.TheVariants.{ProcessorCount}
use Rattle.seating.specs.declared.refusal.AdmitRefusal.TheVariants.{ShortSheet, NumberZero, BadPeriod, BadWork, AlreadySeated, AllFull, NoTaker}
use Rattle.seating.specs.declared.refusal.WithdrawRefusal.TheVariants.{NotSeated}
use Rattle.seating.specs.declared.refusal.QuestionRefusal.TheVariants.{NoProcessor}
use Rattle.seating.specs.declared.refused.Refused.{Refused}
use Rattle.seating.specs.declared.refused.Refused.TheVariants.{Making, Admitting, Withdrawing, Asking}

abbrev pub number_of : Refused → ℕ
number_of (Making ProcessorCount) = 1
number_of (Admitting ShortSheet) = 2
number_of (Admitting NumberZero) = 3
number_of (Admitting BadPeriod) = 4
number_of (Admitting BadWork) = 5
number_of (Admitting AlreadySeated) = 6
number_of (Admitting AllFull) = 7
number_of (Admitting NoTaker) = 8
number_of (Withdrawing NotSeated) = 9
number_of (Asking NoProcessor) = 10

-- how a refusal is shown: `R` and the number
abbrev pub refused_text : Refused → List ℕ
refused_text refused = codes "R" ++ decimal (number_of refused)

-- a number stands for one refusal at most
abbrev pub NumbersDiffer : Type 0
NumbersDiffer = (a b : Refused) → number_of a ≡ number_of b → a ≡ b
