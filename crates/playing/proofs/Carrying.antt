-- The line of what is carried is the line of the rack's answer.
use Rattle.std.proofs.Common.{◌≡◌, ℕ, ◌^◌, ◌<◌, ltb, List, length, Ok, Err, Result, MatchResult, IsErrAnd, ap, ◌∙◌, arith}
use Rattle.std.proofs.lemmas.Bool.{cond-true, lt-ltb}
use Rattle.tasks.specs.declared.task.Task.{Task}
use Rattle.tasks.specs.declared.units.Ticks.{Ticks}
use Rattle.tasks.specs.declared.units.Units.{Units}
use Rattle.judges.specs.Laws.{Meaning}
use Rattle.preferences.specs.Laws.{Relation}
use Rattle.seating.specs.declared.refusal.AdmitRefusal.{AdmitRefusal}
use Rattle.seating.specs.declared.refusal.WithdrawRefusal.{WithdrawRefusal}
use Rattle.seating.specs.declared.refused.Refused.{Refused}
use Rattle.seating.specs.declared.refused.Refused.TheVariants.{Admitting, Withdrawing}
use Rattle.rack.specs.Table.{Table, Sound}
use Rattle.rack.specs.Steps.{AdmitStep, WithdrawStep}
use Rattle.rack.proofs.Soundness.{at_most_16}
use Rattle.lines.specs.Texts.{admitted_line, withdrawn_line}
use Rattle.playing.specs.Outcomes.{carried, in_line, admission_line, withdrawal_line}
use Rattle.playing.specs.Playing.{admit_line, withdraw_line}

-- an answer whose refusal is put among those of all calls
abbrev pub IsMapped : {A R : Type 0} → (R → Refused) → Result A R → Result A Refused → Type 0
IsMapped up r q = MatchResult r (λ x. q ≡ Ok x) (λ e. IsErrAnd q (λ d. d ≡ up e))

pub small_in_line : (n : ℕ) → n < 2 ^ 32 → in_line n ≡ n
small_in_line n h = cond-true (ltb n (2 ^ 32)) n 4294967295 (lt-ltb n (2 ^ 32) h)

module _ {J P : Type 0} (meaning : J → Meaning) (before : P → Relation) (r s : Table J P) where
  pub admission_told : (task : Task) (index : ℕ) (label sheet sheet' : List ℕ) (answer : Result (ℕ × Ticks) AdmitRefusal) (q : Result (ℕ × Ticks) Refused) → AdmitStep meaning before r task sheet answer sheet' s → Sound s.lists
      → IsMapped Admitting answer q → admission_line index label (carried index q) ≡ admit_line index label answer
  admission_told task index label sheet sheet' (Ok d) q step sound is =
      ap (λ o. admission_line index label (carried index o)) is ∙ ap (λ p. admitted_line index label p d.1.0) (small_in_line d.0 (omega (arith, step.admits.preferred.there, step.processors, at_most_16 (length s.lists) sound.size)))
  admission_told task index label sheet sheet' (Err e) (Ok d) step sound is = absurd is
  admission_told task index label sheet sheet' (Err e) (Err f) step sound is = ap (λ g. admission_line index label (carried {A = ℕ × Ticks} index (Err g))) is

  pub withdrawal_told : (n index : ℕ) (answer : Result (ℕ × Units × Ticks) WithdrawRefusal) (q : Result (ℕ × Units × Ticks) Refused) → WithdrawStep meaning before r n answer s → Sound s.lists
      → IsMapped Withdrawing answer q → withdrawal_line index n (carried index q) ≡ withdraw_line index n answer
  withdrawal_told n index (Ok d) q step sound is =
      ap (λ o. withdrawal_line index n (carried index o)) is ∙ ap (λ p. withdrawn_line index n p) (small_in_line d.0 (omega (arith, step.withdraws.sits.there, step.processors, at_most_16 (length s.lists) sound.size)))
  withdrawal_told n index (Err e) (Ok d) step sound is = absurd is
  withdrawal_told n index (Err e) (Err f) step sound is = ap (λ g. withdrawal_line index n (carried {A = ℕ × Units × Ticks} index (Err g))) is
