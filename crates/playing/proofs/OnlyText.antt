-- Each input has exactly one text.
use Rattle.std.proofs.Common.{◌≡◌, ℕ, ◌+◌, List, [], ◌∷◌, ◌++◌, Ok, Err, Result, refl, ap, ◌∙◌, subst}
use Rattle.tasks.specs.declared.units.Ticks.{Ticks}
use Rattle.tasks.specs.declared.units.Units.{Units}
use Rattle.tasks.specs.Tasks.{task_of}
use Rattle.judges.specs.Meanings.{least_good_point}
use Rattle.judges.specs.Meant.{points_lawful}
use Rattle.preferences.specs.declared.policy.Policy.{Policy}
use Rattle.preferences.specs.declared.policy.Policy.TheVariants.{First, Best, Worst}
use Rattle.preferences.specs.Laws.{PreferenceLaws}
use Rattle.preferences.specs.Policies.{policy_before}
use Rattle.preferences.specs.FitLaws.{first_laws, best_laws, worst_laws}
use Rattle.seating.specs.declared.refusal.AdmitRefusal.{AdmitRefusal}
use Rattle.seating.specs.declared.refusal.WithdrawRefusal.{WithdrawRefusal}
use Rattle.book.specs.Book.{Book, Event, new_book, after}
use Rattle.book.specs.Book as call
use Rattle.book.specs.Answers.{One, OneRight}
use Rattle.book.proofs.Single.{one_right_answer}
use Rattle.rack.specs.Table.{Sound}
use Rattle.rack.proofs.Soundness.{free_sound, admitted_sound, withdrawn_sound}
use Rattle.rackfile.specs.declared.fault.FileFault.{FileFault}
use Rattle.rackfile.specs.Records.{Seen, admits, withdraws}
use Rattle.rackfile.specs.Files.{File, reading}
use Rattle.lines.specs.Texts.{line_text}
use Rattle.playing.proofs.Readings.{size_of_file}
use Rattle.playing.specs.Playing.{admit_line, withdraw_line}
use Rattle.playing.specs.Lines.{Lines, blank_sheet, TextOf, OneText}

pub policy_lawful : (policy : Policy) → PreferenceLaws (policy_before policy)
policy_lawful First = first_laws
policy_lawful Best = best_laws
policy_lawful Worst = worst_laws

module _ (policy : Policy) where
  right_once : (b : Book) → Sound b → OneRight least_good_point (policy_before policy) b
  right_once b sound =
      one_right_answer least_good_point points_lawful (policy_before policy) (policy_lawful policy) b (λ p h. ((sound.kept_well p h).limits, (sound.kept_well p h).instants)) sound.differ

  pub one_text_of : (rs : List Seen) (b : Book) → Sound b → (sheet : List ℕ) (index : ℕ) → One (List ℕ) (Lines policy b sheet index rs)
  one_text_of [] b sound sheet index = record { it = []; is = refl; only = λ text e. e }
  one_text_of (admits number work period label place ∷ rs) b sound sheet index =
      let x = task_of number work period in
      let one = (right_once b sound).admission x sheet in
      let a = one.it.0 in
      let s = one.it.1 in
      let next = after least_good_point b (call.admits x sheet a s) in
      let later = one_text_of rs next (admitted_sound b sound least_good_point points_lawful (policy_before policy) x sheet a s next one.is) s (index + 1) in
      record {
        it = line_text (admit_line index label a) ++ later.it;
        is = (a, s, record { right = one.is; rest = later.it; whole = refl; goes_on = later.is });
        only = λ text l.
            let same = one.only (l.0, l.1) l.2.right in
            let on = subst (λ (z : Result (ℕ × Ticks) AdmitRefusal × List ℕ). Lines policy (after least_good_point b (call.admits x sheet z.0 z.1)) z.1 (index + 1) rs l.2.rest) same l.2.goes_on in
            l.2.whole ∙ ap (λ (z : Result (ℕ × Ticks) AdmitRefusal × List ℕ). line_text (admit_line index label z.0) ++ l.2.rest) same ∙ ap (λ (t : List ℕ). line_text (admit_line index label a) ++ t) (later.only l.2.rest on);
      }
  one_text_of (withdraws number ∷ rs) b sound sheet index =
      let one = (right_once b sound).withdrawal number in
      let a = one.it in
      let next = after least_good_point b (call.withdraws number a) in
      let later = one_text_of rs next (withdrawn_sound b sound number a next one.is) sheet (index + 1) in
      record {
        it = line_text (withdraw_line index number a) ++ later.it;
        is = (a, record { right = one.is; rest = later.it; whole = refl; goes_on = later.is });
        only = λ text l.
            let same = one.only l.0 l.1.right in
            let on = subst (λ (z : Result (ℕ × Units × Ticks) WithdrawRefusal). Lines policy (after least_good_point b (call.withdraws number z)) sheet (index + 1) rs l.1.rest) same l.1.goes_on in
            l.1.whole ∙ ap (λ (z : Result (ℕ × Units × Ticks) WithdrawRefusal). line_text (withdraw_line index number z) ++ l.1.rest) same ∙ ap (λ (t : List ℕ). line_text (withdraw_line index number a) ++ t) (later.only l.1.rest on);
      }

one_of_reading : (input : List ℕ) (r : Result File FileFault) → reading input ≡ r → One (List ℕ) (TextOf r)
one_of_reading input (Err e) is = record { it = _; is = refl; only = λ text h. h }
one_of_reading input (Ok f) is =
    one_text_of f.policy f.records (new_book f.processors) (free_sound f.processors (size_of_file input f is)) blank_sheet 0

pub one_text : OneText
one_text input = one_of_reading input (reading input) refl
