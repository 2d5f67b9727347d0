-- The player's text by the book: what is written for every input. No rack and no table is named here.
use Rattle.std.specs.Prelude.{◌≡◌, ℕ, ◌+◌, ◌↔◌, List, [], ◌∷◌, ◌++◌, take, replicate, Ok, Err, Result, ◌≤◌, length}
use Rattle.tasks.specs.declared.task.Task.{Task}
use Rattle.tasks.specs.declared.units.Ticks.{Ticks}
use Rattle.tasks.specs.declared.units.Units.{Units}
use Rattle.tasks.specs.Tasks.{task_of}
use Rattle.judges.specs.Meanings.{least_good_point}
use Rattle.preferences.specs.declared.policy.Policy.{Policy}
use Rattle.preferences.specs.Policies.{policy_before}
use Rattle.seating.specs.declared.refusal.AdmitRefusal.{AdmitRefusal}
use Rattle.seating.specs.declared.refusal.WithdrawRefusal.{WithdrawRefusal}
use Rattle.seating.specs.declared.refused.Refused.TheVariants.{Admitting, Withdrawing}
use Rattle.seating.specs.Refusals as refusals
use Rattle.book.specs.Book.{Book, Event, new_book, after, Right}
use Rattle.book.specs.Book as call
use Rattle.book.specs.Answers.{One}
use Rattle.rackfile.specs.declared.fault.FileFault.{FileFault}
use Rattle.rackfile.specs.Faults.{number_of, place_of}
use Rattle.rackfile.specs.Records.{Seen, admits, withdraws}
use Rattle.rackfile.specs.Files.{File, reading}
use Rattle.lines.specs.Texts as texts
use Rattle.lines.specs.Texts.{line_text}
use Rattle.playing.specs.Playing.{admit_line, withdraw_line}

-- A call with its whole answer, and the text from its line on: the answer is right by the book just before it; the text is its line, and then the rest, which goes on from the book after it.
pub record LineFirst (policy : Policy) (b : Book) (e : Event) (line : texts.Seen) (GoesOn : Book → List ℕ → Type 0) (text : List ℕ) : Type 0 where
  pub right : Right least_good_point (policy_before policy) b e
  pub rest : List ℕ
  pub whole : text ≡ line_text line ++ rest
  pub goes_on : GoesOn (after least_good_point b e) rest

-- The lines of records, in order: the policy; the book, the sheet and the index just before the first of them; the records; their text.
-- An admission is a call with the sheet as the calls before it left it, and hands on the sheet after it; a withdrawal has no sheet.
abbrev pub Lines : Policy → Book → List ℕ → ℕ → List Seen → List ℕ → Type 0
Lines policy b sheet index [] text = text ≡ []
Lines policy b sheet index (admits number work period label place ∷ rs) text =
    (answer : Result (ℕ × Ticks) AdmitRefusal) × (sheet' : List ℕ)
    × LineFirst policy b (call.admits (task_of number work period) sheet answer sheet') (admit_line index label answer) (λ b' rest. Lines policy b' sheet' (index + 1) rs rest) text
Lines policy b sheet index (withdraws number ∷ rs) text =
    (answer : Result (ℕ × Units × Ticks) WithdrawRefusal)
    × LineFirst policy b (call.withdraws number answer) (withdraw_line index number answer) (λ b' rest. Lines policy b' sheet (index + 1) rs rest) text

-- The sheet that the player begins with.
abbrev pub blank_sheet : List ℕ
blank_sheet = replicate 16 0

-- Of a file the lines of all its records, from the book of a new rack on; of a fault its one line, `F number place`.
abbrev pub TextOf : Result File FileFault → List ℕ → Type 0
TextOf (Ok f) text = Lines f.policy (new_book f.processors) blank_sheet 0 f.records text
TextOf (Err e) text = text ≡ line_text (texts.unreadable_line (number_of e) (place_of e))

-- THE PLAYER'S TEXT for an input.
abbrev pub PlayerText : List ℕ → List ℕ → Type 0
PlayerText input text = TextOf (reading input) text

-- Each input has exactly one text.
abbrev pub OneText : Type 0
OneText = (input : List ℕ) → One (List ℕ) (PlayerText input)

-- The first 65,537 bytes decide: what stands behind them changes nothing.
abbrev pub FrontDecides : Type 0
FrontDecides = (input text : List ℕ) → PlayerText (take 65537 input) text ↔ PlayerText input text

-- With a sheet of 16 entries and at most 16 processors a refused admission is one of 3 to 8, and a refused withdrawal is 9. A book and a sheet stay as long as they are, so that this
-- holds for every line of a file.
pub record RefusalsShown : Type 0 where
  pub admissions : (policy : Policy) (b : Book) (x : Task) (sheet sheet' : List ℕ) (e : AdmitRefusal) → length b ≤ 16 → length sheet ≡ 16
      → Right least_good_point (policy_before policy) b (call.admits x sheet (Err e) sheet') → (3 ≤ refusals.number_of (Admitting e)) × (refusals.number_of (Admitting e) ≤ 8)
  pub withdrawals : (e : WithdrawRefusal) → refusals.number_of (Withdrawing e) ≡ 9
  pub sheets : (policy : Policy) (b : Book) (x : Task) (sheet sheet' : List ℕ) (a : Result (ℕ × Ticks) AdmitRefusal)
      → Right least_good_point (policy_before policy) b (call.admits x sheet a sheet') → length sheet' ≡ length sheet
  pub books : (b : Book) (e : Event) → length (after least_good_point b e) ≡ length b
