-- The whole run: what is read and what is written. `had` and `held` are the bytes that the reader still has and that the writer holds, where they are known; a dash marks them afterwards.
use Rattle.std.specs.Prelude.{◌≡◌, ℕ, ◌^◌, ◌<◌, true, List, length, take, Ok, Err, Result}
use Rattle.std.specs.Io.KnownBytes.{Appends, Keeps}
use Rattle.judges.specs.declared.points.Points.{Points}
use Rattle.judges.specs.Meanings.{least_good_point}
use Rattle.preferences.specs.declared.policy.Policy.{Policy}
use Rattle.preferences.specs.Policies.{policy_before}
use Rattle.book.specs.Book.{new_book}
use Rattle.rack.specs.Steps.{Makes}
use Rattle.rack.specs.Table.{Table}
use Rattle.rackfile.specs.Records.{Seen}
use Rattle.rackfile.specs.Format.{all_allowed}
use Rattle.lines.specs.Texts.{line_text}
use Rattle.std.specs.declared.io.Error.{Error}
use Rattle.playing.specs.declared.fault.PlayerFault.{PlayerFault}
use Rattle.playing.specs.declared.fault.PlayerFault.TheVariants.{Unread, Turned}
use Rattle.playing.specs.declared.halt.Halt.{Halt}
use Rattle.playing.specs.declared.halt.Halt.TheVariants.{Reading, Memory, Writing}
use Rattle.playing.specs.Lines.{Lines, PlayerText, blank_sheet}
use Rattle.playing.specs.Outcomes.{unreadable}
use Rattle.playing.specs.Playing.{Plays}
use Rattle.playing.specs.Streams.{Known, Taken, TakenAtMost, PutInPart, Puts}

-- a text of this kind was written, whole or a front part of it
abbrev pub WritesAll : (List ℕ → Type 0) → Known → Known → Type 0
WritesAll Kind held held' = (text : List ℕ) × Kind text × Appends held held' text

abbrev pub WritesFront : (List ℕ → Type 0) → Known → Known → Type 0
WritesFront Kind held held' = (text : List ℕ) × Kind text × PutInPart held held' text

abbrev pub Writes : {E : Type 0} → (List ℕ → Type 0) → Known → Known → Result (Unit {0}) E → Type 0
Writes Kind held held' (Ok done) = WritesAll Kind held held'
Writes Kind held held' (Err e) = WritesFront Kind held held'

-- a record is played, and its line written: the rack, the sheet and the line's buffer before and after
pub record RecordWritten (r : Table Points Policy) (x : Seen) (index : ℕ) (sheet line : List ℕ) (held : Known) (s : Table Points Policy) (sheet' line' : List ℕ) (held' : Known) (result : Result (Unit {0}) Error) : Type 0 where
  pub long : ℕ
  pub plays : Plays (λ _. least_good_point) policy_before r x index sheet line long s sheet' line'
  pub puts : Puts held held' (take long line') result

-- the lines of these records by the book, on a rack that was just made
abbrev pub LinesWritten : {E : Type 0} → Table Points Policy → List Seen → Known → Known → Result (Unit {0}) E → Type 0
LinesWritten rack records held held' r = (m : ℕ) (judge : Points) (policy : Policy) → Makes (λ _. least_good_point) policy_before m judge policy rack → all_allowed records ≡ true → length records < 2 ^ 16
    → Writes (Lines policy (new_book m) blank_sheet 0 records) held held' r

-- the line of a fault that ends the run; a refusal has its line with its record, and none here
abbrev pub FaultWritten : PlayerFault → Known → Known → Result (Unit {0}) Error → Type 0
FaultWritten (Unread f) held held' r = Puts held held' (line_text (unreadable f)) r
FaultWritten (Turned e) held held' r = Keeps held held'

-- THE RUN of the player. Done: what was read is all that the reader had, or its first 65,537 bytes, and the player's text for it was written. A failed reading, or want of memory
-- for the input: nothing was written. A failed writing: a front part of the text was.
abbrev pub Runs : (had had' held held' : Known) → Result (Unit {0}) Halt → Type 0
Runs had had' held held' (Ok done) = (input : List ℕ) × Taken 65537 had had' input × WritesAll (PlayerText input) held held'
Runs had had' held held' (Err (Reading e)) = TakenAtMost 65537 had had' × Keeps held held'
Runs had had' held held' (Err (Memory e)) = Keeps had had' × Keeps held held'
Runs had had' held held' (Err (Writing e)) = (input : List ℕ) × Taken 65537 had had' input × WritesFront (PlayerText input) held held'
