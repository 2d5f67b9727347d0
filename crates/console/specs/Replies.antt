-- What is written back for a line.
use Rattle.std.specs.Prelude.{◌≡◌, ℕ, List, ◌∷◌, ◌++◌, Some, None, codes, Option, ◌≢◌}
use Rattle.rackfile.specs.Files.{reading}
use Rattle.std.specs.Str.{IsUtf8}
use Rattle.script.specs.Lines.{line_with, reply_text}
use Rattle.console.specs.Console.{ConsoleSeen}
use Rattle.console.specs.declared.words.Word.{Word}
use Rattle.console.specs.declared.words.Word.TheVariants.{Read, Play, Make, Admit, Withdraw, Find, Load, Seats}
use Rattle.console.specs.Names.{name_of}
use Rattle.console.specs.Hex.{bytes_of}
use Rattle.console.specs.Files.{reading_text}
use Rattle.console.specs.Making.{one_number, MakeTold}
use Rattle.console.specs.Asking.{admission_of, AdmitAnswer, WithdrawAnswer}
use Rattle.console.specs.Plays.{PlayTold}
use Rattle.console.specs.Questions.{Asked, FindOf, LoadOf, SeatsOf}

-- the bytes are read as a file; `?` where there are none
abbrev pub read_text : Option (List ℕ) → List ℕ
read_text None = codes "?"
read_text (Some input) = reading_text (reading input)

-- a call: its word and what stands behind it, the console before, the answer, and the console after
abbrev pub Told : Word → List ℕ → ConsoleSeen → List ℕ → ConsoleSeen → Type 0
Told Read rest before text after = (text ≡ read_text (bytes_of rest)) × (after ≡ before)
Told Play rest before text after = PlayTold (bytes_of rest) text × (after ≡ before)
Told Make rest before text after = MakeTold before rest text after
Told Admit rest before text after = AdmitAnswer before (admission_of rest) text after
Told Withdraw rest before text after = WithdrawAnswer before (one_number rest) text after
Told Find rest before text after = Asked (FindOf before) (one_number rest) before text after
Told Load rest before text after = Asked (LoadOf before) (one_number rest) before text after
Told Seats rest before text after = Asked (SeatsOf before) (one_number rest) before text after

-- a line with what its call is told behind it
pub record ToldBehind (line : List ℕ) (word : Word) (rest : List ℕ) (before : ConsoleSeen) (back : List ℕ) (after : ConsoleSeen) : Type 0 where
  pub text : List ℕ
  pub told : Told word rest before text after
  pub whole : back ≡ line ++ (codes " -> " ++ text)

-- a line that begins with a word of the console and a space is answered here, with ` -> ` and the answer behind it
pub record Answered (before : ConsoleSeen) (line : List ℕ) (word : Word) (rest : List ℕ) (back : List ℕ) (after : ConsoleSeen) : Type 0 where
  pub is_text : IsUtf8 line
  pub begins : line ≡ name_of word ++ (32 ∷ rest)
  pub told : ToldBehind line word rest before back after

-- any other line is answered as a script's
pub record Passed (before : ConsoleSeen) (line : List ℕ) (back : List ℕ) (after : ConsoleSeen) : Type 0 where
  pub is_text : IsUtf8 line
  pub other : (word : Word) (rest : List ℕ) → line ≢ name_of word ++ (32 ∷ rest)
  pub whole : back ≡ reply_text line
  pub stays : after ≡ before

-- a line that is no text in UTF-8 is no call: `?`, unless it is passed over
pub record NoText (before : ConsoleSeen) (line : List ℕ) (back : List ℕ) (after : ConsoleSeen) : Type 0 where
  pub no_text : ¬ (IsUtf8 line)
  pub whole : back ≡ line_with line (codes "?")
  pub stays : after ≡ before

-- how a line is taken
pub data Line : Type 0 where
  call : Word → List ℕ → Line
  scripted : Line
  no_text : Line

abbrev pub RepliedTo : Line → ConsoleSeen → List ℕ → List ℕ → ConsoleSeen → Type 0
RepliedTo (call word rest) before line back after = Answered before line word rest back after
RepliedTo scripted before line back after = Passed before line back after
RepliedTo no_text before line back after = NoText before line back after

abbrev pub Replied : ConsoleSeen → List ℕ → List ℕ → ConsoleSeen → Type 0
Replied before line back after = (taken : Line) × RepliedTo taken before line back after
