-- What is written into a buffer, and what stays.
use Rattle.std.specs.Prelude.{◌≡◌, ℕ, ◌≤◌, cond, List, ◌++◌, length, drop}
use Rattle.lines.specs.Texts.{Seen, line_text, writable}

-- what the line call does: a line that can be written stands at the front of the buffer; otherwise the answer is 0, and the buffer is as it was
pub record Written (old new : List ℕ) (line : Seen) (answer : ℕ) : Type 0 where
  pub long : answer ≡ cond (writable line) (length (line_text line)) 0
  pub inside : answer ≤ 64
  pub buffer : new ≡ cond (writable line) (line_text line ++ drop (length (line_text line)) old) old
