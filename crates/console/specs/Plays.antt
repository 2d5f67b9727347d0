-- `play`: the player's text for a file.
use Rattle.std.specs.Prelude.{◌≡◌, ℕ, List, ◌++◌, Some, None, codes, Option}
use Rattle.playing.specs.Lines.{PlayerText}

-- the lines on lines of their own, and `end`
abbrev pub framed : List ℕ → List ℕ
framed lines = codes "\n" ++ (lines ++ codes "end")

-- what is told of a file's bytes: what the player writes for them; `?` where there are none
abbrev pub PlayTold : Option (List ℕ) → List ℕ → Type 0
PlayTold None text = text ≡ codes "?"
PlayTold (Some input) text = (lines : List ℕ) × PlayerText input lines × (text ≡ framed lines)
