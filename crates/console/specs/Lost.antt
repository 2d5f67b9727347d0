-- What is lost where memory fails, and what that leaves.
use Rattle.std.specs.Prelude.{◌≡◌, ℕ, List, Some, Ok, Err, Option, Result, codes}
use Rattle.playing.specs.Streams.{halt_text}
use Rattle.console.specs.declared.lost.Lost.{Lost}
use Rattle.console.specs.declared.lost.Lost.TheVariants.{Call, Answer, Play}

-- The call is lost: it is not made, and all is as before. Its answer is lost: the call, if there was one, is made, and all is as it would be with an answer that fits. The player's text is lost: all is as before.
abbrev pub Leaves : {S : Type 0} → (List ℕ → S → Type 0) → S → S → Lost → Type 0
Leaves fits before after (Call e) = after ≡ before
Leaves fits before after (Answer e) = (text : List ℕ) × fits text after
Leaves fits before after (Play halt) = after ≡ before

-- the answer fits what is left, or is lost
abbrev pub Answers : {A S : Type 0} → (A → List ℕ) → (List ℕ → S → Type 0) → S → S → Result A Lost → Type 0
Answers bytes fits before after (Ok a) = fits (bytes a) after
Answers bytes fits before after (Err lost) = Leaves fits before after lost

-- the text is written, or the answer is lost
abbrev pub Written : {A : Type 0} → (A → List ℕ) → List ℕ → Result A Lost → Type 0
Written bytes text (Ok a) = bytes a ≡ text
Written bytes text (Err (Answer e)) = Unit {0}
Written bytes text (Err (Call e)) = ⊥
Written bytes text (Err (Play halt)) = ⊥

-- what is said of what is lost; of the player's text what the player says
abbrev pub lost_text : Lost → Option (List ℕ)
lost_text (Call e) = Some (codes "out of memory: the call is not made")
lost_text (Answer e) = Some (codes "out of memory: only the answer is lost")
lost_text (Play halt) = halt_text halt
