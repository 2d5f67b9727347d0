-- Calls that have no answer of their own, and what is said in its place.
use Rattle.std.specs.Prelude.{ℕ, List, Ok, Err, codes, Result}
use Rattle.script.specs.declared.no_call.NoCall.{NoCall}
use Rattle.script.specs.declared.no_call.NoCall.TheVariants.{Unreadable, Memory}
use Rattle.console.specs.declared.lost.Lost.TheVariants as lost
use Rattle.console.specs.declared.lost.Lost.{Lost}
use Rattle.console.specs.declared.unanswered.Unanswered.{Unanswered}
use Rattle.console.specs.declared.unanswered.Unanswered.TheVariants as why
use Rattle.console.specs.Lost.{Leaves}

-- what is said in the place of an answer fits what is left: `?` where there is no call, `no rack` where there is none; or something is lost
abbrev pub SaysInstead : {S : Type 0} → (List ℕ → S → Type 0) → S → S → Unanswered → Type 0
SaysInstead fits before after why.NoCall = fits (codes "?") after
SaysInstead fits before after why.NoRack = fits (codes "no rack") after
SaysInstead fits before after (why.Lost l) = Leaves fits before after l

-- the answer fits what is left, or what is said in its place does
abbrev pub Says : {A S : Type 0} → (A → List ℕ) → (List ℕ → S → Type 0) → S → S → Result A Unanswered → Type 0
Says bytes fits before after (Ok a) = fits (bytes a) after
Says bytes fits before after (Err unanswered) = SaysInstead fits before after unanswered

-- a call that is not read is none; where memory fails in reading, it is lost
abbrev pub unread : NoCall → Unanswered
unread Unreadable = why.NoCall
unread (Memory e) = why.Lost (lost.Call e)

-- what is said in its place, or what is lost
abbrev pub instead : Unanswered → Result (List ℕ) Lost
instead why.NoCall = Ok (codes "?")
instead why.NoRack = Ok (codes "no rack")
instead (why.Lost l) = Err l
