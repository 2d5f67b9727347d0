-- `make`: a rack onto the console.
use Rattle.std.specs.Prelude.{◌≡◌, ℕ, cond, List, [], ◌∷◌, ◌++◌, length, option_and_then, Some, None, Ok, Err, codes, Option, Result, ◌==◌, slice_index}
use Rattle.preferences.specs.declared.policy.Policy.{Policy}
use Rattle.preferences.specs.Policies.{letter_of, policy_before}
use Rattle.seating.specs.declared.refusal.MakeRefusal.{MakeRefusal}
use Rattle.seating.specs.declared.refused.Refused.TheVariants.{Making}
use Rattle.rack.specs.declared.blank.Blank.{Blank}
use Rattle.rack.specs.Steps.{MakeStep}
use Rattle.script.specs.Fields.{Unspaced, numbers_of}
use Rattle.judges.specs.declared.any.AnyJudge.{AnyJudge}
use Rattle.judges.specs.declared.any.AnyJudge.TheVariants as judges
use Rattle.judges.specs.Kinds.{meaning_of}
use Rattle.script.specs.declared.no_call.NoCall.{NoCall}
use Rattle.script.specs.declared.no_call.NoCall.TheVariants.{Unreadable, Memory}
use Rattle.seating.specs.Refusals.{refused_text}
use Rattle.console.specs.Console.{RackSeen, ConsoleSeen}
use Rattle.console.specs.declared.making.Setup.{Setup}

abbrev pub judge_name : AnyJudge → List ℕ
judge_name judges.Points = codes "points"
judge_name judges.StepUp = codes "step"

-- `points F`, and so on
abbrev pub setup_name : AnyJudge → Policy → List ℕ
setup_name judge policy = judge_name judge ++ (32 ∷ (letter_of policy ∷ []))

-- the number of a list of one
abbrev pub only_of : List ℕ → Option ℕ
only_of ns = cond (length ns == 1) (Some (slice_index ns 0)) None

abbrev pub one_number : List ℕ → Option ℕ
one_number text = option_and_then only_of (numbers_of text)

-- `M points|step F|B|W`
pub record Asks (rest : List ℕ) (processors : ℕ) (setup : Setup) : Type 0 where
  pub digits : List ℕ
  pub unspaced : Unspaced digits
  pub whole : rest ≡ digits ++ (32 ∷ setup_name setup.judge setup.policy)
  pub number : one_number digits ≡ Some processors

abbrev pub MakeRead : List ℕ → Option (ℕ × Setup) → Type 0
MakeRead rest None = (processors : ℕ) (setup : Setup) → Asks rest processors setup → ⊥
MakeRead rest (Some x) = Asks rest x.0 x.1

-- what a reading of it gives; out of memory nothing is said
abbrev pub ReadsMake : List ℕ → Result (ℕ × Setup) NoCall → Type 0
ReadsMake rest (Ok x) = MakeRead rest (Some x)
ReadsMake rest (Err Unreadable) = MakeRead rest None
ReadsMake rest (Err (Memory e)) = Unit {0}

-- what a making leaves at the console, and its refusal
abbrev pub left_by : Result RackSeen (Blank AnyJudge Policy) → ConsoleSeen
left_by (Ok rack) = Some rack
left_by (Err blank) = None

abbrev pub refusal_of : Result RackSeen (Blank AnyJudge Policy) → Result (Unit {0}) MakeRefusal
refusal_of (Ok rack) = Ok tt
refusal_of (Err blank) = Err blank.refusal

pub record Puts (processors : ℕ) (setup : Setup) (refusal : Result (Unit {0}) MakeRefusal) (after : ConsoleSeen) : Type 0 where
  pub result : Result RackSeen (Blank AnyJudge Policy)
  pub step : MakeStep meaning_of policy_before processors setup.judge setup.policy result
  pub refused : refusal ≡ refusal_of result
  pub leaves : after ≡ left_by result

-- `ok`, or the refusal
abbrev pub made_text : Result (Unit {0}) MakeRefusal → List ℕ
made_text (Ok done) = codes "ok"
made_text (Err refusal) = refused_text (Making refusal)

pub record MakeAnswered (processors : ℕ) (setup : Setup) (text : List ℕ) (after : ConsoleSeen) : Type 0 where
  pub refusal : Result (Unit {0}) MakeRefusal
  pub puts : Puts processors setup refusal after
  pub says : text ≡ made_text refusal

abbrev pub MakeAnswer : ConsoleSeen → Option (ℕ × Setup) → List ℕ → ConsoleSeen → Type 0
MakeAnswer before None text after = (text ≡ codes "?") × (after ≡ before)
MakeAnswer before (Some x) text after = MakeAnswered x.0 x.1 text after

-- `make` with what stands behind it: the console before, the answer, and the console after
abbrev pub MakeTold : ConsoleSeen → List ℕ → List ℕ → ConsoleSeen → Type 0
MakeTold before rest text after = (asks : Option (ℕ × Setup)) × MakeRead rest asks × MakeAnswer before asks text after
