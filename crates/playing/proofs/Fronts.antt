-- What stands behind the first 65,537 bytes changes nothing.
use Rattle.std.proofs.Common.{◌≡◌, ℕ, ◌<◌, List, length, take, Err, sym, subst, ap, ◌∙◌, inl, inr, arith}
use Rattle.std.proofs.lemmas.Bool.{cases_lt, cond-true, lt-ltb}
use Rattle.std.proofs.lemmas.List.{take_all, length-take-le}
use Rattle.rackfile.specs.declared.fault.BytesFault.TheVariants.{TooLong}
use Rattle.rackfile.specs.declared.fault.RecordFault.TheVariants.{Bytes}
use Rattle.rackfile.specs.declared.fault.FileFault.TheVariants.{Record}
use Rattle.rackfile.specs.Reading.{too_long}
use Rattle.rackfile.specs.Files.{reading}
use Rattle.playing.specs.Lines.{FrontDecides, TextOf}

above : (input : List ℕ) → 65536 < length input → reading input ≡ Err (Record (Bytes TooLong))
above input h = cond-true (too_long input) (Err (Record (Bytes TooLong))) _ (lt-ltb 65536 (length input) h)

pub reading_of_front : (input : List ℕ) → reading (take 65537 input) ≡ reading input
reading_of_front input = elim (cases_lt 65536 (length input)) [
  | inl more ↦ above (take 65537 input) (omega (arith, length-take-le 65537 input (omega arith))) ∙ sym (above input more)
  | inr all ↦ ap reading (take_all 65537 input (omega arith))
]

pub front_decides : FrontDecides
front_decides input text = (
  λ h. subst (λ r. TextOf r text) (reading_of_front input) h,
  λ h. subst (λ r. TextOf r text) (sym (reading_of_front input)) h,
)
