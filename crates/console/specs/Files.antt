-- What a file is read as, in words.
use Rattle.std.specs.Prelude.{ℕ, List, [], ◌∷◌, ◌++◌, length, Ok, Err, codes, decimal, Result}
use Rattle.preferences.specs.declared.policy.Policy.{Policy}
use Rattle.preferences.specs.Policies.{letter_of}
use Rattle.rackfile.specs.declared.fault.FileFault.{FileFault}
use Rattle.rackfile.specs.Faults.{fault_text}
use Rattle.rackfile.specs.Files.{File}

-- `ok POLICY M COUNT`
abbrev pub file_text : Policy → ℕ → ℕ → List ℕ
file_text policy processors count = codes "ok " ++ ((letter_of policy ∷ []) ++ (codes " " ++ (decimal processors ++ (codes " " ++ decimal count))))

abbrev pub reading_text : Result File FileFault → List ℕ
reading_text (Ok f) = file_text f.policy f.processors (length f.records)
reading_text (Err f) = fault_text f
