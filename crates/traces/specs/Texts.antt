-- A value in a line.
use Rattle.std.specs.Prelude.{ℕ, List, Some, None, codes, decimal, Option}

-- what a value shows, or a dash for none
abbrev pub or_dash : {A : Type 0} → (A → Option (List ℕ)) → Option A → Option (List ℕ)
or_dash output None = Some (codes "-")
or_dash output (Some x) = output x

-- a number in decimal, or a dash for none
abbrev pub number_text : Option ℕ → List ℕ
number_text None = codes "-"
number_text (Some n) = decimal n
