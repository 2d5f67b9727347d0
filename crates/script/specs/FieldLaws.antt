-- What the numbers of a text are, in the words of the text and not of its reading.
use Rattle.std.specs.Prelude.{◌≡◌, ℕ, ◌^◌, ◌<◌, ◌↔◌, List, length, map, Some}
use Rattle.std.specs.List.{All, join_with_byte}
use Rattle.std.specs.Str.Parse.{IsNumeral, digits_value}
use Rattle.script.specs.Fields.{numbers_of}

-- one decimal digit (byte 48 to 57) or more and nothing else, of a value that has 32 bits
abbrev pub IsField : List ℕ → Type 0
IsField field = IsNumeral 10 field × (digits_value 10 field < 2 ^ 32)

-- the text is a field or more with a single space (byte 32) between each two, and the numbers are what the fields write, in turn
abbrev pub Writes : List ℕ → List ℕ → Type 0
Writes text ns = (fields : List (List ℕ)) × (0 < length fields) × All IsField fields × (text ≡ join_with_byte 32 fields) × (ns ≡ map (digits_value 10) fields)

-- A text has just the numbers that its fields write.
abbrev pub FieldsWriteNumbers : Type 0
FieldsWriteNumbers = (text ns : List ℕ) → (numbers_of text ≡ Some ns) ↔ Writes text ns
