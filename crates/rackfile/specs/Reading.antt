-- Reading from the front: a field must be whole before its content is judged, and the first thing wrong decides.
use Rattle.std.specs.Prelude.{◌≡◌, ℕ, ◌+◌, ◌-◌, ◌*◌, Bool, true, false, cond, List, [], ◌∷◌, length, take, drop, Some, None, Ok, Err, Option, Result, ◌==◌, nat_le, nat_lt}
use Rattle.rackfile.specs.declared.bytes.Reader.{Reader}
use Rattle.rackfile.specs.declared.fault.BytesFault.{BytesFault}
use Rattle.rackfile.specs.declared.fault.BytesFault.TheVariants.{TooLong, Cut, Trailing}

-- the place of the next byte, where `rest` is left of an input of length `whole`
abbrev pub place_in : ℕ → List ℕ → ℕ
place_in whole rest = whole - length rest

-- a field from the front, and what is left
abbrev pub take_byte : List ℕ → Option (ℕ × List ℕ)
take_byte [] = None
take_byte (a ∷ rest) = Some (a, rest)

-- 32 bits, the most significant byte first
abbrev pub take_word : List ℕ → Option (ℕ × List ℕ)
take_word [] = None
take_word (a ∷ []) = None
take_word (a ∷ (b ∷ [])) = None
take_word (a ∷ (b ∷ (c ∷ []))) = None
take_word (a ∷ (b ∷ (c ∷ (d ∷ rest)))) = Some (a * 16777216 + b * 65536 + c * 256 + d, rest)

-- so many bytes
abbrev pub take_part : ℕ → List ℕ → Option (List ℕ × List ℕ)
take_part n rest = cond (nat_le n (length rest)) (Some (take n rest, drop n rest)) None

-- a field that is cut short is a fault at the input's end
abbrev pub field : {A : Type 0} → ℕ → Option (A × List ℕ) → Result (A × List ℕ) BytesFault
field whole None = Err (Cut whole)
field whole (Some x) = Ok x

-- what a method of the reader did: the value that it read and what is left behind it, of the same whole; or its fault
abbrev pub Reads : {A B E : Type 0} → (A → B) → Reader → Reader → Result A E → Result (B × List ℕ) E → Type 0
Reads view old new (Ok x) m = (m ≡ Ok (view x, new.left.now)) × (new.whole ≡ old.whole)
Reads view old new (Err e) m = m ≡ Err e

-- above 65,536 bytes
abbrev pub too_long : List ℕ → Bool
too_long input = nat_lt 65536 (length input)

-- a reader over all of an input that is not too long
abbrev pub Opens : List ℕ → Result Reader BytesFault → Type 0
Opens input (Ok r) = (too_long input ≡ false) × (r.whole ≡ length input) × (r.left.now ≡ input)
Opens input (Err e) = (too_long input ≡ true) × (e ≡ TooLong)

-- whether nothing is left, or where it begins
abbrev pub Ends : Reader → Result (Unit {0}) BytesFault → Type 0
Ends r (Ok x) = (length r.left.now == 0) ≡ true
Ends r (Err e) = ((length r.left.now == 0) ≡ false) × (e ≡ Trailing (place_in r.whole r.left.now))
